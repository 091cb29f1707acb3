use Rattle.connections.proofs.{Common.{◌-◌, arith}, ReachLemmas.{none_at_all, none_late, none_early}, runs.may_depart.Goals.then-connections-eq0-via-then-connections-eq0}
use Rattle.connections.proofs.runs.may_depart.Goals.{then-connections-eq0-via-else-connections-eq0+then-ends_before}
use Rattle.connections.proofs.runs.may_depart.Goals as goal

pub returns-then-connections-eq0 : goal.returns-then-connections-eq0
returns-then-connections-eq0 c =
    λ is. grind (arith, then-connections-eq0-via-then-connections-eq0, none_at_all, then-connections-eq0-via-else-connections-eq0+then-ends_before, none_late)

pub returns : goal.returns
returns c = λ is. grind (arith, none_early)
