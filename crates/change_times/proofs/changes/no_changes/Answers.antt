use Rattle.change_times.proofs.{Common.{refl, All-nil, arith}, ChangeLemmas.no_rows}
use Rattle.change_times.proofs.changes.no_changes.Goals as goal

pub returns-clause-changes : goal.returns-clause-changes
returns-clause-changes c = λ feed.
    no_rows feed (record { reported = c.with_hasher.result.entries; links = c.new.result.items; passed = 0 }) c.with_hasher.ensures.empty
    c.new.ensures.items refl

pub returns-clause-links : goal.returns-clause-links
returns-clause-links c = λ places place. grind (arith, All-nil)
