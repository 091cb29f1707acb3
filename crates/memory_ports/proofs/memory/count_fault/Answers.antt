use Rattle.memory_ports.proofs.{Common.{arith, nat_eq, entry_at}, FailingLemmas.{fails_none, fails_found, count_here, count_elsewhere, names_stay, count_later}}
use Rattle.memory_ports.proofs.memory.count_fault.Goals as goal

pub returns-in_default-clause-reported : goal.returns-in_default-clause-reported
returns-in_default-clause-reported c = fails_none c.args.failing.now.items c.deref.result.now c.args.path.now c.args.call _ c.index_of.ensures c.deref.ensures.value c.in_default.is

pub returns-then-not-names_call-clause-reported : goal.returns-then-not-names_call-clause-reported
returns-then-not-names_call-clause-reported c =
    let s = entry_at c.args.failing.now.items c.deref.result.now c.args.path.now c.in-Some.index c.index_mut.result.now _ c.index_of.ensures
    c.deref.ensures.value c.in-Some.is c.index_mut.ensures.value in
    grind (arith, fails_found, nat_eq)

pub returns : goal.returns
returns c =
    let s = entry_at c.args.failing.now.items c.deref.result.now c.args.path.now c.in-Some.index c.index_mut.result.now _ c.index_of.ensures
    c.deref.ensures.value c.in-Some.is c.index_mut.ensures.value in
    grind (arith, fails_found, nat_eq, count_here, count_later, count_elsewhere, names_stay)
