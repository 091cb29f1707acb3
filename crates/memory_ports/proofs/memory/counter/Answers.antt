use Rattle.memory_ports.proofs.{Common.{◌∙◌, ap, refl, sym, Some, position, at_path, searched}, FailingLemmas.{push_stands, fresh_counter}}
use Rattle.memory_ports.proofs.memory.counter.Goals as goal

pub returns-clause-index : goal.returns-clause-index
returns-clause-index c =
    ap (λ es. position (at_path c.args.path.now) es) c.in_ok-push.ensures.items
    ∙ push_stands c.args.failing.now.items c.args.path.now (record { path = c.in_ok-path.path; value = record { calls = c.new.result; faults = 0 } })
    c.in_ok-path.ensures.ok (searched c.args.failing.now.items c.deref.result.now c.args.path.now _ _ c.index_of.ensures c.deref.ensures.value c.in_default.is)
    ∙ ap Some (sym c.args.failing.now.ok.0 ∙ sym c.len-index.ensures)

pub returns-clause-same : goal.returns-clause-same
returns-clause-same c =
    fresh_counter c.args.failing.now.items c.deref.result.now c.push.new.self.items c.args.path.now
    (record { path = c.in_ok-path.path; value = record { calls = c.new.result; faults = 0 } }) _ c.index_of.ensures c.deref.ensures.value c.in_default.is
    c.in_ok-path.ensures.ok refl c.new.ensures.items c.in_ok-push.ensures.items
