use Rattle.memory_ports.proofs.{Common.{refl, ◌∙◌, nat_eq, entry_at, arith}, FailingLemmas.{recalled_count, recalled_more, recalled_same, on_any_err}}
use Rattle.memory_ports.proofs.memory.MemoryFiles.fail.Goals as goal

pub returns-in_err-push-clause-err : goal.returns-in_err-push-clause-err
returns-in_err-push-clause-err c =
    let s = entry_at c.counter.new.failing.items c.counter.new.failing.items c.args.path.now c.in_ok-index.index c.index_mut.result.now _ refl refl
    c.in_ok-index.ensures.index c.index_mut.ensures.value in
    on_any_err c.from_residual-in_err-push.result (λ p k. recalled_same _ _ p _ k c.push.new.self c.index_mut.result.now s c.in_err-push.ensures.items ∙ c.in_ok-index.ensures.same.fails p k)

pub returns-in_err-push-clause-counts : goal.returns-in_err-push-clause-counts
returns-in_err-push-clause-counts c =
    let s = entry_at c.counter.new.failing.items c.counter.new.failing.items c.args.path.now c.in_ok-index.index c.index_mut.result.now _ refl refl
    c.in_ok-index.ensures.index c.index_mut.ensures.value in
    λ p. recalled_count _ _ p _ c.push.new.self c.index_mut.result.now s ∙ c.in_ok-index.ensures.same.counts p

pub returns-clause-ok : goal.returns-clause-ok
returns-clause-ok c = grind (arith, recalled_more, nat_eq)

pub returns-clause-counts : goal.returns-clause-counts
returns-clause-counts c =
    let s = entry_at c.counter.new.failing.items c.counter.new.failing.items c.args.path.now c.in_ok-index.index c.index_mut.result.now _ refl refl
    c.in_ok-index.ensures.index c.index_mut.ensures.value in
    λ p. recalled_count _ _ p _ c.push.new.self c.index_mut.result.now s ∙ c.in_ok-index.ensures.same.counts p
