use Rattle.change_times.proofs.{Common.{◌++◌, ◌<◌, Option, ℕ, length, take, sym, ap, ◌∙◌, arith, take_all, link_from, most_to}, LinkLemmas.most-next}
use Rattle.change_times.proofs.links.put_walks.Goals as goal

pub loop-walk-preserved : goal.loop-walk-preserved
loop-walk-preserved c =
    let walks = c.args.walks.now in
    let i = c.loop-walk.walk-index in
    let inv = c.loop-walk.invariant in
    let inside : i < length walks = omega (arith, c.loop-walk-test.true) in
    record {
      size = c.in_ok-put_walk.ensures.size ∙ inv.size;
      ways = λ to base less before e.
          c.in_ok-put_walk.ensures.ways to base (most_to to (take i walks)) (omega (arith, inv.size, less)) before (inv.ways to base less before e)
          ∙ ap (λ (o : Option ℕ). base ++ link_from c.args.from o) (sym (most-next to walks i _ inside));
    }

pub returns-clause-ways : goal.returns-clause-ways
returns-clause-ways c = λ to base less before e. grind (arith, take_all)
