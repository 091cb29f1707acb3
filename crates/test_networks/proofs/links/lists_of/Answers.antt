use Rattle.std.proofs.Common.{[], ◌∷◌, ◌∙◌, ap, arith, length, length-append}
use Rattle.test_networks.proofs.Pushed.{lists_pushed}
use Rattle.test_networks.proofs.links.lists_of.Goals as goal

pub loop-to-preserved : goal.loop-to-preserved
loop-to-preserved c =
    let l = c.loop-to in
    record {
      many = let size = ap length c.in_ok-push.ensures.ok ∙ length-append l.lists (c.in_ok-links_into.field-0 ∷ []) in omega (arith, size, l.invariant.many);
      each = lists_pushed c.args.places l.to l.lists c.push.new.self c.in_ok-links_into.field-0 c.in_ok-push.ensures.ok l.invariant.many l.invariant.each c.in_ok-links_into.ensures;
    }

pub returns-clause-each : goal.returns-clause-each
returns-clause-each c = λ r less. c.loop-to.invariant.each r (omega (arith, less, c.loop-to-test.false))
