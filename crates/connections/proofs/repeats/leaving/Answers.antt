use Rattle.connections.proofs.Common.{arith, rules, ap, ◌∙◌, w32, SFits, ints, Origin, moment_of}
use Rattle.connections.proofs.repeats.leaving.Goals as goal

pub returns : goal.returns
returns c =
    let trip = c.args.trip.now in
    let order = trip.departures.ordered 0 c.args.step (omega arith) c.requires.step in
    let begin = c.plus-begin.ensures ∙ ap (λ (o : Origin). moment_of o 0) c.of_day.ensures in
    let day : SFits w32 trip.day.number = search rules in
    record {
      before = record {
        hold = λ m h. let x = c.within.ensures.before.hold m h in (x.0, omega (arith, ints, x.1, order, begin, day, trip.bounds.early, trip.bounds.late));
        all = λ m p. c.within.ensures.before.all m (p.0, omega (arith, ints, p.1, order, begin, day, trip.bounds.early, trip.bounds.late));
      };
      up_to = record {
        hold = λ m h. let x = c.within.ensures.up_to.hold m h in (x.0, omega (arith, ints, x.1, order, begin, day, trip.bounds.late, trip.bounds.short));
        all = λ m p. c.within.ensures.up_to.all m (p.0, omega (arith, ints, p.1, order, begin, day, trip.bounds.late, trip.bounds.short));
      };
    }
