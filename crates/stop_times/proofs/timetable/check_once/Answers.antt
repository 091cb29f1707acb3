use Rattle.stop_times.proofs.{Common.{refl, option_map, sym, ap, ◌∙◌, ◌+◌, Some, StopTimes, DuplicateKey}, BackLemmas.repeats_first, RisingRows.rising_once}
use Rattle.stop_times.proofs.timetable.check_once.Goals as goal

pub returns-then-rise : goal.returns-then-rise
returns-then-rise c = rising_once c.args.rows.now (c.requires.rise c.if-rise.true)

pub returns-in-None : goal.returns-in-None
returns-in-None c =
    let rows = c.args.rows.now in
    repeats_first rows c.args.keys.now c.first_repeat.result c.requires.keys c.first_repeat.ensures
    ∙ ap (option_map (λ row. DuplicateKey StopTimes (row + 2))) c.in-None.is

pub returns-in-Some : goal.returns-in-Some
returns-in-Some c =
    let rows = c.args.rows.now in
    record {
      why = λ free.
          repeats_first rows c.args.keys.now c.first_repeat.result c.requires.keys c.first_repeat.ensures
          ∙ ap (option_map (λ row. DuplicateKey StopTimes (row + 2))) c.in-Some.is
          ∙ ap (λ row. Some (DuplicateKey StopTimes (row + 2))) (sym c.from.ensures);
      content = refl;
      own = refl;
    }
