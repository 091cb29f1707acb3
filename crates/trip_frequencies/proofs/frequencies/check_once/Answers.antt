use Rattle.trip_frequencies.proofs.Common.{refl, ◌+◌, true, length, List, Some, option_map, sym, subst, ap, ◌∙◌, Frequencies, DuplicateKey, Key, AreSorted, trip_of_row, start_of_row}
use Rattle.trip_frequencies.proofs.FrequencyLemmas.{first_repeated}
use Rattle.trip_frequencies.proofs.frequencies.check_once.Goals as goal

pub returns-in-None : goal.returns-in-None
returns-in-None c =
    let rows = c.args.rows.now in
    let sorted = subst (λ (keys : List Key). AreSorted (λ i. true) (trip_of_row rows) (start_of_row rows) (length rows) keys) (sym c.as_slice.ensures.value) c.in_ok-keys.ensures in
    first_repeated rows c.as_slice.result.now c.first_repeat.result sorted c.first_repeat.ensures
    ∙ ap (option_map (λ row. DuplicateKey Frequencies (row + 2))) c.in-None.is

pub returns : goal.returns
returns c =
    let rows = c.args.rows.now in
    let sorted = subst (λ (keys : List Key). AreSorted (λ i. true) (trip_of_row rows) (start_of_row rows) (length rows) keys) (sym c.as_slice.ensures.value) c.in_ok-keys.ensures in
    record {
      why = λ free.
          first_repeated rows c.as_slice.result.now c.first_repeat.result sorted c.first_repeat.ensures
          ∙ ap (option_map (λ row. DuplicateKey Frequencies (row + 2))) c.in-Some.is
          ∙ ap (λ row. Some (DuplicateKey Frequencies (row + 2))) (sym c.from.ensures);
      content = refl;
      own = refl;
    }
