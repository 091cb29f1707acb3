-- The rows of departures.
use Rattle.journey_report.proofs.Common.{arith, ◌≡◌, ℕ, ◌+◌, ◌<◌, ◌≤◌, List, ◌++◌, length, drop, sym, ap, ◌∙◌, slice_index_or}
use Rattle.journey_report.proofs.Common.{append-nil, at_drop_all, NetworkModel, NameLists, split_at, text_step, departure_text, rows_text}
use Rattle.std.proofs.lemmas.Grind.{common_steps}
use Rattle.departure_table.specs.declared.DepartureRow.{DepartureRow}
use Rattle.journey_report.proofs.departure_texts.departures_text.Goals as goal

module _ (n : NetworkModel) (names : NameLists) (rows : List DepartureRow) where
  -- after one row more
  pub rows_step : (i : ℕ) (d : DepartureRow) (new old all : List ℕ) → i < length rows → new ≡ old ++ departure_text n names (slice_index_or rows i d)
      → old ++ rows_text n names (drop i rows) ≡ all → new ++ rows_text n names (drop (i + 1) rows) ≡ all
  rows_step i d new old all within is before =
      text_step new old (departure_text n names (slice_index_or rows i d)) (rows_text n names (drop (i + 1) rows)) all is
      (sym (ap (λ (list : List DepartureRow). old ++ rows_text n names list) (split_at rows i d within)) ∙ before)

  -- after all of them
  pub rows_end : (i : ℕ) (old all : List ℕ) → length rows ≤ i → old ++ rows_text n names (drop i rows) ≡ all → old ≡ all
  rows_end i old all whole before =
      sym (append-nil old) ∙ (sym (ap (λ (rest : List ℕ). old ++ rest) (at_drop_all (λ (rest : List DepartureRow). rows_text n names rest) rows i whole)) ∙ before)

pub loop-departure-init : goal.loop-departure-init
loop-departure-init c = grind arith

pub loop-departure-preserved : goal.loop-departure-preserved
loop-departure-preserved c = grind (arith, common_steps, rows_step)

pub returns : goal.returns
returns c = grind (arith, common_steps, rows_end)
