-- The rows of the places from which one can reach a target.
use Rattle.std.proofs.lemmas.Grind.{common_steps}
use Rattle.journey_report.proofs.Common.{ℕ, List, ◌++◌, ap, froms_text, arith, ◌≡◌, ◌+◌, ◌<◌, ◌≤◌, length, drop, refl, sym, ◌∙◌, slice_index_or, append-nil, at_drop_all, NameLists, from_text}
use Rattle.printed_rows.proofs.Lines.{text_more}
use Rattle.departure_table.specs.declared.reach_rows.ReachRow.{ReachRow}
use Rattle.journey_report.proofs.reach_texts.reach_text.Goals as goal

module _ (names : NameLists) (rows : List ReachRow) where
  -- after one row more
  pub froms_step : (i : ℕ) (d : ReachRow) (new old all : List ℕ) → i < length rows → new ≡ old ++ from_text names (slice_index_or rows i d)
      → old ++ froms_text names (drop i rows) ≡ all → new ++ froms_text names (drop (i + 1) rows) ≡ all
  froms_step i d new old all within = text_more (froms_text names) (from_text names) (λ x xs. refl) rows i (slice_index_or rows i d) d new old all within refl

  -- after all of them
  pub froms_end : (i : ℕ) (old all : List ℕ) → length rows ≤ i → old ++ froms_text names (drop i rows) ≡ all → old ≡ all
  froms_end i old all whole before =
      sym (append-nil old) ∙ (sym (ap (λ (rest : List ℕ). old ++ rest) (at_drop_all (λ (rest : List ReachRow). froms_text names rest) rows i whole)) ∙ before)

pub loop-from-init : goal.loop-from-init
loop-from-init c = ap (λ (head : List ℕ). head ++ froms_text c.args.named.now.timetable.now.names c.args.rows.now) c.in_ok-text.ensures

pub loop-from-preserved : goal.loop-from-preserved
loop-from-preserved c = grind (arith, common_steps, froms_step)

pub returns : goal.returns
returns c = froms_end c.args.named.now.timetable.now.names c.args.rows.now c.loop-from.from-index c.loop-from.text.items _ c.loop-from-test.false c.loop-from.invariant
