use Rattle.csv_rows.proofs.Common.{Bor, ◌≡◌, List, ℕ, Contains, false, Some, refl, sym, ap, ◌∙◌, arith, subst, true, DuplicateKey, row_count, field, field_at, repeated_id}
use Rattle.csv_rows.proofs.{FirstLemmas.{first-zero, first-next, first-at}, ListLemmas.{list_below-zero, list_below-next, length-list_below}, IdLemmas.{not_repeated, repeated}, KeyTexts.has_key}
use Rattle.csv_rows.proofs.KeyTexts.{key_there, key_absent, key_last, key_texts}
use Rattle.std.proofs.lemmas.Bool.{not-true, not-false}
use Rattle.csv_rows.proofs.ids.read_ids.Goals as goal

absent_in : (keys : List (Bor (List ℕ))) (ids : List (List ℕ)) (name : List ℕ) → key_texts keys ≡ ids → has_key name keys ≡ false → ¬ Contains ids name
absent_in keys ids name seen fresh = subst (λ (w : List (List ℕ)). ¬ Contains w name) seen (key_absent name keys fresh)

pub loop-i-init : goal.loop-i-init
loop-i-init c = grind (arith, list_below-zero, first-zero)

pub push-requires-clause-room : goal.push-requires-clause-room
push-requires-clause-room c = grind (arith, length-list_below)

pub push-requires-clause-absent : goal.push-requires-clause-absent
push-requires-clause-absent c = absent_in c.loop-i.seen.texts.keys _ _ c.loop-i.invariant.seen (not-true _ (sym c.in_ok-new.ensures.added ∙ c.if-not-new.false))

pub loop-i-preserved : goal.loop-i-preserved
loop-i-preserved c = grind (arith, not-true, list_below-next, key_last, first-next, not_repeated, absent_in)

pub returns-then-not-new-clause-reports : goal.returns-then-not-new-clause-reports
returns-then-not-new-clause-reports c =
    let t = c.args.rows.now in
    let id = field t c.args.column in
    let name = c.name_at-name.result.now in
    let is = c.name_at-name.ensures ∙ ap (λ p. field_at t p c.loop-i.i) c.index_of-index.ensures in
    let known : has_key name c.loop-i.seen.texts.keys ≡ true = not-false _ (sym c.in_ok-new.ensures.added ∙ c.if-not-new.true) in
    let there = subst (λ (w : List (List ℕ)). Contains w name) c.loop-i.invariant.seen (key_there name c.loop-i.seen.texts.keys known) in
    record {
      why = λ free.
          first-at (repeated_id c.args.table id) c.loop-i.i (row_count t) (DuplicateKey c.args.table c.line.result) (omega arith) c.loop-i.invariant.none
          (repeated c.args.table id c.loop-i.i c.loop-i.ids name c.loop-i.invariant.ids is there ∙ ap (λ n. Some (DuplicateKey c.args.table n)) (sym c.line.ensures));
      content = refl;
      own = refl;
    }
