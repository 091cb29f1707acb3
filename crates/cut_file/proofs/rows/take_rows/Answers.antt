-- The rows, one more at a time.
use Rattle.cut_file.proofs.Common.{◌∷◌, [], ◌∙◌, sym, ap, arith, length, Some, None, length-append, slice_get_within, row_count, first-zero, first-next, first-at, BadField, Row, named, bad_field}
use Rattle.cut_file.proofs.Common.{add_new, ◌≡◌, ℕ, ◌+◌, ◌<◌, List, ◌++◌, get_or, Ok, Err, refl, subst, add-one, below_more, get_or_append_left, get_or_push, Column, CutRow, row_at, bad_of}
use Rattle.cut_file.proofs.{Common.{row_of, row, run_names, place_names, IsNumbered}, NumberFacts.{length_add, numbered_grows}}
use Rattle.cut_file.proofs.rows.take_rows.Goals as goal

pub bad_here : (t : List (List (List ℕ))) (i : ℕ) (column : Column) → row_at t i ≡ Err column → bad_field t i ≡ Some (BadField (i + 2) column)
unfolding bad_field
bad_here t i column h = ap (λ r. bad_of r (i + 2)) h

pub good_here : (t : List (List (List ℕ))) (i : ℕ) (r : Row) → row_at t i ≡ Ok r → bad_field t i ≡ None
unfolding bad_field
good_here t i r h = ap (λ r. bad_of r (i + 2)) h

pub row_is : (t : List (List (List ℕ))) (i : ℕ) (r : Row) → row_at t i ≡ Ok r → row t i ≡ r
unfolding row
row_is t i r h = ap row_of h

pub run_names-zero : (t : List (List (List ℕ))) → run_names t 0 ≡ []
unfolding run_names
run_names-zero t = refl

pub place_names-zero : (t : List (List (List ℕ))) → place_names t 0 ≡ []
unfolding place_names
place_names-zero t = refl

pub run_names-next : (t : List (List (List ℕ))) (i : ℕ) (r : Row) (old new : List (List ℕ)) → row_at t i ≡ Ok r → old ≡ run_names t i → new ≡ add_new old r.run → new ≡ run_names t (i + 1)
unfolding run_names
run_names-next t i r old new h e f = rw add-one (f ∙ ap (λ x. add_new x r.run) e ∙ ap (λ (x : Row). add_new (run_names t i) x.run) (sym (row_is t i r h)))

pub place_names-next : (t : List (List (List ℕ))) (i : ℕ) (r : Row) (old new : List (List ℕ)) → row_at t i ≡ Ok r → old ≡ place_names t i
    → new ≡ add_new (add_new old r.from) r.to → new ≡ place_names t (i + 1)
unfolding place_names
place_names-next t i r old new h e f = grind (arith, add-one, row_is)

-- each row has its numbers, after one more
pub each_next : (t : List (List (List ℕ))) (i : ℕ) (r : Row) (runs places runs' places' : List (List ℕ)) (old new : List CutRow) (c : CutRow)
    → row_at t i ≡ Ok r → length old ≡ i → ((k : ℕ) (d : CutRow) → k < i → IsNumbered runs places (row t k) (get_or old k d))
    → runs' ≡ add_new runs r.run → places' ≡ add_new (add_new places r.from) r.to → new ≡ old ++ c ∷ [] → IsNumbered runs' places' r c
    → (k : ℕ) (d : CutRow) → k < i + 1 → IsNumbered runs' places' (row t k) (get_or new k d)
each_next t i r runs places runs' places' old new c h size each e f g here k d l =
    let P : List CutRow → Type 0 = λ xs. IsNumbered runs' places' (row t k) (get_or xs k d) in
    subst P (sym g) (below_more (λ k. IsNumbered runs' places' (row t k) (get_or (old ++ c ∷ []) k d)) i
    (λ k before.
    let grown = numbered_grows runs places r.run r.from r.to (row t k) (get_or old k d) (each k d before) in
    subst (IsNumbered runs' places' (row t k)) (sym (get_or_append_left old (c ∷ []) d k (omega arith)))
    (rw (e, f) grown))
    (subst (IsNumbered runs' places' (row t i)) (sym (get_or_push old c d i size)) (subst (λ (x : Row). IsNumbered runs' places' x c) (sym (row_is t i r h)) here))
    k l)

pub loop-i-init : goal.loop-i-init
loop-i-init c = grind (arith, first-zero, run_names-zero, place_names-zero)

pub returns-in-Err-clause-err : goal.returns-in-Err-clause-err
returns-in-Err-clause-err c = λ free.
    let t = c.args.table.now.rows.now in
    first-at (bad_field t) c.loop-i.i (row_count t) (BadField c.line.result c.in-Err.column) (omega arith) c.loop-i.invariant.none
    (bad_here t c.loop-i.i c.in-Err.column c.in-Err.ensures ∙ ap (λ n. Some (BadField n c.in-Err.column)) (sym c.line.ensures))

pub loop-i-preserved : goal.loop-i-preserved
loop-i-preserved c =
    let t = c.args.table.now.rows.now in
    let i = c.loop-i.i in
    let r : Row = named c.in-Ok.row in
    let h = c.in-Ok.ensures in
    let n = c.in_ok-row-in-Ok.ensures in
    let old = c.loop-i.names in
    let new = c.numbered.new.names in
    let row = c.in_ok-row-in-Ok.row in
    let pushed = c.in_ok-push.ensures.items in
    record {
      none = first-next (bad_field t) i None c.loop-i.invariant.none (good_here t i r h);
      size = omega (arith, ap length pushed, length-append c.loop-i.cut.items (row ∷ []), c.loop-i.invariant.size);
      each = each_next t i r old.runs old.places new.runs new.places c.loop-i.cut.items c.push.new.self.items row h c.loop-i.invariant.size c.loop-i.invariant.each
          n.runs n.places pushed n.row;
      runs = run_names-next t i r old.runs new.runs h c.loop-i.invariant.runs n.runs;
      places = place_names-next t i r old.places new.places h c.loop-i.invariant.places n.places;
      few_runs = omega (arith, ap length n.runs, length_add old.runs r.run, c.loop-i.invariant.few_runs);
      few_places = omega (arith, ap length n.places, length_add (add_new old.places r.from) r.to, length_add old.places r.from, c.loop-i.invariant.few_places);
      run_before = slice_get_within new.runs row.run r.run n.row.run;
      end_before = slice_get_within new.places row.to r.to n.row.to;
    }
