-- The network of a cut file with no fault is valid.
use Rattle.cut_file.proofs.Common.{◌≡◌, ℕ, zero, suc, ◌+◌, ◌-◌, ◌<◌, ◌≤◌, ◌==◌, inl, inr, Bool, false, List, length, slice_get, slice_index_or, Option, Some, None, IfSome, if◌then◌else◌, refl}
use Rattle.cut_file.proofs.Common.{sym, ap, ◌∙◌, subst, arith, ⊎_elim, ltb-false, cases_Bool, cases_lt, or_parts, slice_get_within, NetworkModel, IsValid, IsValidConnection, AreLinks, count}
use Rattle.cut_file.proofs.Common.{connection, first_below, DelayLists, AreDelays, row_count, none-both, none-each, CutRow, Key, key_at, IsBefore, less_group, CutFault, row, bad_field}
use Rattle.cut_file.proofs.Common.{repeated_step, run_fault, first_cut_fault, cut_row, fault_after, Cut, IsFaultless, IsConnection, IsNetwork, longest, change_by, change_from, change_seconds_of}
use Rattle.cut_file.proofs.{Repeats.{one_run, steps_rise}, Misfits.misfit_is, Distinct.one_number, FormFacts.row_in_form, Occurs.{run_occurs, few_places}, ChangeFacts.{longest-zero, longest-suc}}
use Rattle.std.proofs.lemmas.Bool.Decides.{nat_tests}
use Rattle.plan_model.proofs.{Links.AreLinks-none, Local.{FitsNext, IsLocallyValid, IsValid-from_local}}
use Rattle.plan_model.specs.Network.{row_of, run_of, step_of}
use Rattle.delay_table.proofs.ClassBounds.{class_for-inside}

if_none : (b : Bool) (e : CutFault) (o : Option CutFault) → (if b then Some e else o) ≡ None → (b ≡ false) × (o ≡ None)
if_none b e o h = grind (arith, cases_Bool b)

pub record HasNone (t : List (List (List ℕ))) (limit : ℕ) : Type 0 where
  pub few : row_count t ≤ limit
  pub fields : first_below (bad_field t) (row_count t) ≡ None
  pub steps : first_below (repeated_step t) (row_count t) ≡ None
  pub runs : first_below (run_fault t) (row_count t) ≡ None

has_none : (t : List (List (List ℕ))) (limit : ℕ) → first_cut_fault t limit ≡ None → HasNone t limit
unfolding first_cut_fault
has_none t limit h = grind (arith, none-both, ltb-false, if_none)

-- what a row without a fault after the row before it gives
forward_own : (t : List (List (List ℕ))) (i : ℕ) → run_fault t i ≡ None → (row t i).dep ≤ (row t i).arr
unfolding run_fault
forward_own t i h = grind (arith, ltb-false, or_parts, if_none)

after_last : (rows : List CutRow) (b : Key) (i : ℕ) → fault_after rows (Some b) i ≡ None → (cut_row rows b.row).arr ≤ (cut_row rows i).dep
after_last rows b i h = grind (arith, if_none, ltb-false)

seconds_few : (o : Option ℕ) → IfSome o (λ s. s ≤ 86400) → change_seconds_of o ≤ 86400
seconds_few o h = grind arith

by_few : (b : Bool) (r : CutRow) → IfSome r.change (λ s. s ≤ 86400) → change_by b r ≤ 86400
by_few b r h = grind (arith, cases_Bool b, seconds_few)

longest_few : (rows : List CutRow) (n p : ℕ) → ((i : ℕ) → i < n → IfSome (cut_row rows i).change (λ s. s ≤ 86400)) → longest rows n p ≤ 86400
longest_few rows zero p h = omega (arith, longest-zero rows p)
longest_few rows (suc n) p h = grind (arith, longest-suc, by_few, longest_few rows n p (λ i l. h i (omega arith)))

from_if : (b : Bool) (s : ℕ) → (b ≡ false → 1 ≤ s) → s ≤ 86400 → (1 ≤ (if b then 120 else s)) × ((if b then 120 else s) ≤ 86400)
from_if b s h l = grind (arith, cases_Bool b)

some_on : (s : ℕ) → (s == 0) ≡ false → 1 ≤ s
some_on s h = grind (arith, nat_tests)

change_fits : (s : ℕ) → s ≤ 86400 → (1 ≤ change_from s) × (change_from s ≤ 86400)
change_fits s l = from_if (s == 0) s (some_on s) l

module _ (cut : Cut) (delays : DelayLists) (n : NetworkModel) (s : IsFaultless cut) (f : AreDelays delays) (net : IsNetwork cut delays n) where
  pub none_of : HasNone s.table s.limit
  none_of = has_none s.table s.limit s.none

  abbrev own : ℕ → CutRow
  own i = cut_row cut.rows (key_at cut.keys i).row

  -- the connection at a position is the row of the key there
  pub record IsAt (i : ℕ) : Type 0 where
    pub run : run_of n i ≡ (key_at cut.keys i).group
    pub step : step_of n i ≡ (key_at cut.keys i).order
    pub made : IsConnection delays (cut_row cut.rows (key_at cut.keys i).row) (connection n i)
    pub inside : (key_at cut.keys i).row < row_count s.table
    pub key : i < length cut.keys

  pub is_at : (i : ℕ) → i < count n → IsAt i
  unfolding connection
  is_at i l = grind arith

  fits : (k : ℕ) → k < length cut.keys → run_fault s.table (key_at cut.keys k).row ≡ None
  fits k h = none-each (run_fault s.table) (row_count s.table) none_of.runs (key_at cut.keys k).row (omega (arith, s.read.sorted.inside k h, s.read.size))

  run_rises : (k m : ℕ) → k ≤ m → m < length cut.keys → (key_at cut.keys k).group ≤ (key_at cut.keys m).group
  run_rises k m l h =
      ⊎_elim (λ (less : k < m). less_group (key_at cut.keys k) (key_at cut.keys m) (s.read.sorted.rising k m less h))
      (λ (ge : m ≤ k). let e : k ≡ m = omega arith in omega (arith, ap (λ i. (key_at cut.keys i).group) e)) (cases_lt k m)

  -- a key of each run
  pub record HasKey (r : ℕ) : Type 0 where
    pub index : ℕ
    pub inside : index < length cut.keys
    pub run : (key_at cut.keys index).group ≡ r

  pub key_of_run : (r : ℕ) → r < length cut.runs → HasKey r
  key_of_run r l =
      let t = s.table in
      let w = run_occurs t (row_count t) r (omega (arith, ap length s.read.run_names)) in
      let k = s.read.sorted.all w.at (omega (arith, w.inside, s.read.size)) refl in
      let a = s.read.each w.at w.inside in
      let P : List (List ℕ) → Type 0 = λ xs. slice_get xs r ≡ Some (row t w.at).run in
      let same = one_number cut.runs (one_run s.table cut.runs cut.places cut.rows cut.keys s.read) (cut_row cut.rows w.at).run r (row t w.at).run a.run (subst P (sym s.read.run_names) w.is) in
      record { index = k.0; inside = k.1; run = s.read.sorted.groups k.0 k.1 ∙ ap (λ i. (cut_row cut.rows i).run) k.2 ∙ same }

  pub run_inside : (i : ℕ) → i < length cut.keys → (key_at cut.keys i).group < length cut.runs
  run_inside i h = grind (arith, slice_get_within, own)

  next : (i : ℕ) → i + 1 < count n → FitsNext n i
  next i l =
      let a = is_at i (omega arith) in
      let b = is_at (i + 1) l in
      let back : i + 1 - 1 ≡ i = omega arith in
      ⊎_elim (λ (less : (key_at cut.keys i).group < (key_at cut.keys (i + 1)).group).
      ⊎_elim (λ (gap : (key_at cut.keys i).group + 1 < (key_at cut.keys (i + 1)).group).
      let w = key_of_run ((key_at cut.keys i).group + 1) (omega (arith, run_inside (i + 1) b.key)) in
      ⊎_elim (λ (before : w.index < i + 1). absurd (omega (arith, w.run, run_rises w.index i (omega arith) a.key)))
      (λ (after : i + 1 ≤ w.index). absurd (omega (arith, w.run, run_rises (i + 1) w.index after w.inside))) (cases_lt w.index (i + 1)))
      (λ (end : (key_at cut.keys (i + 1)).group ≤ (key_at cut.keys i).group + 1). inr (omega (arith, a.run, b.run))) (cases_lt ((key_at cut.keys i).group + 1) (key_at cut.keys (i + 1)).group))
      (λ x.
      let steps = steps_rise s.table cut.runs cut.places cut.rows cut.keys s.read none_of.steps i (i + 1) (omega arith) b.key x.0 in
      let before : IsBefore cut.keys (i + 1) (Some (key_at cut.keys i)) = (omega arith, ap (key_at cut.keys) (sym back), x.0) in
      let fault = misfit_is s.table cut.runs cut.places cut.rows cut.keys s.read none_of.steps (i + 1) b.key (Some (key_at cut.keys i)) before in
      let onward = after_last cut.rows (key_at cut.keys i) (key_at cut.keys (i + 1)).row (sym fault ∙ fits (i + 1) b.key) in
      inl (a.run ∙ x.0 ∙ sym b.run, omega (arith, a.step, b.step, steps), omega (arith, a.made.arr, b.made.dep, onward)))
      (s.read.sorted.rising i (i + 1) (omega arith) b.key)

  first : 0 < count n → run_of n 0 ≡ 0
  first l =
      let a = is_at 0 l in
      let w = key_of_run 0 (omega (arith, run_inside 0 a.key)) in
      omega (arith, a.run, w.run, run_rises 0 w.index (omega arith) w.inside)

  valid_connection : (i : ℕ) → i < count n → IsValidConnection n i
  valid_connection i l =
      let a = is_at i l in
      let r = s.read.each (key_at cut.keys i).row a.inside in
      let form = row_in_form s.table (key_at cut.keys i).row (none-each (bad_field s.table) (row_count s.table) none_of.fields (key_at cut.keys i).row a.inside) in
      record {
        forward = omega (arith, a.made.dep, a.made.arr, r.dep, r.arr, forward_own s.table (key_at cut.keys i).row (fits i a.key));
        early = omega (arith, a.made.arr, r.arr, form.arr);
        from_in = omega (arith, a.made.from, net.places, slice_get_within cut.places (own i).from (row s.table (key_at cut.keys i).row).from r.from);
        to_in = omega (arith, a.made.to, net.places, slice_get_within cut.places (own i).to (row s.table (key_at cut.keys i).row).to r.to);
        class_in = omega (arith, a.made.class, class_for-inside delays f (own i).class None (own i).arr, ap length net.classes);
        step_in = omega (arith, a.made.step, r.step, form.step);
      }

  few_seconds : (i : ℕ) → i < length cut.rows → IfSome (cut_row cut.rows i).change (λ x. x ≤ 86400)
  few_seconds i l =
      let inside : i < row_count s.table = omega (arith, s.read.size) in
      let r = s.read.each i inside in
      let form = row_in_form s.table i (none-each (bad_field s.table) (row_count s.table) none_of.fields i inside) in
      let P : Option ℕ → Type 0 = λ o. IfSome o (λ x. x ≤ 86400) in subst P (sym r.change) form.change

  pub locally_valid : IsLocallyValid n
  unfolding row_of
  locally_valid = record {
    next = next;
    first = first;
    connections = valid_connection;
    changes = λ p l. grind (arith, change_fits, longest_few, few_seconds);
    links = subst (AreLinks (length n.change)) (sym net.links) (AreLinks-none (length n.change));
    rows = λ k l. grind (arith, slice_index_or);
    few_connections = omega (arith, net.connections.size, s.read.key_count, s.read.size, none_of.few, s.few);
    few_places = omega (arith, net.places, ap length s.read.place_names, few_places s.table (row_count s.table), none_of.few, s.few);
    few_classes = omega (arith, ap length net.classes, f.each, f.few);
    class_0 = omega (arith, ap length net.classes, f.each);
  }

  pub network_valid : IsValid n
  network_valid = IsValid-from_local n locally_valid
