-- A step of reading, and the rows of tables, which are read as the tables that they give, and as no others.
use Rattle.graph_text.proofs.Common.{◌≡◌, ℕ, ◌+◌, ◌<◌, List, [], ◌∷◌, length, drop, Option, Some, Ok, Err, Result, arith, sym, ap, subst, refl, ◌∙◌, ◌≢◌, suc, ◌-◌, ◌≤◌, true, ◌++◌, None, All}
use Rattle.graph_text.proofs.Common.{AllPairs, inl, inr, append_assoc, ◌==◌, slice_index_or, if◌then◌else◌, codes, option_map, IsErr, IsErrAnd, ne_eqb, eqb-true, eq-eqb, ltb-true, lt-ltb}
use Rattle.graph_text.proofs.Common.{append-nil, cases_eq, and_then, PlaceId, NetworkModel, NameLists, PlaceTable, PlanGraph, Head, Version, Reading, TextFault, split_at, version_in, IsLegRow}
use Rattle.graph_text.proofs.Common.{AreLegRows, AreTableRows, after_leg_row, row_in, step, IsUnlessNoMemory, place_or_first, place_tables_from, graph_after_first, head_in, graph_of_records}
use Rattle.graph_text.proofs.Common.{table_in, with_rows, after_place_row, no_tables, All-cons, All-nil, All-head, All-tail, IsValid, GraphRow, IsFitRow, IsFitTable, TableStart, rises}
use Rattle.graph_text.proofs.{Common.{and_then-value, if-value}, Rows.{row_reported, row_read, table_reported, table_read}}
use Rattle.std.proofs.lemmas.List.Kept.{AllPairs-cons}
use Rattle.plan_model.specs.declared.model.Moment.{Moment}
use Rattle.graph_text.specs.declared.reader.TextFault.TheVariants as f

-- where leg rows are to come
pub leg_step : (n : NetworkModel) (names : NameLists) (version : Version) (line : ℕ) (r : List (List ℕ)) (s : Reading) (place : PlaceId) → (s.remaining ≡ 0 → ⊥)
    → s.place ≡ Some place → after_leg_row s (row_in n names version line place.0 (option_map (λ moment. moment.0) s.by) r) ≡ step n names version line r s
leg_step n names version line r s place some is = grind (arith, ne_eqb)

-- the same, of the table that its rows are read for
pub table_step : (n : NetworkModel) (names : NameLists) (version : Version) (line : ℕ) (r : List (List ℕ)) (s : Reading) (place : PlaceId) → (s.remaining ≡ 0 → ⊥)
    → s.place ≡ Some place → after_leg_row (with_rows s.done place s.rows s.by s.remaining) (row_in n names version line place.0 (option_map (λ moment. moment.0) s.by) r)
    ≡ step n names version line r s
table_step n names version line r s place some is =
    ap (λ (p : Option PlaceId). after_leg_row (record { done = s.done; place = p; rows = s.rows; by = s.by; remaining = s.remaining })
    (row_in n names version line place.0 (option_map (λ moment. moment.0) s.by) r)) (sym is)
    ∙ leg_step n names version line r s place some is

-- what is read where a step failed is so of what `?` raises again
pub read_raised : {A : Type 0} (fault : TextFault) (r reported : Result A TextFault) → IsErr r × IsErrAnd r (λ raised. raised ≡ fault)
    → IsUnlessNoMemory (Err fault) reported → IsUnlessNoMemory r reported
read_raised fault r reported raised is = grind arith

pub fault_on : {A B : Type 0} (fault : TextFault) (reported : Result A TextFault) (next : A → Result B TextFault) → IsUnlessNoMemory {A = A} (Err fault) reported
    → IsUnlessNoMemory {A = B} (Err fault) (and_then reported next)
fault_on fault reported next is = grind arith

-- the tables of the records from one on, after the step of this one
pub tables_after : (n : NetworkModel) (names : NameLists) (version : Version) (rows : List (List (List ℕ))) (line i : ℕ) (s now : Reading) → i < length rows
    → step n names version line (slice_index_or rows i []) s ≡ Ok now
    → place_tables_from n names version (drop i rows) line s ≡ place_tables_from n names version (drop (i + 1) rows) (line + 1) now
tables_after n names version rows line i s now within is = grind (arith, split_at)

pub tables_fail : (n : NetworkModel) (names : NameLists) (version : Version) (rows : List (List (List ℕ))) (line i : ℕ) (s : Reading) (fault : TextFault)
    → i < length rows → IsUnlessNoMemory {A = Reading} (Err fault) (step n names version line (slice_index_or rows i []) s)
    → IsUnlessNoMemory {A = List PlaceTable} (Err fault) (place_tables_from n names version (drop i rows) line s)
tables_fail n names version rows line i s fault within reported = grind (arith, split_at, fault_on)

-- what the first row and the graph of the others give together
pub reported_by : (n : NetworkModel) (names : NameLists) (version : Version) (source target start : ℕ) (rows : List (List (List ℕ))) (head : Head) (r : Result (Head × PlanGraph) TextFault)
    → Some version ≡ version_in (slice_index_or rows 0 []) → Ok head ≡ head_in names version source target start (slice_index_or rows 0 [])
    → IsUnlessNoMemory r (and_then (graph_after_first n names version source target start (drop 1 rows)) (λ graph. Ok (head, graph)))
    → IsUnlessNoMemory r (graph_of_records n names source target start rows)
reported_by n names version source target start rows head r found is read = grind arith

-- ---- the rows of tables are read as the tables that they give, and as no others

-- ---- numbers that rise

-- each is above the one before it, and the first above the one that may come before
abbrev pub RiseFrom : {X : Type 0} → (X → ℕ) → Option ℕ → List X → Type 0
RiseFrom number last [] = Unit {0}
RiseFrom number last (x ∷ xs) = (rises last (number x) ≡ true) × RiseFrom number (Some (number x)) xs

module _ {X : Type 0} (number : X → ℕ) where
  all_above : (low : ℕ) (xs : List X) → RiseFrom number (Some low) xs → All (λ x. low < number x) xs
  all_above low [] rise = All-nil (λ x. low < number x)
  all_above low (x ∷ xs) rise = grind (arith, ltb-true, All-cons, all_above (number x) xs rise.1)

  pairs_from_rise : (last : Option ℕ) (xs : List X) → RiseFrom number last xs → AllPairs (λ a b. number a < number b) xs
  pairs_from_rise last [] rise = λ i j d less within. absurd (omega (arith, less, within))
  pairs_from_rise last (x ∷ xs) rise = AllPairs-cons (λ a b. number a < number b) x xs (all_above (number x) xs rise.1) (pairs_from_rise (Some (number x)) xs rise.1)

  rise_after : (x : X) (xs : List X) → AllPairs (λ a b. number a < number b) (x ∷ xs) → RiseFrom number (Some (number x)) xs
  rise_after x [] pairs = tt
  rise_after x (y ∷ xs) pairs = (
    lt-ltb (number x) (number y) (pairs 0 1 x (omega arith) (omega arith)),
    rise_after y xs (λ i j d less within. pairs (suc i) (suc j) d (omega (arith, less)) (omega (arith, within))),
  )

  rise_from_pairs : (xs : List X) → AllPairs (λ a b. number a < number b) xs → RiseFrom number None xs
  rise_from_pairs [] pairs = tt
  rise_from_pairs (x ∷ xs) pairs = (refl, rise_after x xs pairs)

abbrev by_number : GraphRow → ℕ
by_number row = row.by.0

abbrev place_number : PlaceTable → ℕ
place_number t = t.place.0

-- ---- what is read after some rows

pub place_row_is : (s now : Reading) (reported : Result TableStart TextFault) → after_place_row s reported ≡ Ok now
    → (t : TableStart) × (reported ≡ Ok t) × (record { done = s.done; place = Some t.place; rows = []; by = None; remaining = t.count } ≡ now)
place_row_is s now reported is = grind arith

module _ (s : Reading) (row : GraphRow) where
  abbrev pub after_last : Reading
  after_last = record { done = s.done ++ (record { place = place_or_first s.place; rows = s.rows ++ row ∷ [] }) ∷ []; place = s.place; rows = []; by = None; remaining = 0 }

  abbrev pub after_row : Reading
  after_row = record { done = s.done; place = s.place; rows = s.rows ++ row ∷ []; by = Some row.by; remaining = s.remaining - 1 }

pub leg_row_is : (s now : Reading) (reported : Result GraphRow TextFault) → after_leg_row s reported ≡ Ok now
    → (row : GraphRow) × (reported ≡ Ok row) × (◌≡◌ {A = Result Reading TextFault} (if s.remaining == 1 then Ok (after_last s row) else Ok (after_row s row)) (Ok now))
leg_row_is s now reported is = grind arith

module _ (n : NetworkModel) (names : NameLists) (version : Version) where
  -- these rows give the rows of a table that are to come
  abbrev AreLater : ℕ → Option ℕ → List GraphRow → List (List (List ℕ)) → Type 0
  AreLater place by later own = AreLegRows n names version place later own × All (IsFitRow n place) later × RiseFrom by_number by later

  -- and these the tables that are to come
  abbrev AreMore : Option ℕ → List PlaceTable → List (List (List ℕ)) → Type 0
  AreMore place more rest = AreTableRows n names version more rest × All (IsFitTable n) more × RiseFrom place_number place more

  -- the rows that remain are those of the table that is open, as many as are to come, and then those of further tables
  record Continues (s : Reading) (rs : List (List (List ℕ))) (tables : List PlaceTable) : Type 0 where
    later : List GraphRow
    own : List (List (List ℕ))
    rest : List (List (List ℕ))
    more : List PlaceTable
    split : rs ≡ own ++ rest
    many : length later ≡ s.remaining
    legs : AreLater (place_or_first s.place).0 (option_map (λ moment. moment.0) s.by) later own
    table_rows : AreMore (option_map (λ place. place.0) s.place) more rest
    closed : s.remaining ≡ 0 → tables ≡ s.done ++ more
    opened : (s.remaining ≡ 0 → ⊥) → tables ≡ s.done ++ (record { place = place_or_first s.place; rows = s.rows ++ later }) ∷ more

  no_rows : (place : ℕ) (later : List GraphRow) (own : List (List (List ℕ))) → length later ≡ 0 → AreLegRows n names version place later own → own ≡ []
  no_rows place [] [] none legs = refl
  no_rows place [] (r ∷ rs) none legs = absurd legs
  no_rows place (x ∷ later) own none legs = absurd (omega (arith, none))

  module _ (line : ℕ) (r : List (List ℕ)) (rs : List (List (List ℕ))) (s : Reading) (tables : List PlaceTable) where
    with_place : (t : TableStart) → s.remaining ≡ 0 → table_in n names version line (option_map (λ place. place.0) s.place) r ≡ Ok t
        → Continues (record { done = s.done; place = Some t.place; rows = []; by = None; remaining = t.count }) rs tables → Continues s (r ∷ rs) tables
    with_place t none is next =
        let reported = table_reported n names version line r (option_map (λ place. place.0) s.place) t is in
        let table : IsFitTable n (record { place = t.place; rows = next.later }) =
        record { some = omega (arith, next.many, reported.2); rows = next.legs.1; rising = pairs_from_rise by_number None next.later next.legs.2 } in
        record {
          later = [];
          own = [];
          rest = r ∷ rs;
          more = (record { place = t.place; rows = next.later }) ∷ next.more;
          split = refl;
          many = sym none;
          legs = (tt, All-nil (IsFitRow n (place_or_first s.place).0), tt);
          table_rows = grind (arith, All-cons);
          closed = λ none_remain. next.opened (λ no_rows. omega (arith, no_rows, reported.2));
          opened = λ some. absurd (some none);
        }

    module _ (row : GraphRow) (is : row_in n names version line (place_or_first s.place).0 (option_map (λ moment. moment.0) s.by) r ≡ Ok row) where
      with_last : s.remaining ≡ 1 → Continues (after_last s row) rs tables → Continues s (r ∷ rs) tables
      with_last one next =
          let reported = row_reported n names version line r (place_or_first s.place).0 (option_map (λ moment. moment.0) s.by) row is in
          let none = no_rows (place_or_first s.place).0 next.later next.own next.many next.legs.0 in
          record {
            later = row ∷ [];
            own = r ∷ [];
            rest = next.rest;
            more = next.more;
            split = ap (λ (list : List (List (List ℕ))). r ∷ list) (next.split ∙ ap (λ (list : List (List (List ℕ))). list ++ next.rest) none);
            many = sym one;
            legs = grind (arith, All-cons, All-nil);
            table_rows = next.table_rows;
            closed = λ none_remain. absurd (omega (arith, none_remain, one));
            opened = λ some. next.closed refl ∙ append_assoc s.done ((record { place = place_or_first s.place; rows = s.rows ++ row ∷ [] }) ∷ []) next.more;
          }

      with_row : (s.remaining ≡ 0 → ⊥) → s.remaining ≢ 1 → Continues (after_row s row) rs tables → Continues s (r ∷ rs) tables
      with_row some many next =
          let reported = row_reported n names version line r (place_or_first s.place).0 (option_map (λ moment. moment.0) s.by) row is in
          record {
            later = row ∷ next.later;
            own = r ∷ next.own;
            rest = next.rest;
            more = next.more;
            split = ap (λ (list : List (List (List ℕ))). r ∷ list) next.split;
            many = let fewer = next.many in omega arith;
            legs = ((reported.1, next.legs.0), All-cons (IsFitRow n (place_or_first s.place).0) row next.later reported.2 next.legs.1, (reported.0, next.legs.2));
            table_rows = next.table_rows;
            closed = λ none_remain. absurd (some none_remain);
            opened = grind (arith, append_assoc);
          }

    after_step : (now : Reading) → step n names version line r s ≡ Ok now → Continues now rs tables → Continues s (r ∷ rs) tables
    after_step now is next = elim (cases_eq s.remaining 0) [
      | inl none ↦ grind (arith, place_row_is, eq-eqb, with_place)
      | inr some ↦
          let place = (place_or_first s.place).0 in
          let (row, reported, more) = leg_row_is s now (row_in n names version line place (option_map (λ moment. moment.0) s.by) r)
          (rw (ne_eqb s.remaining 0 some) at is) in
          elim (cases_eq s.remaining 1) [
            | inl one ↦ grind (arith, eq-eqb, after_last, with_last)
            | inr many ↦ grind (arith, ne_eqb, after_row, with_row)
          ]
    ]

  tables_reported : (rs : List (List (List ℕ))) (line : ℕ) (s : Reading) (tables : List PlaceTable) → place_tables_from n names version rs line s ≡ Ok tables → Continues s rs tables
  tables_reported [] line s tables is =
      let both = if-value (s.remaining == 0) (Ok s.done) (f.Row line) tables is in
      let none = eqb-true s.remaining 0 both.0 in
      let same : s.done ≡ tables = (cc) in
      record {
        later = [];
        own = [];
        rest = [];
        more = [];
        split = refl;
        many = sym none;
        legs = (tt, All-nil (IsFitRow n (place_or_first s.place).0), tt);
        table_rows = (tt, All-nil (IsFitTable n), tt);
        closed = λ none_remain. sym (append-nil s.done ∙ same);
        opened = λ some. absurd (some none);
      }
  tables_reported (r ∷ rs) line s tables is =
      let (now, reported, rest) = and_then-value (step n names version line r s) (place_tables_from n names version rs (line + 1)) tables is in
      after_step line r rs s tables now reported (tables_reported rs (line + 1) now tables rest)

  -- all of them
  pub all_reported : (rs : List (List (List ℕ))) (line : ℕ) (tables : List PlaceTable) → place_tables_from n names version rs line no_tables ≡ Ok tables
      → AreTableRows n names version tables rs × All (IsFitTable n) tables × AllPairs (λ a b. a.place.0 < b.place.0) tables
  all_reported rs line tables is =
      let reported = tables_reported rs line no_tables tables is in
      let own = no_rows 0 reported.later reported.own reported.many reported.legs.0 in
      let same : reported.rest ≡ rs = sym (reported.split ∙ ap (λ (list : List (List (List ℕ))). list ++ reported.rest) own) in
      subst (λ (ts : List PlaceTable). AreTableRows n names version ts rs × All (IsFitTable n) ts × AllPairs (λ a b. a.place.0 < b.place.0) ts) (sym (reported.closed refl))
      (subst (AreTableRows n names version reported.more) same reported.table_rows.0, reported.table_rows.1, pairs_from_rise place_number None reported.more reported.table_rows.2)

  -- ---- and the other way round

  module _ (valid : IsValid n) where
    row_step : (line : ℕ) (r : List (List ℕ)) (done : List PlaceTable) (place : PlaceId) (before : List GraphRow) (last : Option Moment) (remaining : ℕ) (row : GraphRow) → (remaining ≡ 0 → ⊥)
        → IsLegRow n names version (codes "leg") place.0 row.by.0 row.leg r → IsFitRow n place.0 row → rises (option_map (λ moment. moment.0) last) row.by.0 ≡ true
        → step n names version line r (with_rows done place before last remaining) ≡ after_leg_row (with_rows done place before last remaining) (Ok row)
    row_step line r done place before last remaining row some reported fit later =
        sym (leg_step n names version line r (with_rows done place before last remaining) place some refl)
        ∙ ap (λ (read : Result GraphRow TextFault). after_leg_row (with_rows done place before last remaining) read)
        (row_read n names version line r valid place.0 (option_map (λ moment. moment.0) last) row later reported fit)

    rows_read : (rows : List GraphRow) (own rest : List (List (List ℕ))) (line : ℕ) (done : List PlaceTable) (place : PlaceId) (before : List GraphRow)
        (last : Option Moment) (remaining : ℕ) (all : List PlaceTable) → remaining ≡ length rows → 1 ≤ remaining
        → AreLegRows n names version place.0 rows own → All (IsFitRow n place.0) rows → RiseFrom by_number (option_map (λ moment. moment.0) last) rows
        → ((later : ℕ) → place_tables_from n names version rest later
        (record { done = done ++ (record { place = place; rows = before ++ rows }) ∷ []; place = Some place; rows = []; by = None; remaining = 0 }) ≡ Ok all)
        → place_tables_from n names version (own ++ rest) line (with_rows done place before last remaining) ≡ Ok all
    rows_read [] own rest line done place before last remaining all size some legs fits rise goes_on = absurd (omega (arith, size, some))
    rows_read (row ∷ rows) [] rest line done place before last remaining all size some legs fits rise goes_on = absurd legs
    rows_read (row ∷ []) (r ∷ []) rest line done place before last remaining all size some legs fits rise goes_on =
        rw (
          row_step line r done place before last remaining row (λ none. omega (arith, none, some)) legs.0 (All-head (IsFitRow n place.0) row [] fits) rise.0,
          eq-eqb remaining 1 size,
        ) (goes_on (line + 1))
    rows_read (row ∷ []) (r ∷ x ∷ own) rest line done place before last remaining all size some legs fits rise goes_on = absurd legs.1
    rows_read (row ∷ next ∷ rows) (r ∷ own) rest line done place before last remaining all size some legs fits rise goes_on =
        rw (
          row_step line r done place before last remaining row (λ none. omega (arith, none, some)) legs.0
              (All-head (IsFitRow n place.0) row (next ∷ rows) fits) rise.0,
          ne_eqb remaining 1 (λ one. omega (arith, one, size)),
        )
        (rows_read (next ∷ rows) own rest (line + 1) done place (before ++ row ∷ []) (Some row.by) (remaining - 1) all (omega (arith, size))
        (omega (arith, size)) legs.1
        (All-tail (IsFitRow n place.0) row (next ∷ rows) fits) rise.1
        (λ later. rw (append_assoc before (row ∷ []) (next ∷ rows)) (goes_on later)))

    tables_read : (tables : List PlaceTable) (rs : List (List (List ℕ))) (line : ℕ) (done : List PlaceTable) (last : Option PlaceId) → AreTableRows n names version tables rs
        → All (IsFitTable n) tables → RiseFrom place_number (option_map (λ place. place.0) last) tables
        → place_tables_from n names version rs line (record { done = done; place = last; rows = []; by = None; remaining = 0 }) ≡ Ok (done ++ tables)
    tables_read [] [] line done last rows fits rise = ap (λ (list : List PlaceTable). Ok list) (sym (append-nil done))
    tables_read [] (r ∷ rs) line done last rows fits rise = absurd rows
    tables_read (t ∷ tables) [] line done last rows fits rise = absurd rows
    tables_read (t ∷ tables) (r ∷ rs) line done last rows fits rise =
        let (own, rest, split, legs, more) = rows.1 in
        let first = All-head (IsFitTable n) t tables fits in
        rw (
          table_read n names version line r (option_map (λ place. place.0) last)
              (record { place = t.place; count = length t.rows }) rise.0 rows.0 first.some,
          split,
        )
        (rows_read t.rows own rest (line + 1) done t.place [] None (length t.rows) (done ++ t ∷ tables) refl first.some legs first.rows
        (rise_from_pairs by_number t.rows first.rising)
        (λ later. tables_read tables rest later (done ++ t ∷ []) (Some t.place) more (All-tail (IsFitTable n) t tables fits) rise.1
        ∙ ap (λ (list : List PlaceTable). Ok list) (append_assoc done (t ∷ []) tables)))

    pub all_read : (rs : List (List (List ℕ))) (line : ℕ) (tables : List PlaceTable) → AreTableRows n names version tables rs → All (IsFitTable n) tables
        → AllPairs (λ a b. a.place.0 < b.place.0) tables → place_tables_from n names version rs line no_tables ≡ Ok tables
    all_read rs line tables rows fits rising = tables_read tables rs line [] None rows fits (rise_from_pairs place_number tables rising)
