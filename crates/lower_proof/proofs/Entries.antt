-- The entries of a board, one connection and one way after the other, and in order.
use Rattle.lower_proof.proofs.Common.{◌≡◌, ℕ, ◌+◌, ◌-◌, ◌<◌, ◌≤◌, ◌⊎◌, List, [], ◌∷◌, ◌++◌, length, get_or, set, reverse, slice_get, Some, IsTrue, arith, inl, inr, sym, ◌∙◌, ap, subst, refl}
use Rattle.lower_proof.proofs.Common.{Ordering, is_lt, nat_cmp, IsPermutation, IsSorted, length-set, cases_lt, length_push, get_or-reverse, get_or_append_left, get_or_at, get_or_default}
use Rattle.lower_proof.proofs.Common.{All-permutation, Contains-permutation, ranks_by, sorted_far, NetworkModel, IsValid, count, connection, from_of, dep_of, ways_into, IsBoardable}
use Rattle.lower_proof.proofs.{Common.{way_of-listed, listed-way_of, not_above, Entry, ShownBoard, entry_at, IsEntry, AreEntries, Falls, board_at, AreFresh, HaveEntries}, Minima.get_or-set}
use Rattle.std.specs.Ordering.{ordering_then}
use Rattle.std.proofs.lemmas.Cmp.{nat_cmp_total, on_total, then_total}
use Rattle.plan_model.specs.declared.model.Way.{Way}

abbrev pub no_board : ShownBoard
no_board = record { entries = []; least = [] }

abbrev pub no_entry : Entry
no_entry = record { by = record { 0 = 0 }; id = record { 0 = 0 } }

-- ---- order

abbrev pub entry_cmp : Entry → Entry → Ordering
entry_cmp a b = ordering_then (nat_cmp a.by.0 b.by.0) (nat_cmp a.id.0 b.id.0)

moments_rise : (ys : List Entry) → IsSorted entry_cmp ys → (d : Entry) (i j : ℕ) → i ≤ j → j < length ys → (get_or ys i d).by.0 ≤ (get_or ys j d).by.0
moments_rise ys up d i j le within =
    let a = get_or ys i d in
    let b = get_or ys j d in
    let total = then_total (on_total (λ (e : Entry). e.by.0) nat_cmp_total) (on_total (λ (e : Entry). e.id.0) nat_cmp_total) in
    elim (not_above a.by.0 b.by.0 a.id.0 b.id.0 (sorted_far (λ x y. is_lt (entry_cmp x y)) (ranks_by total (λ (e : Entry). e)) ys up i j d le within)) [
      | inl less ↦ omega arith
      | inr level ↦ omega (arith, level.0)
    ]

-- sorted and turned round, they fall
pub falls_reversed : (ys : List Entry) → IsSorted entry_cmp ys → (zs : List Entry) → zs ≡ reverse ys → length zs ≡ length ys → Falls zs
falls_reversed ys up zs is same i j d before within =
    let first = ap (λ (w : List Entry). get_or w i d) is ∙ get_or-reverse ys i d (omega arith) in
    let second = ap (λ (w : List Entry). get_or w j d) is ∙ get_or-reverse ys j d (omega arith) in
    rw (first, second) (moments_rise ys up d (length ys - 1 - j) (length ys - 1 - i) (omega arith) (omega arith))

-- the same entries in another order
pub entries_permuted : (n : NetworkModel) (last p m : ℕ) (xs ys : List Entry) → IsPermutation xs ys → AreEntries n last p m xs → AreEntries n last p m ys
entries_permuted n last p m xs ys moved are = record {
  each = λ k within. All-permutation (IsEntry n p) xs ys moved (λ i d inside. subst (IsEntry n p) (get_or_default xs i no_entry d inside) (are.each i inside)) k no_entry within;
  all = λ c x below soon board boards.
      let (k, within, is) = are.all c x below soon board boards in
      let (i, inside, at) = Contains-permutation xs ys (entry_at xs k) moved (k, within, get_or_default xs k (entry_at xs k) no_entry within) in
      (i, inside, ap (λ (e : Entry). e.id.0) (get_or_default ys i no_entry (entry_at xs k) inside ∙ at) ∙ is);
}

-- ---- one way after the other

-- a board with the first connections, and with this one by the first k ways into where it departs
pub record HasWays (n : NetworkModel) (last id k p : ℕ) (board : ShownBoard) : Type 0 where
  pub entries : AreEntries n last p id board.entries
  pub own : (x j : ℕ) (way : Way) → j < k → slice_get (ways_into n (from_of n id)) j ≡ Some way → way.from.0 ≡ p → IsBoardable n p x id → (i : ℕ)
      × (i < length board.entries) × ((entry_at board.entries i).id.0 ≡ id)
  pub fresh : board.least ≡ []

abbrev pub HaveWays : NetworkModel → ℕ → ℕ → ℕ → List ShownBoard → Type 0
HaveWays n last id k boards = (p : ℕ) → p < length boards → HasWays n last id k p (board_at boards p)

module _ (n : NetworkModel) (last id : ℕ) where
  -- with one connection more, which has an entry where it can be boarded
  entries_next : (p : ℕ) (entries : List Entry) → AreEntries n last p id entries
      → ((x : ℕ) → dep_of n id ≤ last → IsTrue (connection n id).can_board → IsBoardable n p x id
      → (i : ℕ) × (i < length entries) × ((entry_at entries i).id.0 ≡ id)) → AreEntries n last p (id + 1) entries
  entries_next p entries are own = record {
    each = are.each;
    all = λ c x below soon can boards. elim (cases_lt c id) [
      | inl before ↦ are.all c x before soon can boards
      | inr newest ↦
          let is : c ≡ id = omega arith in
          subst (λ k. dep_of n k ≤ last → IsTrue (connection n k).can_board → IsBoardable n p x k
          → (i : ℕ) × (i < length entries) × ((entry_at entries i).id.0 ≡ k)) (sym is) (own x) soon can boards
    ];
  }

  pub no_ways : (boards : List ShownBoard) → HaveEntries n last id boards → HaveWays n last id 0 boards
  no_ways boards have p within = record { entries = (have p within).0; own = λ x j way below. absurd (omega arith); fresh = (have p within).1 }

  -- all ways
  pub all_ways : (boards : List ShownBoard) (k : ℕ) → length (ways_into n (from_of n id)) ≤ k → HaveWays n last id k boards → HaveEntries n last (id + 1) boards
  all_ways boards k whole have p within = (
    entries_next p (board_at boards p).entries (have p within).entries (λ x soon can own.
        let (j, listed, is_way) = listed-way_of n p (from_of n id) own.seconds own.way in
        (have p within).own x j (record { from = record { 0 = p }; seconds = own.seconds }) (omega arith) is_way refl own),
    (have p within).fresh,
  )

  -- a connection that cannot be boarded, or departs later
  pub entries_skipped : (boards : List ShownBoard) → (IsTrue (connection n id).can_board → dep_of n id ≤ last → ⊥) → HaveEntries n last id boards → HaveEntries n last (id + 1) boards
  entries_skipped boards never have p within = grind (arith, entries_next)

  module _ (valid : IsValid n) (departs_in : from_of n id < length n.change) (k : ℕ) (way : Way) (listed : slice_get (ways_into n (from_of n id)) k ≡ Some way) where
    same_way : (j : ℕ) (other : Way) → j < k + 1 → slice_get (ways_into n (from_of n id)) j ≡ Some other → (j < k) ⊎ (other ≡ way)
    same_way j other below at = grind (arith, cases_lt)

    seconds_are : (x : ℕ) (board : IsBoardable n way.from.0 x id) → board.seconds ≡ way.seconds
    seconds_are x board = let both = sym board.way ∙ way_of-listed n valid (from_of n id) departs_in k way listed in cc

    -- nobody can board by the way
    ways_same : (p : ℕ) (board : ShownBoard) → ((x : ℕ) → way.from.0 ≡ p → IsBoardable n p x id → ⊥) → HasWays n last id k p board
        → HasWays n last id (k + 1) p board
    ways_same p board never before = record {
      entries = before.entries;
      own = λ x j other below at from boards_by. elim (same_way j other below at) [
        | inl earlier ↦ before.own x j other earlier at from boards_by
        | inr is ↦ absurd (never x (sym (ap (λ (w : Way). w.from.0) is) ∙ from) boards_by)
      ];
      fresh = before.fresh;
    }

    pub way_passed : dep_of n id < way.seconds → (boards : List ShownBoard) → HaveWays n last id k boards → HaveWays n last id (k + 1) boards
    way_passed early boards have p within = ways_same p (board_at boards p) (λ x from boards_by.
        let here = subst (λ r. IsBoardable n r x id) (sym from) boards_by in
        omega (arith, here.in_time, seconds_are x here)) (have p within)

    abbrev new_entry : ℕ → Entry
    new_entry by = record { by = record { 0 = by }; id = record { 0 = id } }

    is_entry : (by : ℕ) → id < count n → IsTrue (connection n id).can_board → by + way.seconds ≡ dep_of n id → IsEntry n way.from.0 (new_entry by)
    is_entry by there board sum = record {
      there = there;
      board = board;
      early = λ x in_time. record { seconds = way.seconds; way = way_of-listed n valid (from_of n id) departs_in k way listed; in_time = omega arith };
      late = λ x boards. let in_time = boards.in_time in let seconds = seconds_are x boards in omega arith;
    }

    -- one more entry
    entries_more : (by : ℕ) → id < count n → IsTrue (connection n id).can_board → by + way.seconds ≡ dep_of n id → (entries : List Entry)
        → AreEntries n last way.from.0 id entries → AreEntries n last way.from.0 id (entries ++ new_entry by ∷ [])
    entries_more by there board sum entries are = record {
      each = λ i within. elim (cases_lt i (length entries)) [
        | inl before ↦ rw (get_or_append_left entries (new_entry by ∷ []) no_entry i before) (are.each i before)
        | inr last ↦ rw (get_or_at entries (new_entry by) [] no_entry i (omega (arith, length_push entries (new_entry by)))) (is_entry by there board sum)
      ];
      all = λ c x below soon can boards.
          let (i, within, is) = are.all c x below soon can boards in
          (i, omega (arith, length_push entries (new_entry by)), rw (get_or_append_left entries (new_entry by ∷ []) no_entry i within) is);
    }

    pub way_added : (by : ℕ) → id < count n → IsTrue (connection n id).can_board → by + way.seconds ≡ dep_of n id
        → (boards : List ShownBoard) (board : ShownBoard) → way.from.0 < length boards
        → board.entries ≡ (board_at boards way.from.0).entries ++ new_entry by ∷ [] → board.least ≡ [] → HaveWays n last id k boards → HaveWays n last id (k + 1) (set boards way.from.0 board)
    way_added by there can sum boards board inside is fresh have p within =
        let old = (board_at boards way.from.0).entries in
        get_or-set (HasWays n last id (k + 1)) boards way.from.0 p board no_board inside
        (record {
          entries = rw is (entries_more by there can sum old (have way.from.0 inside).entries);
          own = λ x j other below listed_at from boards_by. rw is
              (length old, omega (arith, length_push old (new_entry by)), ap (λ (e : Entry). e.id.0) (get_or_at old (new_entry by) [] no_entry (length old) refl));
          fresh = fresh;
        })
        (λ away. ways_same p (board_at boards p) (λ x from boards_by. away (sym from)) (have p (omega (arith, length-set boards way.from.0 board))))

-- ---- all boards in order

-- the first k boards are in order
pub record AreSorted (n : NetworkModel) (last k : ℕ) (boards : List ShownBoard) : Type 0 where
  pub len : length boards ≡ length n.change
  pub entries : HaveEntries n last (count n) boards
  pub falls : (p : ℕ) → p < k → Falls (board_at boards p).entries

pub sorted_more : (n : NetworkModel) (last k : ℕ) (boards : List ShownBoard) (board : ShownBoard) → k < length boards
    → IsPermutation (board_at boards k).entries board.entries → Falls board.entries → board.least ≡ [] → AreSorted n last k boards → AreSorted n last (k + 1) (set boards k board)
sorted_more n last k boards board inside moved falls fresh sorted = record {
  len = length-set boards k board ∙ sorted.len;
  entries = λ p within. get_or-set (λ r b. AreEntries n last r (count n) b.entries × (b.least ≡ [])) boards k p board no_board inside
      (entries_permuted n last k (count n) (board_at boards k).entries board.entries moved (sorted.entries k inside).0, fresh)
      (λ differ. sorted.entries p (omega (arith, length-set boards k board)));
  falls = λ p below. get_or-set (λ r b. Falls b.entries) boards k p board no_board inside falls (λ differ. sorted.falls p (omega arith));
}

-- no value is known yet, so what is known is right
pub sorted_fresh : (n : NetworkModel) (last : ℕ) (boards : List ShownBoard) → AreSorted n last (length boards) boards → AreFresh n last boards
sorted_fresh n last boards sorted = grind arith
