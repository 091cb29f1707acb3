-- The network with gates is one, and each gate leads to its source.
use Rattle.plan_model.proofs.Common.{◌≡◌, ◌≢◌, ℕ, zero, suc, ◌+◌, ◌<◌, ◌≤◌, true, false, Some, None, List, [], ◌∷◌, ◌++◌, length, All, arith, refl, sym, ap, ◌∙◌, subst, inl, inr}
use Rattle.plan_model.proofs.Common.{length-append, append-nil, append_assoc, cases_lt, cases_eq, nat_tests, slice_index_or, replicate, ◌==◌, if◌then◌else◌, NetworkModel, IsValid, AreLinksInto}
use Rattle.plan_model.proofs.Common.{PlaceId, Way, links_into, way_in, way_of, ways_into, own_way, HasGates, extended_by, links_with_gates, source_at, way_from, way_if_to, ways_from_gates}
use Rattle.plan_model.proofs.{Common.{get_or_append_left, get_or-append_right, get_or_past, All-cons, All-nil, change_of, connection, row_of, IsSeen, IsView}, Boarding.{way_in-here, way_in-away}}
use Rattle.plan_model.proofs.{Links.AreLinksInto-none, MoreLinks.{AreLinksInto-wider, AreLinksInto-push}}
use Rattle.std.proofs.lemmas.List.{get_or-replicate, length-replicate, FromFn.{length-map-range_with_len, get_or-map-range_with_len}}

-- a way is looked for in the first list, and then in the second
way_in-first : (ways more : List Way) (p : ℕ) → way_in more p ≡ None → way_in (ways ++ more) p ≡ way_in ways p
way_in-first [] more p none = none
way_in-first (way ∷ ways) more p none = grind (arith, cases_eq, way_in-here, way_in-away, way_in-first ways more p none)

way_in-second : (ways more : List Way) (p : ℕ) → All (λ way. way.from.0 ≢ p) ways → way_in (ways ++ more) p ≡ way_in more p
way_in-second [] more p away = refl
way_in-second (way ∷ ways) more p away =
    way_in-away way (ways ++ more) p (away zero way (omega arith)) ∙ way_in-second ways more p (λ k d within. away (suc k) d (omega arith))

pub if_here : (gate : ℕ) (source : PlaceId) (r : ℕ) → r ≡ source.0 → way_if_to gate source r ≡ way_from gate ∷ []
if_here gate source r here = let same : (r == source.0) ≡ true = grind (arith, nat_tests) in rw same refl

pub if_away : (gate : ℕ) (source : PlaceId) (r : ℕ) → r ≢ source.0 → way_if_to gate source r ≡ []
if_away gate source r away = let other : (r == source.0) ≡ false = grind (arith, nat_tests) in rw other refl

-- of one source more there is a way more
pub ways_from_gates-push : (gate : ℕ) (sources : List PlaceId) (source : PlaceId) (r : ℕ)
    → ways_from_gates gate (sources ++ source ∷ []) r ≡ ways_from_gates gate sources r ++ way_if_to (gate + length sources) source r
ways_from_gates-push gate [] source r = grind (arith, append-nil)
ways_from_gates-push gate (s ∷ sources) source r = grind (arith, append_assoc, ways_from_gates-push (gate + 1) sources source r)

-- the gates are the places from the first one on
from_later : (gate : ℕ) (sources : List PlaceId) (r : ℕ) → All (λ way. gate ≤ way.from.0) (ways_from_gates gate sources r)
from_later gate [] r = grind (arith, All-nil)
from_later gate (s ∷ sources) r = grind (arith, cases_eq, All-cons, if_away, from_later (gate + 1) sources r)

none_before : (ways : List Way) (gate p : ℕ) → All (λ way. gate ≤ way.from.0) ways → p < gate → way_in ways p ≡ None
none_before [] gate p later before = refl
none_before (way ∷ ways) gate p later before =
    way_in-away way ways p (λ e. absurd (let l = later zero way (omega arith) in omega (arith, l, e))) ∙ none_before ways gate p (λ k d within. later (suc k) d (omega arith)) before

-- a place that is no source has no way from a gate
no_source : (gate : ℕ) (sources : List PlaceId) (r : ℕ) → All (λ source. source.0 ≢ r) sources → ways_from_gates gate sources r ≡ []
no_source gate [] r away = refl
no_source gate (s ∷ sources) r away =
    let e = if_away gate s r (λ same. away zero s (omega arith) (sym same)) in
    rw e (no_source (gate + 1) sources r (λ k d within. away (suc k) d (omega arith)))

-- the way from the k-th gate
from_gate : (gate k : ℕ) (sources : List PlaceId) (r : ℕ) → k < length sources → way_in (ways_from_gates gate sources r) (gate + k) ≡ (if r == source_at sources k then Some 1 else None)
from_gate gate k [] r within = absurd (omega (arith, within))
from_gate gate zero (s ∷ sources) r within =
    let now : gate ≡ gate + 0 = omega arith in
    subst (λ (p : ℕ). way_in (ways_from_gates gate (s ∷ sources) r) p ≡ (if r == s.0 then Some 1 else None)) now (elim (cases_eq r s.0) [
      | inl here ↦ grind (arith, nat_tests, way_in-here)
      | inr away ↦
          let e = if_away gate s r away in
          let other : (r == s.0) ≡ false = grind (arith, nat_tests) in
          rw (e, other) (none_before (ways_from_gates (gate + 1) sources r) (gate + 1) gate (from_later (gate + 1) sources r) (omega arith))
    ])
from_gate gate (suc k) (s ∷ sources) r within = grind (arith, cases_eq, way_in-away, if_away, from_gate (gate + 1) k sources r (omega (arith, within)))

-- the ways from gates are links from places more
links_more : (gate r : ℕ) (links : List Way) (sources : List PlaceId) → r < gate → AreLinksInto gate r links → AreLinksInto (gate + length sources) r (links ++ ways_from_gates gate sources r)
links_more gate r links [] before are = let e = append-nil links in let f : gate + 0 ≡ gate = omega arith in rw (e, f) are
links_more gate r links (s ∷ sources) before are =
    let later : gate + 1 + length sources ≡ gate + suc (length sources) = omega arith in
    elim (cases_eq r s.0) [
      | inl here ↦
          let e = if_here gate s r here in
          let more = AreLinksInto-push gate r links (way_from gate) are refl (λ same. absurd (omega (arith, same, before))) (omega arith) (omega arith) in
          let whole = links_more (gate + 1) r (links ++ way_from gate ∷ []) sources (omega (arith, before)) more in
          let shift = append_assoc links (way_from gate ∷ []) (ways_from_gates (gate + 1) sources r) in
          rw (e, ← later, ← shift) whole
      | inr away ↦ grind (arith, if_away, AreLinksInto-wider, links_more (gate + 1) r links sources (omega (arith, before)) (AreLinksInto-wider gate r links are))
    ]

module _ (m : NetworkModel) (v : IsValid m) (sources : List PlaceId) (there : All (λ source. source.0 < length m.change) sources) (few : length m.change + length sources < 4294967296) where
  abbrev last : ℕ
  last = length m.change

  abbrev n : NetworkModel
  n = extended_by m sources

  pub places : length n.change ≡ last + length sources
  places = length-append m.change (replicate (length sources) 1) ∙ ap (λ (k : ℕ). last + k) (length-replicate (length sources) 1)

  abbrev more : ℕ → List Way
  more r = ways_from_gates last sources r

  -- past the places there is no link
  pub none_past : (r : ℕ) → last ≤ r → links_with_gates m sources r ≡ []
  none_past r past = grind (arith, get_or_past, no_source)

  links_at : (r : ℕ) → r < last + length sources → links_into n r ≡ links_with_gates m sources r
  links_at r h = get_or-map-range_with_len (links_with_gates m sources) 0 (last + length sources) r r [] h (omega arith)

  none_into : (r : ℕ) → last ≤ r → links_into n r ≡ []
  none_into r past = grind (arith, cases_lt, links_at, none_past, get_or_past, length-map-range_with_len)

  own_at : (r : ℕ) → r < last → own_way n r ≡ own_way m r
  unfolding change_of
  own_at r h = ap (λ (k : ℕ). record { from = record { 0 = r }; seconds = k }) (get_or_append_left m.change (replicate (length sources) 1) 0 r h)

  ways_at : (r : ℕ) → r < last → ways_into n r ≡ ways_into m r ++ more r
  ways_at r h = ap (λ (w : Way). w ∷ links_into n r) (own_at r h) ∙ ap (λ (ways : List Way). own_way m r ∷ ways) (links_at r (omega (arith, h)))

  -- no way of the network comes from a gate
  none_from : (r gate : ℕ) → r < last → last ≤ gate → All (λ way. way.from.0 ≢ gate) (ways_into m r)
  none_from r gate h past =
      All-cons (λ (way : Way). way.from.0 ≢ gate) (own_way m r) (links_into m r) (λ e. absurd (omega (arith, e, h, past)))
      (λ k d within e. let inside = (v.links.each r h).inside k d within in absurd (omega (arith, e, inside, past)))

  pub same_ways : (p r : ℕ) → p < last → r < last → way_of n p r ≡ way_of m p r
  same_ways p r inside h =
      ap (λ (ways : List Way). way_in ways p) (ways_at r h) ∙ way_in-first (ways_into m r) (more r) p (none_before (more r) last p (from_later last sources r) inside)

  pub from_the_gate : (k r : ℕ) → k < length sources → r < last → way_of n (last + k) r ≡ (if r == source_at sources k then Some 1 else None)
  from_the_gate k r within h =
      ap (λ (ways : List Way). way_in ways (last + k)) (ways_at r h) ∙ way_in-second (ways_into m r) (more r) (last + k) (none_from r (last + k) h (omega arith)) ∙ from_gate last k sources r within

  -- a connection is seen as it is
  all_seen : (i : ℕ) → IsSeen 0 0 (connection n i) (connection m i)
  unfolding connection
  all_seen i = grind arith

  view : IsView n m 0 0
  view = record { as_many = refl; connections = λ i h. all_seen i; classes = refl; ways = λ p r inside h. same_ways p r inside h }

  link : (k : ℕ) → k < length sources → source_at sources k < last → way_of n (last + k) (source_at sources k) ≡ Some 1
  link k within inside = let same : (source_at sources k == source_at sources k) ≡ true = grind (arith, nat_tests) in from_the_gate k (source_at sources k) within inside ∙ rw same refl

  only : (k to seconds : ℕ) → k < length sources → to < last → way_of n (last + k) to ≡ Some seconds → to ≡ source_at sources k
  only k to seconds within h way = grind (arith, cases_eq, nat_tests, from_the_gate)

  pub has_gates : HasGates n m sources
  has_gates = record {
    places = places;
    gates = λ k within.
        let inside : source_at sources k < last = there k (record { 0 = 0 }) within in
        record { view = view; added = omega arith; source_there = inside; link = link k within inside; only = λ to seconds h way. only k to seconds within h way };
    closed = λ from to past away. let none = none_into to past in rw none (way_in-away (own_way n to) [] from (λ e. away (sym e)));
  }

  links_valid : (r : ℕ) → r < last + length sources → AreLinksInto (last + length sources) r (links_with_gates m sources r)
  links_valid r h = elim (cases_lt r last) [
    | inl before ↦ links_more last r (links_into m r) sources before (v.links.each r before)
    | inr past ↦ let none = none_past r past in rw none (AreLinksInto-none (last + length sources) r)
  ]

  changes_valid : (p : ℕ) → p < last + length sources → (1 ≤ change_of n p) × (change_of n p ≤ 86400)
  unfolding change_of
  changes_valid p h = grind (arith, cases_lt, get_or_append_left, get_or-append_right, slice_index_or, get_or-replicate)

  pub is_valid : IsValid n
  unfolding connection row_of
  is_valid = record {
    rising = v.rising;
    onward = v.onward;
    connections = λ i h. let c = v.connections i h in record {
      forward = c.forward;
      early = c.early;
      from_in = omega (arith, c.from_in, places);
      to_in = omega (arith, c.to_in, places);
      class_in = c.class_in;
      step_in = c.step_in;
    };
    runs = v.runs;
    changes = λ p h. changes_valid p (omega (arith, places));
    links = record {
      few = omega (arith, length-map-range_with_len (links_with_gates m sources) 0 (last + length sources), places);
      each = λ r h. let inside : r < last + length sources = omega (arith, places) in rw (places, links_at r inside) (links_valid r inside);
    };
    rows = v.rows;
    few_connections = v.few_connections;
    few_places = omega (arith, places);
    few_classes = v.few_classes;
    class_0 = v.class_0;
  }
