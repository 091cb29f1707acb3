-- The lists of a network with gates, as they are made.
use Rattle.std.proofs.lemmas.{Grind.common_steps, List.{get_or-set_same, get_or-set_other, take_more, length-take-le, ext_get_or, FromFn.{map-range_with_len_more, length-map-range_with_len}}}
use Rattle.std.proofs.lemmas.List.FromFn.{get_or-map-range_with_len}
use Rattle.std.specs.Prelude.{slice_set}
use Rattle.departure_table.proofs.Common.{◌≡◌, ℕ, ◌+◌, ◌<◌, ◌≤◌, List, [], ◌∷◌, ◌++◌, length, map, arith, sym, ap, ◌∙◌, append-nil, append_assoc, cases_eq, slice_index_or, range_with_len, take}
use Rattle.departure_table.proofs.Common.{take_all, Connection, NetworkModel, plain_network, IsValid, AreLinksInto, FitGates, PlaceId, Way, links_into, source_at, way_from, ways_from_gates}
use Rattle.departure_table.proofs.Common.{links_with_gates, places_with, extended_by}
use Rattle.plan_model.specs.declared.model.Outcome.{Outcome}
use Rattle.plan_model.proofs.{Links.{IsValid-relinked, AreLinks-none}, GateWays.{ways_from_gates-push, if_here, if_away, places, is_valid}}

-- the lists for one place more
pub lists_more : (f : ℕ → List Way) (place : ℕ) (old now : List (List Way)) (one : List Way) → old ≡ map f (range_with_len 0 place) → one ≡ f place → now ≡ old ++ one ∷ [] → now ≡ map f (range_with_len 0 (place + 1))
lists_more f place old now one before is grows = grind (arith, map-range_with_len_more)

-- the links into each place, with those from the first gates
abbrev pub LedTo : List (List Way) → List (List Way) → ℕ → List PlaceId → Type 0
LedTo old now gate sources = (place : ℕ) → slice_index_or now place [] ≡ slice_index_or old place [] ++ ways_from_gates gate sources place

pub led_to_more : (old links : List (List Way)) (gate k : ℕ) (sources : List PlaceId) (into : List Way) → k < length sources → source_at sources k < length links
    → LedTo old links gate (take k sources) → into ≡ slice_index_or links (source_at sources k) [] ++ way_from (gate + k) ∷ [] → LedTo old (slice_set links (source_at sources k) into) gate (take (k + 1) sources)
led_to_more old links gate k sources into within inside before is place =
    grind (arith, common_steps, take_more, ways_from_gates-push, length-take-le, append_assoc, cases_eq, get_or-set_same, if_here, get_or-set_other, append-nil, if_away)

-- the links into each place, and none into the gates
abbrev pub own_links : NetworkModel → List PlaceId → List (List Way)
own_links m sources = map (links_into m) (range_with_len 0 (places_with m sources))

-- the links of all, as one list
pub all_led_to : (m : NetworkModel) (sources : List PlaceId) (k : ℕ) (now : List (List Way)) → length sources ≤ k → length now ≡ places_with m sources
    → LedTo (own_links m sources) now (length m.change) (take k sources) → now ≡ map (links_with_gates m sources) (range_with_len 0 (places_with m sources))
all_led_to m sources k now over all led =
    let places = places_with m sources in
    let whole = take_all k sources over in
    ext_get_or [] now (map (links_with_gates m sources) (range_with_len 0 places)) (all ∙ sym (length-map-range_with_len (links_with_gates m sources) 0 places))
    (λ r h.
    let inside : r < places = omega (arith, h, all) in
    (rw whole at led r)
    ∙ ap (λ (ways : List Way). ways ++ ways_from_gates (length m.change) sources r) (get_or-map-range_with_len (links_into m) 0 places r r [] inside (omega arith))
    ∙ sym (get_or-map-range_with_len (links_with_gates m sources) 0 places r r [] inside (omega arith)))

module _ (m : NetworkModel) (v : IsValid m) (sources : List PlaceId) (fit : FitGates m sources) where
  abbrev more : NetworkModel
  more = extended_by m sources

  -- its parts without links are a network
  pub plain_valid : (connections : List Connection) (change : List ℕ) (classes : List (List Outcome)) → connections ≡ m.connections → change ≡ more.change → classes ≡ m.classes
      → IsValid (plain_network connections change classes)
  plain_valid connections change classes a b d =
      rw (a, b, d) (IsValid-relinked more [] (is_valid m v sources fit.there fit.few) (AreLinks-none (length more.change)))

  -- there is a list of links for each place
  pub as_many_links : (links : List (List Way)) (change : List ℕ) → links ≡ more.links → change ≡ more.change → length links ≡ length change
  as_many_links links change a b = grind (arith, length-map-range_with_len, places)

  pub are_links : (links : List (List Way)) (change : List ℕ) → links ≡ more.links → change ≡ more.change → (r : ℕ) → r < length change → AreLinksInto (length change) r (slice_index_or links r [])
  are_links links change a b =
      rw (a, b) (is_valid m v sources fit.there fit.few).links.each
