-- Links into a place, one put after the others, the lists of them, and names that fit with links too.
use Rattle.std.proofs.{Common.{◌≡◌, ◌≢◌, ℕ, ◌+◌, ◌<◌, ◌≤◌, List, [], ◌∷◌, ◌++◌, length, get_or, All, sym, ap, ◌∙◌, subst, arith, length-append, ⊎_elim, slice_index_or}, Math.Logic.∥∥₁_map}
use Rattle.std.proofs.lemmas.{Bool.cases_lt, List.{get_or_append_left, get_or_push, Elements.{All-get_or, All-push}}}
use Rattle.plan_model.specs.{declared.model.{Way.Way, Connection.Connection}, NameLists.{NameLists, NamesFit}, Network.{AreLinksInto, connection, no_connection, NetworkModel}}

abbrev Rises : Way → Way → Type 0
Rises a b = a.from.0 < b.from.0

abbrev Takes : Way → Type 0
Takes way = (1 ≤ way.seconds) × (way.seconds ≤ 86400)

-- links that rise, and one that comes from a later place
pub links_push : (places r : ℕ) (ws : List Way) (w : Way) → w.from.0 < places → w.from.0 ≢ r → Takes w
    → All (λ way. way.from.0 < w.from.0) ws → AreLinksInto places r ws → AreLinksInto places r (ws ++ w ∷ [])
links_push places r ws w inside other takes before are =
    grind (arith, length-append, get_or_append_left, get_or_push, All-get_or, cases_lt, All-push)

-- the links into each of the first places, and those into the next one
pub lists_push : (places : ℕ) (lists : List (List Way)) (ws : List Way) → ((r : ℕ) → r < length lists → AreLinksInto places r (get_or lists r []))
    → AreLinksInto places (length lists) ws → (r : ℕ) → r < length lists + 1 → AreLinksInto places r (get_or (lists ++ ws ∷ []) r [])
lists_push places lists ws before are r less =
    ⊎_elim (λ (low : r < length lists). subst (AreLinksInto places r) (sym (get_or_append_left lists (ws ∷ []) [] r low)) (before r low))
    (λ (high : length lists ≤ r).
    let same : length lists ≡ r = omega arith in
    subst (AreLinksInto places r) (sym (get_or_push lists ws [] r same)) (subst (λ k. AreLinksInto places k ws) same are))
    (cases_lt r (length lists))

-- the same, where the lists are known by how many they are
pub lists_pushed : (places to : ℕ) (lists new : List (List Way)) (ws : List Way) → new ≡ lists ++ ws ∷ [] → length lists ≡ to → ((r : ℕ) → r < to → AreLinksInto places r (slice_index_or lists r []))
    → AreLinksInto places to ws → (r : ℕ) → r < to + 1 → AreLinksInto places r (slice_index_or new r [])
lists_pushed places to lists new ws is many before are r less =
    subst (λ (all : List (List Way)). AreLinksInto places r (slice_index_or all r [])) (sym is)
    (lists_push places lists ws (λ k low. before k (omega (arith, many, low))) (subst (λ k. AreLinksInto places k ws) (sym many) are) r (omega (arith, many, less)))

-- names fit by the connections and the places alone
pub NamesFit-same : (names : NameLists) (n m : NetworkModel) → m.connections ≡ n.connections → m.change ≡ n.change → NamesFit names n → NamesFit names m
unfolding connection
NamesFit-same names n m e h a =
    let run : (i : ℕ) → (get_or m.connections i no_connection).run.0 ≡ (get_or n.connections i no_connection).run.0
    = λ i. ap (λ (cs : List Connection). (get_or cs i no_connection).run.0) e in
    record {
      places = a.places ∙ ap length (sym h);
      below = λ i l. omega (arith, run i, a.below i (omega (arith, ap length e, l)));
      each = λ r l. ∥∥₁_map (a.each r l) (λ x. (x.0, omega (arith, ap length e, x.1), run x.0 ∙ x.2));
      place_names = a.place_names;
      run_names = a.run_names;
    }
