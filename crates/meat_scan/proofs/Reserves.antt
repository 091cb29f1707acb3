-- The memory of a scan.
use Rattle.meat_scan.proofs.Common.{Bool, ◌≡◌, ℕ, zero, suc, ◌+◌, ◌<◌, ◌≤◌, List, [], ◌∷◌, ◌++◌, length, get_or, take, replicate, Option, None, arith, ◌∙◌, refl, cond, count_by, All, ap, sym}
use Rattle.meat_scan.proofs.Common.{append-nil, nat_tests, common_steps, length-replicate, All-nil, All-tail, sum_by-append, sum_by-cons, Connection, ConnectionId, NetworkModel, count}
use Rattle.meat_scan.proofs.Common.{connection, dep_of, from_of, run_of, no_connection, IsValid, IsScanOrder, IsPrefixUpTo, count_in_order, has_each_id, ShownProfile, Exit, rows_of_profile}
use Rattle.meat_scan.proofs.Common.{spare_at, exit_at, has_way, is_boardable_by, boardable, HasRoom, FitsTables, FitsTablesBy, ShownTables, capacity_at, IsEmpty}
use Rattle.plan_model.specs.Bounds.{end_of_arrivals}

-- one connection more is counted, where it passes
pub count_by-take_more : (p : Connection → Bool) (connections : List Connection) (i : ℕ) → i < length connections
    → count_by p (take (i + 1) connections) ≡ count_by p (take i connections) + cond (p (get_or connections i no_connection)) 1 0
count_by-take_more p connections i within = grind (arith, common_steps, nat_tests)

-- an empty profile more
pub rows_pushed : {V : Type 0} (profiles : List (ShownProfile V)) (profile : ShownProfile V) → ((place : ℕ) → rows_of_profile profiles place ≡ []) → profile.rows ≡ []
    → (place : ℕ) → rows_of_profile (profiles ++ profile ∷ []) place ≡ []
rows_pushed [] profile empty none zero = none
rows_pushed [] profile empty none (suc place) = refl
rows_pushed (first ∷ profiles) profile empty none zero = empty 0
rows_pushed (first ∷ profiles) profile empty none (suc place) = rows_pushed profiles profile (λ p. empty (suc p)) none place

pub spare_pushed : {V : Type 0} (profiles : List (ShownProfile V)) (profile : ShownProfile V) (room : List ℕ) (i rows : ℕ) → length profiles ≡ i
    → rows ≡ get_or room i 0 → rows ≤ profile.spare → ((place : ℕ) → place < i → get_or room place 0 ≤ spare_at profiles place) → (place : ℕ)
    → place < i + 1 → get_or room place 0 ≤ spare_at (profiles ++ profile ∷ []) place
spare_pushed {V} profiles profile room i rows long read enough before place inside = grind (arith, common_steps, nat_tests)

pub no_exits : {V : Type 0} (n run : ℕ) → exit_at {V = V} (replicate n None) run ≡ None
no_exits zero run = refl
no_exits (suc n) zero = refl
no_exits (suc n) (suc run) = no_exits n run

-- those that depart by a moment are counted alike with and without that
soon_counted : (n : NetworkModel) (last place : ℕ) (rest : List ConnectionId) → All (λ id. dep_of n id.0 ≤ last) rest
    → count_by (λ id. is_boardable_by n last place (connection n id.0)) rest ≡ boardable n place rest
soon_counted n last place [] soon = refl
soon_counted n last place (id ∷ rest) soon =
    let here : is_boardable_by n last place (connection n id.0) ≡ has_way n place (from_of n id.0) = grind (arith, nat_tests, soon 0 id (omega arith)) in
    sum_by-cons (λ (id : ConnectionId). cond (is_boardable_by n last place (connection n id.0)) 1 0) id rest
    ∙ omega (arith, ap (λ b. cond {A = ℕ} b 1 0) here, soon_counted n last place rest (All-tail (λ (id : ConnectionId). dep_of n id.0 ≤ last) id rest soon))
    ∙ sym (sum_by-cons (λ (id : ConnectionId). cond (has_way n place (from_of n id.0)) 1 0) id rest)

-- there are no more than all that depart by the moment
soon_few : (n : NetworkModel) (last place : ℕ) (order rest : List ConnectionId) → IsScanOrder n order → IsPrefixUpTo n last order rest
    → boardable n place rest ≤ count_by (λ c. is_boardable_by n last place c) n.connections
soon_few n last place order rest whole up_to =
    let q : ConnectionId → Bool = λ id. is_boardable_by n last place (connection n id.0) in
    let parts : count_by q order ≡ count_by q rest + count_by q up_to.skipped =
    ap (λ (ids : List ConnectionId). count_by q ids) up_to.split ∙ sum_by-append (λ (id : ConnectionId). cond {A = ℕ} (q id) 1 0) rest up_to.skipped in
    omega (arith, parts, count_in_order (λ c. is_boardable_by n last place c) n order whole, soon_counted n last place rest up_to.soon)

-- what was reserved fits the network
pub fits_by : {V : Type 0} (network : NetworkModel) → IsValid network → (last : ℕ)
    → (runs : ℕ) (below : (i : ℕ) → i < count network → run_of network i < runs) (room : List ℕ) (profiles : List (ShownProfile V))
    (exits : List (Option (Exit V))) → length room ≡ length network.change
    → ((place : ℕ) → place < length network.change → get_or room place 0 ≡ count_by (λ c. is_boardable_by network last place c) network.connections)
    → length profiles ≡ length room → ((place : ℕ) → rows_of_profile profiles place ≡ [])
    → ((place : ℕ) → place < length room → get_or room place 0 ≤ spare_at profiles place) → exits ≡ replicate runs None
    → FitsTablesBy network last (record { profiles = profiles; exits = exits })
fits_by {V} network valid last runs below room profiles exits long counts as_many empty enough none = record {
  valid = valid;
  empty = record { no_rows = empty; no_exits = λ run. rw none (no_exits runs run) };
  room = λ order rest whole up_to. record {
    places = as_many ∙ long;
    runs = λ i inside. let n : length exits ≡ runs = rw none (length-replicate runs None) in omega (arith, below i inside);
    room = λ place inside. omega (arith, soon_few network last place order rest whole up_to, counts place (omega arith), enough place (omega arith));
  };
}

pub skipped_room : {V : Type 0} (network : NetworkModel) (last : ℕ) (order rest : List ConnectionId) (profiles : List (ShownProfile V))
    (exits : List (Option (Exit V))) → IsPrefixUpTo network last order rest → HasRoom network order profiles exits → HasRoom network rest profiles exits
skipped_room network last order rest profiles exits up_to room = grind (arith, common_steps, nat_tests)

-- with room for all that depart by the last moment, the tables fit the network
pub fits_all : {V : Type 0} (network : NetworkModel) (last : ℕ) (tables : ShownTables V) → end_of_arrivals ≤ last → FitsTablesBy network last tables → FitsTables network tables
fits_all network last tables late fit = record {
  valid = fit.valid;
  empty = fit.empty;
  room = λ order whole. fit.room order order whole (record {
    skipped = [];
    split = sym (append-nil order);
    late = All-nil (λ (id : ConnectionId). last < dep_of network id.0);
    soon = λ k d within.
        grind (arith, has_each_id);
  });
}

-- and then they have room for all that depart by any moment
pub fits_any : {V : Type 0} (network : NetworkModel) (last : ℕ) (tables : ShownTables V) → FitsTables network tables → FitsTablesBy network last tables
fits_any network last tables fit = record {
  valid = fit.valid;
  empty = fit.empty;
  room = λ order rest whole up_to. skipped_room network last order rest tables.profiles tables.exits up_to (fit.room order whole);
}

-- tables with as much room, and with nothing in them, fit the network again
pub fits_again : {V : Type 0} (network : NetworkModel) (old new : ShownTables V) (used : List (ShownProfile V)) → FitsTables network old → IsEmpty new.profiles new.exits
    → ((place : ℕ) → spare_at new.profiles place ≡ capacity_at used place) → ((place : ℕ) → capacity_at used place ≡ capacity_at old.profiles place)
    → length new.profiles ≡ length network.change → length new.exits ≡ length old.exits → FitsTables network new
fits_again network old new used fit empty spare same places runs = record {
  valid = fit.valid;
  empty = empty;
  room = λ order whole.
      let room = fit.room order whole in
      grind arith;
}
