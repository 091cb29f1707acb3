-- A network that differs from another in one thing offers no less.
use Rattle.service_laws.proofs.Common.{◌≡◌, ℕ, ◌+◌, ◌<◌, ◌≤◌, arith, Some, List, [], ◌∷◌, length, refl, ap, ◌∙◌, subst, Contains, All-contains, Contains-cons_cases, Contains-head, inl, inr, true}
use Rattle.service_laws.proofs.Common.{eqb_tells, ◌==◌, AllPairs, AllPairs-head, AllPairs-tail, Contains-nil, Contains-tail, All-from_contains, cases_lt, get_or_default, Outcome, Connection, Way}
use Rattle.service_laws.proofs.Common.{NetworkModel, IsValid, no_connection, count, connection, change_of, row_of, links_into, from_of, arr_of, outcomes, own_way, way_in, way_of, own, renamed}
use Rattle.service_laws.proofs.Common.{with_connections, with_changes, with_classes, with_links, AreAmong, AreShorter, AreLessLate, AreNoFewer, Embeds, EmbedsBy, EmbedsAlike, EmbedsNoLater}
use Rattle.service_laws.proofs.Common.{AreBeside, IsFound}
use Rattle.plan_model.specs.Network.{AreLinks}

-- by the same rows, each arrival is that of an outcome
same_row : (row : List Outcome) (a : ℕ) → AreBeside (λ x y. x ≡ y) row a row a
same_row [] a = tt
same_row (o ∷ row) a = (refl, refl, same_row row a)

beside_each : (R : ℕ → ℕ → Type 0) → ((a b : ℕ) → R a b → a ≤ b) → (row others : List Outcome) (a b : ℕ) → AreBeside R row a others b
    → (o : Outcome) → Contains row o → (other : Outcome) × Contains others other × (a + o.delay ≤ b + other.delay)
beside_each R no_later [] others a b beside o has = absurd (Contains-nil o has)
beside_each R no_later (first ∷ row) [] a b beside o has = absurd beside
beside_each R no_later (first ∷ row) (next ∷ others) a b beside o has = elim (Contains-cons_cases first row o has) [
  | inl is ↦
      let same : first.delay ≡ o.delay = ap (λ (z : Outcome). z.delay) is in
      (next, Contains-head next others, omega (arith, same, no_later (a + first.delay) (b + next.delay) beside.1))
  | inr more ↦ grind (arith, Contains-tail, beside_each R no_later row others a b beside.2 o more)
]

-- what embeds by weight embeds
pub embeds_by : (R : ℕ → ℕ → Type 0) → ((a b : ℕ) → R a b → a ≤ b) → (small large : NetworkModel) (image place : ℕ → ℕ) → EmbedsBy R small large image place → Embeds small large image place
embeds_by R no_later small large image place e = record {
  found = e.found;
  arrives = λ j there. All-from_contains (λ o. (other : Outcome) × Contains (outcomes small j) other × (arr_of large (image j) + o.delay ≤ arr_of small j + other.delay)) (outcomes large (image j))
      (beside_each R no_later (outcomes large (image j)) (outcomes small j) (arr_of large (image j)) (arr_of small j) (e.arrives j there));
}

pub no_later_embeds : (small large : NetworkModel) (image place : ℕ → ℕ) → EmbedsNoLater small large image place → Embeds small large image place
no_later_embeds = embeds_by (λ a b. a ≤ b) (λ a b less. less)

beside_less : (row others : List Outcome) (a b : ℕ) → AreBeside (λ x y. x ≡ y) row a others b → AreBeside (λ x y. x ≤ y) row a others b
beside_less [] [] a b beside = tt
beside_less (o ∷ row) (other ∷ others) a b beside = (beside.0, omega (arith, beside.1), beside_less row others a b beside.2)
beside_less _ _ a b beside = absurd beside

pub alike_no_later : (small large : NetworkModel) (image place : ℕ → ℕ) → EmbedsAlike small large image place → EmbedsNoLater small large image place
alike_no_later small large image place e = grind (arith, beside_less)

-- more connections, and other numbers of runs
module _ (n : NetworkModel) (number : ℕ → ℕ) (connections : List Connection) (among : AreAmong n number connections) where
  abbrev wider : NetworkModel
  wider = with_connections n connections

  -- where the connection is
  pick : (i : ℕ) → (k : ℕ) × (i < count n → (k < count wider) × (connection wider k ≡ renamed number (connection n i)))
  unfolding connection
  pick i = elim (cases_lt i (count n)) [
    | inl there ↦
        let has = among i no_connection there in
        grind (arith, get_or_default)
    | inr past ↦ (0, λ h. absurd (omega (arith, h, past)))
  ]

  abbrev image : ℕ → ℕ
  image i = (pick i).0

  same : (i : ℕ) → i < count n → connection wider (image i) ≡ renamed number (connection n i)
  same i there = ((pick i).1 there).1

  -- whatever is read of it that is not its run
  read : {A : Type 0} (f : Connection → A) (i : ℕ) → i < count n → f (connection wider (image i)) ≡ f (renamed number (connection n i))
  read f i there = ap f (same i there)

  same_way : (p i : ℕ) → i < count n → way_of wider p (from_of wider (image i)) ≡ way_of n p (from_of n i)
  unfolding change_of
  same_way p i there = ap (λ (q : ℕ). way_of n p q) (read (λ c. c.from.0) i there)

  same_outcomes : (j : ℕ) → j < count n → outcomes wider (image j) ≡ outcomes n j
  unfolding row_of
  same_outcomes j there = ap (row_of n) (read (λ c. c.class.0) j there)

  wider_found : IsFound n wider image own
  wider_found = grind (arith, pick, read, same_way)

  wider_alike : EmbedsAlike n wider image own
  wider_alike = grind (arith, wider_found, read, same_outcomes, same_row)

  pub connections_alike : (f : ℕ → ℕ) × EmbedsAlike n wider f own
  connections_alike = (image, wider_alike)

-- a first way that is no longer, and others that are not
ways_no_longer : (w v : Way) (links others : List Way) (p s : ℕ) → v.from.0 ≡ w.from.0 → v.seconds ≤ w.seconds
    → ((u : ℕ) → way_in links p ≡ Some u → (t : ℕ) × (way_in others p ≡ Some t) × (t ≤ u))
    → way_in (w ∷ links) p ≡ Some s → (t : ℕ) × (way_in (v ∷ others) p ≡ Some t) × (t ≤ s)
ways_no_longer w v links others p s same less rest way = elim (eqb_tells w.from.0 p) [
  | inl here ↦
      let here' : (v.from.0 == p) ≡ true = rw same here.0 in
      let is : Some w.seconds ≡ Some s = rw here.0 at way in
      let exact : w.seconds ≡ s = cc in
      (v.seconds, rw here' refl, omega (arith, exact, less))
  | inr else ↦ grind arith
]

same_rest : (links : List Way) (p u : ℕ) → way_in links p ≡ Some u → (t : ℕ) × (way_in links p ≡ Some t) × (t ≤ u)
same_rest links p u way = (u, way, omega arith)

-- the network with the same connections and other change times, or other classes, or other links
module _ (n : NetworkModel) (valid : IsValid n) where
  -- other change times
  module _ (change : List ℕ) (shorter : AreShorter n change) where
    changes_found : IsFound n (with_changes n change) own own
    unfolding connection
    changes_found = record {
      there = λ i there. there;
      runs = λ i j a b same. same;
      steps = λ i j a b same less. less;
      from = λ i there. refl;
      to = λ i there. refl;
      departs = λ i there. omega arith;
      board = λ i there can. can;
      exit = λ i there can. can;
      places = λ p q same. same;
      ways = λ p i seconds there way.
          ways_no_longer (own_way n (from_of n i)) (own_way (with_changes n change) (from_of n i)) (links_into n (from_of n i)) (links_into n (from_of n i)) p seconds
          refl (shorter (from_of n i) (valid.connections i there).from_in) (same_rest (links_into n (from_of n i)) p) way;
    }

    pub changes_alike : EmbedsAlike n (with_changes n change) own own
    unfolding connection row_of
    changes_alike = record { found = changes_found; arrives = λ j there. same_row (outcomes n j) (arr_of n j) }

  -- other links
  module _ (links : List (List Way)) (are : AreLinks (length n.change) links) (more : AreNoFewer n links) where
    -- the link that is found
    first_link : (ways : List Way) (p s : ℕ) → way_in ways p ≡ Some s → (way : Way) × Contains ways way × (way.from.0 ≡ p) × (way.seconds ≡ s)
    first_link [] p s way = absurd (cc)
    first_link (w ∷ ways) p s way = grind (arith, eqb_tells, Contains-head, Contains-tail, first_link ways p s)

    -- of links that rise the only one from a place is found
    only_link : (ways : List Way) (way : Way) → AllPairs (λ a b. a.from.0 < b.from.0) ways → Contains ways way → way_in ways way.from.0 ≡ Some way.seconds
    only_link [] way rising has = absurd (Contains-nil way has)
    only_link (w ∷ ways) way rising has = elim (Contains-cons_cases w ways way has) [
      | inl is ↦ grind (arith, eqb_tells)
      | inr there ↦ elim (eqb_tells w.from.0 way.from.0) [
        | inl here ↦ let less = AllPairs-head (λ a b. a.from.0 < b.from.0) w ways rising way there in absurd (omega (arith, here.1, less))
        | inr else ↦ rw else.0 (only_link ways way (AllPairs-tail (λ a b. a.from.0 < b.from.0) w ways rising) there)
      ]
    ]

    other_link : (q p u : ℕ) → q < length n.change → way_in (links_into n q) p ≡ Some u → (t : ℕ) × (way_in (links_into (with_links n links) q) p ≡ Some t) × (t ≤ u)
    other_link q p u there way =
        let (link, has, from, seconds) = first_link (links_into n q) p u way in
        let (other, found, same, less) = All-contains (λ w. (v : Way) × Contains (links_into (with_links n links) q) v × (v.from.0 ≡ w.from.0) × (v.seconds ≤ w.seconds))
        (links_into n q) link (more q there) has in
        let is = only_link (links_into (with_links n links) q) other (are.each q there).rising found in
        (other.seconds, subst (λ (k : ℕ). way_in (links_into (with_links n links) q) k ≡ Some other.seconds) (same ∙ from) is, omega (arith, less, seconds))

    links_found : IsFound n (with_links n links) own own
    unfolding connection change_of
    links_found = record {
      there = λ i there. there;
      runs = λ i j a b same. same;
      steps = λ i j a b same less. less;
      from = λ i there. refl;
      to = λ i there. refl;
      departs = λ i there. omega arith;
      board = λ i there can. can;
      exit = λ i there can. can;
      places = λ p q same. same;
      ways = λ p i seconds there way.
          ways_no_longer (own_way n (from_of n i)) (own_way n (from_of n i)) (links_into n (from_of n i)) (links_into (with_links n links) (from_of n i)) p seconds
          refl (omega arith) (λ u. other_link (from_of n i) p u (valid.connections i there).from_in) way;
    }

    pub links_alike : EmbedsAlike n (with_links n links) own own
    unfolding connection row_of
    links_alike = record { found = links_found; arrives = λ j there. same_row (outcomes n j) (arr_of n j) }

-- with other classes
module _ (n : NetworkModel) (classes : List (List Outcome)) (valid : IsValid n) (fewer : AreLessLate n classes) where
  classes_found : IsFound n (with_classes n classes) own own
  unfolding connection change_of
  classes_found = grind (arith, same)

  pub classes_embed : Embeds n (with_classes n classes) own own
  unfolding connection
  classes_embed = record {
    found = classes_found;
    arrives = λ j there k d within.
        let (other, has, less) = fewer (connection n j).class.0 (valid.connections j there).class_in k d within in
        (other, has, omega (arith, less));
  }
