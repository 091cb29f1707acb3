-- How many links lead into a place: not more than there are other places.
use Rattle.plan_model.proofs.Common.{ℕ, zero, suc, ◌+◌, ◌<◌, ◌≤◌, List, [], ◌∷◌, length, get_or, arith, inl, inr, cases_lt, Way, NetworkModel, AreLinksInto, AreLinks, IsValid, links_into}
use Rattle.plan_model.proofs.Common.{change_of, row_of, connection}

module _ (places r : ℕ) (links : List Way) (are : AreLinksInto places r links) (d : Way) where
  -- the k-th link comes from place k or a later one
  from_later : (k : ℕ) → k < length links → k ≤ (get_or links k d).from.0
  from_later zero within = omega arith
  from_later (suc k) within = omega (arith, from_later k (omega arith), are.rising k (suc k) d (omega arith) within)

  -- and past the place itself from one after k
  from_past : (k : ℕ) → k < length links → r < (get_or links k d).from.0 → k < (get_or links k d).from.0
  from_past zero within past = omega arith
  from_past (suc k) within past = elim (cases_lt r (get_or links k d).from.0) [
    | inl before ↦ omega (arith, from_past k (omega arith) before, are.rising k (suc k) d (omega arith) within)
    | inr after ↦ omega (arith, from_later k (omega arith), are.others k d (omega arith), are.rising k (suc k) d (omega arith) within)
  ]

few_links : (places r : ℕ) (links : List Way) → r < places → AreLinksInto places r links → length links + 1 ≤ places
few_links places r [] inside are = omega arith
few_links places r (way ∷ links) inside are =
    let last = length links in
    let end = get_or (way ∷ links) last way in
    elim (cases_lt r end.from.0) [
      | inl past ↦ omega (arith, from_past places r (way ∷ links) are way last (omega arith) past, are.inside last way (omega arith))
      | inr before ↦ omega (arith, from_later places r (way ∷ links) are way last (omega arith), are.others last way (omega arith))
    ]

-- fewer links lead into a place than there are places
pub links_into_few : (n : NetworkModel) → IsValid n → (r : ℕ) → r < length n.change → length (links_into n r) + 1 ≤ length n.change
links_into_few n v r inside = few_links (length n.change) r (links_into n r) inside (v.links.each r inside)

pub AreLinksInto-none : (places r : ℕ) → AreLinksInto places r []
AreLinksInto-none places r = omega arith

-- the network with other links
abbrev pub relinked : NetworkModel → List (List Way) → NetworkModel
relinked n links = record { connections = n.connections; change = n.change; classes = n.classes; links = links }

pub IsValid-relinked : (n : NetworkModel) (links : List (List Way)) → IsValid n → AreLinks (length n.change) links → IsValid (relinked n links)
unfolding change_of row_of connection
IsValid-relinked n links v are = grind arith

-- of no lists no link comes
pub AreLinks-none : (places : ℕ) → AreLinks places []
AreLinks-none places = record { few = omega arith; each = λ r inside. AreLinksInto-none places r }
