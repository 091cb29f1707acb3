-- One place more, and a link from it.
use Rattle.plan_model.proofs.Common.{◌≡◌, ◌≢◌, ℕ, ◌+◌, ◌≤◌, List, [], ◌∷◌, ◌++◌, arith, All-append, All-cons, All-nil, Way, seconds_per_day, AreLinksInto, common_steps}
use Rattle.std.proofs.lemmas.List.Quantifiers.{all_pairs_push}

-- of the next place no link comes yet
pub AreLinksInto-wider : (places r : ℕ) (links : List Way) → AreLinksInto places r links → AreLinksInto (places + 1) r links
AreLinksInto-wider places r links are = record { rising = are.rising; inside = λ k d within. omega (arith, are.inside k d within); others = are.others; takes = are.takes }

abbrev IsShort : Way → Type 0
IsShort way = (1 ≤ way.seconds) × (way.seconds ≤ seconds_per_day)

-- a link from the next place
pub AreLinksInto-push : (places r : ℕ) (links : List Way) (way : Way) → AreLinksInto places r links → way.from.0 ≡ places → way.from.0 ≢ r → 1 ≤ way.seconds → way.seconds ≤ seconds_per_day
    → AreLinksInto (places + 1) r (links ++ way ∷ [])
AreLinksInto-push places r links way are is away some few = grind (arith, common_steps, all_pairs_push, All-append, All-cons, All-nil)
