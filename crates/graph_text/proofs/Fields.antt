-- The fields of printed rows.
use Rattle.graph_text.proofs.Common.{arith, ◌≡◌, ℕ, List, [], ◌∷◌, take, decimal, moment_text, Leg, Connection, NetworkModel, NameLists, connection, Version, width_of, ninth, leg_fields}
use Rattle.graph_text.proofs.Common.{place_name, run_name}

-- the fields that a version has of nine
pub take_nine : (version : Version) (a b c d e f g h last a' b' c' d' e' f' g' h' last' : List ℕ) → a ≡ a' → b ≡ b' → c ≡ c' → d ≡ d' → e ≡ e' → f ≡ f' → g ≡ g' → h ≡ h' → last ≡ last'
    → ◌≡◌ {A = List (List ℕ)} (take (width_of version) (a ∷ b ∷ c ∷ d ∷ e ∷ f ∷ g ∷ h ∷ last ∷ [])) (a' ∷ b' ∷ c' ∷ d' ∷ e' ∷ f' ∷ g' ∷ h' ∷ ninth version last')
take_nine version a b c d e f g h last a' b' c' d' e' f' g' h' last' = grind arith

-- the fields of a leg's row, from its connections
pub leg_row_fields : (n : NetworkModel) (names : NameLists) (version : Version) (leg : Leg) (enter exit : Connection) (kind second run entry_step dep exit_step place arr from : List ℕ)
    → enter ≡ connection n leg.enter.0 → exit ≡ connection n leg.exit.0
    → run ≡ run_name names enter.run.0 → entry_step ≡ decimal enter.step → dep ≡ moment_text enter.dep.0 → exit_step ≡ decimal exit.step
    → place ≡ place_name names exit.to.0 → arr ≡ moment_text exit.arr.0
    → from ≡ place_name names enter.from.0
    → ◌≡◌ {A = List (List ℕ)} (take (width_of version) (kind ∷ second ∷ run ∷ entry_step ∷ dep ∷ exit_step ∷ place ∷ arr ∷ from ∷ [])) (kind ∷ second ∷ leg_fields n names version leg)
leg_row_fields n names version leg enter exit kind second run entry_step dep exit_step place arr from at_enter at_exit a b c d e f g = grind (arith, take_nine, decimal)
