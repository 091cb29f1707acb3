-- Where the runs of a network start.
use Rattle.merged_runs.proofs.Common.{◌≡◌, ℕ, ◌+◌, ◌<◌, ◌≤◌, ⊎_elim, List, [], ◌∷◌, ◌++◌, length, get_or, arith, common_steps, cases_lt, NetworkModel, IsValid, count, run_of, IsStart, AreStarts}
use Rattle.std.proofs.Math.Logic.{∥∥₁_elim}
use Rattle.std.specs.Coded.{le_prop}
use Rattle.plan_model.proofs.Runs.{run_mono}

-- where the runs of the first i connections start
pub record AreStartsBelow (n : NetworkModel) (i : ℕ) (starts : List ℕ) : Type 0 where
  pub each : (r : ℕ) → r < length starts → IsStart n r (get_or starts r 0)
  pub few : length starts ≤ i
  pub passed : (j : ℕ) → j < i → run_of n j < length starts
  pub coming : (j : ℕ) → i ≤ j → j < count n → length starts ≤ run_of n j + 1

pub AreStartsBelow-start : (n : NetworkModel) → IsValid n → (i : ℕ) (starts : List ℕ) → i < count n → run_of n i ≡ length starts
    → AreStartsBelow n i starts → AreStartsBelow n (i + 1) (starts ++ i ∷ [])
AreStartsBelow-start n v i starts h new b = grind (arith, common_steps)

within : (n : NetworkModel) → IsValid n → (i : ℕ) (starts : List ℕ) → i < count n → (run_of n i ≡ length starts → ⊥) → AreStartsBelow n i starts → run_of n i < length starts
within n v i starts h other b =
    ⊎_elim (λ less. less)
    (λ ge. ∥∥₁_elim (v.runs i (length starts) h (omega (arith, other))) le_prop (λ missing.
    ⊎_elim (λ before. absurd (omega (arith, b.passed missing.0 before, missing.2)))
    (λ after. absurd (omega (arith, run_mono n v i missing.0 after missing.1, missing.2, other)))
    (cases_lt missing.0 i)))
    (cases_lt (run_of n i) (length starts))

pub AreStartsBelow-within : (n : NetworkModel) → IsValid n → (i : ℕ) (starts : List ℕ) → i < count n → (run_of n i ≡ length starts → ⊥) → AreStartsBelow n i starts → AreStartsBelow n (i + 1) starts
AreStartsBelow-within n v i starts h other b = grind (arith, within, cases_lt)

pub AreStarts-from_below : (n : NetworkModel) → IsValid n → (starts : List ℕ) → AreStartsBelow n (count n) starts → AreStarts n (starts ++ count n ∷ [])
AreStarts-from_below n v starts b = grind (arith, common_steps)
