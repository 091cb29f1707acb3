-- The value of leaving by a connection.
use Rattle.std.proofs.{lemmas.Grind.common_steps, Math.Seq.drop-cons}
use Rattle.lower_proof.proofs.Common.{◌≡◌, ℕ, zero, suc, ◌+◌, ◌*◌, ◌/◌, ◌<◌, ◌≤◌, List, [], ◌∷◌, ◌++◌, length, take, drop, get_or, Option, Some, None, IsTrue, arith, sym, ◌∙◌, ap, subst, refl}
use Rattle.lower_proof.proofs.Common.{sum_by, mul-le-mul_left, mul-add, mul_comm, cases_eq, take_more, sum_by-cons, Outcome, Query, NetworkModel, IsValid, count, connection, to_of, arr_of}
use Rattle.lower_proof.proofs.{Common.{outcomes, boards_later, weighted, IsLeastOf, IsLeastValue, IsLeastAt, AreLeast, IsVia, NoneAfter}, Leasts.IsLeastOf-unique}

-- there is only one least value
pub IsLeast-unique : (n : NetworkModel) (q : Query) (values : List (Option ℕ)) (Boards : ℕ → Type 0) (p x : ℕ) (r s : Option ℕ) → IsLeastValue n q values Boards p x r
    → IsLeastValue n q values Boards p x s → r ≡ s
IsLeast-unique n q values Boards p x r s h k = grind (arith, cases_eq, IsLeastOf-unique)

-- an outcome of a row
abbrev pub outcome_at : List Outcome → ℕ → Outcome
outcome_at items k = get_or items k (record { delay = 0; weight = 0 })

-- room for one outcome less
room_step : (w v s t most : ℕ) → v ≤ most → s + most * (w + t) ≤ 184467440737095516150000 → s + w * v + most * t ≤ 184467440737095516150000
room_step w v s t most small room = grind (arith, mul-le-mul_left, mul-add, mul_comm)

pub room_next : (items : List Outcome) (k sum v : ℕ) → k < length items → v ≤ 18446744073709551615
    → sum + 18446744073709551615 * sum_by (λ o. o.weight) (drop k items) ≤ 184467440737095516150000
    → sum + (outcome_at items k).weight * v + 18446744073709551615 * sum_by (λ o. o.weight) (drop (k + 1) items) ≤ 184467440737095516150000
room_next items k sum v within small room = grind (arith, common_steps, sum_by, drop-cons, sum_by-cons, room_step)

module _ (n : NetworkModel) (q : Query) (values : List (Option ℕ)) (p arrival : ℕ) where
  -- and only one after each outcome
  pub AreLeast-unique : (row : List Outcome) (vs ws : List ℕ) → AreLeast n q values p arrival row vs → AreLeast n q values p arrival row ws → vs ≡ ws
  AreLeast-unique [] [] [] h k = refl
  AreLeast-unique (o ∷ row) (v ∷ vs) (w ∷ ws) h k = grind (arith, IsLeast-unique, AreLeast-unique row vs ws h.1 k.1)
  AreLeast-unique _ _ _ h k = absurd (assumption (h, k))

  -- the sum by weight of the least values after the outcomes
  pub record Weighed (row : List Outcome) (sum : ℕ) : Type 0 where
    pub least : List ℕ
    pub are_least : AreLeast n q values p arrival row least
    pub total : weighted row least ≡ sum

  least_push : (row : List Outcome) (o : Outcome) (vs : List ℕ) (v : ℕ) → AreLeast n q values p arrival row vs
      → IsLeastAt n q values p (arrival + o.delay) (Some v) → AreLeast n q values p arrival (row ++ o ∷ []) (vs ++ v ∷ [])
  least_push [] o [] v all one = (one, tt)
  least_push (e ∷ row) o (w ∷ vs) v all one = (all.0, least_push row o vs v all.1 one)
  least_push _ o _ v all one = absurd all

  sum_push : (row : List Outcome) (o : Outcome) (vs : List ℕ) (v : ℕ) → AreLeast n q values p arrival row vs → weighted (row ++ o ∷ []) (vs ++ v ∷ []) ≡ weighted row vs + o.weight * v
  sum_push [] o [] v all = omega arith
  sum_push (e ∷ row) o (w ∷ vs) v all = omega (arith, sum_push row o vs v all.1)
  sum_push _ o _ v all = absurd all

  -- one outcome more
  pub weighed_next : (items : List Outcome) (k sum v : ℕ) → k < length items → IsLeastAt n q values p (arrival + (outcome_at items k).delay) (Some v)
      → Weighed (take k items) sum → Weighed (take (k + 1) items) (sum + (outcome_at items k).weight * v)
  weighed_next items k sum v within one weighed =
      let o = outcome_at items k in
      let more : take (k + 1) items ≡ take k items ++ o ∷ [] = take_more items k (record { delay = 0; weight = 0 }) within in
      subst (λ (row : List Outcome). Weighed row (sum + o.weight * v)) (sym more) (record {
        least = weighed.least ++ v ∷ [];
        are_least = least_push (take k items) o weighed.least v weighed.are_least one;
        total = sum_push (take k items) o weighed.least v weighed.are_least ∙ ap (λ s. s + o.weight * v) weighed.total;
      })

  -- an outcome after which there is no least value
  pub never_least : (row : List Outcome) (vs : List ℕ) (k : ℕ) → k < length row → IsLeastAt n q values p (arrival + (outcome_at row k).delay) None → AreLeast n q values p arrival row vs → ⊥
  never_least [] vs k within none all = absurd (omega arith)
  never_least (e ∷ row) [] k within none all = all
  never_least (e ∷ row) (v ∷ vs) zero within none all = grind (arith, IsLeast-unique)
  never_least (e ∷ row) (v ∷ vs) (suc k) within none all = never_least row vs k (omega arith) none all.1

module _ (n : NetworkModel) (q : Query) (values : List (Option ℕ)) (j : ℕ) where
  IsVia-unique : (v w : ℕ) → IsVia n q values j v → IsVia n q values j w → v ≡ w
  IsVia-unique v w h k = grind (arith, AreLeast-unique)

  -- where it is there, it is the least, since there is only one
  pub least_via : (v : ℕ) → IsVia n q values j v → IsLeastOf (IsVia n q values j) (Some v)
  least_via v via = (via, λ w other. omega (arith, IsVia-unique v w via other))

  pub never_via : (k : ℕ) → k < length (outcomes n j) → IsLeastAt n q values (to_of n j) (arr_of n j + (outcome_at (outcomes n j) k).delay) None → (v : ℕ) → IsVia n q values j v → ⊥
  never_via k within none v via = never_least n q values (to_of n j) (arr_of n j) (outcomes n j) via.least k within none via.are_least

  pub via_weighed : (sum : ℕ) → IsTrue (connection n j).can_exit → Weighed n q values (to_of n j) (arr_of n j) (outcomes n j) sum → IsLeastOf (IsVia n q values j) (Some (sum / 10000))
  via_weighed sum leave weighed = least_via (sum / 10000) (record { leave = leave; least = weighed.least; are_least = weighed.are_least; mean = ap (λ s. s / 10000) weighed.total })

-- what arrives after the last departure that counts has no value of leaving
module _ (n : NetworkModel) (good : IsValid n) (q : Query) (values : List (Option ℕ)) (last : ℕ) (deadline : q.deadline.0 ≤ last) (none_after : NoneAfter n values last) where
  -- nor is there a least value after such an arrival
  no_least : (p x v : ℕ) → last < x → IsLeastAt n q values p x (Some v) → ⊥
  no_least p x v late least = grind (arith, cases_eq, boards_later)

  pub no_via : (j v : ℕ) → j < count n → last < arr_of n j → IsVia n q values j v → ⊥
  no_via j v there late via = by_row (outcomes n j) via.least (good.rows (connection n j).class.0 (good.connections j there).class_in).some via.are_least
    where
      by_row : (row : List Outcome) (vs : List ℕ) → 0 < length row → AreLeast n q values (to_of n j) (arr_of n j) row vs → ⊥
      by_row [] vs some all = omega arith
      by_row (o ∷ row) [] some all = all
      by_row (o ∷ row) (v ∷ vs) some all = no_least (to_of n j) (arr_of n j + o.delay) v (omega arith) all.0
