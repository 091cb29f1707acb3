-- A search that has a least worst arrival has a safe strategy.
use Rattle.journey_answers.proofs.Common.{◌≡◌, Option, None, ◌≤◌, ℕ, MatchOption, subst, Moment, Query, NetworkModel, IsNoneSafe, Problem, IsWorst, IsQueryOf, InQuery, arith}
use Rattle.std.proofs.Math.Logic.{∥∥₁_elim}
use Rattle.plan_model.proofs.Laws.{safe_exists}

-- where the deadline is not before the least worst arrival, some strategy is safe
pub none_is_safe : (n : NetworkModel) (q : Query) (worst : Moment) → ∥ IsWorst n q worst ∥₁ → worst.0 ≤ q.deadline.0 → IsNoneSafe n q → ⊥
none_is_safe n q worst least late none =
    ∥∥₁_elim least (λ x. absurd x) (λ is.
    let safe = safe_exists n q.source.0 q.target.0 q.start.0 q.deadline.0 worst is late in
    none safe.0 safe.1)

pub match_none : {A : Type 0} (o : Option A) (N : Type 0) (P : A → Type 0) → o ≡ None → MatchOption o N P → N
match_none o N P is n = grind arith

-- what holds of the query of a journey and of its least worst arrival
pub in_query : {known p : Problem} {start alpha : ℕ} {query : Query} {worst : Moment} (P : Problem → Query → Moment → Type 0) → known ≡ p
    → IsQueryOf p start alpha query worst → P known query worst → InQuery p start alpha (P p)
in_query {query = query} {worst = worst} P same is holds = (query, worst, is, subst (λ (q : Problem). P q query worst) same holds)
