-- The tables of a feed are no larger than they may be.
use Rattle.gtfs_tables.proofs.Common.{subst, feed_parts_of, AreRepeating, IsSmall, IsTimed, ◌≡◌, ℕ, zero, suc, ◌+◌, ◌≤◌, ◌==◌, List, [], ◌∷◌, length, sum_by, if◌then◌else◌, ap, arith}
use Rattle.gtfs_tables.proofs.{Common.{list_below-zero, list_below-next, length-list_below, FrequencyRow, repeats_in, all_repeats_in, IsWholeFeed}, FeedFacts.is_timed, RepeatFacts.is_repeating}
use Rattle.gtfs_tables.specs.declared.feed.Feed.TheInside.{Inside}
use Rattle.std.proofs.lemmas.List.Sums.{sum_by_push}
use Rattle.gtfs_tables.proofs.feed.Feed.trip_count.Goals as goal

abbrev total : List ℕ → List FrequencyRow → ℕ → ℕ
total trips rows n = sum_by length (all_repeats_in trips rows n)

total-zero : (trips : List ℕ) (rows : List FrequencyRow) → total trips rows 0 ≡ 0
total-zero trips rows = ap (λ (xs : List (List FrequencyRow)). sum_by length xs) (list_below-zero (repeats_in trips rows))

total-suc : (trips : List ℕ) (rows : List FrequencyRow) (n : ℕ) → total trips rows (suc n) ≡ total trips rows n + length (repeats_in trips rows n)
total-suc trips rows n =
    let f = repeats_in trips rows in
    let e : suc n ≡ n + 1 = omega arith in
    grind (arith, list_below-next, sum_by_push)

-- where no row is
total-none : (rows : List FrequencyRow) (n : ℕ) → total [] rows n ≡ 0
total-none rows zero = total-zero [] rows
total-none rows (suc n) = omega (arith, total-suc [] rows n, total-none rows n)

total-nothing : (t : ℕ) (trips : List ℕ) (n : ℕ) → total (t ∷ trips) [] n ≡ 0
total-nothing t trips zero = total-zero (t ∷ trips) []
total-nothing t trips (suc n) = omega (arith, total-suc (t ∷ trips) [] n, total-nothing t trips n)

-- one row more is of one trip at most, which is or is not among the first n
abbrev once : ℕ → ℕ → ℕ
once t n = if t == n then 1 else 0

total-more : (t : ℕ) (trips : List ℕ) (row : FrequencyRow) (rows : List FrequencyRow) (n : ℕ)
    → (total (t ∷ trips) (row ∷ rows) n ≤ total trips rows n + 1) × (n ≤ t → total (t ∷ trips) (row ∷ rows) n ≤ total trips rows n)
total-more t trips row rows zero = (omega (arith, total-zero (t ∷ trips) (row ∷ rows)), λ h. omega (arith, total-zero (t ∷ trips) (row ∷ rows)))
total-more t trips row rows (suc n) =
    let more = total-suc (t ∷ trips) (row ∷ rows) n in
    grind (arith, total-suc, total-more t trips row rows n)

pub total_few : (trips : List ℕ) (rows : List FrequencyRow) (n : ℕ) → total trips rows n ≤ length rows
total_few [] rows n = omega (arith, total-none rows n)
total_few (t ∷ trips) [] n = omega (arith, total-nothing t trips n)
total_few (t ∷ trips) (row ∷ rows) n = omega (arith, (total-more t trips row rows n).0, total_few trips rows n)

pub is_small : (f : Inside) → IsWholeFeed f → IsSmall (feed_parts_of f)
is_small f w = grind (arith, length-list_below, total_few)

pub returns-clause-timed : goal.returns-clause-timed
returns-clause-timed c = subst IsTimed c.self.view_is (is_timed (feed_parts_of c.self.inside) c.self.invariant.sound)

pub returns-clause-repeats : goal.returns-clause-repeats
returns-clause-repeats c = subst AreRepeating c.self.view_is (is_repeating (feed_parts_of c.self.inside) c.self.invariant.sound)

pub returns-clause-small : goal.returns-clause-small
returns-clause-small c = subst IsSmall c.self.view_is (is_small c.self.inside c.self.invariant)
