-- The fault of a kept row beside the kept row before it in its trip, by the keys.
use Rattle.stop_times.proofs.Common.{arith, ◌≡◌, ℕ, ◌+◌, ◌<◌, nat_lt, Bool, true, false, ◌&&◌, ◌||◌, List, length, Option, Some, None, option_map, if◌then◌else◌, refl, ap, ◌∙◌, common_steps}
use Rattle.stop_times.proofs.Common.{cases_Bool, StopTimes, FeedFault, DuplicateKey, BackwardTime, Key, first_below, any_below, key_at, AreSorted, IsBefore, has_twin, twin_at, first-is}
use Rattle.stop_times.proofs.Common.{first-reported, AreApart, no_twins, asked_before, TimedRow, trip_of, sequence_of, is_kept, stop_arrival, departure_of, just_before, goes_back, repeated_time}
use Rattle.stop_times.proofs.Common.{backward_time, AreKeysOf, is_taken, goes_back_after, backward_after}

pub apart : (rows : List TimedRow) → first_below (repeated_time rows) (length rows) ≡ None → AreApart (trip_of rows) (sequence_of rows) (length rows)
unfolding repeated_time
apart rows none = no_twins (λ i. DuplicateKey StopTimes (i + 2)) (trip_of rows) (sequence_of rows) (length rows) none

-- the fault of the first row with a twin
pub repeats_first : (rows : List TimedRow) (keys : List Key) (found : Option ℕ) → AreKeysOf false rows keys
    → ((group order : ℕ → ℕ) (count : ℕ) → AreSorted (λ i. true) group order count keys → first_below (twin_at group order) count ≡ found)
    → first_below (repeated_time rows) (length rows) ≡ option_map (λ row. DuplicateKey StopTimes (row + 2)) found
unfolding repeated_time twin_at
repeats_first rows keys found s h =
    first-reported (λ i. DuplicateKey StopTimes (i + 2)) (has_twin (trip_of rows) (sequence_of rows)) (length rows)
    ∙ ap (option_map (λ row. DuplicateKey StopTimes (row + 2))) (h (trip_of rows) (sequence_of rows) (length rows) s)

late : List TimedRow → ℕ → ℕ → Bool
late rows i j = nat_lt (stop_arrival rows i) (departure_of rows j)

reported : Bool → ℕ → Option FeedFault
reported b i = if b then Some (BackwardTime (i + 2)) else None

kept_back : Bool → Bool → Bool → Bool
kept_back kept own other = kept && (own || other)

back_by : (rows : List TimedRow) (i : ℕ) (o : Option Key) → is_kept rows i ≡ true → (q : Bool)
    → any_below (λ j. just_before rows j i && late rows i j) (length rows) ≡ q → (nat_lt (departure_of rows i) (stop_arrival rows i) || q) ≡ goes_back_after rows o i
    → backward_time rows i ≡ backward_after rows o i
unfolding backward_time late reported kept_back
back_by rows i o kept q e h = grind (arith, common_steps, reported, kept_back)

module _ (rows : List TimedRow) (keys : List Key) (s : AreKeysOf true rows keys) (none : first_below (repeated_time rows) (length rows) ≡ None) where
  pub back_is : (k : ℕ) → k < length keys → (o : Option Key) → IsBefore keys k o → backward_time rows (key_at keys k).row ≡ backward_after rows o (key_at keys k).row
  unfolding late
  back_is k h None b =
      back_by rows (key_at keys k).row None (s.taken k h) false
      (asked_before (is_kept rows) (trip_of rows) (sequence_of rows) (length rows) keys s (apart rows none) k h None b (late rows (key_at keys k).row)) refl
  back_is k h (Some before) b =
      back_by rows (key_at keys k).row (Some before) (s.taken k h) (late rows (key_at keys k).row before.row)
      (asked_before (is_kept rows) (trip_of rows) (sequence_of rows) (length rows) keys s (apart rows none) k h (Some before) b (late rows (key_at keys k).row)) refl

-- a row that is not kept goes back nowhere
pub quiet : (rows : List TimedRow) (i : ℕ) → is_taken true rows i ≡ false → backward_time rows i ≡ None
unfolding backward_time reported kept_back
quiet rows i out = grind (arith, reported, kept_back)

reported_is : (b : Bool) (i : ℕ) (f : FeedFault) → reported b i ≡ Some f → f ≡ BackwardTime (i + 2)
unfolding reported
reported_is b i f h = grind (arith, cases_Bool b)

-- the first fault is a time that goes back
pub backward_is : (rows : List TimedRow) (f : FeedFault) → first_below (backward_time rows) (length rows) ≡ Some f → (line : ℕ) × (f ≡ BackwardTime line)
unfolding backward_time reported
backward_is rows f h = let w = first-is (backward_time rows) (length rows) f h in (w.index + 2, reported_is (goes_back rows w.index) w.index f w.here)
