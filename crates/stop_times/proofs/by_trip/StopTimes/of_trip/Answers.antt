-- The rows of a trip between its bounds.
use Rattle.stop_times.proofs.Common.{length, ap, arith, rules, ◌≡◌, ℕ, ◌+◌, ◌-◌, ◌<◌, ◌≤◌, List, [], slice_index, slice_index_or, slice_range, common_steps, get_or_default}
use Rattle.stop_times.proofs.Common.{length-list_below, get-list_below, StopRow, IsBounded, rows_between, parted}
use Rattle.stop_times.proofs.by_trip.StopTimes.of_trip.Goals as goal

module _ (visits : List StopRow) (bounds : List ℕ) (now : List (List StopRow)) (is : parted visits bounds ≡ now) (trip : ℕ) (h : trip < length now) where
  -- a trip has a bound after its own
  pub next : trip + 1 < length bounds
  next = omega (arith, h, ap length is, length-list_below (rows_between visits bounds) (length bounds - 1))

  -- what is at the two bounds of a trip
  pub within : IsBounded visits bounds → (start end : ℕ) → start ≡ slice_index_or bounds trip start → end ≡ slice_index_or bounds (trip + 1) end
      → (start ≡ slice_index bounds trip) × (end ≡ slice_index bounds (trip + 1)) × (start ≤ end) × (end ≤ length visits)
  within b start end e f = search (rules, get_or_default, next)

  pub of_bounds : (start end : ℕ) → start ≡ slice_index bounds trip → end ≡ slice_index bounds (trip + 1) → slice_range visits start end ≡ slice_index_or now trip []
  of_bounds start end first last = grind (arith, common_steps, slice_range, get-list_below, next)

pub index-requires : goal.index-requires
index-requires c = omega (arith, next c.self.inside.visits.items c.self.inside.bounds.items c.args.self.now c.self.view_is c.args.trip c.requires)

pub index-requires-2 : goal.index-requires-2
index-requires-2 c = omega (arith, next c.self.inside.visits.items c.self.inside.bounds.items c.args.self.now c.self.view_is c.args.trip c.requires)

pub slice_bounds-result-count : goal.slice_bounds-result-count
slice_bounds-result-count c =
    let w = within c.self.inside.visits.items c.self.inside.bounds.items c.args.self.now c.self.view_is c.args.trip c.requires
    c.self.invariant c.index.result.now c.index-2.result.now c.index.ensures c.index-2.ensures in
    omega (arith, w)

pub slice_bounds-result-start : goal.slice_bounds-result-start
slice_bounds-result-start c =
    let w = within c.self.inside.visits.items c.self.inside.bounds.items c.args.self.now c.self.view_is c.args.trip c.requires
    c.self.invariant c.index.result.now c.index-2.result.now c.index.ensures c.index-2.ensures in
    omega (arith, w, ap length c.as_slice.ensures.value)

pub slice_bounds-result-end : goal.slice_bounds-result-end
slice_bounds-result-end c =
    let w = within c.self.inside.visits.items c.self.inside.bounds.items c.args.self.now c.self.view_is c.args.trip c.requires
    c.self.invariant c.index.result.now c.index-2.result.now c.index.ensures c.index-2.ensures in
    omega (arith, w, ap length c.as_slice.ensures.value)

pub returns : goal.returns
returns c =
    let w = within c.self.inside.visits.items c.self.inside.bounds.items c.args.self.now c.self.view_is c.args.trip c.requires
    c.self.invariant c.index.result.now c.index-2.result.now c.index.ensures c.index-2.ensures in
    grind (arith, of_bounds)
