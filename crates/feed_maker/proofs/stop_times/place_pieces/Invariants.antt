use Rattle.feed_maker.proofs.Common.{◌≡◌, ℕ, ◌<◌, length, slice_get, IfSome, place_piece}
use Rattle.feed_maker.proofs.stop_times.place_pieces.Given as goal

-- the ends at the places so far
abbrev pub invariant-loop-place : goal.invariant-loop-place
invariant-loop-place l = record {
  size : length l.ends.items ≡ l.place;
  each : (k : ℕ) → k < length l.ends.items → IfSome (slice_get l.ends.items k) (λ end. end.bytes ≡ place_piece l.line.number k);
}
