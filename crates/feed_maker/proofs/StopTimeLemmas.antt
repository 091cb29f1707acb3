-- What remains of stop times that are made as they are read.
use Rattle.feed_maker.proofs.Common.{◌≡◌, ℕ, ◌+◌, ◌-◌, ◌<◌, ◌≤◌, suc, List, ◌++◌, length, take, drop, ap, sym, ◌∙◌, arith, append_assoc, take-append-drop, codes, joined, line_rows}
use Rattle.feed_maker.proofs.Common.{stop_times_text, rows_from}
use Rattle.std.proofs.lemmas.{Grind.common_steps, List.{take_rest, drop-drop}}

-- the rows of a line, and of those that come
rows_from-first : (line count next : ℕ) → count ≡ suc next → rows_from line count ≡ line_rows line ++ rows_from (line + 1) next
rows_from-first line count next e = ap (λ n. rows_from line n) e

-- before the first line
pub remaining_first : (lines : ℕ) (made : List ℕ) → made ≡ codes "trip_id,arrival_time,departure_time,stop_id,stop_sequence\n"
    → drop 0 made ++ rows_from 0 (lines - 0) ≡ stop_times_text lines
unfolding stop_times_text joined
remaining_first lines made is = grind arith

-- the rows of one line more, where those before are read
pub remaining_next : (text made : List ℕ) (offset line lines : ℕ) → length text ≤ offset → line < lines → made ≡ line_rows line
    → drop 0 made ++ rows_from (line + 1) (lines - (line + 1)) ≡ drop offset text ++ rows_from line (lines - line)
remaining_next text made offset line lines read more is = grind (arith, common_steps, rows_from-first)

-- a read moves a front of it
pub remaining_after : (text lent buffer rows : List ℕ) (offset count : ℕ) → lent ≡ text
    → take count buffer ≡ take count (take (length lent - offset) (drop offset lent))
    → drop offset text ++ rows ≡ take count buffer ++ (drop (offset + count) text ++ rows)
remaining_after text lent buffer rows offset count is front =
    let moved : take count buffer ≡ take count (drop offset text) = front ∙ ap (λ (xs : List ℕ). take count xs) (take_rest lent offset ∙ ap (λ (xs : List ℕ). drop offset xs) is) in
    ap (λ (xs : List ℕ). xs ++ rows) (sym (take-append-drop count (drop offset text)))
    ∙ ap (λ (xs : List ℕ). (xs ++ drop count (drop offset text)) ++ rows) (sym moved)
    ∙ ap (λ (xs : List ℕ). (take count buffer ++ xs) ++ rows) (drop-drop count offset text)
    ∙ append_assoc (take count buffer) (drop (offset + count) text) rows
