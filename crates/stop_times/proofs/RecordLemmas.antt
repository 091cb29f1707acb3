-- The records that remain are the first one and those after it.
use Rattle.stop_times.proofs.Common.{Bor, ◌≡◌, ℕ, zero, suc, ◌+◌, ◌<◌, List, [], ◌∷◌, map, length, slice_index_or, Option, Some, None, true, false, refl, sym, ap, ◌∙◌, arith, common_steps}
use Rattle.stop_times.proofs.Common.{field_at, ReadRecord, Reached, default_config, reader_state, records_from, records_next, took_first, trimmed_text, source, records_after, IsReading}
use Rattle.csv.specs.{Machine.{Read, next_record, ends_at_end}, declared.{parser.State.State, reader.Reader.Reader}}
use Rattle.csv.proofs.ReadFacts.{rows-end, rows-more}
use Rattle.csv_rows.proofs.ReachedRecords.{takes}

one_turn : (n : ℕ) (s : State) (xs : List ℕ) → records_from default_config (suc n) s xs ≡ records_next (records_from default_config n) (next_record default_config s [] [] xs)
unfolding records_from
one_turn n s xs = refl

next_same : (n m : ℕ) (s : State) (xs : List ℕ) (o : Option Read) → next_record default_config s [] [] xs ≡ o → ends_at_end s ≡ false
    → ((t : State) (ys : List ℕ) → ends_at_end t ≡ false → length ys < length xs → records_from default_config n t ys ≡ records_from default_config m t ys)
    → records_next (records_from default_config n) o ≡ records_next (records_from default_config m) o
next_same n m s xs None e between more = refl
next_same n m s xs (Some r) e between more = grind (arith, common_steps, takes)

-- with more turns than there are bytes no further turn finds a record
enough_turns : (n m : ℕ) (s : State) (xs : List ℕ) → ends_at_end s ≡ false → length xs < n → length xs < m → records_from default_config n s xs ≡ records_from default_config m s xs
enough_turns zero m s xs between h k = absurd (omega arith)
enough_turns (suc n) zero s xs between h k = absurd (omega arith)
enough_turns (suc n) (suc m) s xs between h k =
    one_turn n s xs
    ∙ next_same n m s xs (next_record default_config s [] [] xs) refl between (λ t ys e less. enough_turns n m t ys e (omega arith) (omega arith))
    ∙ sym (one_turn m s xs)

all_turns : (s : State) (xs : List ℕ) → records_from default_config (length xs + 1) s xs ≡ records_next (records_from default_config (length xs)) (next_record default_config s [] [] xs)
all_turns s xs = let e : length xs + 1 ≡ suc (length xs) = omega arith in ap (λ n. records_from default_config n s xs) e ∙ one_turn (length xs) s xs

first_record : (s : State) (xs : List ℕ) (next : Read) → ends_at_end s ≡ false → next_record default_config s [] [] xs ≡ Some next
    → records_from default_config (length xs + 1) s xs ≡ next.0 ∷ records_from default_config (length next.2 + 1) next.1 next.2
first_record s xs next between is = grind (arith, takes, all_turns, enough_turns)

-- where a record was read
pub record TookFirst (old new : Reader (Bor (List ℕ))) (fields : List (List ℕ)) : Type 0 where
  pub reads : IsReading new
  pub records : records_after (reader_state old) (source old) ≡ map trimmed_text fields ∷ records_after (reader_state new) (source new)

pub took_first-read : (old new : Reader (Bor (List ℕ))) (fields : List (List ℕ)) → IsReading old → took_first new ≡ true
    → ReadRecord (λ (s : Bor (List ℕ)). Some s.now) old new true fields → TookFirst old new fields
unfolding Reached
took_first-read old new fields is ready read =
    let s = reader_state old in
    let more = rows-more (λ (s : Bor (List ℕ)). Some s.now) old new fields default_config s is.text is.text [] is.config is.known (refl, refl) read in
    let next : Read = more.2.0 in
    let ends : (next.1 ≡ reader_state new) × (next.2 ≡ more.0) = more.2.3 in
    let t = takes default_config s is.text next is.between more.2.1 in
    grind (arith, records_after, first_record)

-- where there was none
pub took-none : (old new : Reader (Bor (List ℕ))) (fields : List (List ℕ)) → IsReading old
    → ReadRecord (λ (s : Bor (List ℕ)). Some s.now) old new false fields → records_after (reader_state old) (source old) ≡ []
took-none old new fields is read = grind (arith, rows-end, all_turns)

-- a field of a record, and one past its end
pub field-some : (fields : List (List ℕ)) (i : ℕ) (x : List ℕ) → field_at fields i ≡ Some x → trimmed_text x ≡ slice_index_or (map trimmed_text fields) i []
unfolding field_at
field-some [] i x e = absurd (cc)
field-some (f ∷ fs) zero x e = let same : f ≡ x = cc in ap trimmed_text (sym same)
field-some (f ∷ fs) (suc i) x e = field-some fs i x e

pub field-none : (fields : List (List ℕ)) (i : ℕ) → field_at fields i ≡ None → [] ≡ slice_index_or (map trimmed_text fields) i []
unfolding field_at
field-none [] i e = refl
field-none (f ∷ fs) zero e = absurd (cc)
field-none (f ∷ fs) (suc i) e = field-none fs i e
