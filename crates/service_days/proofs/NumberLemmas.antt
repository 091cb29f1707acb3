-- Exceptions by the numbers of their services, one more at a time.
use Rattle.service_days.proofs.Common.{◌≡◌, ℕ, ℤ, ◌+◌, ◌≤◌, ◌&&◌, ◌||◌, Bool, true, false, List, [], length, Option, Some, None, if◌then◌else◌, refl, sym, ap, ◌∙◌, All, subst, arith, bytes_eq}
use Rattle.service_days.proofs.Common.{add-one, length-append, int_eq, ne_eqb, cases_Bool, Adds, IsTrimmed, All-push, any_below, number_in, false_from_ne_true, or_from, none-some, number-push}
use Rattle.service_days.proofs.Common.{number-same, number-here, Exception, is_for, is_excepted, date_of, same, has, has_at, AddsDate, AreNumbered}
use Rattle.std.proofs.lemmas.Slice.Eq.{bytes_eq-Decides}
use Rattle.std.specs.Option.{option_or}
use mathlib.Core.Bool.{beq}

asks_or : (asks : Option ℕ → Bool) (n : ℕ) (o : Option ℕ) (b : Bool) → asks None ≡ false → asks (Some n) ≡ false → asks (option_or o (if b then Some n else None)) ≡ asks o
asks_or asks n (Some k) b h g = refl
asks_or asks n None true h g = g ∙ sym h
asks_or asks n None false h g = refl

-- what is false of no number and of the next one is the same after a name is added
pub asks-adds : (old new : List (List ℕ)) (x : List ℕ) (added : Bool) (asks : Option ℕ → Bool) (name : List ℕ) → Adds old new x added → asks None ≡ false → asks (Some (length old)) ≡ false
    → asks (number_in name new) ≡ asks (number_in name old)
asks-adds old new x added asks name a h g = grind (arith, cases_Bool added, number-push, asks_or)

pub length-adds : (old new : List (List ℕ)) (x : List ℕ) (added : Bool) → Adds old new x added → (length old ≤ length new) × (length new ≤ length old + 1)
length-adds old new x added a = grind (arith, cases_Bool added, length-append)

-- texts without spaces at their ends stay so
pub trimmed-adds : (old new : List (List ℕ)) (x : List ℕ) (added : Bool) → Adds old new x added → All IsTrimmed old → IsTrimmed x → All IsTrimmed new
trimmed-adds old new x true a h trimmed = subst (All IsTrimmed) (sym a.0) (All-push IsTrimmed old x h trimmed)
trimmed-adds old new x false a h trimmed = subst (All IsTrimmed) (sym a.0) h

or_swap : (a b : Bool) → (a || b) ≡ (b || a)
or_swap a b = grind (arith, cases_Bool a, cases_Bool b)

-- the exceptions of a service after one more
excepts : (ids : List (List ℕ)) (before after : List Exception) (x : List ℕ) (m : ℕ) (d : ℤ) (a : Bool) → number_in x ids ≡ Some m
    → ((e : Exception) → has after e ≡ (same (record { service = m; day = d; adds = a }) e || has before e))
    → (name : List ℕ) (day : ℤ) (adds : Bool) (o : Option ℕ) → number_in name ids ≡ o
    → has_at after day adds o ≡ ((bytes_eq x name && (int_eq d day && beq a adds)) || has_at before day adds o)
excepts ids before after x m d a here h name day adds None g = grind (arith, int_eq, beq, false_from_ne_true, bytes_eq-Decides, none-some)
excepts ids before after x m d a here h name day adds (Some k) g = grind (arith, int_eq, beq, number-same)

-- one more row
pub numbered_next : (t : List (List (List ℕ))) (i : ℕ) (first old ids : List (List ℕ)) (before after : List Exception)
    → AreNumbered t i first old before → length first ≤ length old → AddsDate old ids before after (date_of t i) → AreNumbered t (i + 1) first ids after
unfolding any_below
numbered_next t i first old ids before after n room a =
    let d = date_of t i in
    let size = length-adds old ids d.service a.new a.added in
    let free : (day : ℤ) (adds : Bool) → has before (record { service = length old; day = day; adds = adds }) ≡ false =
    λ day adds. n.fresh (record { service = length old; day = day; adds = adds }) (omega arith) in
    record {
      is = λ name day adds.
          rw add-one
          (excepts ids before after d.service a.number d.day d.adds a.numbered a.exceptions name day adds (number_in name ids) refl
          ∙ ap (λ b. is_for d name day adds || b) (asks-adds old ids d.service a.new (has_at before day adds) name a.added refl (free day adds) ∙ n.is name day adds)
          ∙ or_swap (is_for d name day adds) (is_excepted t i name day adds));
      fresh = λ e l.
          a.exceptions e
          ∙ or_from (same (record { service = a.number; day = d.day; adds = d.adds }) e) (has before e)
          (ap (λ b. b && (int_eq d.day e.day && beq d.adds e.adds)) (ne_eqb a.number e.service (λ s. let w = number-here d.service ids a.number a.numbered in absurd (omega (arith, w.0, s, l)))))
          (n.fresh e (omega (arith, size.0, l)));
      kept = λ name asks h g.
          asks-adds old ids d.service a.new asks name a.added h (g (length old) room) ∙ n.kept name asks h g;
    }

pub numbered_none : (t : List (List (List ℕ))) (ids : List (List ℕ)) (exceptions : List Exception) → exceptions ≡ [] → AreNumbered t 0 ids ids exceptions
unfolding any_below
numbered_none t ids exceptions e = grind (arith, ℤ)
