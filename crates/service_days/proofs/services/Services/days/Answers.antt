-- The days that pass a test, one more at a time.
use Rattle.service_days.proofs.Common.{sym, ap, ◌∙◌, filter, w32, to_z-of_z, runs, arith, ◌≡◌, ℕ, ◌+◌, ℤ, pos, ◌+ℤ◌, Bool, true, false, List, [], ◌∷◌, ◌++◌, refl, add-one, append-nil}
use Rattle.service_days.proofs.{Common.{filter-append, days_from}, services.Services.days.Goals.{then-runs_at+in_ok-push, else-runs_at}}
use Rattle.service_days.proofs.services.Services.days.Goals as goal

pub days_from-zero : (first : ℤ) → days_from first 0 ≡ []
unfolding days_from
days_from-zero first = refl

days_from-next : (first : ℤ) (n : ℕ) → days_from first (n + 1) ≡ days_from first n ++ (first +ℤ pos n) ∷ []
unfolding days_from
days_from-next first n = rw add-one refl

filter_kept : (p : ℤ → Bool) (day : ℤ) → p day ≡ true → filter p (day ∷ []) ≡ day ∷ []
filter_kept p day h = rw h refl

filter_dropped : (p : ℤ → Bool) (day : ℤ) → p day ≡ false → filter p (day ∷ []) ≡ []
filter_dropped p day h = rw h refl

module _ (p : ℤ → Bool) (first : ℤ) (n : ℕ) (old new : List ℤ) (day : ℤ) (e : old ≡ filter p (days_from first n)) (d : day ≡ first +ℤ pos n) where
  -- a day that passes
  pub filter-kept : p day ≡ true → new ≡ old ++ day ∷ [] → new ≡ filter p (days_from first (n + 1))
  filter-kept h k = grind (arith, filter_kept, days_from-next, filter-append, pos)

  -- and one that does not
  pub filter-dropped : p day ≡ false → new ≡ old → new ≡ filter p (days_from first (n + 1))
  filter-dropped h k = grind (arith, append-nil, filter_dropped, days_from-next, filter-append, pos)

pub loop-n-init : goal.loop-n-init
loop-n-init c = c.new-days.ensures ∙ sym (ap (filter (runs c.args.self.now c.args.service.now)) (days_from-zero _))

pub loop-n-preserved : goal.loop-n-preserved
loop-n-preserved c =
    let p = runs c.args.self.now c.args.service.now in
    let day = c.day_after-day.result in
    let back = to_z-of_z w32 day (record { sfits = c.day_after-day.type_inv }) in
    grind (arith, then-runs_at+in_ok-push, filter-kept, else-runs_at, filter-dropped)
