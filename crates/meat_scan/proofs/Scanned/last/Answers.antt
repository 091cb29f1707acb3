-- The last row of a place is for the latest arrivals.
use Rattle.meat_scan.proofs.Common.{◌≡◌, suc, ◌-◌, [], length, get_or, arith, ap, sym, subst, ◌∙◌, Row, ScanResult, ShownProfile, option_map, found_rows, no_profile, nat_tests, ℕ, zero, ◌<◌}
use Rattle.meat_scan.proofs.Common.{List, ◌∷◌, Some, None, RowsRise, row_in_time, picked_holds}
use Rattle.std.proofs.lemmas.List.{get_or-map}
use Rattle.stop_profile.proofs.Looks.{picked_here, picked_later}
use Rattle.meat_scan.proofs.Scanned.last.Goals as goal

abbrev pub IsLastRow : {V : Type 0} → List (Row V) → Row V → Type 0
IsLastRow rows row = (row_in_time row.by.0 rows ≡ Some row) × ((arrival : ℕ) → row.by.0 < arrival → row_in_time arrival rows ≡ None)

pub last_picked : {V : Type 0} (rank : V → ℕ) (rows : List (Row V)) (k : ℕ) (d : Row V) → suc k ≡ length rows → RowsRise rank rows → IsLastRow rows (get_or rows k d)
last_picked rank (r ∷ []) zero d many rise = (picked_here r.by.0 r [] (omega arith), λ arrival late. picked_later arrival r [] late)
last_picked rank (r ∷ s ∷ rows) (suc k) d many rise = grind (arith, picked_holds, picked_later, last_picked rank (s ∷ rows) k d (omega (arith, many)) rise.1)
last_picked rank _ k d many rise = absurd (omega (arith, many))

pub returns : goal.returns
returns g c =
    let place = c.args.place.0 in
    let rows = c.rows-rows.result.now in
    let k = length rows - 1 in
    let row = c.index-rows-rows.result in
    let inside = c.in_ok-profile.ensures.lookup.3 in
    let profile = inside.1 no_profile ∙ ap (λ profiles. get_or profiles place no_profile) c.deref.ensures.value in
    let shown : found_rows c.args.self.now place ≡ rows =
    ap (λ (found : ScanResult g.row.V.Denot). get_or found.rows place []) (sym c.self.view_is)
    ∙ get_or-map (λ (p : ShownProfile g.row.V.Denot). p.rows) c.self.inside.profiles.items place no_profile [] (omega (arith, inside.0, ap length c.deref.ensures.value))
    ∙ ap (λ (p : ShownProfile g.row.V.Denot). p.rows) (sym profile) ∙ sym c.rows-rows.ensures.rows in
    let some : suc k ≡ length rows = grind (arith, nat_tests, c.if-is_empty.ensures) in
    let is = last_picked g.V.Score.scoring.rank rows k row some (rw c.rows-rows.ensures.rows c.rows-rows.ensures.rises) in
    let last : IsLastRow rows row = subst (IsLastRow rows) (sym c.index-rows-rows.is) is in
    rw shown (row.by.0, ap (option_map (λ (r : Row g.row.V.Denot). (r.value, r.leg))) last.0, λ arrival late. ap (option_map (λ (r : Row g.row.V.Denot). (r.value, r.leg))) (last.1 arrival late))
