-- A look finds the best of all inserts.
use Rattle.stop_profile.proofs.Common.{◌≡◌, ℕ, suc, ◌<◌, ◌≤◌, List, [], ◌∷◌, Option, Some, MatchOption, All, arith, subst, refl, AllByRecursion, All-cons, Tree, Scoring, ScoreLaws, Row}
use Rattle.stop_profile.proofs.{Common.{rows_with_new, RowsRise, row_in_time, rows_after_inserts, Carries, IsBestRow, LookLaw, none, same, holds, first, wins}, Looks.carries_trans}
use Rattle.stop_profile.proofs.{Looks.picked_holds, Inserted.{rises-rows_with_new, gaps-rows_with_new, look_step}}

module _ {V : Type 0} {scoring : Scoring V} (laws : ScoreLaws scoring) where
  rises_after : (inserts : List (Row V)) → RowsRise scoring.rank (rows_after_inserts scoring inserts)
  rises_after [] = tt
  rises_after (new ∷ earlier) = rises-rows_with_new scoring laws.lowered_rank new (rows_after_inserts scoring earlier) (rises_after earlier)

  gaps_after : (most : ℕ) (inserts : List (Row V)) → All (λ insert. scoring.gap insert.value ≤ most) inserts → AllByRecursion (λ row. scoring.gap row.value ≤ most) (rows_after_inserts scoring inserts)
  gaps_after most [] all = tt
  gaps_after most (new ∷ earlier) all = gaps-rows_with_new laws most new (rows_after_inserts scoring earlier) (rises_after earlier) (all 0 new (omega arith))
      (gaps_after most earlier (λ k d within. all (suc k) d (omega arith)))

  -- the best of earlier inserts, carried on
  best_carried : (arrival : ℕ) (new : Row V) (earlier : List (Row V)) (r s : Row V) → IsBestRow scoring arrival earlier r
      → Carries scoring r s → (arrival ≤ new.by.0 → scoring.rank r.value ≤ scoring.rank new.value)
      → (arrival ≤ new.by.0 → (tree : Tree) → scoring.below new.value tree → scoring.below s.value tree)
      → ((most : ℕ) → All (λ insert. scoring.gap insert.value ≤ most) (new ∷ earlier) → scoring.gap s.value ≤ most) → IsBestRow scoring arrival (new ∷ earlier) s
  best_carried arrival new earlier r s best carries new_rank new_below gaps =
      let (k, insert, within, at, from) = best.source in
      record {
        source = (suc k, insert, omega arith, at, (from.0, carries_trans laws insert r s from.1 carries));
        least = grind (arith, All-cons);
        below_usable = grind (arith, All-cons);
        gap_within = gaps;
      }

  -- the new row is the best
  best_new : (arrival : ℕ) (new : Row V) (earlier : List (Row V)) (s : Row V) → arrival ≤ new.by.0 → Carries scoring new s
      → All (λ insert. arrival ≤ insert.by.0 → scoring.rank s.value ≤ scoring.rank insert.value) earlier
      → All (λ insert. arrival ≤ insert.by.0 → (tree : Tree) → scoring.below insert.value tree → scoring.below s.value tree) earlier
      → ((most : ℕ) → All (λ insert. scoring.gap insert.value ≤ most) (new ∷ earlier) → scoring.gap s.value ≤ most) → IsBestRow scoring arrival (new ∷ earlier) s
  best_new arrival new earlier s in_time carries least below_usable gaps = record {
    source = (0, new, omega arith, refl, (in_time, carries));
    least = All-cons (λ (i : Row V). arrival ≤ i.by.0 → scoring.rank s.value ≤ scoring.rank i.value) new earlier (λ usable. omega (arith, carries.same_rank)) least;
    below_usable = All-cons (λ (i : Row V). arrival ≤ i.by.0 → (tree : Tree) → scoring.below i.value tree → scoring.below s.value tree) new earlier (λ usable. carries.below_all) below_usable;
    gap_within = gaps;
  }

  -- over every list of inserts
  pub look_law : LookLaw scoring
  look_law [] arrival = λ k d within. absurd (omega arith)
  look_law (new ∷ earlier) arrival =
      let rows = rows_after_inserts scoring earlier in
      let before = look_law earlier arrival in
      let P = λ (o : Option (Row V)). MatchOption o (All (λ insert. insert.by.0 < arrival) earlier) (IsBestRow scoring arrival earlier) in
      let gaps = λ (s : Row V) (is : row_in_time arrival (rows_with_new scoring new rows) ≡ Some s) (most : ℕ)
      (all : All (λ (insert : Row V). scoring.gap insert.value ≤ most) (new ∷ earlier)). picked_holds (λ (row : Row V). scoring.gap row.value ≤ most) arrival
      (rows_with_new scoring new rows) s
      (gaps_after most (new ∷ earlier) all) is in
      elim (look_step laws arrival new rows (rises_after earlier)) [
        | none late was is ↦ rw is (All-cons (λ (insert : Row V). insert.by.0 < arrival) new earlier late (subst P was before))
        | same r s late was is carries ↦ rw is (best_carried arrival new earlier r s (subst P was before) carries (λ usable. absurd (omega arith)) (λ usable. absurd (omega arith)) (gaps s is))
        | holds r s in_time was is carries better new_below ↦ rw is (best_carried arrival new earlier r s (subst P was before) carries (λ usable. better) (λ usable. new_below) (gaps s is))
        | first s in_time was is carries ↦ let late = subst P was before in rw is
            (best_new arrival new earlier s in_time carries (λ k d within usable. absurd (omega (arith, late k d within)))
            (λ k d within usable. absurd (omega (arith, late k d within))) (gaps s is))
        | wins r s in_time was is carries better old_below ↦ let best =
            subst P was before in rw is (best_new arrival new earlier s in_time carries
            (λ k d within usable. omega (arith, carries.same_rank, best.least k d within usable))
            (λ k d within usable tree h. old_below tree (best.below_usable k d within usable tree h)) (gaps s is))
      ]
