use Rattle.delay_table.proofs.{Common.{◌≡◌, sym, ap, subst, length, ℕ, plain_types, AreDelays, arith}, Counted.reported-count, Sound.{made-is, delays_valid, classes-are}}
use Rattle.delay_table.proofs.table.table_of.Goals as goal

pub returns-in-Some-clause-count : goal.returns-in-Some-clause-count
returns-in-Some-clause-count c = λ n e. grind (arith, reported-count)

pub returns-clause-table : goal.returns-clause-table
returns-clause-table c = grind (arith, made-is)

pub invariant_of-result : goal.invariant_of-result
invariant_of-result c =
    let g = c.args.read.now.groups in
    let P : ℕ → Type 0 = λ n. n ≡ length (plain_types g (length g)) in
    subst AreDelays (sym (returns-clause-table c))
    (delays_valid g c.args.read.now.rows.items c.args.read.now.read (sym c.in_default.ensures) (subst P (ap length c.in_ok-types.ensures.named) c.in_ok-types.ensures.size))

pub returns-clause-sound : goal.returns-clause-sound
returns-clause-sound c = invariant_of-result c

pub returns-clause-size : goal.returns-clause-size
returns-clause-size c = grind (arith, classes-are)
