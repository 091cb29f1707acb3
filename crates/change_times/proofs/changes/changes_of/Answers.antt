use Rattle.change_times.proofs.Common.{sym, subst, Loaded, loaded_rows, AreCollectedChanges}
use Rattle.change_times.proofs.changes.changes_of.Goals as goal

pub returns-in-Absent-clause-changes : goal.returns-in-Absent-clause-changes
returns-in-Absent-clause-changes c =
    let P : Loaded → Type 0 = λ l. AreCollectedChanges c.args.feed.now c.no_changes.result (loaded_rows l) in
    subst P (sym c.in-Absent.is) (c.no_changes.ensures.changes c.args.feed.now)

pub returns-in-NoRecord-clause-changes : goal.returns-in-NoRecord-clause-changes
returns-in-NoRecord-clause-changes c =
    let P : Loaded → Type 0 = λ l. AreCollectedChanges c.args.feed.now c.no_changes-in-NoRecord.result (loaded_rows l) in
    subst P (sym c.in-NoRecord.is) (c.no_changes-in-NoRecord.ensures.changes c.args.feed.now)
