use Rattle.change_times.proofs.Common.{Result, Ok, Err, IfOk, Loaded, loaded_rows, FeedParts, ChangeParts, AreCollectedChanges, AreReportedBySome, fault_of_transfers, arith}
use Rattle.csv_rows.specs.{declared.feed_tables.{FeedFault.FeedFault, Table.TheVariants.Transfers}, RowFaults.ReportsFirst}
use Rattle.change_times.proofs.changes.Changes.read.Goals as goal

-- what is said of a table with no fault is said by some
reported_by_some : {T : Type 0} (view : T → ChangeParts) (feed : FeedParts) (l : Loaded) (r : Result T FeedFault)
    → IfOk r (λ c. AreCollectedChanges feed (view c) (loaded_rows l))
    → ReportsFirst Transfers (fault_of_transfers feed l) r → IfOk r (λ c. AreReportedBySome feed (view c))
reported_by_some view feed l (Ok c) reported reports = record { loaded = l; no_fault = reports; reported = reported }
reported_by_some view feed l (Err fault) reported reports = tt

pub returns-clause-sound : goal.returns-clause-sound
returns-clause-sound g c = grind (arith, reported_by_some)
