use Rattle.meat_scan.proofs.{Common.arith, Reserves.{fits_all, fits_any}}
use Rattle.std.proofs.lemmas.Result.{IfOk-weaker}
use Rattle.meat_scan.proofs.ScanTables.reserve.Goals as goal

pub returns-clause-whole : goal.returns-clause-whole
returns-clause-whole g c = IfOk-weaker c.reserve_until.result _ _ (λ tables fits. fits_all c.args.network.now _ tables (omega arith) fits) c.reserve_until.ensures

pub returns-clause-by : goal.returns-clause-by
returns-clause-by g c =
    IfOk-weaker c.reserve_until.result _ _ (λ tables fits last. fits_any c.args.network.now last tables (fits_all c.args.network.now _ tables (omega arith) fits)) c.reserve_until.ensures
