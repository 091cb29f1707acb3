use Rattle.meat_engine.proofs.{Common.{◌≡◌, None, Some, inl, inr, refl, sym, subst, Fault, unread_input, parts_of, IsNoSafe, sample_journey, FailsSample}, Asking.early_has_site}
use Rattle.meat_engine.proofs.Asking.{unsafe_reported, plain_refusal}
use Rattle.meat_engine.proofs.samples.sample.Goals as goal

pub returns-in-Err-clause-fault : goal.returns-in-Err-clause-fault
returns-in-Err-clause-fault c =
    let fault = c.in-Err.fault in
    let early = c.in-Err.ensures.early in
    plain_refusal (FailsSample c.args.limits.now c.args.size.value) c.plain.result fault c.plain.ensures.fault c.plain.ensures.problem
    (early_has_site None sample_journey.timetable fault early)
    (λ other. let over = c.in-Err.ensures.fault other in (c.in-Err.ensures.read, (over.0, over.1, inr (early, over.2))))

pub returns-in-Err-clause-read : goal.returns-in-Err-clause-read
returns-in-Err-clause-read c = subst (λ (f : Fault). unread_input f ≡ None) (sym c.plain.ensures.fault) c.in-Err.ensures.read

pub returns-in-Err-sample_in-clause-fault : goal.returns-in-Err-sample_in-clause-fault
returns-in-Err-sample_in-clause-fault c =
    let p = c.in-Ok.problem in
    let over = c.in-Ok.ensures.problem in
    let fault = c.in-Err-sample_in.fault in
    let why = unsafe_reported (IsNoSafe p sample_journey.start) (λ fault why. why.0) (Some (parts_of p)) fault c.in-Err-sample_in.ensures.fault in
    record {
      has_site = why.has_site;
      holds = λ other. (why.unread, (over.0, over.1, inl (p, over.2.0, over.2.1, (refl, why.why other))));
    }
