use Rattle.meat_engine.proofs.Common.{◌≡◌, ℕ, List, Option, Result, Ok, Err, None, refl, subst, arith, IfOk, IfErr, FilesState, JourneyModel, Fault, Input, unread_input, HasCauses, HasTimetable}
use Rattle.meat_engine.proofs.{Common.{IsProblem, IsProblemFault, no_path}, Asking.never_unread}
use Rattle.feed_maker.specs.Files.{folder_of}
use Rattle.std.proofs.lemmas.Result.{IfOk-weaker, IfErr-weaker}
use Rattle.meat_engine.proofs.samples.sample_problem.Goals as goal

-- files that never fail
all_read : {T : Type 0} {path : Input → Option (List ℕ)} {before now : FilesState} (r : Result T Fault)
    → before.faults ≡ 0 → now.faults ≡ 0 → HasCauses path before now r → IfErr r (λ f. unread_input f ≡ None)
all_read (Ok a) quiet still causes = tt
all_read (Err f) quiet still causes = never_unread f (λ input is. let rose = causes.read input (cc) in absurd (omega (arith, quiet, still, rose)))

both_ok : {A E : Type 0} (r : Result A E) (P Q : A → Type 0) → IfOk r P → IfOk r Q → IfOk r (λ a. P a × Q a)
both_ok r P Q p q = grind arith

pub returns-clause-problem : goal.returns-clause-problem
returns-clause-problem c =
    let limits = c.args.limits.now in
    let files = folder_of c.in_ok-files.files in
    IfOk-weaker c.problem_of.result _ _ (λ p both. (files, c.in_ok-files.ensures.files, (both.0, both.1)))
    (both_ok c.problem_of.result _ _ (subst (λ (j : JourneyModel). IfOk c.problem_of.result (HasTimetable j.timetable j)) c.sample_journey.ensures c.problem_of.ensures.sound)
    (subst (λ (j : JourneyModel). IfOk c.problem_of.result (IsProblem limits files j)) c.sample_journey.ensures c.problem_of.ensures.problem))

pub returns-clause-fault : goal.returns-clause-fault
returns-clause-fault c =
    let limits = c.args.limits.now in
    let files = folder_of c.in_ok-files.files in
    IfErr-weaker c.problem_of.result _ _ (λ f first other. (files, c.in_ok-files.ensures.files, subst (λ (j : JourneyModel). IsProblemFault limits files j f) c.sample_journey.ensures first))
    c.problem_of.ensures.fault

pub returns-clause-read : goal.returns-clause-read
returns-clause-read c = all_read c.problem_of.result refl refl (c.problem_of.ensures.causes no_path)
