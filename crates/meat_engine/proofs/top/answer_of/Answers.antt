use Rattle.meat_engine.proofs.Common.{ap, sym, subst, IfOk, IfErr, JobModel, wanted_job, IsRefusalBy, findings_of, AnswersJob, FailsJob}
use Rattle.command_line.specs.declared.job.Job.{Job}
use Rattle.meat_engine.proofs.top.answer_of.Goals as goal

pub returns-in-Journey-clause-fault : goal.returns-in-Journey-clause-fault
returns-in-Journey-clause-fault g c =
    subst (λ (wanted : JobModel). IfErr c.journey_over.result (IsRefusalBy (FailsJob (g.F.Files.state c.args.files.now).files c.args.limits.now wanted)))
    (ap (λ (job : Job). wanted_job job) (sym c.in-Journey.is)) c.journey_over.ensures.fault

pub returns-in-Journey-clause-answer : goal.returns-in-Journey-clause-answer
returns-in-Journey-clause-answer g c =
    subst (λ (wanted : JobModel). IfOk c.journey_over.result (λ a. AnswersJob (g.F.Files.state c.args.files.now).files c.args.limits.now wanted (findings_of a.report) a.text.items))
    (ap (λ (job : Job). wanted_job job) (sym c.in-Journey.is)) c.journey_over.ensures.answer
