use Rattle.meat_engine.proofs.{Common.{◌≡◌, ◌∙◌, map, string_bytes, sym, subst, arith, wanted_job, Fault, Write, NoMemory, HasSite, findings_of, FailsJob, known_of}, Outcomes.job_cause}
use Rattle.meat_engine.proofs.{Outcomes.write_fails, Runs.{refused_run, answered_run, path_of_job}}
use Rattle.meat_engine.proofs.top.run_limited.Goals as goal

pub refuse-requires : goal.refuse-requires
refuse-requires g c = subst (λ (f : Fault). HasSite (known_of c.plain.result) f) (sym c.plain.ensures.fault) tt

pub refuse-requires-in-Err-answer_of : goal.refuse-requires-in-Err-answer_of
refuse-requires-in-Err-answer_of g c = c.in-Err-answer_of.ensures.fault.has_site

pub returns-in-Err : goal.returns-in-Err
returns-in-Err g c = grind (arith, refused_run)

pub returns-in-Err-answer_of : goal.returns-in-Err-answer_of
returns-in-Err-answer_of g c =
    let limits = c.args.limits.now in
    let words = map string_bytes c.args.words.now in
    let before = g.F.Files.state c.args.files.now in
    let after = g.F.Files.state c.answer_of.new.files in
    let wanted = wanted_job c.in-Ok.job in
    let fault = c.in-Err-answer_of.refusal.fault in
    let why = c.in-Err-answer_of.ensures.fault in
    let known = known_of c.in-Err-answer_of.refusal in
    let asked = sym c.in-Ok.ensures.job in
    refused_run limits words c.refuse-in-Err-answer_of.result before after _ _ _ known fault c.refuse-in-Err-answer_of.ensures.reported
    c.refuse-in-Err-answer_of.ensures.status c.refuse-in-Err-answer_of.ensures.findings
    (job_cause before.files limits words wanted known asked fault why.holds)
    (λ write. write_fails before.files limits words wanted known (subst (FailsJob before.files limits wanted known) write (why.holds (λ memory. let none : Write ≡ NoMemory = sym write ∙ memory in absurd (cc)))))
    c.in-Err-answer_of.ensures.causes.same
    (λ input read. c.in-Err-answer_of.ensures.causes.read input (cc))
    (λ job input is some read. path_of_job words job wanted before.faults_of after.faults_of input is asked (c.in-Err-answer_of.ensures.causes.read_path some input (cc)))
    (λ less. let read = c.in-Err-answer_of.ensures.causes.grew less in (read.0, (cc)))

pub returns-in-Ok-answer_of : goal.returns-in-Ok-answer_of
returns-in-Ok-answer_of g c =
    answered_run c.args.limits.now (map string_bytes c.args.words.now) (findings_of c.in-Ok-answer_of.answer.report) c.print_report.result c.in-Ok-answer_of.answer.text.items
    _ _ _ _ _ _ c.print_report.ensures.out
    (wanted_job c.in-Ok.job) (sym c.in-Ok.ensures.job) c.in-Ok-answer_of.ensures.answer c.print_report.ensures.status c.print_report.ensures.findings
    c.print_report.ensures.quiet c.print_report.ensures.reported c.in-Ok-answer_of.ensures.causes.same
    (λ less. (c.in-Ok-answer_of.ensures.causes.grew less).1)
    c.print_report.ensures.write c.print_report.ensures.grew
