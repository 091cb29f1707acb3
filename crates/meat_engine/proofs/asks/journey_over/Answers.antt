use Rattle.meat_engine.proofs.Common.{Option, Ok, Err, inl, refl, sym, subst, FileMap, journey_shown, ask_shown, Fault, Answer, path_of, HasCauses, findings_of, own_paths, AnswersAsk, FailsAsk}
use Rattle.meat_engine.proofs.Asking.{causes-paths, beside}
use Rattle.file_ports.proofs.CauseLemmas.{causes-next}
use Rattle.meat_engine.proofs.asks.journey_over.Goals as goal

pub returns-in-Err-clause-causes : goal.returns-in-Err-clause-causes
returns-in-Err-clause-causes g c =
    subst (λ (fault : Fault). HasCauses {T = Answer} (path_of (journey_shown c.args.journey.now) (own_paths (ask_shown c.args.ask.now)))
    (g.F.Files.state c.args.files.now) (g.F.Files.state c.problem_of.new.files) (Err fault))
    (sym c.plain.ensures.fault) (c.in-Err.ensures.causes (own_paths (ask_shown c.args.ask.now)))

pub returns-in-Err-ask_over-clause-causes : goal.returns-in-Err-ask_over-clause-causes
returns-in-Err-ask_over-clause-causes g c =
    causes-next (λ input is. is) (c.in-Ok.ensures.causes (own_paths (ask_shown c.args.ask.now)))
    (causes-paths {T = Answer} (Err c.in-Err-ask_over.fault) (beside (ask_shown c.args.ask.now) (journey_shown c.args.journey.now) _ _) c.in-Err-ask_over.ensures.causes)

pub returns-in-Ok-ask_over-clause-causes : goal.returns-in-Ok-ask_over-clause-causes
returns-in-Ok-ask_over-clause-causes g c =
    causes-next (λ input is. is) (c.in-Ok.ensures.causes (own_paths (ask_shown c.args.ask.now)))
    (causes-paths (Ok c.in-Ok-ask_over.answer) (beside (ask_shown c.args.ask.now) (journey_shown c.args.journey.now) _ _) c.in-Ok-ask_over.ensures.causes)

pub returns-in-Err-ask_over-clause-fault : goal.returns-in-Err-ask_over-clause-fault
returns-in-Err-ask_over-clause-fault g c =
    let ask = ask_shown c.args.ask.now in
    let same = (c.in-Ok.ensures.causes (own_paths ask)).same in
    let P : Option FileMap → Type 0 = λ reported. FailsAsk reported c.args.limits.now c.args.journey.now.start.moment.0 c.in-Ok.problem ask c.in-Err-ask_over.fault in
    record {
      has_site = c.in-Err-ask_over.ensures.has_site;
      holds = λ other. inl (c.in-Ok.problem, c.in-Ok.ensures.sound, c.in-Ok.ensures.problem, (refl, subst P same (c.in-Err-ask_over.ensures.fault other)));
    }

pub returns-in-Ok-ask_over-clause-answer : goal.returns-in-Ok-ask_over-clause-answer
returns-in-Ok-ask_over-clause-answer g c =
    let ask = ask_shown c.args.ask.now in
    let reported = c.in-Ok-ask_over.answer in
    let same = (c.in-Ok.ensures.causes (own_paths ask)).same in
    let P : Option FileMap → Type 0 = λ files. AnswersAsk files c.args.limits.now c.args.journey.now.start.moment.0 c.in-Ok.problem ask (findings_of reported.report) reported.text.items in
    (c.in-Ok.problem, c.in-Ok.ensures.sound, c.in-Ok.ensures.problem, subst P same c.in-Ok-ask_over.ensures.answer)
