-- What a line of `ask_over` promises, said of what is asked.
use Rattle.meat_engine.proofs.Common.{arith, ◌≡◌, ℕ, Option, None, Some, Result, sym, subst, ◌≢◌, IfOk, IfErr, FileMap, FilesState, Limits, AskModel, ask_shown, Fault, NoSafe, NoMemory, Problem}
use Rattle.meat_engine.proofs.{Common.{unread_input, parts_of, HasSite, OrNoMemory, Answer, findings_of, HasCauses, own_paths, AnswersAsk, FailsAsk}, Asking.unsafe_reported}
use Rattle.journey_problem.proofs.Causes.{causes-none}
use Rattle.command_line.specs.declared.job.Ask.{Ask}
use Rattle.meat_engine.proofs.asks.ask_over.Goals as goal

module _ (contents : Option FileMap) (limits : Limits) (start : ℕ) (p : Problem) where
  -- the answer is one to what is asked, and the fault is why there is none
  pub record IsAnswered (ask : AskModel) (r : Result Answer Fault) : Type 0 where
    pub answer : IfOk r (λ a. AnswersAsk contents limits start p ask (findings_of a.report) a.text.items)
    pub fault : IfErr r (λ fault. fault ≢ NoMemory → FailsAsk contents limits start p ask fault)

  pub answered-asked : {ask asked : Ask} (r : Result Answer Fault) → ask ≡ asked
      → IfOk r (λ a. AnswersAsk contents limits start p (ask_shown asked) (findings_of a.report) a.text.items)
      → IfErr r (λ fault. fault ≢ NoMemory → FailsAsk contents limits start p (ask_shown asked) fault) → IsAnswered (ask_shown ask) r
  answered-asked r is answer fault = subst (λ (ask : Ask). IsAnswered (ask_shown ask) r) (sym is) (record { answer = answer; fault = fault })

  -- and no file of its own is read: it fails only as no strategy is safe, or there was no memory
  pub record IsAnsweredAlone (ask : AskModel) (r : Result Answer Fault) : Type 0 where
    pub own : IsAnswered ask r
    pub has_site : IfErr r (HasSite (Some (parts_of p)))
    pub unread : IfErr r (λ fault. unread_input fault ≡ None)

  alone : (ask : AskModel) → ((fault : Fault) → FailsAsk contents limits start p ask fault → fault ≡ NoSafe) → (r : Result Answer Fault)
      → IfOk r (λ a. AnswersAsk contents limits start p ask (findings_of a.report) a.text.items) → IfErr r (OrNoMemory (FailsAsk contents limits start p ask)) → IsAnsweredAlone ask r
  alone ask unsafe r answer fails = grind (arith, unsafe_reported)

  pub alone-asked : {ask asked : Ask} (r : Result Answer Fault) → ask ≡ asked
      → ((fault : Fault) → FailsAsk contents limits start p (ask_shown asked) fault → fault ≡ NoSafe)
      → IfOk r (λ a. AnswersAsk contents limits start p (ask_shown asked) (findings_of a.report) a.text.items)
      → IfErr r (OrNoMemory (FailsAsk contents limits start p (ask_shown asked))) → IsAnsweredAlone (ask_shown ask) r
  alone-asked {asked = asked} r is unsafe answer fails = subst (λ (ask : Ask). IsAnsweredAlone (ask_shown ask) r) (sym is) (alone (ask_shown asked) unsafe r answer fails)

pub causes-asked : {before now : FilesState} {ask asked : Ask} (r : Result Answer Fault) → ask ≡ asked
    → HasCauses (own_paths (ask_shown asked)) before now r → HasCauses (own_paths (ask_shown ask)) before now r
causes-asked {before = before} {now = now} r is = subst (λ (ask : Ask). HasCauses (own_paths (ask_shown ask)) before now r) (sym is)

pub returns-in-Safe : goal.returns-in-Safe
returns-in-Safe g c = grind (arith, alone-asked, causes-none)

pub returns-in-Expand : goal.returns-in-Expand
returns-in-Expand g c = grind (arith, alone-asked, causes-none)

pub returns-in-Plan : goal.returns-in-Plan
returns-in-Plan g c = grind (arith, alone-asked, causes-none)

pub returns-in-Replay : goal.returns-in-Replay
returns-in-Replay g c = grind (arith, answered-asked, causes-asked)

pub returns-in-Certify : goal.returns-in-Certify
returns-in-Certify g c = grind (arith, alone-asked, causes-none)

pub returns-in-CheckProof : goal.returns-in-CheckProof
returns-in-CheckProof g c = grind (arith, answered-asked, causes-asked)

pub returns-in-CheckGraph : goal.returns-in-CheckGraph
returns-in-CheckGraph g c = grind (arith, answered-asked, causes-asked)

pub returns-in-Punctual : goal.returns-in-Punctual
returns-in-Punctual g c =
    let h = alone-asked _ _ _ _ c.punctual_over.result c.in-Punctual.is (λ fault why. why.0) c.punctual_over.ensures.answer c.punctual_over.ensures.fault in
    record { answer = h.own.answer; fault = h.own.fault; has_site = h.has_site; causes = causes-none c.punctual_over.result h.unread }

pub returns-in-Departures : goal.returns-in-Departures
returns-in-Departures g c = grind (arith, alone-asked, causes-none)

pub returns-in-Latest : goal.returns-in-Latest
returns-in-Latest g c = grind (arith, alone-asked, causes-none)

pub returns-in-Reach : goal.returns-in-Reach
returns-in-Reach g c = grind (arith, alone-asked, causes-none)
