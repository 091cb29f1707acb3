-- The status of a call, by what it comes to.
use Rattle.meat_engine.proofs.Common.{◌≡◌, ℕ, ap, sym, ◌∙◌, subst, inl, inr, List, Option, Some, None, Ok, ◌≢◌, ◌⊎◌, FileMap, Limits, JourneyModel, AskModel, Plan, Ask, Sample, job_of, Input}
use Rattle.meat_engine.proofs.Common.{arith, Fault, Read, NoMemory, status_of, IsUndisturbed, NamedParts, Problem, IsProblem, IsProblemFault, IsFaultless, no_fault, Report, EndsAsk, EndsBySafety}
use Rattle.meat_engine.proofs.{Common.{findings_of, Outcome, sample_journey, sample_alpha, FailsSample}, Ended.{asked_ends, answers_end, EndsOver, ends_in, fails_over}, Outcomes.no_memory_or_not}
use Rattle.meat_engine.proofs.Undisturbed.{fails, answered}
use Rattle.meat_engine.specs.Completeness.{IsComplete}
use Rattle.feed_maker.specs.MadeTables.{made, SameFolder}
use Rattle.journey_problem.proofs.SameFiles.{agree_all, own_problem}

-- what a journey comes to over known files: its question ends over a problem, or its files have a fault, or there was no memory
abbrev Comes : Limits → FileMap → JourneyModel → AskModel → Option Fault → Type 0
Comes limits files j a fault =
    EndsOver limits files j a (status_of fault)
    ⊎ (((f : Fault) × (fault ≡ Some f) × (f ≢ NoMemory) × IsProblemFault limits files j f) ⊎ (fault ≡ Some NoMemory))

comes_by : (limits : Limits) (files : FileMap) (j : JourneyModel) (a : AskModel) (fault : Fault) → fault ≢ NoMemory
    → EndsOver limits files j a (status_of (Some fault)) ⊎ IsProblemFault limits files j fault → Comes limits files j a (Some fault)
comes_by limits files j a fault m h1 = grind arith

module _ (limits : Limits) (files : FileMap) (words : List (List ℕ)) (report : Report) (old new : Option (List ℕ)) (Reports : List ℕ → Type 0) (j : JourneyModel) (a : AskModel) where
  fault_comes : (fault : Fault) → job_of words ≡ Ok (Ask j a) → Outcome (Some files) limits words report old new Reports (Some fault)
      → IsUndisturbed (Some fault) → (fault ≡ NoMemory) ⊎ (fault ≡ NoMemory → ⊥) → Comes limits files j a (Some fault)
  fault_comes fault h o calm (inl e) = inr (inr (ap Some e))
  fault_comes fault h o calm (inr m) =
      let f = fails (Some files) limits words report old new Reports fault o (λ e. calm.1 (ap Some e)) m (Ask j a) h in
      comes_by limits files j a fault m (fails_over limits files j a f.0 fault (λ i e. calm.0 i (ap Some e)) f.1)

  comes : (fault : Option Fault) → job_of words ≡ Ok (Ask j a) → Outcome (Some files) limits words report old new Reports fault
      → IsUndisturbed fault → Comes limits files j a fault
  comes None h o calm =
      let r = answered (Some files) limits words report old new Reports o (Ask j a) h in
      let w = r.1 in
      inl (w.0, w.2, answers_end limits files j.start w.0 a (findings_of report) r.0 w.3)
  comes (Some fault) h o calm = fault_comes fault h o calm (no_memory_or_not fault)

module _ (limits : Limits) (files : FileMap) (j : JourneyModel) (a : AskModel) (fault : Option Fault) (status : ℕ) (is : status ≡ status_of fault) (calm : IsUndisturbed fault) where
  problem_status : (p : Problem) → IsProblem limits files j p → Comes limits files j a fault → EndsAsk limits files j.start p a status ⊎ (status ≡ 9)
  problem_status p one (inl ends) = inl (subst (λ s. EndsAsk limits files j.start p a s) (sym is) (ends_in limits files j a p (status_of fault) one ends))
  problem_status p one (inr (inl (f, e, m, first))) = absurd (no_fault limits files j p f one (λ i k. calm.0 i (e ∙ ap Some k)) m first)
  problem_status p one (inr (inr e)) = inr (is ∙ ap status_of e)

  faultless_status : IsFaultless limits files j → Comes limits files j a fault → EndsOver limits files j a status ⊎ (status ≡ 9)
  faultless_status clean (inl ends) = inl (subst (EndsOver limits files j a) (sym is) ends)
  faultless_status clean (inr (inl (f, e, m, first))) = absurd (clean f (subst IsUndisturbed e calm) m first)
  faultless_status clean (inr (inr e)) = inr (is ∙ ap status_of e)

module _ (limits : Limits) (size : ℕ) where
  over_made : (files : FileMap) (p : Problem) → SameFolder (made size) files → IsProblem limits (made size) sample_journey p → IsProblem limits files sample_journey p
  over_made files p same one = own_problem limits (made size) files sample_journey p (agree_all _ (made size) files (λ path. sym (same path))) one

  sample_in : (p : Problem) (known : Option NamedParts) (fault : Fault) (files : FileMap) → IsProblem limits files sample_journey p → ((i : Input) → fault ≡ Read i → ⊥) → fault ≢ NoMemory
      → EndsOver limits files sample_journey (Plan sample_alpha) (status_of (Some fault)) ⊎ IsProblemFault limits files sample_journey fault
      → EndsBySafety p sample_journey.start (status_of (Some fault))
  sample_in p known fault files one never m (inl ends) = ends_in limits files sample_journey (Plan sample_alpha) p (status_of (Some fault)) one ends
  sample_in p known fault files one never m (inr first) = absurd (no_fault limits files sample_journey p fault one never m first)

  sample_fails : (p : Problem) (known : Option NamedParts) (fault : Fault) → IsProblem limits (made size) sample_journey p → ((i : Input) → fault ≡ Read i → ⊥) → fault ≢ NoMemory
      → FailsSample limits size known fault → EndsBySafety p sample_journey.start (status_of (Some fault))
  sample_fails p known fault one never m (read, (files, same, why)) =
      sample_in p known fault files (over_made files p same one) never m (fails_over limits files sample_journey (Plan sample_alpha) known fault never why)

module _ (contents : Option FileMap) (limits : Limits) (words : List (List ℕ)) (report : Report) (old new : Option (List ℕ)) (Reports : List ℕ → Type 0) (size : ℕ) (p : Problem) (status : ℕ) where
  sample_fault : (fault : Fault) → job_of words ≡ Ok (Sample size) → IsProblem limits (made size) sample_journey p → Outcome contents limits words report old new Reports (Some fault)
      → IsUndisturbed (Some fault) → status ≡ status_of (Some fault) → (fault ≡ NoMemory) ⊎ (fault ≡ NoMemory → ⊥) → EndsBySafety p sample_journey.start status ⊎ (status ≡ 9)
  sample_fault fault h one o calm is (inl e) = inr (is ∙ ap (λ (f : Fault). status_of (Some f)) e)
  sample_fault fault h one o calm is (inr m) =
      let f = fails contents limits words report old new Reports fault o (λ e. calm.1 (ap Some e)) m (Sample size) h in
      inl (subst (EndsBySafety p sample_journey.start) (sym is) (sample_fails limits size p f.0 fault one (λ i e. calm.0 i (ap Some e)) m f.1))

  sample_status : (fault : Option Fault) → job_of words ≡ Ok (Sample size) → IsProblem limits (made size) sample_journey p → Outcome contents limits words report old new Reports fault
      → IsUndisturbed fault → status ≡ status_of fault → EndsBySafety p sample_journey.start status ⊎ (status ≡ 9)
  sample_status None h one o calm is =
      let w = (answered contents limits words report old new Reports o (Sample size) h).1 in
      let v = w.2 in
      let ends : EndsBySafety v.0 sample_journey.start 0 = asked_ends v.0 sample_journey.start sample_alpha v.3.0 v.3.1 v.3.2 in
      inl (subst (EndsBySafety p sample_journey.start) (sym is)
      (ends_in limits w.0 sample_journey (Plan sample_alpha) p 0 (over_made limits size w.0 p w.1 one) (v.0, v.2, ends)))
  sample_status (Some fault) h one o calm is = sample_fault fault h one o calm is (no_memory_or_not fault)

module _ (contents : Option FileMap) (limits : Limits) (words : List (List ℕ)) (report : Report) (old new : Option (List ℕ)) (Reports : List ℕ → Type 0) (fault : Option Fault) (status : ℕ) where
  journey_comes : Outcome contents limits words report old new Reports fault → IsUndisturbed fault → (files : FileMap) (j : JourneyModel) (a : AskModel) → contents ≡ Some files
      → job_of words ≡ Ok (Ask j a) → Comes limits files j a fault
  journey_comes o calm files j a e h =
      comes limits files words report old new Reports j a fault h (subst (λ (t : Option FileMap). Outcome t limits words report old new Reports fault) e o) calm

  -- where no count rises, the status is that of the problem
  pub complete : Outcome contents limits words report old new Reports fault → status ≡ status_of fault → IsUndisturbed fault → IsComplete contents limits words status
  complete o is calm = record {
    problem = λ files j a p e h one. problem_status limits files j a fault status is calm p one (journey_comes o calm files j a e h);
    faultless = λ files j a e h clean. faultless_status limits files j a fault status is calm clean (journey_comes o calm files j a e h);
    sample = λ size p h one. sample_status contents limits words report old new Reports size p status fault h one o calm is;
  }
