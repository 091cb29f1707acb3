-- A cut file with a delay file has one problem.
use Rattle.journey_problem.proofs.Common.{◌≡◌, ℕ, refl, sym, ap, ◌∙◌, subst, List, Option, Some, Result, Ok, slice_get, FileMap, Limits, NameLists, AreDistinct, DelayLists, delays_of}
use Rattle.journey_problem.proofs.{Common.{IsCutNetwork, arith, one_number, JourneyModel, source_or_target, Problem, AreDelaysOf, IsCutProblem, IsNamed}, OneCutNetwork.{one_network, same_names}}
use Rattle.journey_problem.proofs.{OneCutNetwork.{runs_apart, places_apart}, SameProblem.same_problem}

pub same_ok : {A E : Type 0} (r : Result A E) (x y : A) → r ≡ Ok x → r ≡ Ok y → x ≡ y
same_ok r x y h k = cc

pub delays_of_one : (limits : Limits) (file : Option (List ℕ)) (c d : DelayLists) → AreDelaysOf limits file c → AreDelaysOf limits file d → c ≡ d
delays_of_one limits file c d (t, e, a) (u, f, b) = a ∙ ap delays_of (same_ok _ t u e f) ∙ sym b

one_end : (names : List (List ℕ)) → AreDistinct names → (a b : ℕ) (x : List ℕ) → slice_get names a ≡ Some x → slice_get names b ≡ Some x → a ≡ b
one_end names apart a b x h k = one_number names apart a b x h k

-- journeys with one delay file, over one cut file
module _ (limits : Limits) (files : FileMap) (path : List ℕ) (j i : JourneyModel) (p q : Problem) (delays : i.delays ≡ j.delays)
    (a : IsCutProblem limits files path j p) (b : IsCutProblem limits files path i q) where
  first : IsCutNetwork a.table a.lists p.timetable.network p.timetable.names
  first = a.timetable.is_network

  other : IsCutNetwork a.table a.lists q.timetable.network q.timetable.names
  other = grind (arith, same_ok, delays_of_one)

  pub one_cut_names : p.timetable.names ≡ q.timetable.names
  one_cut_names = sym (same_names a.table a.lists a.lists q.timetable.network p.timetable.network q.timetable.names p.timetable.names other first)

  pub one_cut_network : p.timetable.network ≡ q.timetable.network
  one_cut_network =
      let runs = runs_apart a.table a.lists p.timetable.network p.timetable.names first in
      let places = places_apart a.table a.lists p.timetable.network p.timetable.names first in
      one_network a.table a.lists p.timetable.names runs places p.timetable.network q.timetable.network first
      (subst (λ (ns : NameLists). IsCutNetwork a.table a.lists q.timetable.network ns) (sym one_cut_names) other) p.timetable.valid q.timetable.valid

  -- a name has one place
  pub one_cut_stop : (name same : List ℕ) → same ≡ name → (x y : ℕ) → IsNamed p.timetable.names x name → IsNamed q.timetable.names y same → x ≡ y
  one_cut_stop name same is x y here there =
      one_end p.timetable.names.places (places_apart a.table a.lists p.timetable.network p.timetable.names first) x y name here
      (subst (λ (ns : NameLists). slice_get ns.places y ≡ Some name) (sym one_cut_names) (subst (λ (n : List ℕ). slice_get q.timetable.names.places y ≡ Some n) is there))

-- a cut file and a delay file have one problem of a journey
pub one_cut_problem : (limits : Limits) (files : FileMap) (path : List ℕ) (j : JourneyModel) (p q : Problem)
    → IsCutProblem limits files path j p → IsCutProblem limits files path j q → p ≡ q
one_cut_problem limits files path j p q a b =
    let source = one_cut_stop limits files path j j p q refl a b (source_or_target j) (source_or_target j) refl p.source.0 q.source.0 a.timetable.source b.timetable.source in
    let target = one_cut_stop limits files path j j p q refl a b j.to j.to refl p.target.0 q.target.0 a.timetable.target b.timetable.target in
    same_problem p q (one_cut_network limits files path j j p q refl a b) (one_cut_names limits files path j j p q refl a b) (λ i. record { 0 = source i }) (λ i. record { 0 = target i })
