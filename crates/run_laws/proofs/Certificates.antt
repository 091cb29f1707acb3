-- The answers about a certificate, and about a certificate file, follow from the problem and the files.
use Rattle.run_laws.proofs.Common.{arith, ℕ, List, Some, FileMap, Limits, Moment, Query, LowerBounds, IsLeast-unique, Problem, Findings, IsHeld, InCertificateFile, InQuery, AnswersCertify}
use Rattle.run_laws.proofs.Common.{IsOneAnswer, ◌≡◌, zero, suc, ◌+◌, ◌<◌, ◌≤◌, [], ◌∷◌, Option, None, IsTrue, sym, ◌∙◌, ext_get_or, cases_Bool, both_ways, Outcome, NetworkModel, IsValid, count}
use Rattle.run_laws.proofs.{Common.{connection, dep_of, IsLeg, IsBoardable, bound_of, Offers, IsLeastAt, AreLeast, IsVia, IsTight}, Queries.in_one_query, OneFile.in_certificate}
use Rattle.plan_model.proofs.{Boarding.boards_later, Bounds.forward}
use Rattle.lower_proof.proofs.{Departures.{after, after_less, after_boards, after_le}, Leasts.{least_same, IsLeastOf-unique}}

-- ---- a network and a query have one tight certificate

module _ (n : NetworkModel) (valid : IsValid n) (q : Query) where
  -- both have the same values at the connections after whose departure fewer than this number depart
  abbrev Agree : (values others : List (Option ℕ)) → ℕ → Type 0
  Agree values others m = (c : ℕ) → c < count n → after n (dep_of n c) < m → bound_of values c ≡ bound_of others c

  module _ (values others : List (Option ℕ)) (m : ℕ) (agree : Agree values others m) (p x : ℕ) (few : after n x ≤ m) where
    -- what the one offers after an arrival the other does
    offered : (v : ℕ) → ((c : ℕ) × Offers n values (IsBoardable n p x) c v) → (c : ℕ) × Offers n others (IsBoardable n p x) c v
    offered v (c, offer) = grind (arith, after_boards n x c offer.there (boards_later n valid p x c offer.there offer.boards), boards_later n valid p x c offer.there offer.boards)

  module _ (values others : List (Option ℕ)) (m : ℕ) (agree : Agree values others m) where
    back : Agree others values m
    back c there few = sym (agree c there few)

    least_at : (p x v : ℕ) → after n x ≤ m → IsLeastAt n q values p x (Some v) → IsLeastAt n q others p x (Some v)
    least_at p x v few least = record {
      at_target = least.at_target;
      elsewhere = λ away. least_same (λ w. (c : ℕ) × Offers n values (IsBoardable n p x) c w) (λ w. (c : ℕ) × Offers n others (IsBoardable n p x) c w)
          (offered values others m agree p x few) (Some v) (offered others values m back p x few) (least.elsewhere away);
    }

    are_least : (p arrival : ℕ) → after n arrival ≤ m → (row : List Outcome) (vs : List ℕ) → AreLeast n q values p arrival row vs → AreLeast n q others p arrival row vs
    are_least p arrival few [] [] all = tt
    are_least p arrival few (o ∷ row) (v ∷ vs) all =
        let less = after_less n arrival (arrival + o.delay) (omega arith) in
        (least_at p (arrival + o.delay) v (omega (arith, less, few)) all.0, are_least p arrival few row vs all.1)
    are_least p arrival few _ _ all = absurd all

    via : (c : ℕ) → after n (dep_of n c) ≤ m → (v : ℕ) → ((j : ℕ) × IsLeg n c j × IsVia n q values j v) → (j : ℕ) × IsLeg n c j × IsVia n q others j v
    via c few v (j, leg, is) = grind (arith, after_less, forward, are_least)

  module _ (values others : List (Option ℕ)) (tight : IsTight n q values) (tights : IsTight n q others) where
    same_boarded : (m : ℕ) → Agree values others m → (c : ℕ) → c < count n → after n (dep_of n c) ≤ m → IsTrue (connection n c).can_board → bound_of values c ≡ bound_of others c
    same_boarded m agree c there few board =
        let ways : List (Option ℕ) → ℕ → Type 0 = λ bounds v. (j : ℕ) × IsLeg n c j × IsVia n q bounds j v in
        IsLeastOf-unique (ways others) (bound_of values c) (bound_of others c)
        (least_same (ways values) (ways others) (via values others m agree c few) (bound_of values c) (via others values m (back values others m agree) c few)
        (tight.boarded c there board))
        (tights.boarded c there board)

    agree_by : (m : ℕ) → Agree values others m
    agree_by zero c there few = absurd (omega (arith, few))
    agree_by (suc m) c there few = grind (arith, cases_Bool, same_boarded, both_ways, agree_by m)

    pub one_tight : values ≡ others
    one_tight = grind (arith, ext_get_or None values others (tight.as_many ∙ sym tights.as_many), agree_by (count n + 1), after_le n)

module _ (p : Problem) (found others : Findings) (text other : List ℕ) where
  abbrev One : Type 0
  One = IsOneAnswer found others text other

  one_certified : (q : Query) (w : Moment) → AnswersCertify p found text q w → AnswersCertify p others other q w → One
  one_certified q w reports reported = grind (arith, one_tight p.timetable.network p.timetable.valid q reports.proof.values reported.proof.values reports.tight reported.tight)

  pub one_certificate_answer : (start alpha : ℕ) → InQuery p start alpha (AnswersCertify p found text)
      → InQuery p start alpha (AnswersCertify p others other) → One
  one_certificate_answer start alpha (q, w, is, reports) (r, v, also, reported) =
      one_certified q w reports (in_one_query p start alpha (AnswersCertify p others other) q r w v is also reported)

  one_held : (q : Query) (certificate : LowerBounds) → IsHeld p found text q certificate → IsHeld p others other q certificate → One
  one_held q certificate reports reported = grind (arith, IsLeast-unique)

  pub one_check_answer : (files : FileMap) (limits : Limits) (start : ℕ) (path : List ℕ) → InCertificateFile (Some files) limits start path p (IsHeld p found text)
      → InCertificateFile (Some files) limits start path p (IsHeld p others other) → One
  one_check_answer files limits start path = in_certificate p files limits start path (IsHeld p found text) (IsHeld p others other) One one_held
