use Rattle.lower_proof.proofs.Common.{◌≡◌, ◌≤◌, ℕ, List, Option, Vec, length, arith, subst, is_some, count_by, Global, count_by-le-length, AllFit, IsProofRead, ReadsBack, certificate_text}
use Rattle.lower_proof.proofs.ReadBack.{IfOk-with, present, reads_back}
use Rattle.lower_proof.proofs.printer.write_text.Goals as goal

pub returns-clause-text : goal.returns-clause-text
returns-clause-text c = rw (c.in_ok-text.ensures, c.new.ensures.items, c.as_slice.ensures) at c.put_values.ensures.text

pub returns-clause-reads_back : goal.returns-clause-reads_back
returns-clause-reads_back c =
    let n = c.args.network.now in
    let q = c.args.query.now in
    let values = c.args.proof.now.values in
    let valid = c.places-2.ensures.valid in
    let few : count_by is_some values ≤ 999999999 = omega (arith, count_by-le-length (is_some {T = ℕ}) values, c.requires.as_many, valid.few_connections) in
    IfOk-with c.put_values.result (λ (text : Vec ℕ Global). text.items ≡ certificate_text n c.args.names.now q values)
    (λ (text : Vec ℕ Global). q.start.0 ≤ q.deadline.0 → ReadsBack n c.args.names.now q values text.items) _
    (λ text is all in_time result read.
    let fit = subst (λ (list : List (Option ℕ)). AllFit (length list) list) c.as_slice.ensures all in
    reads_back n c.args.names.now valid c.requires.names c.places.ensures.names q values c.requires.source c.requires.target c.requires.start c.requires.deadline in_time few
    c.requires.as_many (λ x v at. fit x v (present values x v at) at) result
    (subst (λ (bytes : List ℕ). IsProofRead n c.args.names.now q.source.0 q.target.0 q.start.0 bytes result) is read))
    (returns-clause-text c) c.put_values.ensures.fit
