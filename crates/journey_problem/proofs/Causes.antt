-- The causes of a step after others.
use Rattle.journey_problem.proofs.Common.{arith, ◌≡◌, ℕ, List, Option, None, Result, Ok, sym, ap, IfErr, IsErrAnd, FilesState, causes-of, causes-idle, causes-silent, causes-next, Input, Fault}
use Rattle.journey_problem.proofs.Common.{Read, unread_input, MayBeUnread, HasCauses}
use Rattle.file_ports.specs.Counts.{HasCausesOf}

-- whose fault is not that a file cannot be read
not_read : {T : Type 0} (r : Result T Fault) → IfErr r (λ fault. unread_input fault ≡ None) → (input : Input) → IsErrAnd r (λ fault. fault ≡ Read input) → ⊥
not_read r quiet input is = grind arith

-- the file that cannot be read is this one
own_file : {T : Type 0} (r : Result T Fault) (mine file : Input) → IfErr r (MayBeUnread mine) → IsErrAnd r (λ fault. fault ≡ Read file) → file ≡ mine
own_file r mine file own is = grind arith

module _ {path : Input → Option (List ℕ)} {before now : FilesState} where
  -- a step that reads nothing
  pub causes-quiet : {T U : Type 0} (x : T) (r : Result U Fault) → HasCauses path before now (Ok x) → IfErr r (λ fault. unread_input fault ≡ None)
      → HasCauses path before now r
  causes-quiet x r h quiet = causes-silent (λ input is. is) (not_read r quiet) h

  -- a file that is one of some
  pub causes-own : {T : Type 0} (mine : Input) (r : Result T Fault) → HasCauses (λ other. path mine) before now r → IfErr r (MayBeUnread mine)
      → HasCauses path before now r
  causes-own mine r h own = causes-of (λ input is. (input, is, ap path (sym (own_file r mine input own is)))) (λ input is. (input, is)) h

  -- a file after others, of which none is unreadable
  pub causes-then : {T K : Type 0} {U : K → Type 0} {other : K → Option (List ℕ)} {middle : FilesState} (mine : Input) (r : Result T Fault)
      → ((k : K) → U k → ⊥) → HasCausesOf U other before middle → HasCauses (λ other. path mine) middle now r → IfErr r (MayBeUnread mine) → HasCauses path before now r
  causes-then mine r none g h own = causes-own mine r (causes-next none g h) own

-- a step that reads no file
pub causes-none : {T : Type 0} {path : Input → Option (List ℕ)} {state : FilesState} (r : Result T Fault) → IfErr r (λ fault. unread_input fault ≡ None)
    → HasCauses path state state r
causes-none r quiet = causes-idle (not_read r quiet)
