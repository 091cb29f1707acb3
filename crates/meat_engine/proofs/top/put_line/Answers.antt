-- What a sink received.
use Rattle.meat_engine.proofs.Common.{ℕ, List, length, Option, Result, Ok, Err, sym, subst, arith, OnOk, OnErr, Appends, HasCause, IsLineWritten}
use Rattle.std.proofs.Math.Seq.{take-length}
use Rattle.file_ports.specs.Loading.{AppendsFront}
use Rattle.meat_engine.proofs.top.put_line.Goals as goal

-- the whole is a front
front_of : (old new : Option (List ℕ)) (bytes : List ℕ) → Appends old new bytes → AppendsFront old new bytes
front_of old new bytes all = (length bytes, omega arith, subst (λ (bs : List ℕ). Appends old new bs) (sym (take-length bytes)) all)

pub line_written : {T E : Type 0} (r : Result T E) (old new : Option (List ℕ)) (before now : ℕ) (bytes : List ℕ) → OnOk r (Appends old new bytes) → OnErr r (AppendsFront old new bytes)
    → HasCause before now r → IsLineWritten old new before now bytes
line_written (Ok x) old new before now bytes ok err cause = (front_of old new bytes ok, λ quiet. ok)
line_written (Err e) old new before now bytes ok err cause = (err, λ quiet. absurd (quiet cause.failed))

pub returns : goal.returns
returns g c = line_written c.put_all.result _ _ _ _ c.args.line.now c.put_all.ensures.ok c.put_all.ensures.err c.put_all.ensures.cause
