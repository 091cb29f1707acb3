-- What a connection of a network has can be printed.
use Rattle.printed_rows.proofs.Common.{◌≡◌, ℕ, ◌<◌, ◌≤◌, length, ap, arith, Connection, NetworkModel, NameLists, NamesFit, count, connection, IsValid, last_printable}

pub dep_printable : (n : NetworkModel) (i : ℕ) (x : Connection) → IsValid n → i < count n → x ≡ connection n i → x.dep.0 ≤ last_printable
dep_printable n i x v l e =
    grind arith

pub arr_printable : (n : NetworkModel) (i : ℕ) (x : Connection) → IsValid n → i < count n → x ≡ connection n i → x.arr.0 ≤ last_printable
arr_printable n i x v l e =
    grind arith

pub run_named : (names : NameLists) (n : NetworkModel) (i : ℕ) (x : Connection) → NamesFit names n → i < count n → x ≡ connection n i
    → x.run.0 < length names.runs
run_named names n i x fit l e = omega (arith, ap (λ (z : Connection). z.run.0) e, fit.below i l)

pub from_named : (names : NameLists) (n : NetworkModel) (i : ℕ) (x : Connection) → NamesFit names n → IsValid n → i < count n → x ≡ connection n i
    → x.from.0 < length names.places
from_named names n i x fit v l e =
    grind arith

pub to_named : (names : NameLists) (n : NetworkModel) (i : ℕ) (x : Connection) → NamesFit names n → IsValid n → i < count n → x ≡ connection n i
    → x.to.0 < length names.places
to_named names n i x fit v l e =
    grind arith
