-- Fields, and the rows that they make.
use Rattle.csv_rows.proofs.Common.{◌≡◌, ℕ, ◌<◌, Bool, List, [], length, slice_index_or, Option, Some, None, if◌then◌else◌, sym, ap, ◌∙◌, arith, bytes_eq, IfSome, option_map, cases_Bool}
use Rattle.csv_rows.proofs.{Common.{same_Some, is_utf8, option_or, name_in, number_in}, FirstLemmas.index_by-some}

-- the first of two faults
pub or_first : {F : Type 0} (a b : Option F) (f : F) → a ≡ Some f → option_or a b ≡ Some f
or_first a b f h = ap (λ x. option_or x b) h

pub or_then : {F : Type 0} (a b o : Option F) → a ≡ None → b ≡ o → option_or a b ≡ o
or_then a b o none h = ap (λ x. option_or x b) none ∙ h

-- a name is its text
pub name_is : (text x : List ℕ) → name_in text ≡ Some x → name_in text ≡ Some text
name_is text x h = grind (arith, is_utf8)

pub name_text : (text x : List ℕ) → name_in text ≡ Some x → x ≡ text
name_text text x h = let e : Some x ≡ Some text = sym h ∙ name_is text x h in cc

-- what holds of each value of a field, holds of the one that is there, where it is optional
pub mapped-each : {A : Type 0} (P : A → Type 0) (o : Option A) → ((x : A) → o ≡ Some x → P x) → (r : Option A) → option_map Some o ≡ Some r → IfSome r P
mapped-each P o h r e = grind (arith, same_Some)

pub optional-each : {A : Type 0} (P : A → Type 0) (none : Bool) (o : Option A) → ((x : A) → o ≡ Some x → P x) → (r : Option A)
    → (if none then Some None else option_map Some o) ≡ Some r → IfSome r P
optional-each P none o h r e = grind (arith, cases_Bool none, same_Some, mapped-each)

-- the index of a name is inside
pub number_inside : (name : List ℕ) (names : List (List ℕ)) (k : ℕ) → number_in name names ≡ Some k → k < length names
unfolding number_in
number_inside name names k h = (index_by-some (λ i. bytes_eq (slice_index_or names i []) name) (length names) k h).0
