-- The open file, by its index.
use Rattle.file_ports.proofs.Common.{◌≡◌, ◌⊎◌, subst, ◌<◌, ℕ, ◌+◌, ◌-◌, ◌≤◌, min, List, [], ◌∷◌, ◌++◌, Bool, length, refl, ap, sym, ◌∙◌, map, drop, take, get_or, arith, position-Some, take_rest}
use Rattle.file_ports.proofs.{Common.{drop_min, drop-drop, take-append-drop, bytes_eq-Decides, common_steps, Consumes, IsAtEnd, Named, value_at, FileMap, file_at}, NamedLemmas.at_path}
use Rattle.file_ports.proofs.NamedLemmas.{position_gives, position_gives_none}
use Rattle.std.specs.Prelude.{Option, None, Some, IsSome, IfSome, is_some, if◌then◌else◌, bytes_eq, string_bytes, position, option_map, option_and_then, slice_get}
use Rattle.std.proofs.lemmas.Option.{slice_get-get_or, slice_get_cases}

-- the entries as files
abbrev pub pairs : {T : Type 0} → (T → List ℕ) → List (Named T) → FileMap
pairs bytes es = map (λ e. (string_bytes e.path, bytes e.value)) es

file_step : {T : Type 0} (bytes : T → List ℕ) (b : Bool) (v : T) (fs : Option (List ℕ)) (es : Option T) → fs ≡ option_map bytes es
    → if◌then◌else◌ b (Some (bytes v)) fs ≡ option_map bytes (if◌then◌else◌ b (Some v) es)
file_step bytes b v fs es h = grind arith

pub file_of : {T : Type 0} (bytes : T → List ℕ) (es : List (Named T)) (q : List ℕ) → file_at (pairs bytes es) q ≡ option_map bytes (value_at es q)
file_of bytes [] q = refl
file_of bytes (e ∷ es) q = file_step bytes (bytes_eq (string_bytes e.path) q) e.value (file_at (pairs bytes es) q) (value_at es q) (file_of bytes es q)

-- what is at the index of a path
pub record Entry {T : Type 0} (es : List (Named T)) (q : List ℕ) (i : ℕ) (x : Named T) : Type 0 where
  pub here : slice_get es i ≡ Some x
  pub value : value_at es q ≡ Some x.value
  pub path : string_bytes x.path ≡ q

pub entry : {T : Type 0} (es : List (Named T)) (q : List ℕ) (i : ℕ) → position (at_path q) es ≡ Some i → (x : Named T) × Entry es q i x
entry [] q i h = absurd (let k : Some i ≡ None = sym h in cc)
entry (e ∷ es) q i h =
    let facts = position-Some (at_path q) (e ∷ es) i e h in (
      get_or (e ∷ es) i e,
      record {
        here = slice_get-get_or (e ∷ es) i e facts.0;
        value = (position_gives (e ∷ es) q i e h).1;
        path = (bytes_eq-Decides (string_bytes (get_or (e ∷ es) i e).path) q).0 facts.1;
      },
    )

-- the path of the open file
abbrev pub open_in : {T : Type 0} → List (Named T) → Option ℕ → Option (List ℕ)
open_in es current = option_and_then (λ k. option_map (λ e. string_bytes e.path) (slice_get es k)) current

-- what remains of the open file from this offset on
abbrev pub remaining_in : {T : Type 0} → (T → List ℕ) → List (Named T) → ℕ → Option ℕ → Option (List ℕ)
remaining_in bytes es offset current = option_and_then (λ k. option_map (λ e. drop offset (bytes e.value)) (slice_get es k)) current

-- `open_file` answers Present
pub opened_remaining : {T : Type 0} (bytes : T → List ℕ) (es : List (Named T)) (q : List ℕ) (current : Option ℕ) (i : ℕ) → position (at_path q) es ≡ current → current ≡ Some i
    → (option_and_then (λ k. option_map (λ (e : Named T). drop 0 (bytes e.value)) (slice_get es k)) current ≡ file_at (pairs bytes es) q)
    × IsSome (option_and_then (λ k. option_map (λ (e : Named T). drop 0 (bytes e.value)) (slice_get es k)) current)
opened_remaining {T} bytes es q current i p h =
    let x = entry es q i (p ∙ h) in
    grind (arith, file_of)

pub opened_path : {T : Type 0} (reported : Type 0) (es : List (Named T)) (q : List ℕ) (current : Option ℕ) (i : ℕ) → position (at_path q) es ≡ current → current ≡ Some i
    → IsSome (open_in es current) × (reported → open_in es current ≡ Some q)
opened_path {T} reported es q current i p h =
    let x = entry es q i (p ∙ h) in
    grind arith

-- `open_file` answers Absent
pub absent : {T : Type 0} (bytes : T → List ℕ) (es : List (Named T)) (q : List ℕ) (current : Option ℕ) → position (at_path q) es ≡ current → current ≡ None
    → file_at (pairs bytes es) q ≡ None
absent bytes es q current p h = file_of bytes es q ∙ ap (λ o. option_map bytes o) (position_gives_none es q (p ∙ h))

-- the open entry, as it was read
pub record Holds {T : Type 0} (es : List (Named T)) (current : Option ℕ) (i : ℕ) (x : Named T) : Type 0 where
  pub current_is : current ≡ Some i
  pub in_range : i < length es
  pub item : x ≡ get_or es i x

held_at : {T : Type 0} (es : List (Named T)) (current : Option ℕ) (i : ℕ) (x : Named T) → Holds es current i x → slice_get es i ≡ Some x
held_at es current i x h = slice_get-get_or es i x h.in_range ∙ ap Some (sym h.item)

pub open_remaining : {T : Type 0} (bytes : T → List ℕ) (es : List (Named T)) (offset : ℕ) (current : Option ℕ) (i : ℕ) (x : Named T) → Holds es current i x
    → remaining_in bytes es offset current ≡ Some (drop offset (bytes x.value))
open_remaining {T} bytes es offset current i x h = grind (arith, held_at)

range_cases : {T : Type 0} (es : List (Named T)) (i : ℕ) (o : Option (Named T))
    → ((x : Named T) × (i < length es) × (o ≡ Some x) × (get_or es i x ≡ x)) ⊎ ((length es ≤ i) × (o ≡ None))
    → IsSome (option_map (λ (e : Named T). string_bytes e.path) o) → i < length es
range_cases es i o h1 s = grind arith

current_in_range : {T : Type 0} (es : List (Named T)) (current : Option ℕ) (i : ℕ) → current ≡ Some i → IsSome (open_in es current) → i < length es
current_in_range es current i h s = range_cases es i (slice_get es i) (slice_get_cases es i).1 (ap (λ o. is_some (open_in es o)) (sym h) ∙ s)

pub holds : {T : Type 0} (es : List (Named T)) (current : Option ℕ) (i : ℕ) (x : Named T) → current ≡ Some i → IsSome (open_in es current) → x ≡ get_or es i x → Holds es current i x
holds es current i x h s e = record { current_is = h; in_range = current_in_range es current i h s; item = e }

pub if_some_at : {A : Type 0} (o : Option A) (x : A) (P : A → Type 0) → o ≡ Some x → P x → IfSome o P
if_some_at o x P e p = subst (λ (z : Option _). IfSome z P) (sym e) p

-- the rest that a slice from this offset on lends, of the list that was lent
rest_is : (xs ys : List ℕ) (offset from k : ℕ) → ys ≡ xs → from ≡ min offset k → k ≡ length ys → take (length ys - from) (drop from ys) ≡ drop offset xs
rest_is xs ys offset from k e f l = grind (arith, take_rest, drop_min)

-- a read gives as much as it may
pub read_count : (xs ys : List ℕ) (offset from k n piece room : ℕ) → ys ≡ xs → from ≡ min offset k → k ≡ length ys
    → n ≡ min (min piece room) (length (take (length ys - from) (drop from ys))) → n ≡ min (min piece room) (length (drop offset xs))
read_count xs ys offset from k n piece room e f l h = h ∙ ap (λ zs. min (min piece room) (length zs)) (rest_is xs ys offset from k e f l)

after : (xs ys : List ℕ) (offset from k n : ℕ) → ys ≡ xs → from ≡ min offset k → k ≡ length ys → drop n (drop offset xs) ≡ drop (from + n) xs
after xs ys offset from k n e f l =
    ap (λ zs. drop n zs) (sym (rest_is xs ys offset from k e f l) ∙ take_rest ys from) ∙ drop-drop n from ys ∙ ap (λ zs. drop (from + n) zs) e

-- it moves a front of what remains
pub moved : (xs ys buf : List ℕ) (offset from k n : ℕ) → ys ≡ xs → from ≡ min offset k → k ≡ length ys
    → take n buf ≡ take n (take (length ys - from) (drop from ys)) → drop offset xs ≡ take n buf ++ drop (from + n) xs
moved xs ys buf offset from k n e f l t =
    let front : take n buf ≡ take n (drop offset xs) = t ∙ ap (λ zs. take n zs) (rest_is xs ys offset from k e f l) in
    sym (take-append-drop n (drop offset xs)) ∙ ap (λ zs. zs ++ drop n (drop offset xs)) (sym front) ∙ ap (λ zs. take n buf ++ zs) (after xs ys offset from k n e f l)

-- and it is nothing only where nothing remains
pub at_end : (xs ys : List ℕ) (offset from k n piece room : ℕ) → ys ≡ xs → from ≡ min offset k → k ≡ length ys
    → n ≡ min (min piece room) (length (take (length ys - from) (drop from ys))) → 0 < piece → 0 < room → n ≡ 0 → drop (from + n) xs ≡ []
at_end xs ys offset from k n piece room e f l h p r z = grind (arith, read_count, common_steps)

pub consumes_known : (a b : Option (List ℕ)) (xs ys bs : List ℕ) → a ≡ Some xs → b ≡ Some ys → xs ≡ bs ++ ys → Consumes a b bs
consumes_known a b xs ys bs p q h = rw (p, q) h

pub end_known : (b : Option (List ℕ)) (ys : List ℕ) → b ≡ Some ys → ys ≡ [] → IsAtEnd b
end_known b ys q h = rw q h

put_cases : {T : Type 0} (bytes : T → List ℕ) (b : Bool) (v : T) (o : Option T) (f : Option (List ℕ)) (new : List ℕ) → f ≡ option_map bytes o → bytes v ≡ new
    → option_map bytes (if◌then◌else◌ b (Some v) o) ≡ if◌then◌else◌ b (Some new) f
put_cases bytes b v o f new h k = grind arith

-- a file put at a path
pub put_file : {T : Type 0} (bytes : T → List ℕ) (old now : List (Named T)) (q p : List ℕ) (v : T) (new : List ℕ) → bytes v ≡ new
    → value_at now p ≡ if◌then◌else◌ (bytes_eq q p) (Some v) (value_at old p)
    → file_at (pairs bytes now) p ≡ if◌then◌else◌ (bytes_eq q p) (Some new) (file_at (pairs bytes old) p)
put_file bytes old now q p v new k h = grind (arith, file_of, put_cases)
