-- The keys of an index, and the numbers of names.
use Rattle.std.specs.{Prelude.{ℕ, List, map, if◌then◌else◌, Option, None}, Borrow.Bor, List.position_from, Str.{bytes_eq, is_utf8}}

-- the bytes of each
abbrev pub key_texts : List (Bor (List ℕ)) → List (List ℕ)
key_texts ks = map (λ k. k.now) ks

-- the number of a name; none where it is not among the names
abbrev pub number_of : List (List ℕ) → List ℕ → Option ℕ
number_of names text = if is_utf8 text then position_from (λ name. bytes_eq name text) 0 names else None
