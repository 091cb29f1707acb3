-- The values of the fields of a printed row.
use Rattle.std.specs.{Prelude.{ℕ, Bool, true, List, [], length, ◌==◌, ◌&&◌, nat_lt, slice_index_or, Option, Some, None}, List.position_from, Str.bytes_eq}
use Rattle.clock_text.specs.Digits.{whole_of}
use Rattle.plan_model.specs.Network.{NetworkModel}
use Rattle.printed_rows.specs.declared.TheConstants.{MOST_WHOLE}
pub use Rattle.text_index.specs.Numbers.{number_of}

-- a field of a record
abbrev pub field : List (List ℕ) → ℕ → List ℕ
field r k = slice_index_or r k []

-- whether it is a record of this kind, of this number of fields
abbrev pub is_kind : List ℕ → ℕ → List (List ℕ) → Bool
is_kind kind width r = (length r == width) && bytes_eq (field r 0) kind

-- a whole number: one to nine digits
abbrev pub whole_at : List ℕ → Option ℕ
whole_at text = whole_of MOST_WHOLE text

-- the connection of a run and step
abbrev pub connection_of : NetworkModel → ℕ → ℕ → Option ℕ
connection_of network run step = position_from (λ c. (c.run.0 == run) && (c.step == step)) 0 network.connections

-- whether two places and a moment are these
abbrev pub is_query : ℕ → ℕ → ℕ → ℕ → ℕ → ℕ → Bool
is_query from to moment source target start = (from == source) && ((to == target) && (moment == start))

-- whether it is greater than the one before, if there is one
abbrev pub rises : Option ℕ → ℕ → Bool
rises None x = true
rises (Some last) x = nat_lt last x
