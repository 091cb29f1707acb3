-- What is found first in a list is what is picked.
use Rattle.plan_graph.proofs.Common.{arith, ◌≡◌, ℕ, Bool, List, [], ◌∷◌, Option, Some, None, refl, ◌∙◌, ap, nat_le, find, if◌then◌else◌, Leg, GraphRow, Ride, PlaceTable, pick_row, rows_after}
use Rattle.plan_graph.proofs.Common.{rows_of_place, is_ride_of, is_table_of}

-- F looks for the first that passes, and gives what g makes of it, and `miss` where none does
module _ {X Y : Type 0} (F : List X → Y) (p : X → Bool) (g : X → Y) (miss : Y) (none : F [] ≡ miss) (step : (x : X) (xs : List X) → F (x ∷ xs) ≡ (if p x then g x else F xs)) where
  abbrev made : Option X → Y
  made None = miss
  made (Some x) = g x

  found : (xs : List X) → F xs ≡ made (find p xs)
  found [] = none
  found (x ∷ xs) = grind (arith, made, found xs)

  found_is : (xs : List X) (o : Option X) → find p xs ≡ o → F xs ≡ made o
  found_is xs o is = found xs ∙ ap made is

-- the first row that is not before a moment
pub picks_first : (rows : List GraphRow) (x : ℕ) (row : GraphRow) → find (λ r. nat_le x r.by.0) rows ≡ Some row → pick_row rows x ≡ Some row.leg
picks_first rows x row = found_is (λ rs. pick_row rs x) (λ r. nat_le x r.by.0) (λ r. Some r.leg) None refl (λ r rs. refl) rows (Some row)

pub picks_none : (rows : List GraphRow) (x : ℕ) → find (λ r. nat_le x r.by.0) rows ≡ None → pick_row rows x ≡ None
picks_none rows x = found_is (λ rs. pick_row rs x) (λ r. nat_le x r.by.0) (λ r. Some r.leg) None refl (λ r rs. refl) rows None

-- the rows of the first ride of a leg
pub rows_of_ride : (rides : List Ride) (leg : Leg) (r : Ride) → find (is_ride_of leg) rides ≡ Some r → rows_after rides leg ≡ r.after
rows_of_ride rides leg r = found_is (λ rs. rows_after rs leg) (is_ride_of leg) (λ r. r.after) [] refl (λ r rs. refl) rides (Some r)

pub rows_of_none : (rides : List Ride) (leg : Leg) → find (is_ride_of leg) rides ≡ None → rows_after rides leg ≡ []
rows_of_none rides leg = found_is (λ rs. rows_after rs leg) (is_ride_of leg) (λ r. r.after) [] refl (λ r rs. refl) rides None

-- the rows of the first table of a place
pub rows_of_table : (tables : List PlaceTable) (place : ℕ) (table : PlaceTable) → find (is_table_of place) tables ≡ Some table → rows_of_place tables place ≡ table.rows
rows_of_table tables place table = found_is (λ ts. rows_of_place ts place) (is_table_of place) (λ t. t.rows) [] refl (λ t ts. refl) tables (Some table)

pub rows_of_no_table : (tables : List PlaceTable) (place : ℕ) → find (is_table_of place) tables ≡ None → rows_of_place tables place ≡ []
rows_of_no_table tables place = found_is (λ ts. rows_of_place ts place) (is_table_of place) (λ t. t.rows) [] refl (λ t ts. refl) tables None
