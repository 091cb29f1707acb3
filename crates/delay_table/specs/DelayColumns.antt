-- The indexes of the columns of a delay file.
use Rattle.std.specs.Prelude.{◌≡◌, ℕ, List}
use Rattle.csv_rows.specs.{declared.columns.Column.TheVariants.{Class, Delay, Weight, RouteId, Hour}, Tables.index_of}
use Rattle.delay_table.specs.declared.lines.Columns.{Columns}

pub record AreDelayColumns (t : List (List (List ℕ))) (c : Columns) : Type 0 where
  pub class : c.class ≡ index_of Class t
  pub delay : c.delay ≡ index_of Delay t
  pub weight : c.weight ≡ index_of Weight t
  pub route : c.route ≡ index_of RouteId t
  pub hour : c.hour ≡ index_of Hour t
