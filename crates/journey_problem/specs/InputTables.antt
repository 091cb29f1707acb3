-- The tables of the cut file and of the delay file, and the first fault of each.
use Rattle.std.specs.Prelude.{◌≡◌, ℕ, ◌≤◌, List, Option, None, Some, Result, Ok, Err, MatchResult, option_map}
use Rattle.csv_rows.specs.{declared.{columns.Column.TheVariants.{Run, Class}, limits.Limits.Limits}, Limits.standard, Tables.table_of}
use Rattle.cut_file.specs.{declared.faults.CutFault.CutFault, Faults.first_cut_fault, Read.{Cut as CutParts, IsCutRead}}
use Rattle.delay_table.specs.{DelayLists.DelayLists, Delays.{delays_of, first_delay_fault}}
use Rattle.journey_model.specs.declared.faults.{Input.Input, LimitKind.TheVariants.CutRows, Fault.{Fault, TheVariants.{Cut, Delays, Limit, NoMemory}}}
use Rattle.journey_model.specs.Faults.{IsFirst}
use Rattle.journey_problem.specs.Files.{Records, records_of}
use Rattle.cut_file.specs.declared.faults.CutFault.TheVariants as cut
use Rattle.delay_table.specs.declared.faults.DelayFault.TheVariants as delay
use Rattle.journey_model.specs.declared.faults.Input.TheVariants as input

-- a fault of the cut file as one of the run
abbrev pub cut_as : CutFault → Fault
cut_as (cut.MissingColumn column) = Cut (cut.MissingColumn column)
cut_as (cut.TooManyRows count) = Limit CutRows count
cut_as (cut.BadField line column) = Cut (cut.BadField line column)
cut_as (cut.DuplicateStep line) = Cut (cut.DuplicateStep line)
cut_as (cut.Backward line) = Cut (cut.Backward line)
cut_as (cut.Broken line) = Cut (cut.Broken line)
cut_as cut.NoMemory = NoMemory

-- the first fault of a table that was loaded, or that of its loading
abbrev pub fault_in : (Records → Option Fault) → Result Records Fault → Option Fault
fault_in first (Err fault) = Some fault
fault_in first (Ok table) = first table

-- the table of the cut file; one with no record has no first column
abbrev pub cut_records : Limits → Option Input → Option (List ℕ) → Result Records Fault
cut_records limits unread file = records_of limits.bytes input.Cut (Cut (cut.MissingColumn Run)) unread file

-- the first fault of the cut file
abbrev pub cut_fault : Limits → Option (List ℕ) → Option Input → Option Fault
cut_fault limits file unread = fault_in (λ table. option_map cut_as (first_cut_fault table limits.cut_rows)) (cut_records limits unread file)

-- it is the table of a cut file with no fault
pub record IsCutTable (table : Records) : Type 0 where
  pub text : List ℕ
  pub limit : ℕ
  pub is_table : table ≡ table_of text
  pub few : limit ≤ standard.cut_rows
  pub none : first_cut_fault table limit ≡ None

-- these are the parts of the cut file
abbrev pub IsCutOf : Limits → Option (List ℕ) → CutParts → Type 0
IsCutOf limits file parts =
    (table : Records) × (cut_records limits None file ≡ Ok table) × IsCutRead table parts.runs parts.places parts.rows parts.keys

-- the cut file has no fault, and these are its parts
abbrev pub HasCut : Limits → Option (List ℕ) → CutParts → Type 0
HasCut limits file parts = (cut_fault limits file None ≡ None) × IsCutOf limits file parts

-- these are the parts of some cut file with no fault
abbrev pub IsCutOfSome : CutParts → Type 0
IsCutOfSome parts = (table : Records) × IsCutTable table × IsCutRead table parts.runs parts.places parts.rows parts.keys

-- the table of the delay file
abbrev pub delay_records : Limits → Option Input → Option (List ℕ) → Result Records Fault
delay_records limits unread file = records_of limits.bytes input.Delays (Delays (delay.MissingColumn Class)) unread file

-- the first fault of the delay file
abbrev pub delay_fault : Limits → Option (List ℕ) → Option Input → Option Fault
delay_fault limits file unread = fault_in (λ table. option_map Delays (first_delay_fault table)) (delay_records limits unread file)

-- these are the delays of the delay file
abbrev pub AreDelaysOf : Limits → Option (List ℕ) → DelayLists → Type 0
AreDelaysOf limits file lists = (table : Records) × (delay_records limits None file ≡ Ok table) × (lists ≡ delays_of table)

-- what reading each of the two files gives
abbrev pub CutAgrees : Limits → Option (List ℕ) → Result CutParts Fault → Type 0
CutAgrees limits file result = MatchResult result (λ parts. (cut_fault limits file None ≡ None) × IsCutOf limits file parts) (IsFirst (cut_fault limits file))

abbrev pub DelayAgrees : Limits → Option (List ℕ) → Result DelayLists Fault → Type 0
DelayAgrees limits file result = MatchResult result (λ lists. (delay_fault limits file None ≡ None) × AreDelaysOf limits file lists) (IsFirst (delay_fault limits file))
