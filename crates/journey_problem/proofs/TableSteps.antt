-- The steps of reading a cut file and a delay file, put together.
use Rattle.journey_problem.proofs.Common.{arith, ◌≡◌, ℕ, List, Option, Some, None, Result, Ok, option_map, sym, ap, ◌∙◌, ◌≢◌, ◌≤◌, table_of, Limits, first_cut_fault, CutParts, IsCutRead}
use Rattle.journey_problem.proofs.Common.{delays_of, first_delay_fault, DelayLists, Fault, Delays, NoMemory, IsFirst, unread_input, Records, cut_as, fault_in, cut_fault, cut_records}
use Rattle.journey_problem.proofs.Common.{delay_records, delay_fault, IsCutOf, IsCutOfSome, AreDelaysOf}
use Rattle.csv_rows.specs.Limits.{standard}
use Rattle.cut_file.specs.declared.faults.CutFault.{CutFault, TheVariants.NoMemory as CutMemory}
use Rattle.delay_table.specs.declared.faults.DelayFault.{DelayFault, TheVariants.NoMemory as DelayMemory}

-- a table that was read with no fault
pub cut_of_some : (table : Records) (parts : CutParts) (text : List ℕ) (limit : ℕ) → table ≡ table_of text → limit ≤ standard.cut_rows
    → first_cut_fault table limit ≡ None → IsCutRead table parts.runs parts.places parts.rows parts.keys → IsCutOfSome parts
cut_of_some table parts text limit is few none read = (table, record { text = text; limit = limit; is_table = is; few = few; none = none }, read)

-- what reading the cut file gives, by its table
module _ (limits : Limits) (file : Option (List ℕ)) (table : Records) (ok : cut_records limits None file ≡ Ok table) where
  abbrev by_table : Result Records Fault → Option Fault
  by_table = fault_in (λ t. option_map cut_as (first_cut_fault t limits.cut_rows))

  pub cut_none : (parts : CutParts) → first_cut_fault table limits.cut_rows ≡ None → IsCutRead table parts.runs parts.places parts.rows parts.keys
      → (cut_fault limits file None ≡ None) × IsCutOf limits file parts
  cut_none parts none read = (ap by_table ok ∙ ap (option_map cut_as) none, (table, ok, read))

  pub cut_first : (f : CutFault) (fault : Fault) → fault ≡ cut_as f → unread_input fault ≡ None
      → (f ≢ CutMemory → first_cut_fault table limits.cut_rows ≡ Some f) → IsFirst (cut_fault limits file) fault
  cut_first f fault is read first = grind (arith, by_table)

-- and the delay file
module _ (limits : Limits) (file : Option (List ℕ)) (table : Records) (ok : delay_records limits None file ≡ Ok table) where
  abbrev delays_by_table : Result Records Fault → Option Fault
  delays_by_table = fault_in (λ t. option_map Delays (first_delay_fault t))

  pub delays_none : (lists : DelayLists) → first_delay_fault table ≡ None → lists ≡ delays_of table → (delay_fault limits file None ≡ None) × AreDelaysOf limits file lists
  delays_none lists none are = (ap delays_by_table ok ∙ ap (option_map Delays) none, (table, ok, are))

  pub delays_first : (f : DelayFault) (fault : Fault) → (f ≢ DelayMemory → fault ≡ Delays f) → (f ≡ DelayMemory → fault ≡ NoMemory) → unread_input fault ≡ None
      → (f ≢ DelayMemory → first_delay_fault table ≡ Some f) → IsFirst (delay_fault limits file) fault
  delays_first f fault is none read first = λ free.
      let other : f ≢ DelayMemory = λ e. free (none e) in
      ap (delay_fault limits file) read ∙ ap delays_by_table ok ∙ ap (option_map Delays) (first other) ∙ ap Some (sym (is other))
