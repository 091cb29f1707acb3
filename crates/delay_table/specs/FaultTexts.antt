-- The texts of classes, and of the faults of a delay file.
use Rattle.std.specs.Prelude.{ℕ, List, ◌++◌, codes, decimal}
use Rattle.csv_rows.specs.{Columns.name_of, FaultTexts.at_line}
use Rattle.delay_table.specs.declared.faults.{ClassName.{ClassName, TheVariants.{Any, Route}}, DelayFault.{DelayFault, TheVariants.{MissingColumn, BadField}}}
use Rattle.delay_table.specs.declared.faults.DelayFault.TheVariants.{TooManyRows, GroupRows, NotRising, TooManyClasses, WeightSum, GroupSum, NoDefault}
use Rattle.delay_table.specs.declared.faults.DelayFault.TheVariants.{NoMemory}

-- a class, as a delay file names it
abbrev pub class_text : ClassName → List ℕ
class_text Any = codes "*"
class_text (Route route) = decimal route

-- the text of a fault of a delay file
abbrev pub delay_fault_text : DelayFault → List ℕ
delay_fault_text (MissingColumn column) = codes "delay file has no column " ++ name_of column
delay_fault_text (BadField line) = at_line (codes "delay file") line (codes "bad field")
delay_fault_text (TooManyRows class) = codes "delay class " ++ class_text class ++ codes " has more than 64 rows"
delay_fault_text (GroupRows line) = at_line (codes "delay file") line (codes "group has more than 64 rows")
delay_fault_text (NotRising line) = at_line (codes "delay file") line (codes "delay does not rise")
delay_fault_text (TooManyClasses count) = codes "too many delay classes: " ++ decimal count
delay_fault_text (WeightSum class sum) = codes "delay class " ++ class_text class ++ codes " weights sum to " ++ decimal sum
delay_fault_text (GroupSum line sum) = at_line (codes "delay file") line (codes "group weights sum to " ++ decimal sum)
delay_fault_text NoDefault = codes "delay class * is missing"
delay_fault_text NoMemory = codes "out of memory"
