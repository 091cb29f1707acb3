use Rattle.csv_rows.proofs.{Common.{sym, ◌∙◌}, FormLemmas.read_as_written}
use Rattle.csv_rows.proofs.laws.forms_are_one_table.Goals as goal

pub returns : goal.returns
returns c = λ rows text other is also. read_as_written rows text is ∙ sym (read_as_written rows other also)
