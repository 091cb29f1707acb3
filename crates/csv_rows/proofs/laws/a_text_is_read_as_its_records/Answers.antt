use Rattle.csv_rows.proofs.FormLemmas.{read_as_written}
use Rattle.csv_rows.proofs.laws.a_text_is_read_as_its_records.Goals as goal

pub returns : goal.returns
returns c = read_as_written
