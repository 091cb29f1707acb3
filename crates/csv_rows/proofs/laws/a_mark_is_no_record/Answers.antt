use Rattle.csv_rows.proofs.Common.{ℕ, List, sym, ap, map, trimmed_text, records, default_config}
use Rattle.csv.specs.Reading.{strip_bom}
use Rattle.csv_rows.proofs.laws.a_mark_is_no_record.Goals as goal

pub returns : goal.returns
unfolding strip_bom
returns c = λ text none. ap (λ (t : List ℕ). map (λ row. map trimmed_text row) (records default_config t)) (sym none)
