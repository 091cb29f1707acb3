-- The records that a reader has yet to read.
use Rattle.std.specs.{Prelude.{◌≡◌, ℕ, ◌+◌, false, List, [], map, length, Option, Some, None, if◌then◌else◌}, Borrow.Bor}
use Rattle.csv.specs.{Machine.ends_at_end, Reading.{Ready, default_config, reader_config, reader_state, reader_trim, records_from, source_of}}
use Rattle.csv.specs.declared.{parser.State.State, reader.Reader.Reader}
use Rattle.csv_rows.specs.Spaces.{trimmed_text}
use Rattle.stop_times.specs.declared.records.Records.TheInside.{Inside}
use Rattle.csv.specs.declared.reader.Trim.TheVariants as trim

-- the bytes that a reader of a slice has yet to read
abbrev pub source : Reader (Bor (List ℕ)) → Option (List ℕ)
source reader = source_of (λ (s : Bor (List ℕ)). Some s.now) reader

-- the records of a text from a state, with no ASCII space round a field
abbrev pub records_after : State → Option (List ℕ) → List (List (List ℕ))
records_after s None = []
records_after s (Some text) = map (λ row. map trimmed_text row) (records_from default_config (length text + 1) s text)

abbrev pub records_remaining : Inside → List (List (List ℕ))
records_remaining r = if r.is_done then [] else records_after (reader_state r.reader) (source r.reader)

-- the reader is between two records, and takes the next one as it is
pub record IsReading (reader : Reader (Bor (List ℕ))) : Type 0 where
  pub trim : reader_trim reader ≡ trim.None
  pub ready : Ready reader
  pub config : reader_config reader ≡ default_config
  pub between : ends_at_end (reader_state reader) ≡ false
  pub text : List ℕ
  pub known : source reader ≡ Some text

-- unless it has no more
abbrev pub IsBetween : Inside → Type 0
IsBetween r = r.is_done ≡ false → IsReading r.reader
