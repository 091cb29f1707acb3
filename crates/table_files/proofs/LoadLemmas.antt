-- What is loaded where a table could not be read.
use Rattle.std.proofs.Common.{◌≡◌, ◌==◌, false, List, ℕ, Err, None, refl, ap, ◌∙◌, if◌then◌else◌}
use Rattle.file_ports.specs.Ports.{FileMap, file_at}
use Rattle.csv_rows.specs.{declared.{feed_tables.{Table.Table, FeedFault.{FeedFault, TheVariants.Read}}, limits.Limits.Limits}, FeedTables.{path_of, rank_of, unread_table, IsFaultOf}}
use Rattle.table_files.specs.Loading.{loaded_file, load_in}

-- another table than the one that may not have been read
pub load_in-other : (m : FileMap) (folder : List ℕ) (limits : Limits) (f : FeedFault) (table other : Table) → IsFaultOf table f → (rank_of table == rank_of other) ≡ false
    → load_in m folder limits (unread_table f) other ≡ load_in m folder limits None other
load_in-other m folder limits (Read t) table other e ne =
    ap (λ b. if b then Err (Read other) else loaded_file limits other (file_at m (path_of folder other))) (ap (λ x. rank_of x == rank_of other) e ∙ ne)
load_in-other m folder limits _ table other e ne = refl
