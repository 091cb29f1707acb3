use Rattle.std.proofs.Common.{◌≡◌, Some, refl, ap, ◌∙◌, arith}
use Rattle.csv_rows.specs.{declared.feed_tables.{Table.Table, FeedFault.TheVariants.Read}, FeedTables.path_of}
use Rattle.file_ports.proofs.CauseLemmas.{causes-of}
use Rattle.table_files.proofs.loading.read_file.Goals as goal

pub returns-in-Err-Read-clause-reads : goal.returns-in-Err-Read-clause-reads
returns-in-Err-Read-clause-reads g c = record {
  found = grind arith;
  own = refl;
  causes = causes-of
      (λ (table : Table) (is : Read c.args.table ≡ Read table).
      let same : c.args.table ≡ table = cc in
      (tt, c.in-Err-Read.field-0-is, ap Some (c.as_str.ensures.value ∙ c.in_ok-path.ensures ∙ ap (path_of c.args.folder.now) same)))
      (λ _ is. (c.args.table, refl)) c.in-Err-Read.ensures.causes;
}
