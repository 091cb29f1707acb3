use Rattle.delay_table.proofs.{Common.{sym, of_class, arith}, GroupFacts.group-here, ReadFacts.rows-new}
use Rattle.delay_table.proofs.reading.ReadRows.class_rows.Goals as goal

pub returns-in-Some : goal.returns-in-Some
returns-in-Some c = grind (arith, group-here)

pub returns-in-None : goal.returns-in-None
returns-in-None c = rows-new c.args.self.now.groups c.args.self.now.rows.items (of_class c.args.class) c.in-None.ensures

pub rows_at-requires : goal.rows_at-requires
rows_at-requires c = (group-here (of_class c.args.class) c.args.self.now.groups c.in-Some.index (sym c.in-Some.ensures)).0
