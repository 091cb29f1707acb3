use Rattle.delay_table.proofs.{Common.{◌≡◌, ◌≢◌, Option, Some, None, on_ok_weaker, IfErr-weaker, DelayFault, NoMemory, Line, fault_after, line_fault, read_outcomes, arith}, LineFacts.own_line}
use Rattle.delay_table.proofs.ReadFacts.{read-next, rows-are, fault_here, bad_here}
use Rattle.delay_table.proofs.reading.Reading.add_line.Goals as goal

pub returns-in_default-clause-err : goal.returns-in_default-clause-err
returns-in_default-clause-err c = λ free. bad_here c.args.table.now.rows.now c.args.row c.line-number.result c.in_default.ensures.line c.line-number.ensures

pub returns : goal.returns
returns c =
    let t = c.args.table.now.rows.now in
    let i = c.args.row in
    let line : Line = own_line c.in-Some.line in
    let groups = c.args.self.now.groups in
    let rows = c.args.self.now.rows.items in
    let more = c.add.new.self.groups in
    let new = c.add.new.self.rows.items in
    let earlier = read_outcomes groups rows line.group in
    let number = c.line-number.result in
    let fault = λ (o : Option DelayFault).
    fault_here t i earlier line number o c.in-Some.ensures.line (rows-are t i groups rows c.requires.read line.group) c.line-number.ensures in
    record {
      none = on_ok_weaker c.add.result (fault None) c.add.ensures.none;
      read = grind (arith, on_ok_weaker, read-next);
      err = IfErr-weaker c.add.result (λ f. f ≢ NoMemory → fault_after earlier line number ≡ Some f) (λ f. f ≢ NoMemory → line_fault t i ≡ Some f)
          (λ (f : DelayFault) h free. fault (Some f) (h free)) c.add.ensures.err;
    }
