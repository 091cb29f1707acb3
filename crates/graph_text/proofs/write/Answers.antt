use Rattle.graph_text.proofs.{Common.{◌≡◌, ◌<◌, ◌≤◌, ◌^◌, ℕ, Vec, subst, sym, Global, IsFit, plan_text, IsReadAs}, ReadBack.reads_back}
use Rattle.std.proofs.lemmas.Result.{IfOk-weaker}
use Rattle.graph_text.proofs.write.Goals as goal

pub returns-clause-text : goal.returns-clause-text
returns-clause-text c = rw (c.version_by.ensures, c.tables_leave.ensures, c.as_slice.ensures, c.new.ensures.items) at c.put.ensures

pub returns-clause-reads_back : goal.returns-clause-reads_back
returns-clause-reads_back c =
    let n = c.args.network.now in
    let names = c.args.names.now in
    let head = c.args.head.now in
    let graph = c.args.graph.now in
    let back = reads_back n names head graph c.places-2.ensures.valid c.requires.names c.places.ensures.names c.requires.query in
    let small = subst (λ (hi : ℕ). hi < 2 ^ 64) c.hi.ensures c.hi.type_inv in
    IfOk-weaker c.put.result (λ (text : Vec ℕ Global). text.items ≡ plan_text n names head graph)
    (λ (text : Vec ℕ Global). IsFit n head.query graph → head.query.start.0 ≤ head.query.deadline.0 → IsReadAs n names head graph text.items)
    (λ text is fit in_time. subst (IsReadAs n names head graph) (sym is) (back in_time c.lo.ensures.ordered small fit))
    (returns-clause-text c)
