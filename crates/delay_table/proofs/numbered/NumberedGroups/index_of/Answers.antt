use Rattle.delay_table.proofs.{Common.{is_some, ap, ◌∙◌, position, same_numbered}, IndexFacts.any-position}
use Rattle.delay_table.proofs.numbered.NumberedGroups.index_of.Goals as goal

pub returns-clause-found : goal.returns-clause-found
returns-clause-found c =
    let test = same_numbered c.args.group.now in
    ap is_some (c.copied.ensures ∙ c.get.ensures.value ∙ c.self.invariant c.args.group.now ∙ ap (position test) c.self.view_is) ∙ any-position test c.args.self.now
