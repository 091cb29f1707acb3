use Rattle.delay_table.proofs.{Common.{◌∙◌, ap, None, group_index, of_class}, LineGroups.line-index}
use Rattle.delay_table.proofs.groups.Groups.class_index.Goals as goal

pub returns : goal.returns
returns c =
    c.get_index_of.ensures.index ∙ line-index (record { class = c.args.class; route = None; hour = None }) c.self.inside.groups.keys
    ∙ ap (group_index (of_class c.args.class)) c.self.view_is
