use Rattle.std.proofs.lemmas.Grind.{common_steps}
use Rattle.delay_table.proofs.{Common.{◌≡◌, ◌∙◌, ◌+◌, ◌++◌, ◌∷◌, [], ap, arith, sym, subst, false, List, others, Group, group_in, is_plain, IsNumbering, line_group}, NumberedFacts.numbering-none}
use Rattle.delay_table.proofs.{NumberedFacts.{numbering-new, numbering-next}, Others.{others-zero, others-new, others-plain, others-other}}
use Rattle.delay_table.proofs.other_groups.numbering_of.Goals as goal

pub loop-index-init : goal.loop-index-init
loop-index-init c =
    let P : List Group → Type 0 = λ gs. IsNumbering c.new.result c.with_key.result gs in
    subst P (sym (others-zero c.args.read.now.groups)) (numbering-none c.new.result c.with_key.result c.new.ensures c.with_key.ensures)

pub loop-index-preserved-then-is_plain : goal.loop-index-preserved-then-is_plain
loop-index-preserved-then-is_plain c = grind (arith, others-plain)

pub add-requires : goal.add-requires
add-requires c = grind (arith, common_steps, numbering-new, others-new)

pub loop-index-preserved : goal.loop-index-preserved
loop-index-preserved c =
    let g = c.args.read.now.groups in
    let m = c.loop-index.numbering in
    let n = c.in_ok-route.ensures in
    let before = others g c.loop-index.index in
    let own = line_group c.at-group.result in
    let other : is_plain (group_in g c.loop-index.index) ≡ false = ap is_plain (sym c.at-group.ensures) ∙ sym c.is_plain.ensures ∙ c.if-is_plain.false in
    let after : before ++ own ∷ [] ≡ others g (c.loop-index.index + 1) = ap (λ x. before ++ x ∷ []) c.at-group.ensures ∙ sym (others-other g c.loop-index.index other) in
    let P : List Group → Type 0 = λ gs. IsNumbering c.number_of.new.routes c.add.new.self gs in
    subst P after (numbering-next m.routes m.groups before c.loop-index.invariant own c.in_ok-route.route c.number_of.new.routes n.routes n.number c.add.new.self c.in_ok-add.ensures.ok)
