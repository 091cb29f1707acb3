use Rattle.delay_table.proofs.{Common.{◌++◌, ◌≡◌, ◌+◌, ◌∙◌, append-nil, ap, sym, Option, None, Some, ℕ, List, listed, group_in, plain_type, plain_types, Group}, PlainTypes.{plain-none, plain-next}}
use Rattle.delay_table.proofs.types.plain_types.Goals as goal

one_more : (groups : List Group) (n : ℕ) (types : List ℕ) (o : Option ℕ) → types ≡ plain_types groups n → o ≡ plain_type (group_in groups n) → types ++ listed o ≡ plain_types groups (n + 1)
one_more groups n types o so_far here = ap (λ xs. xs ++ listed o) so_far ∙ ap (λ p. plain_types groups n ++ listed p) here ∙ sym (plain-next groups n)

pub loop-index-init : goal.loop-index-init
loop-index-init c = c.new-types.ensures.items ∙ plain-none c.args.groups.now

pub loop-index-preserved-in_default : goal.loop-index-preserved-in_default
loop-index-preserved-in_default c =
    sym (append-nil c.loop-index.types.items) ∙ one_more c.args.groups.now c.loop-index.index c.loop-index.types.items None c.loop-index.invariant (c.in_default.ensures ∙ ap plain_type c.at-group.ensures)

pub loop-index-preserved : goal.loop-index-preserved
loop-index-preserved c =
    c.in_ok-push.ensures.items ∙ one_more c.args.groups.now c.loop-index.index c.loop-index.types.items (Some c.in-Some.route_type) c.loop-index.invariant (c.in-Some.ensures ∙ ap plain_type c.at-group.ensures)
