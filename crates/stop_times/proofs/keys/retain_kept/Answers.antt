use Rattle.stop_times.proofs.Common.{rules, Key, is_kept}
use Rattle.std.proofs.lemmas.Fn.{filter_same}
use Rattle.stop_times.proofs.keys.retain_kept.Goals as goal

pub returns-clause-kept : goal.returns-clause-kept
returns-clause-kept c = filter_same _ (λ (key : Key). is_kept c.args.rows.now key.row) _ (λ x b f k. search rules) _ _ c.retain.ensures.filtered
