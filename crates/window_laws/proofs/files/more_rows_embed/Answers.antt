use Rattle.window_laws.proofs.Problems.{source_same, target_same, rows_alike}
use Rattle.window_laws.proofs.files.more_rows_embed.Goals as goal

pub returns-clause-source : goal.returns-clause-source
returns-clause-source c = source_same

pub returns-clause-target : goal.returns-clause-target
returns-clause-target c = target_same

pub returns-clause-network : goal.returns-clause-network
returns-clause-network c = rows_alike
