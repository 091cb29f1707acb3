use Rattle.run_laws.proofs.Printed.{of_plan, accepted}
use Rattle.run_laws.proofs.commands.a_printed_plan_is_accepted.Goals as goal

pub returns : goal.returns
returns c = λ limits files start alpha p found text path status answers there small. accepted limits files start p text path (of_plan start alpha p found text answers) there small status
