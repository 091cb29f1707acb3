use Rattle.run_laws.proofs.Printed.{of_plan, not_stuck}
use Rattle.run_laws.proofs.commands.a_printed_plan_is_never_stuck.Goals as goal

pub returns : goal.returns
returns c = λ limits files start alpha p found text path late answers there small. not_stuck limits files start p text path (of_plan start alpha p found text answers) there small late
