use Rattle.run_laws.proofs.Printed.{of_plan, there_is_a_trip}
use Rattle.run_laws.proofs.commands.a_printed_plan_arrives.Goals as goal

pub returns : goal.returns
returns c = λ limits files start alpha p found text path late answers there small. there_is_a_trip limits files start p text path (of_plan start alpha p found text answers) there small late
