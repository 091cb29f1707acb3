use Rattle.run_laws.proofs.Printed.{of_plan, enclosed, keeps_upper}
use Rattle.run_laws.proofs.commands.a_printed_plan_keeps_its_upper_bound.Goals as goal

pub returns : goal.returns
returns c = λ limits files start alpha p found other text path line answers there small in_file.
    keeps_upper start alpha p found text answers other line (enclosed limits files start p text path (of_plan start alpha p found text answers) there small other line in_file)
