use Rattle.service_days.proofs.Common.{◌≡◌, filter, runs, days_from}
use Rattle.service_days.proofs.services.Services.days.Given as goal

abbrev pub invariant-loop-n : goal.invariant-loop-n
invariant-loop-n l = l.days ≡ filter (runs l.self l.service) (days_from l.first l.n)
