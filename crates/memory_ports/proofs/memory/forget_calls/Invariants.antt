use Rattle.memory_ports.proofs.{Common.{◌≡◌, map}, Silent.{shape, AreSilent}}
use Rattle.memory_ports.proofs.memory.forget_calls.Given as goal

abbrev pub invariant-loop-index : goal.invariant-loop-index
invariant-loop-index l = record {
  shapes : map shape l.failing ≡ map shape l.initial.failing;
  silent : AreSilent l.failing l.index;
}
