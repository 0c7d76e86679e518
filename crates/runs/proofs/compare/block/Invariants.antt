-- After j numbers it says whether all of them agree.
use Rattle.std.proofs.Common.{take, drop}
use Rattle.slots.specs.Compare.{Tells}
use Rattle.runs.proofs.compare.block.Given as goal

abbrev pub invariant-loop-j : goal.invariant-loop-j
invariant-loop-j g l = Tells l.alike (take l.j (drop l.at l.ours)) (take l.j (drop l.at l.theirs))
