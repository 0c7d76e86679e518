-- At each turn the first k numbers agree.
use Rattle.std.proofs.Common.{◌≡◌, take}
use Rattle.runs.proofs.compare.few.Given as goal

abbrev pub invariant-loop-k : goal.invariant-loop-k
invariant-loop-k l = take l.k l.ours ≡ take l.k l.theirs
