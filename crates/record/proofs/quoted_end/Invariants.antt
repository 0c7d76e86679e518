-- At each quote the position, with the body that is left, comes to the same end.
use Rattle.std.proofs.Common.{length, drop, ◌+◌, ◌-◌}
use Rattle.record.specs.Steps.{body_run}
use Rattle.record.proofs.Laws.Runs.{Quoted}
use Rattle.record.proofs.quoted_end.Given as goal

abbrev pub invariant-loop-i : goal.invariant-loop-i
invariant-loop-i l = Quoted l.text l.i (l.from + body_run (drop l.from l.text))

abbrev pub decreases-loop-i : goal.decreases-loop-i
decreases-loop-i l = length l.text - l.i
