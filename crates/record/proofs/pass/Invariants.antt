-- What was counted and kept, with what is read from the place on, always comes to the same.
use Rattle.std.proofs.Common.{length, ◌-◌}
use Rattle.record.proofs.Laws.Passing.{with_count, Passed}
use Rattle.record.proofs.pass.Given as goal

abbrev pub invariant-loop-f : goal.invariant-loop-f
invariant-loop-f l = Passed l.text l.initial.kept (with_count l.kept l.count) l.at

abbrev pub decreases-loop-f : goal.decreases-loop-f
decreases-loop-f l = length l.text - l.at
