-- What was written, with what is left of the field, is always the whole.
use Rattle.std.proofs.Common.{length, ◌-◌}
use Rattle.record.proofs.Laws.Undoing.{Undoing}
use Rattle.record.proofs.texts.put_undone.Given as goal

abbrev pub invariant-loop-at : goal.invariant-loop-at
invariant-loop-at l = Undoing l.part l.initial.out l.out l.at l.count

abbrev pub decreases-loop-at : goal.decreases-loop-at
decreases-loop-at l = length l.part - l.at
