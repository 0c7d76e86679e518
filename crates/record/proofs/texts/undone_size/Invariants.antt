-- What was counted, with what is left of the field, is always the whole.
use Rattle.std.proofs.Common.{length, ◌-◌}
use Rattle.record.proofs.Laws.Undoing.{Counted}
use Rattle.record.proofs.texts.undone_size.Given as goal

abbrev pub invariant-loop-at : goal.invariant-loop-at
invariant-loop-at l = Counted l.part l.at l.size

abbrev pub decreases-loop-at : goal.decreases-loop-at
decreases-loop-at l = length l.part - l.at
