-- At each turn the slots so far hold x.
use Rattle.slots.specs.Layout.{itself}
use Rattle.slots.specs.Shift.{Filled}
use Rattle.runs.proofs.run_fill.Given as goal

abbrev pub invariant-loop-slot : goal.invariant-loop-slot
invariant-loop-slot l = record { filled : Filled itself 0 l.slot-index l.x l.initial.part l.part }
