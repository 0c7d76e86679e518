-- No slot holds x at first; each turn fills one more, and what is done to the part that is lent is done to the slots.
use Rattle.std.proofs.Common.{rules}
use Rattle.slots.proofs.Fills.{fill_none, fill_turn, fill_end}
use Rattle.slots.proofs.Parts.{fill_back}
use Rattle.runs.proofs.run_fill.Goals as goal

pub loop-slot-init : goal.loop-slot-init
loop-slot-init c = search fill_none

pub loop-slot-preserved : goal.loop-slot-preserved
loop-slot-preserved c = search (fill_turn, rules)

pub returns : goal.returns
returns c = search (fill_back, fill_end)
