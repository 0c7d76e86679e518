-- Slot after slot.
use Rattle.stored.proofs.Lines.{slots_start, slots_turn, slots_end}
use Rattle.stored.proofs.put_slots.Goals as goal

pub loop-i-init : goal.loop-i-init
loop-i-init c = slots_start _ _ _

pub loop-i-preserved : goal.loop-i-preserved
loop-i-preserved c = slots_turn _ _ _ _ _ _ c.loop-i.invariant c.loop-i-test.true c.put_line.ensures

pub returns : goal.returns
returns c = slots_end _ _ _ _ _ c.loop-i.invariant c.loop-i-test.false
