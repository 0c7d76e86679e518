-- Slot after slot, each from its line.
use Rattle.std.proofs.Common.{rules, arith, ◌+◌, ◌*◌}
use Rattle.stored.proofs.Taking.{none_off, none_read, slots_left, slots_turn, slots_end}
use Rattle.stored.proofs.readers.take_slots.Goals as goal

pub loop-i-init : goal.loop-i-init
loop-i-init c = search (none_off, none_read, rules)

pub loop-i-preserved : goal.loop-i-preserved
loop-i-preserved c =
    let i = c.loop-i.invariant in
    (slots_left _ c.loop-i.slots _ _ _ i.0 c.loop-i-test.true, slots_turn _ c.loop-i.slots _ _ _ i.0 c.loop-i-test.true _ _ i.1 c.loop-i.auto.slots c.low.ensures.0)

pub returns : goal.returns
returns c = slots_end c.args.text.now _ _ _ _ (c.args.from + 9 * c.loop-i.i) c.loop-i.invariant.1 (omega arith) c.loop-i.auto.slots
