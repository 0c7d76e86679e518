-- Each turn draws one at least.
use Rattle.std.proofs.Common.{◌-◌, length}
use Rattle.show.proofs.draw_slots.Given as goal

abbrev pub decreases-loop-first : goal.decreases-loop-first
decreases-loop-first g l = length l.held.slots.now - l.first
