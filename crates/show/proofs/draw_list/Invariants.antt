-- Each turn draws one at least.
use Rattle.std.proofs.Common.{◌-◌, length}
use Rattle.show.proofs.draw_list.Given as goal

abbrev pub decreases-loop-first : goal.decreases-loop-first
decreases-loop-first g l = l.held.len - l.first
