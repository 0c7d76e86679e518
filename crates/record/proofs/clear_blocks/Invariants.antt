-- The run that is left comes to the same end.
use Rattle.std.proofs.Common.{length, drop, ◌≡◌, ◌≤◌, ◌+◌, ◌-◌}
use Rattle.record.specs.Steps.{run, is_quote}
use Rattle.record.proofs.clear_blocks.Given as goal

abbrev pub invariant-loop-i : goal.invariant-loop-i
invariant-loop-i l = (l.i ≤ length l.text) × (l.i + run is_quote (drop l.i l.text) ≡ l.from + run is_quote (drop l.from l.text))

abbrev pub decreases-loop-i : goal.decreases-loop-i
decreases-loop-i l = length l.text - l.i
