-- The position, with the run that is left, always comes to the same end.
use Rattle.std.proofs.Common.{drop, ◌≡◌, ◌+◌}
use Rattle.record.specs.Scan.{special}
use Rattle.record.specs.Steps.{run}
use Rattle.record.proofs.plain_end.Given as goal

abbrev pub invariant-loop-i : goal.invariant-loop-i
invariant-loop-i l = l.i + run special (drop l.i l.text) ≡ l.from + run special (drop l.from l.text)
