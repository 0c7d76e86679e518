-- The digits found, with those that are left, are always all.
use Rattle.std.proofs.Common.{◌≡◌, ◌+◌, ◌-◌, drop}
use Rattle.show.specs.Faults.{leading}
use Rattle.show.proofs.faults.leading.Given as goal

abbrev pub invariant-loop-i : goal.invariant-loop-i
invariant-loop-i l = l.i + leading (l.n - l.i) (drop l.i l.rest) ≡ leading l.n l.rest
