-- The fault of the lines that are left is always that of all.
use Rattle.std.proofs.Common.{◌≡◌, ◌≤◌, ◌+◌, ◌-◌}
use Rattle.show.specs.Faults.{slots_fault}
use Rattle.show.proofs.faults.slots_fault.Given as goal

abbrev pub invariant-loop-line : goal.invariant-loop-line
invariant-loop-line l = slots_fault l.line (2 + l.count - l.line) l.rest ≡ slots_fault 2 l.count l.text
