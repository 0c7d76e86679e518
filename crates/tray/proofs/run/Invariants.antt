-- The bytes of each read are added to those before, and each read but the last has one.
use Rattle.std.proofs.Common.{◌≡◌, ◌-◌, length}
use Rattle.tray.specs.Reading.{Ran}
use Rattle.tray.proofs.run.Given as goal

abbrev pub invariant-loop-went : goal.invariant-loop-went
invariant-loop-went g l = (length l.buf ≡ length l.fn.buf) × (length l.out ≡ length l.fn.out) × Ran l.fn.first l.went

abbrev pub decreases-loop-went : goal.decreases-loop-went
decreases-loop-went g l = 18446744073709551616 - l.went.read
