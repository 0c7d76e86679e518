-- `take_all` meets its promise: bytes are passed as far as records are taken, and each of these has some.
use Prim.Native.Nat.{◌+◌, ◌-◌, ◌≤◌}
use mathlib.Core.Path.{◌≡◌}
use lib.ListN.{length}
use Rattle.import.proofs.takes.Listing.take_all.Given as goal

abbrev pub invariant-loop-at : goal.invariant-loop-at
invariant-loop-at g l = (l.from ≤ l.at) × (l.at ≤ length l.window) × (l.self.sheet.passed + l.from ≡ l.initial.self.sheet.passed + l.at)

abbrev pub decreases-loop-at : goal.decreases-loop-at
decreases-loop-at g l = length l.window - l.at
