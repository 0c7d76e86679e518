-- `fill` meets its promise: what was held stays, and each read but the last has a byte.
use Rattle.std.specs.Prelude.{None}
use Prim.Native.Nat.{◌-◌, ◌≤◌}
use mathlib.Core.Path.{◌≡◌}
use lib.ListN.{take}
use Rattle.import.proofs.windows.Window.fill.Given as goal

abbrev pub invariant-loop-self : goal.invariant-loop-self
invariant-loop-self g l =
    (l.self.ending ≡ None) × (l.self.from ≡ l.initial.self.from) × (l.initial.self.held ≤ l.self.held)
    × (take l.initial.self.held l.self.bytes ≡ take l.initial.self.held l.initial.self.bytes)

abbrev pub decreases-loop-self : goal.decreases-loop-self
decreases-loop-self g l = 65536 - l.self.held
