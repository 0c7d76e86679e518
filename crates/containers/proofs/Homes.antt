-- A valid container's head is as a call that is done leaves it: an empty ring's is 0, and so is a vector's.
use mathlib.Core.Path.{◌≡◌}
use mathlib.Core.Bool.{false}
use Rattle.slots.specs.Layout.{Kind, ring, vector}
use Rattle.table.specs.Tray.{Tray, invalid}
use Rattle.table.proofs.Laws.Done.{Homed, homed}
use Rattle.containers.specs.Reading.{head_of}

pub home : (k : Kind) (t : Tray) → head_of k t.head ≡ t.head → invalid k t ≡ false → Homed k t
home ring t headed ok = homed t ok
home vector t headed ok = headed
