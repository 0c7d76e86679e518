-- `behind_all` meets its promise: it is always behind the bytes up to here.
use lib.ListN.{take}
use Rattle.import.specs.Spots.{Behind}
use Rattle.import.proofs.counts.Spot.behind_all.Given as goal

abbrev pub invariant-loop-b : goal.invariant-loop-b
invariant-loop-b l = Behind l.initial.s (take l.b-index l.part) l.s
