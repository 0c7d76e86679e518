-- Request 07 for C: the moves in the word that `tum_ring_insert` and `tum_ring_remove` answer are the least possible, from their generated contracts.
use mathlib.Core.Path.{◌≡◌, refl}
use contract.Lifetimes.{Lfts}
use denote.Triple.Clauses.{AtExit}
use borrow.Fn.World.{ArgsD, ResD}
use Rattle.table.specs.Calls.{insert, remove}
use Rattle.table.proofs.Theorems.Best.{Least, best}
use Rattle.tumbrelice.specs.Heard.{number_in, heard, ring_tray}
use Rattle.tumbrelice.proofs.rings as rings
use Rattle.tumbrelice.specs.contracts.rings as rings·promise

-- Here a are the arguments, r is the word answered, and e the arguments as they are at the return.
module _ (κs : Lfts 2) where
  pub tum_ring_insert_least : (a : ArgsD rings·promise.tum_ring_insert.signature κs) (r : ResD rings·promise.tum_ring_insert.signature κs) (e : AtExit rings·promise.tum_ring_insert.ended κs)
      → rings.tum_ring_insert.Reads.Learnt κs a r e → number_in r ≡ 0
      → Least (insert a.1.1.0 a.1.1.1.0) (ring_tray a.1.0.now a.0.now) (heard r (ring_tray e.1.0.now e.0.now))
  tum_ring_insert_least a r e learnt done = best _ _ _ learnt.row refl done

  pub tum_ring_remove_least : (a : ArgsD rings·promise.tum_ring_remove.signature κs) (r : ResD rings·promise.tum_ring_remove.signature κs) (e : AtExit rings·promise.tum_ring_remove.ended κs)
      → rings.tum_ring_remove.Reads.Learnt κs a r e → number_in r ≡ 0
      → Least (remove a.1.1.0) (ring_tray a.1.0.now a.0.now) (heard r (ring_tray e.1.0.now e.0.now))
  tum_ring_remove_least a r e learnt done = best _ _ _ learnt.row refl done
