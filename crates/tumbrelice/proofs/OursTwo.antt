-- Each exported call on two containers is an event of demand 3 on both: what a caller learns of it is what `Ours` asks.
use Prim.Native.Nat.{ℕ}
use mathlib.Core.Path.{refl}
use contract.Lifetimes.{Lfts}
use denote.Triple.Clauses.{AtExit}
use borrow.Fn.World.{ArgsD, ResD}
use Rattle.slots.specs.Layout.{ring, vector}
use Rattle.table.specs.Calls.{append, split_off, clone, same}
use Rattle.table.specs.World.{World, on_two, called_two, Ours}
use Rattle.table.proofs.Laws.Named.{Are, ours_on_two, ours_called_two}
use Rattle.record.specs.Recorded.{recording}
use Rattle.record.proofs.Laws.Kept.{recording_kept}
use Rattle.tumbrelice.specs.Heard.{heard2, ring_tray, vector_tray}
use Rattle.tumbrelice.proofs.two as two
use Rattle.tumbrelice.specs.contracts.two as two·promise
use Rattle.tumbrelice.proofs.compare as compare
use Rattle.tumbrelice.specs.contracts.compare as compare·promise
use Rattle.tumbrelice.proofs.records as records
use Rattle.tumbrelice.specs.contracts.records as records·promise

-- In what follows a are the arguments, r is the word answered, and e the arguments as they are at the return.
module _ (w : World) (i j : ℕ) (κs : Lfts 4) where
  pub tum_ring_append_ours : (a : ArgsD two·promise.tum_ring_append.signature κs) (r : ResD two·promise.tum_ring_append.signature κs) (e : AtExit two·promise.tum_ring_append.ended κs)
      → Are w i j ring ring (ring_tray a.1.0.now a.0.now) (ring_tray a.1.1.1.0.now a.1.1.0.now) → two.tum_ring_append.Reads.Learnt κs a r e
      → Ours w (on_two i j append (heard2 r (ring_tray e.1.0.now e.0.now) (ring_tray e.1.1.1.0.now e.1.1.0.now)))
  tum_ring_append_ours a r e are learnt = ours_on_two w i j _ _ _ _ _ _ refl are learnt.row

  pub tum_ring_split_off_ours : (a : ArgsD two·promise.tum_ring_split_off.signature κs) (r : ResD two·promise.tum_ring_split_off.signature κs) (e : AtExit two·promise.tum_ring_split_off.ended κs)
      → Are w i j ring ring (ring_tray a.1.0.now a.0.now) (ring_tray a.1.1.1.1.0.now a.1.1.1.0.now) → two.tum_ring_split_off.Reads.Learnt κs a r e
      → Ours w (on_two i j (split_off a.1.1.0) (heard2 r (ring_tray e.1.0.now e.0.now) (ring_tray e.1.1.1.1.0.now e.1.1.1.0.now)))
  tum_ring_split_off_ours a r e are learnt = ours_on_two w i j _ _ _ _ _ _ refl are learnt.row

  pub tum_ring_clone_ours : (a : ArgsD two·promise.tum_ring_clone.signature κs) (r : ResD two·promise.tum_ring_clone.signature κs) (e : AtExit two·promise.tum_ring_clone.ended κs)
      → Are w i j ring ring (ring_tray a.1.0.now a.0.now) (ring_tray a.1.1.1.0.now a.1.1.0.now) → two.tum_ring_clone.Reads.Learnt κs a r e
      → Ours w (on_two i j clone (heard2 r (ring_tray a.1.0.now a.0.now) (ring_tray e.1.1.1.0.now e.1.1.0.now)))
  tum_ring_clone_ours a r e are learnt = ours_on_two w i j _ _ _ _ _ _ refl are learnt.row

  pub tum_vector_append_ours : (a : ArgsD two·promise.tum_vector_append.signature κs) (r : ResD two·promise.tum_vector_append.signature κs) (e : AtExit two·promise.tum_vector_append.ended κs)
      → Are w i j vector vector (vector_tray a.1.0.now a.0.now) (vector_tray a.1.1.1.0.now a.1.1.0.now) → two.tum_vector_append.Reads.Learnt κs a r e
      → Ours w (on_two i j append (heard2 r (vector_tray e.1.0.now e.0.now) (vector_tray e.1.1.1.0.now e.1.1.0.now)))
  tum_vector_append_ours a r e are learnt = ours_on_two w i j _ _ _ _ _ _ refl are learnt.row

  pub tum_vector_split_off_ours : (a : ArgsD two·promise.tum_vector_split_off.signature κs) (r : ResD two·promise.tum_vector_split_off.signature κs) (e : AtExit two·promise.tum_vector_split_off.ended κs)
      → Are w i j vector vector (vector_tray a.1.0.now a.0.now) (vector_tray a.1.1.1.1.0.now a.1.1.1.0.now) → two.tum_vector_split_off.Reads.Learnt κs a r e
      → Ours w (on_two i j (split_off a.1.1.0) (heard2 r (vector_tray e.1.0.now e.0.now) (vector_tray e.1.1.1.1.0.now e.1.1.1.0.now)))
  tum_vector_split_off_ours a r e are learnt = ours_on_two w i j _ _ _ _ _ _ refl are learnt.row

  pub tum_vector_clone_ours : (a : ArgsD two·promise.tum_vector_clone.signature κs) (r : ResD two·promise.tum_vector_clone.signature κs) (e : AtExit two·promise.tum_vector_clone.ended κs)
      → Are w i j vector vector (vector_tray a.1.0.now a.0.now) (vector_tray a.1.1.1.0.now a.1.1.0.now) → two.tum_vector_clone.Reads.Learnt κs a r e
      → Ours w (on_two i j clone (heard2 r (vector_tray a.1.0.now a.0.now) (vector_tray e.1.1.1.0.now e.1.1.0.now)))
  tum_vector_clone_ours a r e are learnt = ours_on_two w i j _ _ _ _ _ _ refl are learnt.row

  pub tum_ring_same_ours : (a : ArgsD compare·promise.tum_ring_same.signature κs) (r : ResD compare·promise.tum_ring_same.signature κs) (e : AtExit compare·promise.tum_ring_same.ended κs)
      → Are w i j ring ring (ring_tray a.1.0.now a.0.now) (ring_tray a.1.1.1.0.now a.1.1.0.now) → compare.tum_ring_same.Reads.Learnt κs a r e
      → Ours w (on_two i j same (heard2 r (ring_tray a.1.0.now a.0.now) (ring_tray a.1.1.1.0.now a.1.1.0.now)))
  tum_ring_same_ours a r e are learnt = ours_on_two w i j _ _ _ _ _ _ refl are learnt.row

  pub tum_vector_equal_ours : (a : ArgsD compare·promise.tum_vector_equal.signature κs) (r : ResD compare·promise.tum_vector_equal.signature κs) (e : AtExit compare·promise.tum_vector_equal.ended κs)
      → Are w i j vector vector (vector_tray a.1.0.now a.0.now) (vector_tray a.1.1.1.0.now a.1.1.0.now) → compare.tum_vector_equal.Reads.Learnt κs a r e
      → Ours w (on_two i j same (heard2 r (vector_tray a.1.0.now a.0.now) (vector_tray a.1.1.1.0.now a.1.1.0.now)))
  tum_vector_equal_ours a r e are learnt = ours_on_two w i j _ _ _ _ _ _ refl are learnt.row

  pub tum_ring_same_as_vector_ours : (a : ArgsD compare·promise.tum_ring_same_as_vector.signature κs) (r : ResD compare·promise.tum_ring_same_as_vector.signature κs) (e : AtExit compare·promise.tum_ring_same_as_vector.ended κs)
      → Are w i j ring vector (ring_tray a.1.0.now a.0.now) (vector_tray a.1.1.1.0.now a.1.1.0.now) → compare.tum_ring_same_as_vector.Reads.Learnt κs a r e
      → Ours w (on_two i j same (heard2 r (ring_tray a.1.0.now a.0.now) (vector_tray a.1.1.1.0.now a.1.1.0.now)))
  tum_ring_same_as_vector_ours a r e are learnt = ours_on_two w i j _ _ _ _ _ _ refl are learnt.row

module _ (w : World) (i j : ℕ) (κs : Lfts 5) where
  pub tum_record_read_ours : (a : ArgsD records·promise.tum_record_read.signature κs) (r : ResD records·promise.tum_record_read.signature κs) (e : AtExit records·promise.tum_record_read.ended κs)
      → Are w i j vector vector (vector_tray a.1.1.0.now a.1.0.now) (vector_tray a.1.1.1.1.0.now a.1.1.1.0.now) → records.tum_record_read.Reads.Learnt κs a r e
      → Ours w (called_two i j (recording a.0.now) (heard2 r (vector_tray e.1.1.0.now e.1.0.now) (vector_tray e.1.1.1.1.0.now e.1.1.1.0.now)))
  tum_record_read_ours a r e are learnt = ours_called_two w i j _ _ _ _ _ _ (recording_kept a.0.now) refl are learnt.row
