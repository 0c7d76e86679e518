-- Request 11 for C, from the generated contracts: `tum_ring_insert_within` and `tum_ring_remove_within` answer 12 exactly when the plain call would be done and would move more; else the word, the
-- state and the slots are the plain call's.
use Prim.Native.Nat.{ℕ, ◌-◌, ◌/◌, ◌≤◌}
use mathlib.Core.Path.{◌≡◌, ap, ◌∙◌}
use native.Mathlib.Omega.{arith}
use lib.ListN.{length}
use contract.Lifetimes.{Lfts}
use denote.Triple.Clauses.{AtExit}
use borrow.Fn.World.{ArgsD, ResD}
use Rattle.slots.specs.Layout.{Kind, ring}
use Rattle.table.specs.Tray.{nowhere}
use Rattle.table.specs.Calls.{Call, insert, remove}
use Rattle.table.specs.Does.{Outcome, refused}
use Rattle.table.proofs.Theorems.Within.{MovesMore, plain_below_12, twelve_when, then_twelve, not_twelve, plain_beside}
use Rattle.table.proofs.Theorems.Room.{insert_enough, remove_enough}
use Rattle.tumbrelice.specs.Heard.{number_in, heard, Held, Hears, HearsWithin, ring_tray, ring_of}
use Rattle.tumbrelice.proofs.rings as rings
use Rattle.tumbrelice.specs.contracts.rings as rings·promise

-- whichever call it is
hears_plain : (a : ℕ) (k : Kind) (call : Call) (b : Held) (word : ℕ) (t : Held) → HearsWithin a k call b word t → (number_in word ≡ 12 → ⊥) → Hears k call b word t
hears_plain a k call b word t h other =
    let beside = plain_beside a k call b.tray (heard word t.tray) h.row other in
    record { row = not_twelve a k call b.tray (heard word t.tray) h.row other; slot = h.slot ∙ beside.0; total = h.total ∙ beside.1 _ }

-- Here a are the arguments, r is the word answered, and e the arguments as they are at the return.
module _ (κs : Lfts 2) (a : ArgsD rings·promise.tum_ring_insert_within.signature κs) (r : ResD rings·promise.tum_ring_insert_within.signature κs) (e : AtExit rings·promise.tum_ring_insert_within.ended κs)
    (learnt : rings.tum_ring_insert_within.Reads.Learnt κs a r e) where
  pub tum_ring_insert_within_12 : number_in r ≡ 12 → MovesMore a.1.1.1.1.0 ring (insert a.1.1.0 a.1.1.1.0) (ring_tray a.1.0.now a.0.now)
  tum_ring_insert_within_12 = twelve_when _ ring _ _ _ learnt.row

  pub tum_ring_insert_within_then_12 : MovesMore a.1.1.1.1.0 ring (insert a.1.1.0 a.1.1.1.0) (ring_tray a.1.0.now a.0.now)
      → heard r (ring_tray e.1.0.now e.0.now) ≡ refused (ring_tray a.1.0.now a.0.now) nowhere 12
  tum_ring_insert_within_then_12 = then_twelve _ ring _ _ _ learnt.row

  pub tum_ring_insert_within_plain : (number_in r ≡ 12 → ⊥) → Hears ring (insert a.1.1.0 a.1.1.1.0) (ring_of a.1.0.now a.0.now) r (ring_of e.1.0.now e.0.now)
  tum_ring_insert_within_plain = hears_plain _ ring _ _ r _ learnt

  pub tum_ring_insert_within_enough : (length a.0.now - 1) / 2 ≤ a.1.1.1.1.0 → number_in r ≡ 12 → ⊥
  tum_ring_insert_within_enough enough is =
      omega (
        arith,
        plain_below_12 ring (insert a.1.1.0 a.1.1.1.0) (ring_tray a.1.0.now a.0.now),
        ap (λ (o : Outcome). o.number) (learnt.row ∙ insert_enough _ _ _ enough _),
      )

module _ (κs : Lfts 2) (a : ArgsD rings·promise.tum_ring_remove_within.signature κs) (r : ResD rings·promise.tum_ring_remove_within.signature κs) (e : AtExit rings·promise.tum_ring_remove_within.ended κs)
    (learnt : rings.tum_ring_remove_within.Reads.Learnt κs a r e) where
  pub tum_ring_remove_within_12 : number_in r ≡ 12 → MovesMore a.1.1.1.0 ring (remove a.1.1.0) (ring_tray a.1.0.now a.0.now)
  tum_ring_remove_within_12 = twelve_when _ ring _ _ _ learnt.row

  pub tum_ring_remove_within_then_12 : MovesMore a.1.1.1.0 ring (remove a.1.1.0) (ring_tray a.1.0.now a.0.now)
      → heard r (ring_tray e.1.0.now e.0.now) ≡ refused (ring_tray a.1.0.now a.0.now) nowhere 12
  tum_ring_remove_within_then_12 = then_twelve _ ring _ _ _ learnt.row

  pub tum_ring_remove_within_plain : (number_in r ≡ 12 → ⊥) → Hears ring (remove a.1.1.0) (ring_of a.1.0.now a.0.now) r (ring_of e.1.0.now e.0.now)
  tum_ring_remove_within_plain = hears_plain _ ring _ _ r _ learnt

  pub tum_ring_remove_within_enough : (length a.0.now - 1) / 2 ≤ a.1.1.1.0 → number_in r ≡ 12 → ⊥
  tum_ring_remove_within_enough enough is =
      omega (
        arith,
        plain_below_12 ring (remove a.1.1.0) (ring_tray a.1.0.now a.0.now),
        ap (λ (o : Outcome). o.number) (learnt.row ∙ remove_enough _ _ _ enough),
      )
