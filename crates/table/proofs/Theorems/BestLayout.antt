-- The heads are all the layouts there are: entries that stand one after another around the ring stand from some head on, so no such layout makes fewer of
-- them change their slot than the one that the call leaves (request 07).
--
-- Not covered are layouts that are no ring, with a gap between two entries or in another order. With these nothing need move at all: `NoRing`.
use Prim.Native.Nat.{ℕ, zero, suc, ◌≤◌, ◌<◌}
use mathlib.Core.Path.{◌≡◌, sym, ap, ◌∙◌}
use mathlib.Core.Bool.{true, false}
use mathlib.Core.Logic.{⊎_elim}
use native.Mathlib.Omega.{arith}
use borrow.Author.Tests.{not-false}
use lib.ListN.{length}
use Rattle.slots.specs.Layout.{ring, place, slot_of}
use Rattle.slots.proofs.Words.{below?}
use Rattle.slots.proofs.Placing.{slot_slot, slot_inside, slot_zero}
use Rattle.slots.proofs.Moves.{moved_laid}
use Rattle.table.specs.Tray.{Tray, cap, list, valid, invalid}
use Rattle.table.specs.Calls.{Call, has}
use Rattle.table.specs.Table.{after}
use Rattle.table.specs.Does.{Outcome, does}
use Rattle.table.proofs.Laws.Done.{many, row_carries}
use Rattle.table.proofs.Theorems.Refused.{call_clear}
use Rattle.table.proofs.Theorems.Listed.{call_listed}
use Rattle.table.proofs.Theorems.Sides.{with_layout}
use Rattle.table.proofs.Theorems.Best.{any_slot, best}

-- n entries in ring order: each stands in the slot after that of the entry before it, slot 0 coming after the last one
pub record RingOrder (c n : ℕ) (lay : ℕ → ℕ) : Type 0 where
  pub first : 0 < n → lay 0 < c
  pub next : (p : ℕ) → suc p < n → lay (suc p) ≡ slot_of c (lay p) 1

-- where the first entry stands, and that each stands in the slot after the one before it, tells where all stand
in_turn : (c n : ℕ) (lay : ℕ → ℕ) → (0 < n → lay 0 < c) → ((p : ℕ) → suc p < n → lay (suc p) ≡ slot_of c (lay p) 1)
    → (p : ℕ) → p < n → lay p ≡ slot_of c (lay 0) p
in_turn c n lay first next zero lt = sym (slot_zero c (lay 0) (first lt))
in_turn c n lay first next (suc p) lt =
    next p lt ∙ ap (λ s. slot_of c s 1) (in_turn c n lay first next p (omega arith)) ∙ slot_slot c (lay 0) p 1 ∙ ap (slot_of c (lay 0)) (omega arith)

-- such a layout is that of a head, the slot of the first entry; and every head's is one
pub ordered : (c n : ℕ) (lay : ℕ → ℕ) → RingOrder c n lay → (p : ℕ) → p < n → lay p ≡ slot_of c (lay 0) p
ordered c n lay r = in_turn c n lay r.first r.next

pub head_ordered : (c n g : ℕ) → g < c → RingOrder c n (slot_of c g)
head_ordered c n g lt = record { first = λ some. slot_inside c g 0 lt; next = λ p h. ap (slot_of c g) (omega arith) ∙ sym (slot_slot c g p 1) }

-- Here o is what is seen of a call, as its promise says.
module _ (call : Call) (t : Tray) (o : Outcome) (promised : o ≡ does ring call t) (of : has call ring ≡ true) (done : o.number ≡ 0) where
  -- an entry is carried to a position of the new list, so only the slots of these are counted
  same_laid : (lay lay' : ℕ → ℕ) → ((p : ℕ) → p < o.tray.len → lay p ≡ lay' p)
      → with_layout call t lay ≡ with_layout call t lay'
  same_laid lay lay' same =
      let carries = row_carries ring t call (call_clear ring call t o promised done).1 in
      let len = (call_listed ring call t o promised done).tray.len in
      moved_laid _ lay lay' _ t.len (λ j p lt e. same p (omega (arith, carries.inside j p (omega (arith, many ring t)) e)))

  -- EVERY LAYOUT IN RING ORDER of the new list
  pub best_laid : (lay : ℕ → ℕ) → RingOrder (cap t) o.tray.len lay
      → o.moves ≤ with_layout call t lay
  best_laid lay r =
      let b = best call t o promised of done in
      ⊎_elim
      (λ (some : 0 < o.tray.len).
      rw (same_laid lay (slot_of (cap t) (lay 0)) (in_turn _ _ lay r.first r.next)) (b.least (lay 0) (any_slot t o _ (lay 0) b.permitted some (r.first some))))
      (λ (none : o.tray.len ≤ 0). rw (same_laid lay (slot_of (cap t) o.tray.head) (λ p lt. absurd (omega arith))) (b.least _ b.permitted))
      (below? 0 o.tray.len)

  -- EVERY VALID RING of that capacity that holds the new list
  pub best_ring : (u : Tray) → invalid ring u ≡ false → cap u ≡ cap t → list ring u ≡ after call (list ring t)
      → o.moves ≤ with_layout call t (place ring (cap u) u.head)
  best_ring u ok slots holds =
      let len : u.len ≡ o.tray.len = sym (many ring u) ∙ ap length holds ∙ sym (call_listed ring call t o promised done).tray.len in
      let good : valid ring (cap u) u.head u.len ≡ true = not-false _ ok in
      rw slots ((best call t o promised of done).least u.head (rw (slots, len) at good))
