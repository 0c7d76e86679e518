-- What a push, a pop or a write at one slot does where it is done, as the proof of its function finds it: o is what is seen, and each premise
-- a fact that the code's steps tell.
use mathlib.Core.Path.{◌≡◌, refl}
use mathlib.Core.Bool.{false}
use mathlib.Core.List.{[], ◌∷◌, ◌++◌}
use Prim.Native.Nat.{ℕ, ◌+◌, ◌-◌, ◌<◌}
use native.Mathlib.Omega.{arith}
use borrow.Author.Tests.{ne_eqb, lt-leb}
use lib.ListN.{length, get_or, set, length-set, length-append}
use Rattle.slots.specs.Layout.{Kind, ring, vector, place, slot_of}
use Rattle.slots.proofs.Words.{insert_last, remove_last}
use Rattle.slots.proofs.Placing.{slot_inside, slot_zero}
use Rattle.slots.proofs.Relaid.{relaid_write}
use Rattle.slots.proofs.Shifts.{down_none, up_none, insert_back, remove_back, insert_front, remove_front}
use Rattle.slots.proofs.Moves.{moved_replaced}
use Rattle.table.specs.Tray.{Tray, cap, list, invalid}
use Rattle.table.specs.Calls.{push, push_front, pop, pop_front, write}
use Rattle.table.specs.Table.{head_back}
use Rattle.table.specs.Does.{Outcome, gives, head_after, does}
use Rattle.table.proofs.Laws.Valid.{fit, ring_inside}
use Rattle.table.proofs.Theorems.Moves.{remove_high, insert_low, remove_low}
use Rattle.table.proofs.Laws.Done.{Homed, head_kept, head_stays, done_plainly, many, still, at, longer, shorter}

module _ (k : Kind) (t : Tray) (o : Outcome) (ok : invalid k t ≡ false) where
  pub write_done : Homed k t → (i x s : ℕ) → i < t.len → s ≡ place k (cap t) t.head i
      → o ≡ gives (get_or t.slots s 0) 0 t.head t.len (set t.slots s x) → o ≡ does k (write i x) t
  write_done home i x s h es eo =
      let f = fit k t ok in
      cc (
        done_plainly k t (write i x) ok (lt-leb _ _ h, tt),
        eo,
        home,
        es,
        at k t i s h es,
        length-set (list k t) i x,
        many k t,
        moved_replaced (place k (cap t) t.head) i t.len,
        relaid_write _ _ t.len t.slots f.placed f.fits i x h,
      )

  pushes : (x s : ℕ) → t.len < cap t → s ≡ place k (cap t) t.head t.len
      → o ≡ gives 0 0 (head_after k (t.len + 1) t.head) (t.len + 1) (set t.slots s x) → o ≡ does k (push x) t
  pushes x s room es eo =
      let f = fit k t ok in
      let longer : length (list k t ++ (x ∷ [])) ≡ t.len + 1 = simp (length-append, many k t) (omega arith) in
      cc (
        done_plainly k t (push x) ok (lt-leb _ _ room, tt),
        eo,
        es,
        longer,
        still k t,
        insert_last (list k t) t.len x (many k t),
        insert_back _ _ t.len t.len t.slots t.slots f.placed x (omega arith) room (up_none _ _ _),
      )

  pub pop_done : (s : ℕ) → (t.len ≡ 0 → ⊥) → s ≡ place k (cap t) t.head (t.len - 1)
      → o ≡ gives (get_or t.slots s 0) 0 (head_after k (t.len - 1) t.head) (t.len - 1) (set t.slots s 0) → o ≡ does k pop t
  pop_done s any es eo =
      let f = fit k t ok in
      let none : t.len - 1 - (t.len - 1) ≡ 0 = omega arith in
      cc (
        done_plainly k t pop ok (ne_eqb _ _ any, tt),
        eo,
        es,
        at k t (t.len - 1) s (omega arith) es,
        shorter k t (t.len - 1) (omega arith),
        remove_high k t ok (t.len - 1) (omega arith),
        none,
        remove_last (list k t) t.len (many k t) (omega arith),
        many k t,
        remove_back _ _ t.len (t.len - 1) t.slots t.slots f.placed (omega arith) f.fits (down_none _ _ _),
      )

-- A vector's position is its slot, so its laws need no premise for the slot.
pub vector_push_done : (t : Tray) (o : Outcome) → invalid vector t ≡ false → (x : ℕ) → t.len < cap t
    → o ≡ gives 0 0 0 (t.len + 1) (set t.slots t.len x) → o ≡ does vector (push x) t
vector_push_done t o ok x room eo = pushes vector t o ok x t.len room refl eo

pub vector_pop_done : (t : Tray) (o : Outcome) → invalid vector t ≡ false → (t.len ≡ 0 → ⊥)
    → o ≡ gives (get_or t.slots (t.len - 1) 0) 0 0 (t.len - 1) (set t.slots (t.len - 1) 0) → o ≡ does vector pop t
vector_pop_done t o ok any eo = pop_done vector t o ok (t.len - 1) any refl eo

-- A ring's back, where something stands afterwards; and its front: the head goes one back, or one on.
module _ (t : Tray) (o : Outcome) (ok : invalid ring t ≡ false) where
  pub push_done : (x s : ℕ) → t.len < cap t → s ≡ slot_of (cap t) t.head t.len
      → o ≡ gives 0 0 t.head (t.len + 1) (set t.slots s x) → o ≡ does ring (push x) t
  push_done x s room es eo = pushes ring t o ok x s room es (rw (head_stays t ok (t.len + 1) (omega arith)) eo)

  pub push_front_done : (x s : ℕ) → t.len < cap t → s ≡ slot_of (cap t) t.head (cap t - 1)
      → o ≡ gives 0 0 s (t.len + 1) (set t.slots s x) → o ≡ does ring (push_front x) t
  push_front_done x s room es eo =
      let lt = ring_inside t ok (omega arith) in
      cc (
        done_plainly ring t (push_front x) ok (lt-leb _ _ room, tt),
        eo,
        es,
        longer ring t 0 x (omega arith),
        head_kept (t.len + 1) s (λ e. omega arith),
        insert_low t ok 0 (omega arith) room,
        slot_zero (cap t) (head_back (cap t) t.head) (slot_inside (cap t) t.head (cap t - 1) lt),
        insert_front t.head t.len 0 t.slots t.slots lt x (omega arith) room (down_none _ _ _),
      )

  pub pop_front_done : (h : ℕ) → (t.len ≡ 0 → ⊥) → h ≡ slot_of (cap t) t.head 1
      → o ≡ gives (get_or t.slots t.head 0) 0 (head_after ring (t.len - 1) h) (t.len - 1) (set t.slots t.head 0) → o ≡ does ring pop_front t
  pop_front_done h any eh eo =
      let f = fit ring t ok in
      let lt = ring_inside t ok (omega arith) in
      cc (
        done_plainly ring t pop_front ok (ne_eqb _ _ any, tt),
        eo,
        eh,
        at ring t 0 (slot_of (cap t) t.head 0) (omega arith) refl,
        slot_zero (cap t) t.head lt,
        shorter ring t 0 (omega arith),
        remove_low t ok 0 (omega arith),
        remove_front t.head t.len 0 t.slots t.slots lt (omega arith) f.fits (up_none _ _ _),
      )
