-- What insert, remove and swap_remove do where they are done, as the proof of each function finds it: o is what is seen, and each premise a fact
-- that the code's steps tell.
use mathlib.Core.Path.{◌≡◌, refl, ap}
use mathlib.Core.Bool.{false}
use mathlib.Core.List.{List}
use Prim.Native.Nat.{ℕ, ◌+◌, ◌-◌, ◌≤◌, ◌<◌}
use native.Mathlib.Omega.{arith}
use borrow.Author.Tests.{lt-leb, le-ltb, lt-ltb}
use lib.ListN.{length, get_or, set, take, length-set, length-take}
use Rattle.slots.specs.Layout.{Kind, ring, vector, place, pos, itself, slot_of, pos_of}
use Rattle.slots.specs.Moves.{moved, swapped}
use Rattle.slots.specs.Shift.{MovedDown, MovedUp}
use Rattle.slots.proofs.Placing.{slot_zero}
use Rattle.slots.proofs.Relaid.{relaid_swap}
use Rattle.slots.proofs.Moves.{swap_moves_none, swap_moves_one}
use Rattle.slots.proofs.Shifts.{insert_back, remove_back, insert_front, remove_front}
use Rattle.table.specs.Tray.{Tray, cap, list, invalid}
use Rattle.table.specs.Calls.{insert, remove, swap_remove}
use Rattle.table.specs.Does.{Outcome, gives, head_after, row_of, does}
use Rattle.table.proofs.Laws.Valid.{fit, ring_inside}
use Rattle.table.proofs.Theorems.Moves.{insert_high, remove_high, insert_low, remove_low}
use Rattle.table.proofs.Laws.Done.{head_kept, head_stays, done_plainly, many, at, longer, shorter}

module _ (k : Kind) (t : Tray) (o : Outcome) (ok : invalid k t ≡ false) where
  -- where the head stays
  insert_stays : (i x s : ℕ) (u : List ℕ) → place k (cap t) (row_of k (insert i x) t).head ≡ place k (cap t) t.head
      → pos k (cap t) (row_of k (insert i x) t).head ≡ pos k (cap t) t.head
      → i ≤ t.len → t.len < cap t → MovedUp (place k (cap t) t.head) i t.len t.slots u → s ≡ place k (cap t) t.head i
      → o ≡ gives 0 (t.len - i) (head_after k (t.len + 1) (row_of k (insert i x) t).head) (t.len + 1) (set u s x) → o ≡ does k (insert i x) t
  insert_stays i x s u place_stays pos_stays h room m es eo =
      cc (
        done_plainly k t (insert i x) ok (le-ltb _ _ h, (lt-leb _ _ room, tt)),
        place_stays,
        pos_stays,
        eo,
        es,
        longer k t i x h,
        insert_high k t ok i h room,
        insert_back _ _ t.len i t.slots u (fit k t ok).placed x h room m,
      )

  remove_stays : (i s z : ℕ) (u : List ℕ) → place k (cap t) (row_of k (remove i) t).head ≡ place k (cap t) t.head
      → pos k (cap t) (row_of k (remove i) t).head ≡ pos k (cap t) t.head
      → i < t.len → s ≡ place k (cap t) t.head i → MovedDown (place k (cap t) t.head) i (t.len - 1) t.slots u
      → z ≡ place k (cap t) t.head (t.len - 1)
      → o ≡ gives (get_or t.slots s 0) (t.len - 1 - i) (head_after k (t.len - 1) (row_of k (remove i) t).head) (t.len - 1) (set u z 0) → o ≡ does k (remove i) t
  remove_stays i s z u place_stays pos_stays h es m ez eo =
      let f = fit k t ok in
      cc (
        done_plainly k t (remove i) ok (lt-leb _ _ h, tt),
        place_stays,
        pos_stays,
        eo,
        at k t i s h es,
        ez,
        shorter k t i h,
        remove_high k t ok i h,
        remove_back _ _ t.len i t.slots u f.placed h f.fits m,
      )

  swap_shorter : (i x : ℕ) → i < t.len → length (take (t.len - 1) (set (list k t) i x)) ≡ t.len - 1
  swap_shorter i x h = simp (length-take, length-set, many k t) (omega arith)

  -- m is the number of entries moved: none where i is the last, else one
  swaps : (i s z m : ℕ) → i < t.len → moved (place k (cap t) t.head) (place k (cap t) t.head) (swapped i t.len) t.len ≡ m
      → s ≡ place k (cap t) t.head i → z ≡ place k (cap t) t.head (t.len - 1)
      → o ≡ gives (get_or t.slots s 0) m (head_after k (t.len - 1) t.head) (t.len - 1) (set (set t.slots s (get_or t.slots z 0)) z 0) → o ≡ does k (swap_remove i) t
  swaps i s z m h em es ez eo =
      let f = fit k t ok in
      cc (
        done_plainly k t (swap_remove i) ok (lt-leb _ _ h, tt),
        eo,
        em,
        es,
        ez,
        at k t i s h es,
        many k t,
        swap_shorter i (get_or (list k t) (t.len - 1) 0) h,
        relaid_swap _ _ t.len t.slots f.placed f.fits i h,
      )

-- A vector's position is its slot, so its laws need no premise for the slot.
pub vector_insert_done : (t : Tray) (o : Outcome) → invalid vector t ≡ false → (i x : ℕ) (u : List ℕ) → i ≤ t.len → t.len < cap t
    → MovedUp (place vector (cap t) t.head) i t.len t.slots u → o ≡ gives 0 (t.len - i) 0 (t.len + 1) (set u i x) → o ≡ does vector (insert i x) t
vector_insert_done t o ok i x u h room m eo = insert_stays vector t o ok i x i u refl refl h room m refl eo

pub vector_remove_done : (t : Tray) (o : Outcome) → invalid vector t ≡ false → (i : ℕ) (u : List ℕ) → i < t.len
    → MovedDown (place vector (cap t) t.head) i (t.len - 1) t.slots u
    → o ≡ gives (get_or t.slots i 0) (t.len - 1 - i) 0 (t.len - 1) (set u (t.len - 1) 0) → o ≡ does vector (remove i) t
vector_remove_done t o ok i u h m eo = remove_stays vector t o ok i i (t.len - 1) u refl refl h refl m refl eo

pub swap_last_done : (t : Tray) (o : Outcome) → invalid vector t ≡ false → (i : ℕ) → i < t.len → i ≡ t.len - 1
    → o ≡ gives (get_or t.slots i 0) 0 0 (t.len - 1) (set (set t.slots i (get_or t.slots (t.len - 1) 0)) (t.len - 1) 0) → o ≡ does vector (swap_remove i) t
swap_last_done t o ok i h e eo = swaps vector t o ok i i (t.len - 1) 0 h (swap_moves_none itself t.len i e) refl refl eo

pub swap_done : (t : Tray) (o : Outcome) → invalid vector t ≡ false → (i : ℕ) → i < t.len → (i ≡ t.len - 1 → ⊥)
    → o ≡ gives (get_or t.slots i 0) 1 0 (t.len - 1) (set (set t.slots i (get_or t.slots (t.len - 1) 0)) (t.len - 1) 0) → o ≡ does vector (swap_remove i) t
swap_done t o ok i h ne eo = swaps vector t o ok i i (t.len - 1) 1 h (swap_moves_one itself t.len i h ne ne) refl refl eo

-- A ring whose back side is no longer shifts what is after i, and the head stays, unless nothing is left.
module _ (t : Tray) (o : Outcome) (ok : invalid ring t ≡ false) where
  pub insert_back_done : (i x s : ℕ) (u : List ℕ) → i ≤ t.len → t.len < cap t → t.len - i ≤ i
      → MovedUp (slot_of (cap t) t.head) i t.len t.slots u → s ≡ slot_of (cap t) t.head i
      → o ≡ gives 0 (t.len - i) t.head (t.len + 1) (set u s x) → o ≡ does ring (insert i x) t
  insert_back_done i x s u h room far m es eo =
      let stays : (row_of ring (insert i x) t).head ≡ t.head = rw (le-ltb i (t.len - i) far) in
      insert_stays ring t o ok i x s u (ap (slot_of (cap t)) stays) (ap (pos_of (cap t)) stays) h room m es
      (rw (stays, head_stays t ok (t.len + 1) (omega arith)) eo)

  pub remove_back_done : (i s z : ℕ) (u : List ℕ) → i < t.len → t.len - 1 - i ≤ i
      → s ≡ slot_of (cap t) t.head i → MovedDown (slot_of (cap t) t.head) i (t.len - 1) t.slots u → z ≡ slot_of (cap t) t.head (t.len - 1)
      → o ≡ gives (get_or t.slots s 0) (t.len - 1 - i) (head_after ring (t.len - 1) t.head) (t.len - 1) (set u z 0) → o ≡ does ring (remove i) t
  remove_back_done i s z u h far es m ez eo =
      let stays : (row_of ring (remove i) t).head ≡ t.head = rw (le-ltb i (t.len - 1 - i) far) in
      remove_stays ring t o ok i s z u (ap (slot_of (cap t)) stays) (ap (pos_of (cap t)) stays) h es m ez (rw stays eo)

  -- its front: the head goes one back, or one on, and the entries before i follow it
  pub insert_front_done : (i x h s : ℕ) (u : List ℕ) → i ≤ t.len → t.len < cap t → i < t.len - i → h ≡ slot_of (cap t) t.head (cap t - 1)
      → MovedDown (slot_of (cap t) h) 0 i t.slots u → s ≡ slot_of (cap t) h i → o ≡ gives 0 i h (t.len + 1) (set u s x) → o ≡ does ring (insert i x) t
  insert_front_done i x h s u fits room near eh m es eo =
      cc (
        done_plainly ring t (insert i x) ok (le-ltb _ _ fits, (lt-leb _ _ room, tt)),
        lt-ltb _ _ near,
        eo,
        es,
        eh,
        head_kept (t.len + 1) h (λ e. omega arith),
        longer ring t i x fits,
        insert_low t ok i fits room,
        insert_front t.head t.len i t.slots u (ring_inside t ok (omega arith)) x fits room (rw eh at m),
      )

  pub remove_front_done : (i s h : ℕ) (u : List ℕ) → i < t.len → i < t.len - 1 - i → s ≡ slot_of (cap t) t.head i
      → MovedUp (slot_of (cap t) t.head) 0 i t.slots u → h ≡ slot_of (cap t) t.head 1
      → o ≡ gives (get_or t.slots s 0) i (head_after ring (t.len - 1) h) (t.len - 1) (set u t.head 0) → o ≡ does ring (remove i) t
  remove_front_done i s h u fits near es m eh eo =
      let f = fit ring t ok in
      let lt = ring_inside t ok (omega arith) in
      cc (
        done_plainly ring t (remove i) ok (lt-leb _ _ fits, tt),
        lt-ltb _ _ near,
        eo,
        eh,
        head_kept (t.len - 1) h (λ e. omega arith),
        at ring t i s fits es,
        slot_zero (cap t) t.head lt,
        shorter ring t i fits,
        remove_low t ok i fits,
        remove_front t.head t.len i t.slots u lt fits f.fits m,
      )
