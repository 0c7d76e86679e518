-- The rows of a drawing, put together from their cells: what is written, with the cells that are left, is always the whole row.
use mathlib.Core.Path.{◌≡◌, refl, sym, ap, ◌∙◌}
use mathlib.Core.Bool.{Bool, true, false}
use mathlib.Core.List.{List, [], ◌∷◌, ◌++◌}
use Prim.Native.Nat.{ℕ, zero, suc, ◌+◌, ◌-◌, ◌≤◌, ◌<◌, max}
use native.Mathlib.Numerals.{add-one}
use native.Mathlib.Omega.{arith}
use lib.Dec.{ltb}
use lib.ListN.{length, get_or, take, drop, replicate, length-replicate, length-take, length-drop, drop_of_length-le}
use lib.Seq.{drop-cons}
use borrow.Rule.Slice.PartMut.{put_mid}
use Rattle.std.proofs.lemmas.List.{get_or-take, get_or-drop}
use Rattle.slots.specs.Layout.{slot_of, pos_of}
use Rattle.slots.proofs.Placing.{length_entries, entry}
use Rattle.io.specs.Digits.{last_digits, IsDigitCount}
use Rattle.words.specs.Words.{bytes, decimal}
use Rattle.words.specs.Wrote.{Wrote}
use Rattle.words.proofs.Decimals.{digits_decimal}
use Rattle.words.proofs.Writing.{wrote_none, wrote_then, Left, left_all, left_none, left_then, wrote_text}
use Rattle.show.specs.Rows.{spaces, right_in, largest, width, slot_cells, slot_row, held_cell, held_cells, held_row, pos_cell, pos_cells, pos_row, group, entry_cell, entry_cells, list_word, list_row, list_in}

-- SPACES
spaces_are : (n m : ℕ) → n ≡ m → replicate m 32 ≡ spaces n
unfolding spaces
spaces_are zero m e = rw (← e) refl
spaces_are (suc n) m e = rw (← e) (ap (λ s. 32 ∷ s) (spaces_are n n refl))

pub spaces_wrote : (a part : List ℕ) (at n : ℕ) → at + n ≤ length a → part ≡ replicate (length (take (at + n - at) (drop at a))) 32
    → Wrote a at (spaces n) (at + n) (put_mid at (at + n - at) a part)
spaces_wrote a part at n h p =
    let all : n ≡ length (take (at + n - at) (drop at a)) = omega (arith, length-take (at + n - at) (drop at a), length-drop at a) in
    let long : length (spaces n) ≡ n = rw (← spaces_are n n refl) (length-replicate n 32) in
    rw long at (wrote_text a (spaces n) part at (rw long h) (p ∙ spaces_are n _ all))

-- TO THE RIGHT
pub right_wrote : {a b c : List ℕ} {at m m2 : ℕ} (part : List ℕ) (w g : ℕ) → Wrote a at (spaces g) m b → Wrote b m part m2 c → g ≡ w - length part → Wrote a at (right_in w part) m2 c
unfolding right_in
right_wrote part w g p q e = rw (← e) (wrote_then p q)

pub number_wrote : {a b : List ℕ} {at m : ℕ} (t : List ℕ) (w n k : ℕ) → Wrote a at (right_in w (take k t)) m b → take k t ≡ last_digits 10 k n → IsDigitCount 10 1 n k
    → Wrote a at (right_in w (decimal n)) m b
number_wrote t w n k p e f = rw (← digits_decimal k n f, ← e) p

-- HOW WIDE
pub largest_turn : (s : List ℕ) (i m m2 v : ℕ) → largest m (drop i s) ≡ v → i < length s → m2 ≡ max m (get_or s i 0) → largest m2 (drop (i + 1) s) ≡ v
unfolding largest
largest_turn s i m m2 v is h e = let cons : drop i s ≡ get_or s i 0 ∷ drop (i + 1) s = rw (add-one, drop-cons s i 0) in rw e (rw cons at is)

pub largest_end : (s : List ℕ) (i m v : ℕ) → largest m (drop i s) ≡ v → length s ≤ i → m ≡ v
unfolding largest
largest_end s i m v is h = rw (drop_of_length-le s {i = i} h) at is

pub width_is : (s t t2 : List ℕ) (x k r : ℕ) → x ≡ largest (length s - 1) s → Wrote t 0 (decimal x) k t2 → r ≡ max k 2 → r ≡ width s
unfolding width
width_is s t t2 x k r e p h = rw (← e) (omega (arith, p.behind))

-- THE CELLS OF A ROW: one more, and all
module _ {a b : List ℕ} {at end : ℕ} {all : List ℕ} (w i last : ℕ) where
  pub slot_turn : {c : List ℕ} {e : ℕ} → Left a at all end (slot_cells w i (last - i)) b → i < last → Wrote b end (right_in (w + 5) (decimal i)) e c
      → Left a at all e (slot_cells w (i + 1) (last - (i + 1))) c
  unfolding slot_cells
  slot_turn p h q = let one : last - i ≡ suc (last - (i + 1)) = omega arith in left_then {s = right_in (w + 5) (decimal i)} (rw one at p) q

  pub slot_end : Left a at all end (slot_cells w i (last - i)) b → last ≤ i → Wrote a at all end b
  unfolding slot_cells
  slot_end p h = let none : last - i ≡ 0 = omega arith in left_none (rw none at p)

  -- the slot as far on from slot i as the head is before the end has the number that is slot i's position
  module _ (cap head len : ℕ) where
    pub pos_turn : {c : List ℕ} {e : ℕ} (s : ℕ) → Left a at all end (pos_cells w cap head len i (last - i)) b → i < last → s ≡ slot_of cap i (cap - head)
        → Wrote b end (pos_cell w len s) e c → Left a at all e (pos_cells w cap head len (i + 1) (last - (i + 1))) c
    unfolding pos_cells slot_of pos_of
    pos_turn s p h e q = let one : last - i ≡ suc (last - (i + 1)) = omega arith in left_then {s = pos_cell w len (pos_of cap head i)} (rw one at p) (rw e at q)

    pub pos_end : Left a at all end (pos_cells w cap head len i (last - i)) b → last ≤ i → Wrote a at all end b
    unfolding pos_cells
    pos_end p h = let none : last - i ≡ 0 = omega arith in left_none (rw none at p)

-- what the slots from first to last hold, k of them done
pub held_start : (w : ℕ) (slots : List ℕ) (first last : ℕ) {a : List ℕ} {at : ℕ} → Left a at (held_cells w slots first (last - first)) at (held_cells w slots (first + 0) (last - (first + 0))) a
held_start w slots first last = let e : first + 0 ≡ first = omega arith in rw e left_all

module _ {a b : List ℕ} {at end : ℕ} {all : List ℕ} (w : ℕ) (slots : List ℕ) (first last k : ℕ) where
  pub held_turn : {c : List ℕ} {e x : ℕ} → Left a at all end (held_cells w slots (first + k) (last - (first + k))) b → k < length (take (last - first) (drop first slots))
      → x ≡ get_or (take (last - first) (drop first slots)) k 0 → Wrote b end (held_cell w x) e c → Left a at all e (held_cells w slots (first + (k + 1)) (last - (first + (k + 1)))) c
  unfolding held_cells
  held_turn {x = x} p h ex q =
      let few : k < last - first = omega (arith, length-take (last - first) (drop first slots)) in
      let one : last - (first + k) ≡ suc (last - (first + (k + 1))) = omega arith in
      let next : first + (k + 1) ≡ first + k + 1 = omega arith in
      let is : x ≡ get_or slots (first + k) 0 = ex ∙ get_or-take (last - first) (drop first slots) k 0 few ∙ get_or-drop first slots k 0 in
      rw next (left_then {s = held_cell w (get_or slots (first + k) 0)} (rw (one, next) at p) (rw is at q))

  pub held_end : Left a at all end (held_cells w slots (first + k) (last - (first + k))) b → length (take (last - first) (drop first slots)) ≤ k → last ≤ length slots → Wrote a at all end b
  unfolding held_cells
  held_end p h fits =
      let none : last - (first + k) ≡ 0 = omega (arith, length-take (last - first) (drop first slots), length-drop first slots) in
      left_none (rw none at p)

module _ {a b : List ℕ} {at end : ℕ} {all : List ℕ} (slots : List ℕ) (head len j last : ℕ) where
  pub entries_turn : {c : List ℕ} {e : ℕ} (s : ℕ) → Left a at all end (entry_cells (list_in slots head len) j (last - j)) b → j < last → last ≤ len
      → s ≡ slot_of (length slots) head j → Wrote b end (entry_cell (get_or slots s 0) (ltb (j + 1) len)) e c
      → Left a at all e (entry_cells (list_in slots head len) (j + 1) (last - (j + 1))) c
  unfolding entry_cells
  entries_turn s p h fits es q =
      let L = list_in slots head len in
      let one : last - j ≡ suc (last - (j + 1)) = omega arith in
      let within : j < len = omega arith in
      let is : get_or L j 0 ≡ get_or slots s 0 = entry (slot_of (length slots) head) len slots j within ∙ ap (λ k. get_or slots k 0) (sym es) in
      left_then {s = entry_cell (get_or L j 0) (ltb (j + 1) (length L))} (rw one at p) (rw (is, length_entries (slot_of (length slots) head) len slots) q)

  pub entries_end : Left a at all end (entry_cells (list_in slots head len) j (last - j)) b → last ≤ j → Wrote a at all end b
  unfolding entry_cells
  entries_end p h = let none : last - j ≡ 0 = omega arith in left_none (rw none at p)

-- ROWS
module _ {a b c d : List ℕ} {at m m2 m3 : ℕ} where
  pub held_cell_law : (w x : ℕ) → Wrote a at (bytes " [ ") m b → Wrote b m (right_in w (decimal x)) m2 c → Wrote c m2 (bytes " ]") m3 d → Wrote a at (held_cell w x) m3 d
  unfolding held_cell
  held_cell_law w x p q r = wrote_then p (wrote_then q r)

  pub entry_more : (x : ℕ) (more : Bool) → Wrote a at (bytes " ") m b → Wrote b m (decimal x) m2 c → Wrote c m2 (bytes ",") m3 d → more ≡ true → Wrote a at (entry_cell x more) m3 d
  unfolding entry_cell
  entry_more x more p q r e = rw e (wrote_then p (wrote_then q r))

  pub slot_row_law : (w first n : ℕ) → Wrote a at (bytes "slot     ") m b → Wrote b m (slot_cells w first n) m2 c → Wrote c m2 (bytes "\n") m3 d → Wrote a at (slot_row w first n) m3 d
  unfolding slot_row
  slot_row_law w first n p q r = wrote_then p (wrote_then q r)

  pub held_row_law : (w : ℕ) (slots : List ℕ) (first n : ℕ) → Wrote a at (bytes "holds       ") m b → Wrote b m (held_cells w slots first n) m2 c → Wrote c m2 (bytes "\n") m3 d
      → Wrote a at (held_row w slots first n) m3 d
  unfolding held_row
  held_row_law w slots first n p q r = wrote_then p (wrote_then q r)

  pub pos_row_law : (w cap h len first n : ℕ) → Wrote a at (bytes "position  ") m b → Wrote b m (pos_cells w cap h len first n) m2 c → Wrote c m2 (bytes "\n") m3 d
      → Wrote a at (pos_row w cap h len first n) m3 d
  unfolding pos_row
  pos_row_law w cap h len first n p q r = wrote_then p (wrote_then q r)

  pub list_row_law : (list : List ℕ) (first n : ℕ) → Wrote a at (list_word first) m b → Wrote b m (entry_cells list first n) m2 c → Wrote c m2 (bytes "\n") m3 d
      → Wrote a at (list_row list first n) m3 d
  unfolding list_row
  list_row_law list first n p q r = wrote_then p (wrote_then q r)

pub entry_last : {a b c : List ℕ} {at m m2 : ℕ} (x : ℕ) (more : Bool) → Wrote a at (bytes " ") m b → Wrote b m (decimal x) m2 c → more ≡ false → Wrote a at (entry_cell x more) m2 c
unfolding entry_cell
entry_last x more p q e = rw e (wrote_then p (wrote_then q wrote_none))

-- A GROUP: an empty line and three rows
pub group_wrote : {a b c d f : List ℕ} {at m m2 m3 m4 : ℕ} (w : ℕ) (slots : List ℕ) (h len first n : ℕ) → Wrote a at (bytes "\n") m b → Wrote b m (slot_row w first n) m2 c
    → Wrote c m2 (held_row w slots first n) m3 d → Wrote d m3 (pos_row w (length slots) h len first n) m4 f → Wrote a at (group w slots h len first n) m4 f
unfolding group
group_wrote w slots h len first n p q r s = wrote_then p (wrote_then q (wrote_then r s))
