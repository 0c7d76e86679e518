-- The technicians' sentence (request 03): on an empty ring a fresh stack that is pushed back, plate by plate, lies along the tray from slot 0 on, entry j in
-- slot j. Each push is done, and the slots after the stack keep what they held.
use Prim.Native.Nat.{ℕ, ◌+◌, ◌≤◌, ◌<◌}
use mathlib.Core.Path.{◌≡◌, refl, sym, ap, ◌∙◌}
use mathlib.Core.Bool.{false}
use mathlib.Core.List.{List, [], ◌∷◌, ◌++◌, append-nil, append_assoc}
use native.Mathlib.Omega.{arith}
use borrow.Author.Tests.{lt-leb}
use lib.ListN.{length, get_or, length-append}
use Rattle.slots.specs.Layout.{ring, place, slot_of, pos_of}
use Rattle.slots.proofs.Placing.{Placing, placing, entry, no_entries}
use Rattle.slots.proofs.Relaid.{length_relaid}
use Rattle.slots.proofs.Lays.{slot_near}
use Rattle.table.specs.Tray.{Tray, cap, list, invalid}
use Rattle.table.specs.Calls.{Call, push}
use Rattle.table.specs.Does.{Outcome, head_after, does}
use Rattle.table.proofs.Laws.Done.{done_is, no_head_law, many}
use Rattle.table.proofs.Theorems.Listed.{call_listed}
use Rattle.table.proofs.Theorems.StaysValid.{stays_valid}
use Rattle.table.proofs.Theorems.Home.{valid_home}

-- a ring on which these are pushed back, the first first
abbrev pub stacked : Tray → List ℕ → Tray
stacked t [] = t
stacked t (x ∷ xs) = stacked (does ring (push x) t).tray xs

-- each push is done
abbrev pub AllDone : Tray → List ℕ → Type 0
AllDone t [] = Unit {0}
AllDone t (x ∷ xs) = ((does ring (push x) t).number ≡ 0) × AllDone (does ring (push x) t).tray xs

-- the stack lies along the tray `now`, from slot 0 on; before it the tray was `was`
pub record Lies (was : Tray) (xs : List ℕ) (now : Tray) : Type 0 where
  pub done : AllDone was xs
  pub head : now.head ≡ 0
  pub len : now.len ≡ length xs
  pub listed : list ring now ≡ xs
  pub placed : (j : ℕ) → j < length xs → place ring (cap now) now.head j ≡ j
  pub slot : (j : ℕ) → j < length xs → get_or now.slots j 0 ≡ get_or xs j 0
  pub rest : (s : ℕ) → length xs ≤ s → s < cap was → get_or now.slots s 0 ≡ get_or was.slots s 0

-- with head 0 a position is its slot, and a slot its position
plain : (c j : ℕ) → j < c → slot_of c 0 j ≡ j
plain c j lt = slot_near c 0 j (omega arith) ∙ omega arith

plain_back : (c s : ℕ) → s < c → pos_of c 0 s ≡ s
plain_back c s lt =
    let p : Placing c (slot_of c 0) (pos_of c 0) = placing ring c 0 (omega arith) in
    sym (plain c (pos_of c 0 s) (p.below s lt)) ∙ p.forth s lt

-- the same on a ring that has entries, from slot 0 on: one push after another
record Grows (was : Tray) (xs : List ℕ) (now : Tray) : Type 0 where
  done : AllDone was xs
  head : now.head ≡ 0
  len : now.len ≡ was.len + length xs
  long : cap now ≡ cap was
  listed : list ring now ≡ list ring was ++ xs
  rest : (s : ℕ) → was.len + length xs ≤ s → s < cap was → get_or now.slots s 0 ≡ get_or was.slots s 0

one_more : (t : Tray) (x : ℕ) → invalid ring t ≡ false → t.head ≡ 0 → t.len < cap t → Grows t (x ∷ []) (does ring (push x) t).tray
one_more t x ok home room =
    let o : Outcome = does ring (push x) t in
    let is = done_is ring t (push x) ok (lt-leb _ _ room, tt) in
    let zero : o.number ≡ 0 = ap (λ o. o.number) is in
    let now = (call_listed ring (push x) t o refl zero).tray in
    let n : ℕ = length (list ring t ++ (x ∷ [])) in
    let longer : n ≡ t.len + 1 = simp (length-append, many ring t) (omega arith) in
    let at_0 : o.tray.head ≡ 0 = now.head ∙ ap (head_after ring n) home ∙ no_head_law ring n in
    record {
      done = (zero, tt);
      head = at_0;
      len = now.len ∙ longer;
      long = ap (λ o. cap o.tray) is ∙ length_relaid _ _ _ _ _;
      listed = now.listed;
      rest = λ s past lt.
          let is_s : pos_of (cap t) o.tray.head s ≡ s = ap (λ h. pos_of (cap t) h s) at_0 ∙ plain_back (cap t) s lt in
          let was_s : pos_of (cap t) t.head s ≡ s = ap (λ h. pos_of (cap t) h s) home ∙ plain_back (cap t) s lt in
          now.untouched s lt (omega arith) (omega arith);
    }

grows : (t : Tray) (xs : List ℕ) → invalid ring t ≡ false → t.head ≡ 0 → t.len + length xs ≤ cap t → Grows t xs (stacked t xs)
grows t [] ok home room =
    record { done = tt; head = home; len = omega arith; long = refl; listed = sym (append-nil (list ring t)); rest = λ s past lt. refl }
grows t (x ∷ xs) ok home room =
    let now : Tray = (does ring (push x) t).tray in
    let first = one_more t x ok home (omega arith) in
    let then = grows now xs (stays_valid ring (push x) t _ refl ok) first.head (omega (arith, first.len, first.long)) in
    record {
      done = (first.done.0, then.done);
      head = then.head;
      len = omega (arith, then.len, first.len);
      long = then.long ∙ first.long;
      listed = then.listed ∙ ap (λ l. l ++ xs) first.listed ∙ append_assoc (list ring t) (x ∷ []) xs;
      rest = λ s past lt. then.rest s (omega (arith, first.len)) (omega (arith, first.long)) ∙ first.rest s (omega arith) lt;
    }

-- A FRESH STACK on any empty ring that is valid, as many as there are slots at most.
pub lies : (t : Tray) → invalid ring t ≡ false → t.len ≡ 0 → (xs : List ℕ) → length xs ≤ cap t → Lies t xs (stacked t xs)
lies t ok none xs room =
    let g = grows t xs ok (valid_home ring t ok none) (omega arith) in
    let empty : list ring t ≡ [] = rw none (no_entries _ t.slots) in
    let all : list ring (stacked t xs) ≡ xs = g.listed ∙ ap (λ l. l ++ xs) empty in
    let at_j : (j : ℕ) → j < length xs → place ring (cap (stacked t xs)) (stacked t xs).head j ≡ j =
    λ j lt. ap (λ h. slot_of (cap (stacked t xs)) h j) g.head ∙ plain (cap (stacked t xs)) j (omega (arith, g.long)) in
    record {
      done = g.done;
      head = g.head;
      len = omega (arith, g.len);
      listed = all;
      placed = at_j;
      slot = λ j lt.
          ap (λ s. get_or (stacked t xs).slots s 0) (sym (at_j j lt))
          ∙ sym (entry _ (stacked t xs).len (stacked t xs).slots j (omega (arith, g.len)))
          ∙ ap (λ l. get_or l j 0) all;
      rest = λ s past lt. g.rest s (omega arith) lt;
    }

-- So on a ring that a done call has emptied, whichever it was, wherever its head stood.
pub emptied_lies : (call : Call) (t : Tray) (o : Outcome) → o ≡ does ring call t → invalid ring t ≡ false → o.tray.len ≡ 0
    → (xs : List ℕ) → length xs ≤ cap o.tray → Lies o.tray xs (stacked o.tray xs)
emptied_lies call t o promised ok none xs room = lies o.tray (stays_valid ring call t o promised ok) none xs room
