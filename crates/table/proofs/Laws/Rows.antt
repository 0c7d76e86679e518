-- Each row of the table keeps the weight, the room and the head. A call more is a case more here.
use Prim.Native.Nat.{ℕ, zero, suc, ◌+◌, ◌-◌, ◌≤◌, ◌<◌}
use mathlib.Core.Path.{◌≡◌, refl}
use mathlib.Core.Bool.{Bool, true, false, not, cond}
use mathlib.Core.List.{List}
use native.Mathlib.Omega.{arith}
use lib.Dec.{ltb, eqb}
use lib.ListN.{length, length-append, length-take, length-drop, length-set, length-replicate}
use borrow.Author.Tests.{ltb-false, leb-false, eqb-true, not-false}
use Rattle.slots.specs.Count.{weigh}
use Rattle.slots.specs.Layout.{slot_of}
use Rattle.slots.proofs.Counts.{weigh_none, weigh_append, weigh_split, weigh_at, weigh_set, weigh_last, weigh_swap}
use Rattle.slots.proofs.Placing.{slot_inside}
use Rattle.table.specs.Calls.{Call, push, push_front, pop, pop_front, insert, remove, swap_remove, write, truncate, resize, clear, extend, look}
use Rattle.table.specs.Calls.{Call2, append, split_off, clone, from_iter, same, Making, new, with_capacity, from_elem}
use Rattle.table.specs.Table.{row, row2, makes, after, after2, begins}
use Rattle.table.specs.Ledger.{Flow, flow, flow2}
use Rattle.table.proofs.Laws.Refusals.{Clear}

-- how the tests of the refusals read
filled : (n : ℕ) → eqb n 0 ≡ false → 0 < n
filled zero e = let z : ◌≡◌ {A = ℕ} 0 1 = cc in omega arith
filled (suc n) e = omega arith

nothing : (n : ℕ) → not (eqb n 0) ≡ false → n ≡ 0
nothing n e = eqb-true n 0 (not-false (eqb n 0) e)

ruleset readings = (leb-false, ltb-false, filled, nothing)

-- A call that is done leaves no more entries than there are slots, and keeps the weight, whatever each number weighs (so the count of every number, and the total):
-- what entered and was there is what was handed out, dropped, and is there.
pub record Kept (w : ℕ → ℕ) (c : ℕ) (f : Flow) (before after : List ℕ) : Type 0 where
  pub room : length after ≤ c
  pub balance : weigh w f.entered + weigh w before ≡ weigh w f.handed + weigh w f.dropped + weigh w after

pub kept : (w : ℕ → ℕ) (c h : ℕ) (call : Call) (l : List ℕ) → length l ≤ c → Clear (row c h (length l) l call).refusals
    → Kept w c (flow call (row c h (length l) l call).value l) l (after call l)
kept w c h (push y) l fits e = record { room = simp length-append (omega (arith, readings)); balance = simp weigh_append (omega arith) }
kept w c h (push_front y) l fits e = record { room = omega (arith, readings); balance = omega arith }
kept w c h pop l fits e = record { room = simp length-take (omega arith); balance = omega (arith, weigh_last w l (omega (arith, readings))) }
kept w c h pop_front l fits e = record { room = simp length-drop (omega arith); balance = omega (arith, weigh_at w 0 l (omega (arith, readings))) }
kept w c h (insert i y) l fits e = record {
  room = simp (length-append, length-take, length-drop) (omega (arith, readings));
  balance = simp weigh_append (omega (arith, weigh_split w i l));
}
kept w c h (remove i) l fits e = record {
  room = simp (length-append, length-take, length-drop) (omega arith);
  balance = simp weigh_append (omega (arith, weigh_at w i l (omega (arith, readings))));
}
kept w c h (swap_remove i) l fits e =
    record { room = simp (length-take, length-set) (omega arith); balance = omega (arith, weigh_swap w i l (omega (arith, readings))) }
kept w c h (write i y) l fits e = record { room = simp length-set fits; balance = omega (arith, weigh_set w i y l (omega (arith, readings))) }
kept w c h (truncate k) l fits e = record { room = simp length-take (omega arith); balance = omega (arith, weigh_split w k l) }
kept w c h (resize k y) l fits e = record {
  room = simp (length-append, length-take, length-replicate) (omega (arith, readings));
  balance = simp weigh_append (omega (arith, weigh_split w k l));
}
kept w c h clear l fits e = record { room = omega arith; balance = omega arith }
kept w c h (extend s) l fits e = record { room = simp length-append (omega (arith, readings)); balance = simp weigh_append (omega arith) }
kept w c h (look k) l fits e = record { room = fits; balance = refl }

pub made_room : (c : ℕ) (m : Making) → Clear (makes c m).refusals → length (begins m) ≤ c
made_room c new e = omega arith
made_room c (with_capacity k) e = omega arith
made_room c (from_elem k y) e = simp length-replicate (omega (arith, readings))

-- the same of a call on two, their weights added
pub record Kept2 (w : ℕ → ℕ) (c c2 : ℕ) (f : Flow) (before before2 after after2 : List ℕ) : Type 0 where
  pub room : length after ≤ c
  pub room2 : length after2 ≤ c2
  pub balance : weigh w f.entered + (weigh w before + weigh w before2) ≡ weigh w f.handed + weigh w f.dropped + (weigh w after + weigh w after2)

pub kept2 : (w : ℕ → ℕ) (c h c2 h2 : ℕ) (call : Call2) (l l2 : List ℕ) → length l ≤ c → length l2 ≤ c2
    → Clear (row2 c h (length l) l c2 h2 (length l2) l2 call).refusals
    → Kept2 w c c2 (flow2 call l) l l2 (after2 call l l2).0 (after2 call l l2).1
kept2 w c h c2 h2 append l l2 fits fits2 e =
    record { room = simp length-append (omega (arith, readings)); room2 = omega arith; balance = simp weigh_append (omega arith) }
kept2 w c h c2 h2 (split_off at) l l2 fits fits2 e = record {
  room = simp length-take (omega arith);
  room2 = simp length-drop (omega (arith, readings));
  balance = omega (arith, weigh_split w at l, weigh_none w l2 (omega (arith, readings)));
}
kept2 w c h c2 h2 clone l l2 fits fits2 e =
    record { room = fits; room2 = omega (arith, readings); balance = omega (arith, weigh_none w l2 (omega (arith, readings))) }
kept2 w c h c2 h2 (from_iter u) l l2 fits fits2 e = record {
  room = fits;
  room2 = simp (length-take, length-drop) (omega (arith, readings));
  balance = omega (arith, weigh_none w l2 (omega (arith, readings)));
}
kept2 w c h c2 h2 same l l2 fits fits2 e = record { room = fits; room2 = fits2; balance = refl }

-- The head afterwards is a slot, or 0 where there is none.
turned : (c h j : ℕ) → h < c → slot_of c h j ≤ c - 1
turned c h j lt = omega (arith, slot_inside c h j lt)

one_of : (t : Bool) (a b m : ℕ) → a ≤ m → b ≤ m → cond t a b ≤ m
one_of true a b m p q = p
one_of false a b m p q = q

pub headed : (call : Call) (c h : ℕ) (l : List ℕ) → h ≤ c - 1 → length l ≤ c → Clear (row c h (length l) l call).refusals
    → (row c h (length l) l call).head ≤ c - 1
headed (push y) c h l ok fits e = ok
headed (push_front y) c h l ok fits e = turned c h (c - 1) (omega (arith, readings))
headed pop c h l ok fits e = ok
headed pop_front c h l ok fits e = turned c h 1 (omega (arith, readings))
headed (insert i y) c h l ok fits e = one_of (ltb i (length l - i)) _ h _ (turned c h (c - 1) (omega (arith, readings))) ok
headed (remove i) c h l ok fits e = one_of (ltb i (length l - 1 - i)) _ h _ (turned c h 1 (omega (arith, readings))) ok
headed (swap_remove i) c h l ok fits e = ok
headed (write i y) c h l ok fits e = ok
headed (truncate k) c h l ok fits e = ok
headed (resize k y) c h l ok fits e = ok
headed clear c h l ok fits e = omega arith
headed (extend s) c h l ok fits e = ok
headed (look k) c h l ok fits e = ok

pub headed2 : (call : Call2) (c h n : ℕ) (l : List ℕ) (c2 h2 n2 : ℕ) (l2 : List ℕ) → h2 ≤ c2 - 1 → (row2 c h n l c2 h2 n2 l2 call).head2 ≤ c2 - 1
headed2 append c h n l c2 h2 n2 l2 ok = omega arith
headed2 (split_off at) c h n l c2 h2 n2 l2 ok = omega arith
headed2 clone c h n l c2 h2 n2 l2 ok = omega arith
headed2 (from_iter u) c h n l c2 h2 n2 l2 ok = omega arith
headed2 same c h n l c2 h2 n2 l2 ok = ok
