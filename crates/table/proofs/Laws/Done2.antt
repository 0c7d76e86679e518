-- What each call on two containers does where it is done, as `Done` has it for one: o is what is seen, and each premise a fact that the code's steps tell.
use mathlib.Core.Path.{◌≡◌, sym, ap₂, ◌∙◌}
use mathlib.Core.Bool.{false}
use mathlib.Core.List.{List, ◌++◌}
use Prim.Native.Nat.{ℕ, ◌+◌, ◌-◌, ◌≤◌}
use native.Mathlib.Omega.{arith}
use borrow.Author.Tests.{eq-eqb, le-ltb}
use lib.ListN.{length, take, drop, length-append, length-take, length-drop}
use Rattle.slots.specs.Layout.{Kind, vector, place, pos, itself, entries, relaid}
use Rattle.slots.specs.Moves.{moved}
use Rattle.slots.specs.Shift.{Filled}
use Rattle.slots.specs.Copy.{Laid}
use Rattle.slots.proofs.Placing.{Placing, placing}
use Rattle.slots.proofs.Moves.{moved_kept}
use Rattle.slots.proofs.Fills.{fill_none, relaid_take}
use Rattle.slots.proofs.Lays.{entries_until, lay_none, lay_all, lay_placed, relaid_append, relaid_fresh, relaid_clear}
use Rattle.table.specs.Tray.{Tray, cap, list, invalid, Cursor, nowhere}
use Rattle.table.specs.Calls.{Call2, append, split_off, clone, from_iter}
use Rattle.table.specs.Table.{Row2, after2, remaining, holding}
use Rattle.table.specs.Does.{Outcome2, refused2, head_after, done2, row_of2, refusals_of2, does2}
use Rattle.table.proofs.Theorems.Carrying.{Carries}
use Rattle.table.proofs.Laws.Valid.{fit}
use Rattle.table.proofs.Laws.Refusals.{Clear, clear_of, inside}
use Rattle.table.proofs.Laws.Done.{Homed, home_of_none, no_head_law, rested_slots, shifted_plainly, row_carries2, many, still, as_it_was}

-- a call that is done, moves nothing and has no cursor
abbrev pub gives2 : (value h n : ℕ) → List ℕ → (h2 n2 : ℕ) → List ℕ → Outcome2
gives2 value h n slots h2 n2 slots2 = record {
  number = 0;
  value = value;
  moves = 0;
  first = record { head = h; len = n; slots = slots };
  second = record { head = h2; len = n2; slots = slots2 };
  cursor = nowhere;
}

-- the first as it was, a vector T with n entries, and a cursor with front and back at `back`
abbrev pub fills : Tray → (n : ℕ) → List ℕ → (back : ℕ) → Outcome2
fills t n slots2 back = record {
  number = 0;
  value = 0;
  moves = 0;
  first = record { head = t.head; len = t.len; slots = t.slots };
  second = record { head = 0; len = n; slots = slots2 };
  cursor = record { front = back; back = back };
}

-- an empty T
free : (t2 : Tray) → t2.len ≡ 0 → holding t2.len ≡ false
free t2 none = rw (eq-eqb t2.len 0 none)

-- a call on two valid containers that no refusal of its row stops
pub done2_is : (k k2 : Kind) (t t2 : Tray) (call : Call2) → invalid k t ≡ false → invalid k2 t2 ≡ false → Clear (row_of2 k k2 call t t2).refusals
    → does2 k k2 call t t2 ≡ done2 k k2 t t2 (after2 call (list k t) (list k2 t2)) (row_of2 k k2 call t t2)
unfolding does2
done2_is k k2 t t2 call ok ok2 clear =
    let all : Clear (refusals_of2 k k2 call t t2) = (ok, (ok2, clear)) in
    clear_of (refused2 t t2 (row_of2 k k2 call t t2).given) (refusals_of2 k k2 call t t2) (done2 k k2 t t2 (after2 call (list k t) (list k2 t2)) (row_of2 k k2 call t t2)) all

-- what it gives, with positions counted from the first's own head and the row's of T, as `plainly` has it of one
abbrev plainly2 : (k k2 : Kind) (t t2 : Tray) → (ls : List ℕ × List ℕ) → Row2 → Outcome2
plainly2 k k2 t t2 ls r = record {
  number = 0;
  value = r.value;
  moves = moved (place k (cap t) t.head) (place k (cap t) t.head) r.carry t.len;
  first = record {
    head = head_after k (length ls.0) t.head;
    len = length ls.0;
    slots = relaid (pos k (cap t) t.head) (pos k (cap t) t.head) t.len ls.0 t.slots;
  };
  second = record {
    head = head_after k2 (length ls.1) r.head2;
    len = length ls.1;
    slots = relaid (pos k2 (cap t2) t2.head) (pos k2 (cap t2) r.head2) t2.len ls.1 t2.slots;
  };
  cursor = r.cursor;
}

rests2 : (k k2 : Kind) (t t2 : Tray) (ls : List ℕ × List ℕ) (r : Row2) → Carries r.carry (list k t) ls.0 → done2 k k2 t t2 ls r ≡ plainly2 k k2 t t2 ls r
rests2 k k2 t t2 ls r c =
    rw (
      rested_slots k (cap t) t.head t.len (pos k (cap t) t.head) ls.0 t.slots,
      rested_slots k2 (cap t2) r.head2 t2.len (pos k2 (cap t2) t2.head) ls.1 t2.slots,
      shifted_plainly k t ls.0 t.head r.carry c,
    )

pub done2_plainly : (k k2 : Kind) (t t2 : Tray) (call : Call2) → invalid k t ≡ false → invalid k2 t2 ≡ false → Clear (row_of2 k k2 call t t2).refusals
    → does2 k k2 call t t2 ≡ plainly2 k k2 t t2 (after2 call (list k t) (list k2 t2)) (row_of2 k k2 call t t2)
done2_plainly k k2 t t2 call ok ok2 clear =
    done2_is k k2 t t2 call ok ok2 clear ∙ rests2 k k2 t t2 (after2 call (list k t) (list k2 t2)) (row_of2 k k2 call t t2) (row_carries2 k k2 t t2 call)

module _ (k k2 : Kind) (t t2 : Tray) (o : Outcome2) (ok : invalid k t ≡ false) (ok2 : invalid k2 t2 ≡ false) where
  -- T's positions from head 0 on
  anew : Placing (cap t2) (place k2 (cap t2) 0) (pos k2 (cap t2) 0)
  anew = placing k2 (cap t2) 0 (omega arith)

  pub append_done : (u u2 : List ℕ) → t2.len ≤ cap t - t.len → Laid (place k (cap t) t.head) t.len t2.len (list k2 t2) t.slots u
      → Filled (place k2 (cap t2) t2.head) 0 t2.len 0 t2.slots u2 → o ≡ gives2 0 (head_after k (t.len + t2.len) t.head) (t.len + t2.len) u 0 0 u2 → o ≡ does2 k k2 append t t2
  append_done u u2 room m m2 eo =
      let f = fit k t ok in
      let longer : length (list k t ++ list k2 t2) ≡ t.len + t2.len = simp (length-append, many k t, many k2 t2) in
      cc (
        done2_plainly k k2 t t2 append ok ok2 (le-ltb _ _ room, tt),
        eo,
        longer,
        still k t,
        no_head_law k2 0,
        relaid_append _ _ t.len t2.len (list k2 t2) t.slots u f.placed (many k2 t2) (omega (arith, f.fits)) m,
        relaid_clear _ _ _ _ t2.len t2.slots u2 (fit k2 t2 ok2).placed anew m2,
      )

  -- NOTHING GOES OVER, and T is empty already: its head is 0.
  at_home : (h n : ℕ) (u : List ℕ) → Homed k2 t2 → t2.len ≡ 0 → gives2 0 h n u t2.head t2.len t2.slots ≡ gives2 0 h n u 0 0 t2.slots
  at_home h n u home2 none = ap₂ (λ h2 n2. gives2 0 h n u h2 n2 t2.slots) (sym home2 ∙ home_of_none k2 t2.len t2.head none) none

  pub append_none_done : Homed k t → Homed k2 t2 → t2.len ≡ 0 → o ≡ gives2 0 t.head t.len t.slots t2.head t2.len t2.slots → o ≡ does2 k k2 append t t2
  append_none_done home home2 none eo =
      let sum : t.len + t2.len ≡ t.len = omega arith in
      append_done t.slots t2.slots (omega arith) (rw none (lay_none _ _ _ _)) (rw none (fill_none _ _ _ _)) (rw (sum, home) (eo ∙ at_home _ _ _ home2 none))

  -- T, which is empty, gets a part of the list
  cloned : Homed k t → (u2 : List ℕ) → t2.len ≡ 0 → t.len ≤ cap t2 → Laid (place k2 (cap t2) 0) 0 t.len (list k t) t2.slots u2
      → o ≡ gives2 0 t.head t.len t.slots 0 t.len u2 → o ≡ does2 k k2 clone t t2
  cloned home u2 none room m eo =
      cc (
        home,
        done2_plainly k k2 t t2 clone ok ok2 (free t2 none, (le-ltb _ _ room, tt)),
        none,
        eo,
        many k t,
        still k t,
        as_it_was k t ok,
        no_head_law k2 t.len,
        relaid_fresh (pos k2 (cap t2) t2.head) _ _ t.len (list k t) t2.slots u2 anew (many k t) m,
      )

  -- laid from slot 0 on, as the code has it: there a ring's position is its slot, as a vector's is
  pub clone_done : Homed k t → (u2 : List ℕ) → t2.len ≡ 0 → t.len ≤ cap t2 → Laid itself 0 (t.len - 0) (drop 0 (list k t)) t2.slots u2
      → o ≡ gives2 0 t.head t.len t.slots 0 t.len u2 → o ≡ does2 k k2 clone t t2
  clone_done home u2 none room m eo = cloned home u2 none room (lay_placed k2 t.len _ _ u2 room (lay_all itself 0 t.len _ _ u2 m)) eo

  pub clone_none_done : Homed k t → Homed k2 t2 → t2.len ≡ 0 → t.len ≡ 0 → o ≡ gives2 0 t.head t.len t.slots t2.head t2.len t2.slots → o ≡ does2 k k2 clone t t2
  clone_none_done home home2 none none1 eo = cloned home t2.slots none (omega arith) (rw none1 (lay_none _ _ _ _)) (cc (eo, at_home t.head t.len t.slots home2 none, none1))

  pub split_done : (i : ℕ) (u u2 : List ℕ) → i ≤ t.len → t2.len ≡ 0 → t.len - i ≤ cap t2 → Filled (place k (cap t) t.head) i t.len 0 t.slots u
      → Laid (place k2 (cap t2) 0) 0 (t.len - i) (drop i (list k t)) t2.slots u2
      → o ≡ gives2 0 (head_after k i t.head) i u 0 (t.len - i) u2 → o ≡ does2 k k2 (split_off i) t t2
  split_done i u u2 le none room m m2 eo =
      let f = fit k t ok in
      let cut : length (take i (list k t)) ≡ i = simp (length-take, many k t) (omega arith) in
      let rest : length (drop i (list k t)) ≡ t.len - i = simp (length-drop, many k t) in
      cc (
        done2_plainly k k2 t t2 (split_off i) ok ok2 (le-ltb _ _ le, (free t2 none, (le-ltb _ _ room, tt))),
        none,
        eo,
        cut,
        rest,
        moved_kept (place k (cap t) t.head) i t.len,
        no_head_law k2 (t.len - i),
        relaid_take _ _ t.len i t.slots u f.placed f.fits le m,
        relaid_fresh (pos k2 (cap t2) t2.head) _ _ (t.len - i) (drop i (list k t)) t2.slots u2 anew rest m2,
      )

  -- of nothing
  pub split_none_done : Homed k t → Homed k2 t2 → (i : ℕ) → i ≤ t.len → t2.len ≡ 0 → t.len ≤ i → o ≡ gives2 0 t.head t.len t.slots t2.head t2.len t2.slots
      → o ≡ does2 k k2 (split_off i) t t2
  split_none_done home home2 i le none ge eo =
      let e : i ≡ t.len = omega arith in
      let z : t.len - i ≡ 0 = omega arith in
      split_done i t.slots t2.slots le none (omega arith) (rw e (fill_none _ _ _ _)) (rw z (lay_none _ _ _ _)) (cc (eo, at_home t.head t.len t.slots home2 none, e, z, home))

-- T, a vector that is empty, gets what remains of a cursor, and the cursor ends
module _ (k : Kind) (t t2 : Tray) (o : Outcome2) (ok : invalid k t ≡ false) (ok2 : invalid vector t2 ≡ false) (c : Cursor) (ordered : c.front ≤ c.back)
    (fits : c.back ≤ t.len) (none : t2.len ≡ 0) (home : Homed k t) where
  from_iter_law : (u2 : List ℕ) → c.back - c.front ≤ cap t2 → Laid itself 0 (c.back - c.front) (remaining c (list k t)) t2.slots u2
      → o ≡ fills t (c.back - c.front) u2 c.back → o ≡ does2 k vector (from_iter c) t t2
  from_iter_law u2 room m eo =
      let long : length (remaining c (list k t)) ≡ c.back - c.front = simp (length-take, length-drop, many k t) (omega arith) in
      cc (
        done2_plainly k vector t t2 (from_iter c) ok ok2 (inside c.front c.back t.len ordered fits, (free t2 none, (le-ltb _ _ room, tt))),
        none,
        eo,
        long,
        many k t,
        still k t,
        home,
        as_it_was k t ok,
        relaid_fresh itself itself itself (c.back - c.front) (remaining c (list k t)) t2.slots u2 (anew k vector t t2 o ok ok2) long m,
      )

  -- an ended cursor
  pub from_iter_none_done : c.front ≡ c.back → o ≡ fills t 0 t2.slots c.back → o ≡ does2 k vector (from_iter c) t t2
  from_iter_none_done ended eo =
      let z : c.back - c.front ≡ 0 = omega arith in
      from_iter_law t2.slots (omega arith) (rw z (lay_none _ _ _ _)) (cc (eo, z))

-- the entries up to the cursor's back, from its front on
pub from_iter_done : (k : Kind) (t t2 : Tray) (o : Outcome2) → invalid k t ≡ false → invalid vector t2 ≡ false → (c : Cursor) (u2 : List ℕ) → c.front ≤ c.back
    → c.back ≤ t.len → t2.len ≡ 0 → Homed k t → c.back - c.front ≤ cap t2
    → Laid itself 0 (c.back - c.front) (drop c.front (entries (place k (cap t) t.head) c.back t.slots)) t2.slots u2
    → o ≡ fills t (c.back - c.front) u2 c.back → o ≡ does2 k vector (from_iter c) t t2
from_iter_done k t t2 o ok ok2 c u2 le fits none home room m eo =
    from_iter_law k t t2 o ok ok2 c le fits none home u2 room (rw (entries_until (place k (cap t) t.head) t.len c.front c.back t.slots fits) m) eo
