-- A valid container stays valid, whatever call is made on it, done or refused: what a done call leaves fits the slots. A making on at most 4,096
-- slots gives a valid container; on more it is refused.
use Prim.Native.Nat.{ℕ, ◌-◌, ◌≤◌, ◌<◌}
use mathlib.Core.Path.{◌≡◌, refl}
use mathlib.Core.Bool.{true, false, ◌&&◌, ◌||◌}
use mathlib.Core.List.{List}
use native.Mathlib.Omega.{arith}
use borrow.Author.Tests.{lt-ltb, le-ltb, le-leb, eq-eqb}
use lib.Dec.{ltb, leb, eqb}
use lib.ListN.{length}
use mathlib.Core.Logic.{⊎_elim}
use Rattle.slots.specs.Layout.{Kind, ring, vector, itself}
use Rattle.slots.proofs.Words.{below?}
use Rattle.slots.proofs.Relaid.{length_relaid}
use Rattle.table.specs.Tray.{Tray, cap, list, valid, invalid, nowhere}
use Rattle.table.specs.Calls.{Call, Call2, Making, new, with_capacity, from_elem}
use Rattle.table.specs.Table.{row, row2, after, after2, begins, makes}
use Rattle.table.specs.Does.{Outcome, refused, head_after, relay, done, row_of, refusals_of, does, bare, refusals_made, made}
use Rattle.table.specs.Does.{Outcome2, refused2, done2, row_of2, refusals_of2, does2}
use Rattle.table.proofs.Laws.Refusals.{Clear, either, both_hold, not_fails}
use Rattle.table.proofs.Laws.Valid.{Valid, fit}
use Rattle.table.proofs.Laws.Done.{head_in, head_left, home_of_none, many}
use Rattle.table.proofs.Laws.Rows.{kept, made_room, kept2, headed, headed2}

-- valid in numbers
pub valid_of : (k : Kind) (c h n : ℕ) → Valid c h n → valid k c h n ≡ true
unfolding valid
valid_of ring c h n v =
    both_hold (leb c 4096) _ (le-leb c 4096 v.small) (both_hold (leb n c) _ (le-leb n c v.fits) (both_hold (ltb h c || (eqb c 0 && eqb h 0)) _
    (⊎_elim
    (λ (lt : h < c). rw (lt-ltb h c lt))
    (λ (ge : c ≤ h). rw (le-ltb h c ge, eq-eqb c 0 (omega (arith, v.inside)), eq-eqb h 0 (omega (arith, v.inside))))
    (below? h c))
    (⊎_elim
    (λ (some : 0 < n). rw (lt-ltb 0 n some))
    (λ (none : n ≤ 0). rw (le-ltb 0 n none, eq-eqb h 0 (v.home (omega arith))))
    (below? 0 n))))
valid_of vector c h n v = both_hold (leb n c) _ (le-leb n c v.fits) (le-leb c 4096 v.small)

-- What a done call leaves: a list for which there is room, and a head that is a slot.
pub record Leaves (k : Kind) (t : Tray) (l : List ℕ) (head : ℕ) : Type 0 where
  pub room : length l ≤ cap t
  pub inside : head_after k (length l) head ≤ cap t - 1

pub relay_valid : (k : Kind) (t : Tray) (l : List ℕ) (head : ℕ) → cap t ≤ 4096 → Leaves k t l head → invalid k (relay k t l head) ≡ false
relay_valid k t l head few left =
    rw length_relaid (not_fails _ (valid_of k (cap t) (head_after k (length l) head) (length l) (record {
      small = few;
      fits = left.room;
      inside = left.inside;
      home = home_of_none k (length l) head;
    })))

pub call_leaves : (k : Kind) (call : Call) (t : Tray) → Clear (refusals_of k call t) → Leaves k t (after call (list k t)) (row_of k call t).head
call_leaves k call t clear =
    let n_is : length (list k t) ≡ t.len = many k t in
    let fits : length (list k t) ≤ cap t = omega (arith, (fit k t clear.0).fits) in
    let none : Clear (row (cap t) t.head (length (list k t)) (list k t) call).refusals = rw n_is clear.1 in
    record {
      room = (kept itself (cap t) t.head call (list k t) fits none).room;
      inside = head_left k t clear.0 _ _ (λ ok. rw n_is at (headed call (cap t) t.head (list k t) ok fits none));
    }

-- of a call on two: the first keeps its head
pub record Leaves2 (k k2 : Kind) (t t2 : Tray) (ls : List ℕ × List ℕ) (head2 : ℕ) : Type 0 where
  pub first : Leaves k t ls.0 t.head
  pub second : Leaves k2 t2 ls.1 head2

pub two_leave : (k k2 : Kind) (call : Call2) (t t2 : Tray) → Clear (refusals_of2 k k2 call t t2)
    → Leaves2 k k2 t t2 (after2 call (list k t) (list k2 t2)) (row_of2 k k2 call t t2).head2
two_leave k k2 call t t2 clear =
    let l : List ℕ = list k t in
    let l2 : List ℕ = list k2 t2 in
    let was = fit k t clear.0 in
    let was2 = fit k2 t2 clear.1.0 in
    let n_is : length l ≡ t.len = many k t in
    let n2_is : length l2 ≡ t2.len = many k2 t2 in
    let none : Clear (row2 (cap t) t.head (length l) l (cap t2) t2.head (length l2) l2 call).refusals = rw (n_is, n2_is) clear.1.1 in
    let rooms = kept2 itself (cap t) t.head (cap t2) t2.head call l l2 (omega (arith, was.fits)) (omega (arith, was2.fits)) none in
    record {
      first = record { room = rooms.room; inside = head_left k t clear.0 _ _ (λ ok. ok) };
      second = record {
        room = rooms.room2;
        inside = head_left k2 t2 clear.1.0 _ _ (headed2 call (cap t) t.head t.len l (cap t2) t2.head t2.len l2);
      };
    }

pub made_leaves : (k : Kind) (m : Making) (slots : List ℕ) → Clear (refusals_made m slots)
    → Leaves k (bare slots) (begins m) (makes (length slots) m).head
made_leaves k m slots clear = record { room = made_room (length slots) m clear.1; inside = head_in k _ _ _ (start m) }
  where
    start : (m : Making) → (makes (length slots) m).head ≤ length slots - 1
    start new = omega arith
    start (with_capacity i) = omega arith
    start (from_elem i x) = omega arith

-- A call on one container. Here and below o is what is seen of a call, as its promise says.
module _ (k : Kind) (call : Call) (t : Tray) (o : Outcome) (promised : o ≡ does k call t) where
  pub stays_valid : invalid k t ≡ false → invalid k o.tray ≡ false
  unfolding does
  stays_valid ok =
      rw promised (either (λ o. invalid k o.tray ≡ false) (refused t (row_of k call t).given) (refusals_of k call t) (done k t (after call (list k t)) (row_of k call t))
      (λ r. ok)
      (λ clear. relay_valid k t _ _ (fit k t ok).small (call_leaves k call t clear)))

-- A call on two: each stays valid, whatever the other is.
module _ (k k2 : Kind) (call : Call2) (t t2 : Tray) (o : Outcome2) (promised : o ≡ does2 k k2 call t t2) where
  pub first_stays_valid : invalid k t ≡ false → invalid k o.first ≡ false
  unfolding does2
  first_stays_valid ok =
      rw promised (either (λ o. invalid k o.first ≡ false)
      (refused2 t t2 (row_of2 k k2 call t t2).given) (refusals_of2 k k2 call t t2) (done2 k k2 t t2 (after2 call (list k t) (list k2 t2)) (row_of2 k k2 call t t2))
      (λ r. ok)
      (λ clear. relay_valid k t _ _ (fit k t ok).small (two_leave k k2 call t t2 clear).first))

  pub second_stays_valid : invalid k2 t2 ≡ false → invalid k2 o.second ≡ false
  unfolding does2
  second_stays_valid ok =
      rw promised (either (λ o. invalid k2 o.second ≡ false)
      (refused2 t t2 (row_of2 k k2 call t t2).given) (refusals_of2 k k2 call t t2) (done2 k k2 t t2 (after2 call (list k t) (list k2 t2)) (row_of2 k k2 call t t2))
      (λ r. ok)
      (λ clear. relay_valid k2 t2 _ _ (fit k2 t2 ok).small (two_leave k k2 call t t2 clear).second))

-- state 0, 0 is valid on at most 4,096 slots
pub bare_valid : (k : Kind) (slots : List ℕ) → length slots ≤ 4096 → invalid k (bare slots) ≡ false
bare_valid k slots few = not_fails _ (valid_of k (length slots) 0 0 (record { small = few; fits = omega arith; inside = omega arith; home = λ none. refl }))

-- A making, refused or not.
module _ (k : Kind) (m : Making) (slots : List ℕ) (o : Outcome) (promised : o ≡ made k m slots) where
  pub made_valid : length slots ≤ 4096 → invalid k o.tray ≡ false
  unfolding made
  made_valid few =
      rw promised (either (λ o. invalid k o.tray ≡ false) (refused (bare slots) nowhere) (refusals_made m slots) (done k (bare slots) (begins m) (makes (length slots) m))
      (λ r. bare_valid k slots few)
      (λ clear. relay_valid k (bare slots) _ _ few (made_leaves k m slots clear)))

  pub over_refused : 4096 < length slots → o ≡ refused (bare slots) nowhere 1
  unfolding made
  over_refused over = rw (lt-ltb 4096 (length slots) over) at promised
