-- An empty ring has head 0 (request 03): after every call and making that is done, whatever it was given; and so has every valid one. One with another
-- head is refused by every call, in the place of an invalid state. The rule changes nothing but that head.
use Prim.Native.Nat.{ℕ, ◌<◌}
use mathlib.Core.Path.{◌≡◌, refl, ◌∙◌}
use mathlib.Core.Bool.{Bool, true, false}
use mathlib.Core.List.{List}
use native.Mathlib.Omega.{arith}
use lib.ListN.{length}
use Rattle.slots.specs.Layout.{Kind, ring, vector}
use Rattle.table.specs.Tray.{Tray, cap, list, invalid, nowhere}
use Rattle.table.specs.Calls.{Call, Call2, Making}
use Rattle.table.specs.Table.{after, after2, begins, makes}
use Rattle.table.specs.Does.{Outcome, refused, relay, done, row_of, refusals_of, does, bare, refusals_made, made}
use Rattle.table.specs.Does.{Outcome2, refused2, done2, row_of2, refusals_of2, does2}
use Rattle.table.proofs.Laws.Refusals.{either}
use Rattle.table.proofs.Laws.Valid.{ring_facts}
use Rattle.table.proofs.Laws.Done.{home_of_none, head_kept, plainly, done_plainly}
use Rattle.table.proofs.Theorems.Refused.{call_settled, call_clear, two_settled, two_clear}

-- where nothing is in it, its head is 0; a vector has none
abbrev pub AtHome : Kind → Tray → Type 0
AtHome ring t = t.len ≡ 0 → t.head ≡ 0
AtHome vector t = Unit {0}

-- every valid ring
pub valid_home : (k : Kind) (t : Tray) → invalid k t ≡ false → AtHome k t
valid_home ring t ok = (ring_facts (cap t) t.head t.len ok).home
valid_home vector t ok = tt

relay_home : (k : Kind) (t : Tray) (l : List ℕ) (head : ℕ) → AtHome k (relay k t l head)
relay_home ring t l head = home_of_none ring (length l) head
relay_home vector t l head = tt

-- AFTER A DONE CALL, whatever it was given; and after any call where it was so before. Here and below o is what is seen of a call, as its promise says.
module _ (k : Kind) (call : Call) (t : Tray) (o : Outcome) (promised : o ≡ does k call t) where
  pub done_home : o.number ≡ 0 → AtHome k o.tray
  done_home zero = rw (promised, (call_settled k call t).otherwise (call_clear k call t o promised zero)) (relay_home k t (after call (list k t)) (row_of k call t).head)

  pub stays_home : AtHome k t → AtHome k o.tray
  unfolding does
  stays_home was =
      rw promised (either (λ (o : Outcome). AtHome k o.tray) (refused t (row_of k call t).given) (refusals_of k call t) (done k t (after call (list k t)) (row_of k call t))
      (λ r. was)
      (λ clear. relay_home k t (after call (list k t)) (row_of k call t).head))

-- of both, after a call on two
module _ (k k2 : Kind) (call : Call2) (t t2 : Tray) (o : Outcome2) (promised : o ≡ does2 k k2 call t t2) where
  both_home : AtHome k (relay k t (after2 call (list k t) (list k2 t2)).0 t.head)
      × AtHome k2 (relay k2 t2 (after2 call (list k t) (list k2 t2)).1 (row_of2 k k2 call t t2).head2)
  both_home = (relay_home k t (after2 call (list k t) (list k2 t2)).0 t.head, relay_home k2 t2 (after2 call (list k t) (list k2 t2)).1 (row_of2 k k2 call t t2).head2)

  pub done_home2 : o.number ≡ 0 → AtHome k o.first × AtHome k2 o.second
  done_home2 zero =
      rw (promised, (two_settled k k2 call t t2).otherwise (two_clear k k2 call t t2 o promised zero)) both_home

  pub stay_home2 : AtHome k t → AtHome k2 t2 → AtHome k o.first × AtHome k2 o.second
  unfolding does2
  stay_home2 was was2 =
      rw promised (either (λ (o : Outcome2). AtHome k o.first × AtHome k2 o.second)
      (refused2 t t2 (row_of2 k k2 call t t2).given) (refusals_of2 k k2 call t t2) (done2 k k2 t t2 (after2 call (list k t) (list k2 t2)) (row_of2 k k2 call t t2))
      (λ r. (was, was2))
      (λ clear. both_home))

-- after a making, done or refused
pub made_home : (k : Kind) (m : Making) (slots : List ℕ) (o : Outcome) → o ≡ made k m slots → AtHome k o.tray
unfolding made
made_home k m slots o promised =
    rw promised (either (λ (o : Outcome). AtHome k o.tray) (refused (bare slots) nowhere) (refusals_made m slots) (done k (bare slots) (begins m) (makes (length slots) m))
    (λ r. bare_home k)
    (λ clear. relay_home k (bare slots) (begins m) (makes (length slots) m).head))
  where
    bare_home : (k : Kind) → AtHome k (bare slots)
    bare_home ring = λ none. refl
    bare_home vector = tt

-- ONE WITH ANOTHER HEAD is invalid: 1 to every call, before any other refusal; as T 2, where the first is valid.
turned_invalid : (t : Tray) → t.len ≡ 0 → (t.head ≡ 0 → ⊥) → invalid ring t ≡ true
turned_invalid t none turned = go (invalid ring t) refl
  where
    go : (b : Bool) → invalid ring t ≡ b → b ≡ true
    go true e = refl
    go false e = absurd (turned (valid_home ring t e none))

pub turned_refused : (call : Call) (t : Tray) → t.len ≡ 0 → (t.head ≡ 0 → ⊥) → does ring call t ≡ refused t (row_of ring call t).given 1
unfolding does
turned_refused call t none turned = rw (turned_invalid t none turned)

pub turned_first : (k2 : Kind) (call : Call2) (t t2 : Tray) → t.len ≡ 0 → (t.head ≡ 0 → ⊥)
    → does2 ring k2 call t t2 ≡ refused2 t t2 (row_of2 ring k2 call t t2).given 1
unfolding does2
turned_first k2 call t t2 none turned = rw (turned_invalid t none turned)

pub turned_second : (k : Kind) (call : Call2) (t t2 : Tray) → invalid k t ≡ false → t2.len ≡ 0 → (t2.head ≡ 0 → ⊥)
    → does2 k ring call t t2 ≡ refused2 t t2 (row_of2 k ring call t t2).given 2
unfolding does2
turned_second k call t t2 ok none turned = rw (ok, turned_invalid t2 none turned)

-- NOTHING ELSE: what a done call gives is its row, with lists, slots and moves counted from the row's own head; only where nothing is left is the head of a
-- ring not the row's.
module _ (k : Kind) (call : Call) (t : Tray) (o : Outcome) (promised : o ≡ does k call t) (zero : o.number ≡ 0) where
  pub nothing_else : o ≡ plainly k t (after call (list k t)) (row_of k call t)
  nothing_else =
      let clear = call_clear k call t o promised zero in
      promised ∙ done_plainly k t call clear.0 clear.1

pub head_otherwise : (call : Call) (t : Tray) (o : Outcome) → o ≡ does ring call t → o.number ≡ 0 → 0 < o.tray.len → o.tray.head ≡ (row_of ring call t).head
head_otherwise call t o promised zero some =
    let e = nothing_else ring call t o promised zero in
    let long : 0 < length (after call (list ring t)) = (rw e at some) in
    rw e (head_kept (length (after call (list ring t))) _ (λ none. omega arith))
