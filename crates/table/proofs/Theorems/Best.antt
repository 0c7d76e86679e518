-- No cleverer layout exists: wherever else the row of plates might begin once one goes in or comes out, no fewer of the others would change their slot.
--
-- That is request 07, of a ring's insert and remove that are done, for every head with which the new state is valid: every slot, or slot 0 alone if the ring
-- is left empty. Another head does as well only where as many plates stand on either side of the place. The heads are all the layouts of a ring
-- (`BestLayout`). Not covered are layouts that are no ring, with a gap between two plates or in another order: nothing need move there, but head and length
-- would no longer tell where the list stands (`NoRing`). Nor is a vector, which has no head to choose.
use Prim.Native.Nat.{ℕ, ◌+◌, ◌-◌, min, ◌≤◌, ◌<◌}
use mathlib.Core.Path.{◌≡◌, refl, sym, ap, ◌∙◌}
use mathlib.Core.Bool.{true}
use mathlib.Core.Logic.{inl, inr, ⊎_elim}
use native.Mathlib.Omega.{arith}
use Rattle.slots.specs.Layout.{ring, place}
use Rattle.slots.specs.Moves.{moved, inserted, removed}
use Rattle.slots.proofs.Placing.{slot_inside, slot_away}
use Rattle.table.specs.Tray.{Tray, cap, valid}
use Rattle.table.specs.Calls.{Call, push, push_front, pop, pop_front, insert, remove, swap_remove, write, truncate, resize, clear, extend, look, has}
use Rattle.table.specs.Table.{head_back, head_on}
use Rattle.table.specs.Does.{Outcome, does}
use Rattle.table.specs.Ledger.{if_done}
use Rattle.table.proofs.Laws.Refusals.{not_fails, passed_tests}
use Rattle.table.proofs.Laws.Valid.{fit, ring_facts, ring_inside}
use Rattle.table.proofs.Laws.Done.{longer, shorter, head_kept, home_of_none}
use Rattle.table.proofs.Theorems.Moves.{insert_moves, remove_moves, insert_near, insert_far, remove_near, remove_far, moves_in, moves_of}
use Rattle.table.proofs.Theorems.Refused.{call_clear}
use Rattle.table.proofs.Theorems.StaysValid.{valid_of, call_leaves}
use Rattle.table.proofs.Theorems.Listed.{call_listed}
use Rattle.table.proofs.Theorems.Sides as sides
use Rattle.table.proofs.Theorems.Sides.{with_head, Counts, insert_counts, remove_counts, AsGood}

-- the new list, begun in slot g, is a valid ring's
abbrev pub Permitted : Tray → Outcome → ℕ → Type 0
Permitted t o g = valid ring (cap t) g o.tray.len ≡ true

-- so g is a slot of it; and where something is left, every slot will do
permitted_slot : (t : Tray) (o : Outcome) (g : ℕ) → 0 < cap t → Permitted t o g → g < cap t
permitted_slot t o g some p = omega (arith, (ring_facts (cap t) g o.tray.len (not_fails _ p)).inside)

pub any_slot : (t : Tray) (o : Outcome) (h g : ℕ) → Permitted t o h → 0 < o.tray.len → g < cap t → Permitted t o g
any_slot t o h g p some lt =
    let v = ring_facts (cap t) h o.tray.len (not_fails _ p) in
    valid_of ring (cap t) g o.tray.len (record { small = v.small; fits = v.fits; inside = omega arith; home = λ none. absurd (omega arith) })

-- another head than the one that the call leaves, and as few entries change their slot with it
pub record Another (call : Call) (t : Tray) (o : Outcome) (g : ℕ) : Type 0 where
  pub permitted : Permitted t o g
  pub apart : g ≡ o.tray.head → ⊥
  pub tied : with_head call t g ≡ o.moves

-- What is the same of both calls: h' is the head one slot away, and a and b of the remaining entries stand before the place and behind it.
record Sided (call : Call) (t : Tray) (o : Outcome) (h' a b : ℕ) : Type 0 where
  counts : (g : ℕ) → Permitted t o g → Counts t.head h' a b g (with_head call t g)
  shorter : o.moves ≡ min a b
  front : a < b → o.tray.head ≡ h'
  back : b ≤ a → 0 < o.tray.len → o.tray.head ≡ t.head
  left : a + b ≤ o.tray.len

module _ (call : Call) (t : Tray) (o : Outcome) (h' a b : ℕ) (s : Sided call t o h' a b) where
  stays : b ≤ a → 0 < a + b → o.tray.head ≡ t.head
  stays le some = s.back le (omega (arith, s.left))

  module _ (g : ℕ) (p : Permitted t o g) where
    sided_best : o.moves ≤ with_head call t g
    sided_best = rw s.shorter (sides.none_fewer _ _ _ _ _ _ (s.counts g p))

    sided_good : AsGood o.tray.head h' a b g → with_head call t g ≡ o.moves
    sided_good good = rw s.shorter (sides.is_good _ _ _ _ _ _ (s.counts g p) _ s.front stays good)

    sided_only : with_head call t g ≡ o.moves → AsGood o.tray.head h' a b g
    sided_only tie = sides.as_good _ _ _ _ _ _ (s.counts g p) _ s.front stays (tie ∙ s.shorter)

    sided_more : (a ≡ b → ⊥) → (g ≡ o.tray.head → ⊥) → o.moves < with_head call t g
    sided_more uneven ne = rw s.shorter (sides.all_more _ _ _ _ _ _ (s.counts g p) _ s.front stays uneven ne)

  sided_tie : a ≡ b → 0 < o.tray.len → Permitted t o h' → (h' ≡ t.head → ⊥) → Another call t o h'
  sided_tie even some p ne = record {
    permitted = p;
    apart = λ e. ne (e ∙ s.back (omega arith) some);
    tied = sided_good h' p (inr (even, inl refl));
  }

  sided_even : (g : ℕ) → Another call t o g → a ≡ b
  sided_even g other = ⊎_elim (λ e. absurd (other.apart e)) (λ alike. alike.0) (sided_only g other.permitted other.tied)

-- INSERT and REMOVE. Here and below o is what is seen of a call, as its promise says.
pub one_more : (t : Tray) (i x : ℕ) (o : Outcome) → o ≡ does ring (insert i x) t → o.number ≡ 0 → o.tray.len ≡ t.len + 1
one_more t i x o promised done =
    let e = call_clear ring (insert i x) t o promised done in
    (call_listed ring (insert i x) t o promised done).tray.len ∙ longer ring t i x (omega passed_tests)

pub one_less : (t : Tray) (i : ℕ) (o : Outcome) → o ≡ does ring (remove i) t → o.number ≡ 0 → o.tray.len ≡ t.len - 1
one_less t i o promised done =
    let e = call_clear ring (remove i) t o promised done in
    (call_listed ring (remove i) t o promised done).tray.len ∙ shorter ring t i (omega passed_tests)

insert_sided : (t : Tray) (i x : ℕ) (o : Outcome) → o ≡ does ring (insert i x) t → o.number ≡ 0
    → Sided (insert i x) t o (head_back (cap t) t.head) i (t.len - i)
insert_sided t i x o promised done =
    let e = call_clear ring (insert i x) t o promised done in
    let fits : i ≤ t.len = omega passed_tests in
    let room : t.len < cap t = omega passed_tests in
    let len = one_more t i x o promised done in
    let head : o.tray.head ≡ (does ring (insert i x) t).tray.head = ap (λ o. o.tray.head) promised in
    record {
      counts = λ g p. insert_counts t e.0 i x g fits room (permitted_slot t o g (omega arith) p);
      shorter = ap (λ o. o.moves) promised ∙ insert_moves t e.0 i x fits room;
      front = λ near. head ∙ (insert_near t e.0 i x fits room near).0;
      back = λ far some. head ∙ (insert_far t e.0 i x fits room far).0;
      left = omega arith;
    }

remove_sided : (t : Tray) (i : ℕ) (o : Outcome) → o ≡ does ring (remove i) t → o.number ≡ 0
    → Sided (remove i) t o (head_on (cap t) t.head) i (t.len - 1 - i)
remove_sided t i o promised done =
    let e = call_clear ring (remove i) t o promised done in
    let fits : i < t.len = omega passed_tests in
    let len = one_less t i o promised done in
    let head : o.tray.head ≡ (does ring (remove i) t).tray.head = ap (λ o. o.tray.head) promised in
    record {
      counts = λ g p. remove_counts t e.0 i g fits (permitted_slot t o g (omega (arith, (fit ring t e.0).fits)) p);
      shorter = ap (λ o. o.moves) promised ∙ remove_moves t e.0 i fits;
      front = λ near. head ∙ (remove_near t e.0 i fits near).0;
      back = λ far some. head ∙ (remove_far t e.0 i fits far).0 ∙ head_kept (t.len - 1) t.head (λ none. omega arith);
      left = omega arith;
    }

-- INSERT, where the call is done, with any head g that the capacity permits for the new list: g makes no fewer of the remaining entries change their slot;
-- which heads do as well, these and no others; and where the sides differ every other one makes more of them do.
module _ (t : Tray) (i x : ℕ) (o : Outcome) (promised : o ≡ does ring (insert i x) t) (done : o.number ≡ 0) (g : ℕ) (permitted : Permitted t o g) where
  pub insert_best : o.moves ≤ moved (place ring (cap t) t.head) (place ring (cap t) g) (inserted i) t.len
  insert_best = sided_best _ t o _ _ _ (insert_sided t i x o promised done) g permitted

  pub insert_as_good : AsGood o.tray.head (head_back (cap t) t.head) i (t.len - i) g → with_head (insert i x) t g ≡ o.moves
  insert_as_good = sided_good _ t o _ _ _ (insert_sided t i x o promised done) g permitted

  pub insert_only_these : with_head (insert i x) t g ≡ o.moves → AsGood o.tray.head (head_back (cap t) t.head) i (t.len - i) g
  insert_only_these = sided_only _ t o _ _ _ (insert_sided t i x o promised done) g permitted

  pub insert_all_more : (i ≡ t.len - i → ⊥) → (g ≡ o.tray.head → ⊥) → o.moves < with_head (insert i x) t g
  insert_all_more = sided_more _ t o _ _ _ (insert_sided t i x o promised done) g permitted

-- REMOVE, in the same words.
module _ (t : Tray) (i : ℕ) (o : Outcome) (promised : o ≡ does ring (remove i) t) (done : o.number ≡ 0) (g : ℕ) (permitted : Permitted t o g) where
  pub remove_best : o.moves ≤ moved (place ring (cap t) t.head) (place ring (cap t) g) (removed i) t.len
  remove_best = sided_best _ t o _ _ _ (remove_sided t i o promised done) g permitted

  pub remove_as_good : AsGood o.tray.head (head_on (cap t) t.head) i (t.len - 1 - i) g → with_head (remove i) t g ≡ o.moves
  remove_as_good = sided_good _ t o _ _ _ (remove_sided t i o promised done) g permitted

  pub remove_only_these : with_head (remove i) t g ≡ o.moves → AsGood o.tray.head (head_on (cap t) t.head) i (t.len - 1 - i) g
  remove_only_these = sided_only _ t o _ _ _ (remove_sided t i o promised done) g permitted

  pub remove_all_more : (i ≡ t.len - 1 - i → ⊥) → (g ≡ o.tray.head → ⊥) → o.moves < with_head (remove i) t g
  remove_all_more = sided_more _ t o _ _ _ (remove_sided t i o promised done) g permitted

-- EVERY CALL of a ring that is done: its moves are the count with the head that it leaves, which is permitted, and no permitted head has a smaller one. What
-- moves nothing can't be bettered.
pub record Least (call : Call) (t : Tray) (o : Outcome) : Type 0 where
  pub permitted : Permitted t o o.tray.head
  pub counted : o.moves ≡ with_head call t o.tray.head
  pub least : (g : ℕ) → Permitted t o g → o.moves ≤ with_head call t g

module _ (call : Call) (t : Tray) (o : Outcome) (promised : o ≡ does ring call t) (of : has call ring ≡ true) (done : o.number ≡ 0) where
  moves_in_law : o.moves ≡ moves_in ring t.len call
  moves_in_law =
      ap (λ o. o.moves) promised ∙ moves_of ring call t of ∙ ap (λ m. if_done m (moves_in ring t.len call) 0) (ap (λ o. o.number) (sym promised) ∙ done)

  left_permitted : Permitted t o o.tray.head
  left_permitted =
      let clear = call_clear ring call t o promised done in
      let left = call_leaves ring call t clear in
      let now = (call_listed ring call t o promised done).tray in
      rw (now.head, now.len) (valid_of ring (cap t) _ _ (record {
        small = (fit ring t clear.0).small;
        fits = left.room;
        inside = left.inside;
        home = home_of_none ring _ _;
      }))

none_less : (call : Call) (t : Tray) (o : Outcome) → o ≡ does ring call t → has call ring ≡ true → o.number ≡ 0
    → (g : ℕ) → Permitted t o g → o.moves ≤ with_head call t g
none_less (insert i x) t o promised of done g p = insert_best t i x o promised done g p
none_less (remove i) t o promised of done g p = remove_best t i o promised done g p
none_less (push x) t o promised of done g p = omega (arith, moves_in_law (push x) t o promised of done)
none_less (push_front x) t o promised of done g p = omega (arith, moves_in_law (push_front x) t o promised of done)
none_less pop t o promised of done g p = omega (arith, moves_in_law pop t o promised of done)
none_less pop_front t o promised of done g p = omega (arith, moves_in_law pop_front t o promised of done)
none_less (swap_remove i) t o promised of done g p = let z : ◌≡◌ {A = ℕ} 0 1 = cc in absurd (omega arith)
none_less (write i x) t o promised of done g p = omega (arith, moves_in_law (write i x) t o promised of done)
none_less (truncate k) t o promised of done g p = omega (arith, moves_in_law (truncate k) t o promised of done)
none_less (resize k x) t o promised of done g p = omega (arith, moves_in_law (resize k x) t o promised of done)
none_less clear t o promised of done g p = omega (arith, moves_in_law clear t o promised of done)
none_less (extend s) t o promised of done g p = omega (arith, moves_in_law (extend s) t o promised of done)
none_less (look q) t o promised of done g p = omega (arith, moves_in_law (look q) t o promised of done)

pub best : (call : Call) (t : Tray) (o : Outcome) → o ≡ does ring call t → has call ring ≡ true → o.number ≡ 0 → Least call t o
best call t o promised of done = record {
  permitted = left_permitted call t o promised of done;
  counted = (call_listed ring call t o promised done).moves;
  least = none_less call t o promised of done;
}

-- ANOTHER HEAD THAT DOES AS WELL there is where as many stand on either side, if there is another slot to begin in, and nowhere else: 'fewer than all
-- others' would be false.
pub insert_another : (t : Tray) (i x : ℕ) (o : Outcome) → o ≡ does ring (insert i x) t → o.number ≡ 0 → i ≡ t.len - i → 1 < cap t
    → Another (insert i x) t o (head_back (cap t) t.head)
insert_another t i x o promised done even more =
    let inside = ring_inside t (call_clear ring (insert i x) t o promised done).0 (omega arith) in
    let s = insert_sided t i x o promised done in
    let some : 0 < o.tray.len = omega (arith, one_more t i x o promised done) in
    sided_tie _ t o _ _ _ s even some
    (any_slot t o _ _ (best (insert i x) t o promised refl done).permitted some (slot_inside (cap t) t.head (cap t - 1) inside))
    (slot_away (cap t) t.head (cap t - 1) inside (omega arith) (omega arith))

pub insert_another_even : (t : Tray) (i x : ℕ) (o : Outcome) → o ≡ does ring (insert i x) t → o.number ≡ 0
    → (g : ℕ) → Another (insert i x) t o g → i ≡ t.len - i
insert_another_even t i x o promised done = sided_even _ t o _ _ _ (insert_sided t i x o promised done)

pub remove_another : (t : Tray) (i : ℕ) (o : Outcome) → o ≡ does ring (remove i) t → o.number ≡ 0 → i ≡ t.len - 1 - i → 1 < t.len
    → Another (remove i) t o (head_on (cap t) t.head)
remove_another t i o promised done even more =
    let ok = (call_clear ring (remove i) t o promised done).0 in
    let wide : 1 < cap t = omega (arith, (fit ring t ok).fits) in
    let inside = ring_inside t ok (omega arith) in
    let s = remove_sided t i o promised done in
    let some : 0 < o.tray.len = omega (arith, s.left) in
    sided_tie _ t o _ _ _ s even some
    (any_slot t o _ _ (best (remove i) t o promised refl done).permitted some (slot_inside (cap t) t.head 1 inside))
    (slot_away (cap t) t.head 1 inside (omega arith) wide)

pub remove_another_even : (t : Tray) (i : ℕ) (o : Outcome) → o ≡ does ring (remove i) t → o.number ≡ 0
    → (g : ℕ) → Another (remove i) t o g → i ≡ t.len - 1 - i
remove_another_even t i o promised done = sided_even _ t o _ _ _ (remove_sided t i o promised done)
