-- Upstream's clauses of iterators, of a cursor by value: `remaining` and `into_iter_elts` are the entries from front to back, `decrease` is how many they
-- are, and `will_return_none` is that there is none. No clause says what a step does to them; paper 01 decides it, and what it decides is here too.
use Prim.Native.Nat.{ℕ, suc, ◌+◌, ◌-◌, ◌≤◌, ◌<◌}
use mathlib.Core.Path.{◌≡◌, sym, ap, ◌∙◌}
use mathlib.Core.Bool.{false, not, cond}
use mathlib.Core.List.{List, [], ◌∷◌, ◌++◌}
use mathlib.Core.Logic.{inl, inr, ⊎_elim}
use native.Mathlib.Omega.{arith}
use borrow.Author.Tests.{leb-true, leb-false, eqb-false, not-false, eq-eqb, ne_eqb}
use lib.Dec.{leb}
use lib.ListN.{length, get_or, take, drop, length-take, length-drop}
use lib.Seq.{take_all, get_or-take, get_or-drop, take-suc, drop-cons}
use Rattle.slots.specs.Layout.{Kind}
use Rattle.slots.proofs.Words.{below?}
use Rattle.table.specs.Tray.{Tray, cap, list, invalid, Cursor, within}
use Rattle.table.specs.Calls.{iter, into_iter, step_front, step_back, peek_front, peek_back, look, from_iter}
use Rattle.table.specs.Table.{remaining, astray, ended}
use Rattle.table.specs.Does.{Outcome, Outcome2, does, does2}
use Rattle.table.proofs.Laws.Refusals.{inside}
use Rattle.table.proofs.Laws.Valid.{and_left, and_right}
use Rattle.table.proofs.Laws.Done.{many}
use Rattle.table.proofs.Theorems.Refused.{call_clear}
use Rattle.table.proofs.Theorems.Listed.{call_listed, two_listed}
use Rattle.table.proofs.Theorems.Upstream.{IfInside, IfSome, by_le, numbered, done_value}
use Rattle.table.proofs.Theorems.UpstreamTwo.{IfTakes, by_taking, numbered2, second_list}

-- front ≤ back ≤ n, as every cursor upstream is
abbrev pub InOrder : Cursor → (n : ℕ) → Type 0
InOrder u n = (u.front ≤ u.back) × (u.back ≤ n)

in_order : (u : Cursor) (n : ℕ) → astray u n ≡ false → InOrder u n
in_order u n e =
    let both = not-false (within u.front u.back n) e in
    (leb-true u.front u.back (and_left _ _ both), leb-true u.back n (and_right (leb u.front u.back) _ both))

-- THE ENTRIES THAT REMAIN: how many, which, and with one less at either end
module _ (u : Cursor) (l : List ℕ) (order : InOrder u (length l)) where
  pub length_remaining : length (remaining u l) ≡ u.back - u.front
  length_remaining = simp (length-take, length-drop) (omega arith)

  remaining_at : (i : ℕ) → i < u.back - u.front → get_or (remaining u l) i 0 ≡ get_or l (u.front + i) 0
  remaining_at i below = get_or-take (u.back - u.front) (drop u.front l) i 0 below ∙ get_or-drop u.front l i 0

  without_first : u.front < u.back → remaining u l ≡ get_or l u.front 0 ∷ remaining (record { front = u.front + 1; back = u.back }) l
  without_first some =
      let one : u.back - u.front ≡ suc (u.back - (u.front + 1)) = omega arith in
      let on : suc u.front ≡ u.front + 1 = omega arith in
      rw (one, drop-cons l u.front 0 (omega arith)) (ap (λ j. get_or l u.front 0 ∷ take (u.back - (u.front + 1)) (drop j l)) on)

  without_last : u.front < u.back → remaining u l ≡ remaining (record { front = u.front; back = u.back - 1 }) l ++ (get_or l (u.back - 1) 0 ∷ [])
  without_last some =
      let one : u.back - u.front ≡ suc (u.back - 1 - u.front) = omega arith in
      let last : u.front + (u.back - 1 - u.front) ≡ u.back - 1 = omega arith in
      let long : length (drop u.front l) ≡ length l - u.front = length-drop u.front l in
      rw one (take-suc (drop u.front l) (u.back - 1 - u.front) 0 (omega arith))
      ∙ ap (λ x. take (u.back - 1 - u.front) (drop u.front l) ++ (x ∷ [])) (get_or-drop u.front l (u.back - 1 - u.front) 0 ∙ ap (λ j. get_or l j 0) last)

-- BEGINNINGS: iter and into_iter, which keeps the container, give all entries
pub record Begins (k : Kind) (t : Tray) (o : Outcome) : Type 0 where
  pub iter_answers : invalid k t ≡ false → o.number ≡ 0
  pub iter_remaining : invalid k t ≡ false → remaining o.cursor (list k t) ≡ list k t
  pub iter_decrease : invalid k t ≡ false → o.cursor.back - o.cursor.front ≡ length (list k t)

module _ (k : Kind) (t : Tray) (o : Outcome) where
  begins : (invalid k t ≡ false → o.number ≡ 0) → (o.number ≡ 0 → o.cursor ≡ record { front = 0; back = t.len }) → Begins k t o
  begins answers all = record {
    iter_answers = answers;
    iter_remaining = λ ok. rw (all (answers ok)) (take_all (t.len - 0) (list k t) (omega (arith, many k t)));
    iter_decrease = λ ok. rw (all (answers ok), many k t) (omega arith);
  }

  pub iter_begins : o ≡ does k (look iter) t → Begins k t o
  iter_begins promised = begins (numbered k (look iter) t o promised) (λ done. (call_listed k (look iter) t o promised done).cursor)

  pub into_iter_begins : o ≡ does k (look into_iter) t → Begins k t o
  into_iter_begins promised = begins (numbered k (look into_iter) t o promised) (λ done. (call_listed k (look into_iter) t o promised done).cursor)

-- STEPS AND PEEKS: a step takes one entry off what remains, and of a valid container and a cursor in order it is refused where none remains, a peek where
-- fewer do
pub record StepsFront (k : Kind) (t : Tray) (u : Cursor) (o : Outcome) : Type 0 where
  pub step_front_remaining : o.number ≡ 0 → remaining u (list k t) ≡ o.value ∷ remaining o.cursor (list k t)
  pub step_front_answers : invalid k t ≡ false → InOrder u (length (list k t)) → IfSome o.number (length (remaining u (list k t)))

pub record StepsBack (k : Kind) (t : Tray) (u : Cursor) (o : Outcome) : Type 0 where
  pub step_back_remaining : o.number ≡ 0 → remaining u (list k t) ≡ remaining o.cursor (list k t) ++ (o.value ∷ [])
  pub step_back_answers : invalid k t ≡ false → InOrder u (length (list k t)) → IfSome o.number (length (remaining u (list k t)))

pub record PeeksFront (k : Kind) (t : Tray) (u : Cursor) (m : ℕ) (o : Outcome) : Type 0 where
  pub peek_front_value : o.number ≡ 0 → o.value ≡ get_or (remaining u (list k t)) m 0
  pub peek_front_answers : invalid k t ≡ false → InOrder u (length (list k t)) → IfInside o.number (length (remaining u (list k t))) m

pub record PeeksBack (k : Kind) (t : Tray) (u : Cursor) (m : ℕ) (o : Outcome) : Type 0 where
  pub peek_back_value : o.number ≡ 0 → o.value ≡ get_or (remaining u (list k t)) (length (remaining u (list k t)) - m - 1) 0
  pub peek_back_answers : invalid k t ≡ false → InOrder u (length (list k t)) → IfInside o.number (length (remaining u (list k t))) m

module _ (k : Kind) (t : Tray) (o : Outcome) (u : Cursor) where
  ordered : astray u t.len ≡ false → InOrder u (length (list k t))
  ordered e = in_order u (length (list k t)) (rw (many k t) e)

  unended : InOrder u (length (list k t)) → ended u ≡ false → u.front < u.back
  unended order e = let differ = eqb-false u.front u.back e in omega (arith, order.0, differ)

  module _ (order : InOrder u (length (list k t))) where
    before : not (within u.front u.back t.len) ≡ false
    before = inside u.front u.back t.len order.0 (omega (arith, many k t))

    some_left : o.number ≡ cond (ended u) 4 0 → IfSome o.number (length (remaining u (list k t)))
    some_left e =
        rw (length_remaining u (list k t) order)
        (⊎_elim
        (λ (lt : u.front < u.back). inl (e ∙ rw (ne_eqb u.front u.back (omega arith)), omega arith))
        (λ (ge : u.back ≤ u.front). inr (e ∙ rw (eq-eqb u.front u.back (omega arith)), omega arith))
        (below? u.front u.back))

    more_left : (m : ℕ) → o.number ≡ cond (leb (u.back - u.front) m) 3 0 → IfInside o.number (length (remaining u (list k t))) m
    more_left m e = rw (length_remaining u (list k t) order) (by_le o.number (u.back - u.front) m 3 e)

  pub front_steps : o ≡ does k (look (step_front u)) t → StepsFront k t u o
  front_steps promised = record {
    step_front_remaining = λ done.
        let clear = call_clear k (look (step_front u)) t o promised done in
        let told = call_listed k (look (step_front u)) t o promised done in
        let order = ordered clear.1.0 in
        rw (told.value, told.cursor) (without_first u (list k t) order (unended order clear.1.1.0));
    step_front_answers = λ ok order. some_left order (numbered k (look (step_front u)) t o promised ok ∙ rw (before order));
  }

  pub back_steps : o ≡ does k (look (step_back u)) t → StepsBack k t u o
  back_steps promised = record {
    step_back_remaining = λ done.
        let clear = call_clear k (look (step_back u)) t o promised done in
        let told = call_listed k (look (step_back u)) t o promised done in
        let order = ordered clear.1.0 in
        rw (told.value, told.cursor) (without_last u (list k t) order (unended order clear.1.1.0));
    step_back_answers = λ ok order. some_left order (numbered k (look (step_back u)) t o promised ok ∙ rw (before order));
  }

  pub front_peeks : (m : ℕ) → o ≡ does k (look (peek_front u m)) t → PeeksFront k t u m o
  front_peeks m promised = record {
    peek_front_value = λ done.
        let clear = call_clear k (look (peek_front u m)) t o promised done in
        let below : m < u.back - u.front = leb-false (u.back - u.front) m clear.1.1.0 in
        done_value k (look (peek_front u m)) t o promised done ∙ sym (remaining_at u (list k t) (ordered clear.1.0) m below);
    peek_front_answers = λ ok order. more_left order m (numbered k (look (peek_front u m)) t o promised ok ∙ rw (before order));
  }

  pub back_peeks : (m : ℕ) → o ≡ does k (look (peek_back u m)) t → PeeksBack k t u m o
  back_peeks m promised = record {
    peek_back_value = λ done.
        let clear = call_clear k (look (peek_back u m)) t o promised done in
        let order = ordered clear.1.0 in
        let below : m < u.back - u.front = leb-false (u.back - u.front) m clear.1.1.0 in
        let from : u.front + (u.back - u.front - m - 1) ≡ u.back - 1 - m = omega arith in
        rw (length_remaining u (list k t) order)
        (done_value k (look (peek_back u m)) t o promised done
        ∙ sym (remaining_at u (list k t) order (u.back - u.front - m - 1) (omega arith) ∙ ap (λ j. get_or (list k t) j 0) from));
    peek_back_answers = λ ok order. more_left order m (numbered k (look (peek_back u m)) t o promised ok ∙ rw (before order));
  }

-- FROM_ITER fills T with what remained, and nothing remains
pub record Fills (k k2 : Kind) (t t2 : Tray) (u : Cursor) (o : Outcome2) : Type 0 where
  pub from_iter_list : o.number ≡ 0 → list k2 o.second ≡ remaining u (list k t)
  pub from_iter_ended : o.number ≡ 0 → remaining o.cursor (list k t) ≡ []
  pub from_iter_answers : invalid k t ≡ false → invalid k2 t2 ≡ false → InOrder u (length (list k t))
      → IfTakes o.number (cap t2) (length (list k2 t2)) (length (remaining u (list k t)))

pub from_iter_fills : (k k2 : Kind) (t t2 : Tray) (o : Outcome2) (u : Cursor) → o ≡ does2 k k2 (from_iter u) t t2 → Fills k k2 t t2 u o
from_iter_fills k k2 t t2 o u promised = record {
  from_iter_list = second_list k k2 (from_iter u) t t2 o promised;
  from_iter_ended = λ done. let none : u.back - u.back ≡ 0 = omega arith in rw ((two_listed k k2 (from_iter u) t t2 o promised done).cursor, none);
  from_iter_answers = λ ok ok2 order.
      let fine = inside u.front u.back t.len order.0 (omega (arith, many k t)) in
      rw (many k2 t2, length_remaining u (list k t) order)
      (by_taking o.number (cap t2) t2.len (u.back - u.front) (numbered2 k k2 (from_iter u) t t2 o promised ok ok2 ∙ rw fine));
}
