-- A call answers m exactly where m's condition in paper 01's number table holds and no lower number's does, and 0 exactly where none holds. The
-- argument: each test of a row's refusals says its number's condition, each condition is tested, and the numbers of a row rise.
use Prim.Native.Nat.{ℕ, zero, suc, ◌≤◌, ◌<◌}
use mathlib.Core.Path.{◌≡◌, refl, subst}
use mathlib.Core.Bool.{Bool, true, false, not, cond}
use mathlib.Core.List.{List, [], ◌∷◌}
use mathlib.Core.Logic.{◌⊎◌, inl, inr, ⊎_elim}
use native.Mathlib.Omega.{arith}
use borrow.Author.Tests.{ltb-true, leb-true, eqb-true, lt-ltb, le-leb, eq-eqb, ne_eqb}
use lib.Dec.{ltb, leb, eqb}
use lib.ListN.{length}
use Rattle.slots.specs.Layout.{Kind}
use Rattle.slots.proofs.Words.{below?}
use Rattle.table.specs.Tray.{Tray, within, cap, list}
use Rattle.table.specs.Calls.{Look, len, is_empty, read, reserve, try_reserve, try_reserve_exact, range, iter, into_iter, step_front, step_back, peek_front, peek_back}
use Rattle.table.specs.Calls.{Call, push, push_front, pop, pop_front, insert, remove, swap_remove, write, truncate, resize, clear, extend, look}
use Rattle.table.specs.Calls.{Call2, append, split_off, clone, from_iter, same, Making, new, with_capacity, from_elem}
use Rattle.table.specs.Table.{Refusal, taken, full, number_of, makes, holding}
use Rattle.table.specs.Does.{Outcome, Outcome2, row_of, row_of2, refusals_of, refusals_of2, refusals_made, does, does2, made}
use Rattle.table.specs.Numbers.{Astray, NoRoom, Applies, Applies2, AppliesMade, Lowest}
use Rattle.table.specs.Numbers.{beyond_read, beyond_write, beyond_remove, beyond_swap, beyond_insert, astray_front, astray_back, astray_peek, astray_peek_back, past_peek, past_peek_back, astray_range}
use Rattle.table.specs.Numbers.{empty_pop, empty_pop_front, ended_front, ended_back, full_push, full_push_front, full_insert, full_extend, full_reserve, full_try, full_exact, full_resize}
use Rattle.table.specs.Numbers.{beyond_split, astray_from, taken_split, taken_clone, taken_from, full_append, full_split, full_clone, full_from, too_many, full_capacity, full_elem}
use Rattle.table.proofs.Laws.Refusals.{above_zero, first_number, inside, not_holds}
use Rattle.table.proofs.Laws.Valid.{and_left, and_right}
use Rattle.table.proofs.Theorems.Order.{rising, row_rising, row2_rising, made_rising}
use Rattle.table.proofs.Theorems.Refused.{call_settled, two_settled, made_settled}

-- What `the first that applies, from the lowest number up` says of a number answered.
pub record Answers (applies : ℕ → Type 0) (number : ℕ) : Type 0 where
  pub lowest : (m : ℕ) → number ≡ suc m → Lowest applies (suc m)
  pub only : (m : ℕ) → Lowest applies m → number ≡ m
  pub none : number ≡ 0 → (j : ℕ) → applies j → ⊥
  pub done : ((j : ℕ) → applies j → ⊥) → number ≡ 0

-- each test that holds says that its number applies
abbrev pub Sound : (applies : ℕ → Type 0) → List (Bool × Refusal) → Type 0
Sound applies [] = Unit {0}
Sound applies (r ∷ rest) = (r.0 ≡ true → applies (number_of r.1)) × Sound applies rest

-- a test holds whose number is j or lower
abbrev pub Tests : (j : ℕ) → List (Bool × Refusal) → Type 0
Tests j [] = ⊥
Tests j (r ∷ rest) = ((r.0 ≡ true) × (number_of r.1 ≤ j)) ⊎ Tests j rest

module _ (applies : ℕ → Type 0) where
  applied : (rs : List (Bool × Refusal)) → Sound applies rs → (m : ℕ) → first_number rs ≡ suc m → applies (suc m)
  applied [] sound m e = absurd (omega arith)
  applied (r ∷ rest) sound m e = go r.0 refl (applied rest sound.1 m) e
    where
      go : (b : Bool) → r.0 ≡ b → (first_number rest ≡ suc m → applies (suc m)) → cond b (number_of r.1) (first_number rest) ≡ suc m → applies (suc m)
      go true q more e = subst applies e (sound.0 q)
      go false q more e = more e

-- a rising list has no number below the one it starts at
bounded : (m j : ℕ) (rs : List (Bool × Refusal)) → rising m rs ≡ true → Tests j rs → m ≤ j
bounded m j [] rise test = absurd test
bounded m j (r ∷ rest) rise (inl test) = omega (arith, leb-true m (number_of r.1) (and_left _ _ rise))
bounded m j (r ∷ rest) rise (inr more) =
    omega (arith, leb-true m (number_of r.1) (and_left _ _ rise), bounded (number_of r.1) j rest (and_right (leb m (number_of r.1)) _ rise) more)

reached : (m j : ℕ) (rs : List (Bool × Refusal)) → rising m rs ≡ true → Tests j rs → (0 < first_number rs) × (first_number rs ≤ j)
reached m j [] rise test = absurd test
reached m j (r ∷ rest) rise (inl test) = rw test.0 (above_zero r.1, test.1)
reached m j (r ∷ rest) rise (inr more) = go r.0 (reached (number_of r.1) j rest up more)
  where
    up : rising (number_of r.1) rest ≡ true
    up = and_right (leb m (number_of r.1)) _ rise

    go : (b : Bool) → (0 < first_number rest) × (first_number rest ≤ j) → (0 < cond b (number_of r.1) (first_number rest)) × (cond b (number_of r.1) (first_number rest) ≤ j)
    go true after = (above_zero r.1, bounded (number_of r.1) j rest up more)
    go false after = after

pub answers : (applies : ℕ → Type 0) (rs : List (Bool × Refusal)) → rising 1 rs ≡ true → Sound applies rs → ((j : ℕ) → applies j → Tests j rs)
    → Answers applies (first_number rs)
answers applies rs rise sound tested = record {
  lowest = λ m e. (applied applies rs sound m e, λ j lt a. omega (arith, at_most j a));
  only = λ m low. ⊎_elim
      (λ (lt : first_number rs < m). absurd (low.1 (first_number rs) lt (holds (first_number rs) refl (at_most m low.0).0)))
      (λ (ge : m ≤ first_number rs). omega (arith, at_most m low.0))
      (below? (first_number rs) m);
  none = λ e j a. omega (arith, at_most j a);
  done = λ never. nothing never (first_number rs) refl;
}
  where
    at_most : (j : ℕ) → applies j → (0 < first_number rs) × (first_number rs ≤ j)
    at_most j a = reached 1 j rs rise (tested j a)

    holds : (n : ℕ) → first_number rs ≡ n → 0 < n → applies n
    holds zero e some = absurd (omega arith)
    holds (suc m) e some = applied applies rs sound m e

    nothing : ((j : ℕ) → applies j → ⊥) → (n : ℕ) → first_number rs ≡ n → first_number rs ≡ 0
    nothing never zero e = e
    nothing never (suc m) e = absurd (never (suc m) (applied applies rs sound m e))

-- how a test that is no plain comparison reads
astray_of : (a b n : ℕ) → not (within a b n) ≡ true → Astray a b n
astray_of a b n e p = let z : ◌≡◌ {A = ℕ} 0 1 = cc (inside a b n p.0 p.1) in omega arith

of_astray : (a b n : ℕ) → Astray a b n → not (within a b n) ≡ true
of_astray a b n far = go (within a b n) refl
  where
    go : (v : Bool) → within a b n ≡ v → not v ≡ true
    go true e = absurd (far (leb-true a b (and_left _ _ e), leb-true b n (and_right (leb a b) _ e)))
    go false e = refl

holding_of : (n : ℕ) → holding n ≡ true → 0 < n
holding_of zero e = let z : ◌≡◌ {A = ℕ} 0 1 = cc in omega arith
holding_of (suc n) e = omega arith

of_holding : (n : ℕ) → 0 < n → holding n ≡ true
of_holding n some = not_holds (eqb n 0) (ne_eqb n 0 (omega arith))

no_slot : (c n : ℕ) → leb c n ≡ true → NoRoom c n 1
no_slot c n e = omega (arith, leb-true)

of_no_slot : (c n : ℕ) → NoRoom c n 1 → leb c n ≡ true
of_no_slot c n h = le-leb c n (omega arith)

-- Calls on one container: each test of a row says what the paper says,
look_sound : (k : Kind) (t : Tray) (q : Look) → Sound (λ j. Applies k t j (look q)) (row_of k (look q) t).refusals
look_sound k t len = tt
look_sound k t is_empty = tt
look_sound k t (read i) = (λ e. beyond_read (leb-true _ _ e), tt)
look_sound k t (reserve m) = (λ e. full_reserve (ltb-true _ _ e), tt)
look_sound k t (try_reserve m) = (λ e. full_try (ltb-true _ _ e), tt)
look_sound k t (try_reserve_exact m) = (λ e. full_exact (ltb-true _ _ e), tt)
look_sound k t (range a b) = (λ e. astray_range (astray_of _ _ _ e), tt)
look_sound k t iter = tt
look_sound k t into_iter = tt
look_sound k t (step_front u) = (λ e. astray_front (astray_of _ _ _ e), (λ e. ended_front (eqb-true _ _ e), tt))
look_sound k t (step_back u) = (λ e. astray_back (astray_of _ _ _ e), (λ e. ended_back (eqb-true _ _ e), tt))
look_sound k t (peek_front u m) = (λ e. astray_peek (astray_of _ _ _ e), (λ e. past_peek (leb-true _ _ e), tt))
look_sound k t (peek_back u m) = (λ e. astray_peek_back (astray_of _ _ _ e), (λ e. past_peek_back (leb-true _ _ e), tt))

row_sound : (k : Kind) (t : Tray) (call : Call) → Sound (λ j. Applies k t j call) (row_of k call t).refusals
row_sound k t (push x) = (λ e. full_push (no_slot _ _ e), tt)
row_sound k t (push_front x) = (λ e. full_push_front (no_slot _ _ e), tt)
row_sound k t pop = (λ e. empty_pop (eqb-true _ _ e), tt)
row_sound k t pop_front = (λ e. empty_pop_front (eqb-true _ _ e), tt)
row_sound k t (insert i x) = (λ e. beyond_insert (ltb-true _ _ e), (λ e. full_insert (no_slot _ _ e), tt))
row_sound k t (remove i) = (λ e. beyond_remove (leb-true _ _ e), tt)
row_sound k t (swap_remove i) = (λ e. beyond_swap (leb-true _ _ e), tt)
row_sound k t (write i x) = (λ e. beyond_write (leb-true _ _ e), tt)
row_sound k t (truncate m) = tt
row_sound k t (resize m x) = (λ e. full_resize (ltb-true _ _ e), tt)
row_sound k t clear = tt
row_sound k t (extend s) = (λ e. full_extend (ltb-true _ _ e), tt)
row_sound k t (look q) = look_sound k t q

-- and each condition of the paper is tested.
row_tested : {k : Kind} {t : Tray} {j : ℕ} {call : Call} → Applies k t j call → Tests j (refusals_of k call t)
row_tested (Applies.invalid_first e) = inl (e, omega arith)
row_tested (beyond_read h) = inr (inl (le-leb _ _ h, omega arith))
row_tested (beyond_write h) = inr (inl (le-leb _ _ h, omega arith))
row_tested (beyond_remove h) = inr (inl (le-leb _ _ h, omega arith))
row_tested (beyond_swap h) = inr (inl (le-leb _ _ h, omega arith))
row_tested (beyond_insert h) = inr (inl (lt-ltb _ _ h, omega arith))
row_tested (astray_front h) = inr (inl (of_astray _ _ _ h, omega arith))
row_tested (astray_back h) = inr (inl (of_astray _ _ _ h, omega arith))
row_tested (astray_peek h) = inr (inl (of_astray _ _ _ h, omega arith))
row_tested (astray_peek_back h) = inr (inl (of_astray _ _ _ h, omega arith))
row_tested (past_peek h) = inr (inr (inl (le-leb _ _ h, omega arith)))
row_tested (past_peek_back h) = inr (inr (inl (le-leb _ _ h, omega arith)))
row_tested (astray_range h) = inr (inl (of_astray _ _ _ h, omega arith))
row_tested (empty_pop h) = inr (inl (eq-eqb _ _ h, omega arith))
row_tested (empty_pop_front h) = inr (inl (eq-eqb _ _ h, omega arith))
row_tested (ended_front h) = inr (inr (inl (eq-eqb _ _ h, omega arith)))
row_tested (ended_back h) = inr (inr (inl (eq-eqb _ _ h, omega arith)))
row_tested (full_push h) = inr (inl (of_no_slot _ _ h, omega arith))
row_tested (full_push_front h) = inr (inl (of_no_slot _ _ h, omega arith))
row_tested (full_insert h) = inr (inr (inl (of_no_slot _ _ h, omega arith)))
row_tested (full_extend h) = inr (inl (lt-ltb _ _ h, omega arith))
row_tested (full_reserve h) = inr (inl (lt-ltb _ _ h, omega arith))
row_tested (full_try h) = inr (inl (lt-ltb _ _ h, omega arith))
row_tested (full_exact h) = inr (inl (lt-ltb _ _ h, omega arith))
row_tested (full_resize h) = inr (inl (lt-ltb _ _ h, omega arith))

pub call_numbers : (k : Kind) (call : Call) (t : Tray) (o : Outcome) → o ≡ does k call t → Answers (λ j. Applies k t j call) o.number
call_numbers k call t o promised =
    rw (promised, (call_settled k call t).first)
    (answers (λ j. Applies k t j call) (refusals_of k call t) (row_rising _ _ _ _ call) (λ e. Applies.invalid_first e, row_sound k t call) (λ j a. row_tested a))

-- Calls on two. Room is tested of an empty T, whose capacity is its room.
no_room_of : (c n more : ℕ) → ltb c more ≡ true → NoRoom c n more
no_room_of c n more e = omega (arith, ltb-true)

-- T isn't empty, or has too few slots
of_no_room : (c n more : ℕ) → NoRoom c n more → Tests 6 ((holding n, taken) ∷ (ltb c more, full) ∷ [])
of_no_room c zero more h = inr (inl (lt-ltb c more (omega arith), omega arith))
of_no_room c (suc n) more h = inl (of_holding (suc n) (omega arith), omega arith)

row2_sound : (k k2 : Kind) (t t2 : Tray) (call : Call2) → Sound (λ j. Applies2 k k2 t t2 j call) (row_of2 k k2 call t t2).refusals
row2_sound k k2 t t2 append = (λ e. full_append (ltb-true _ _ e), tt)
row2_sound k k2 t t2 (split_off at) =
    (λ e. beyond_split (ltb-true _ _ e), (λ e. taken_split (holding_of _ e), (λ e. full_split (no_room_of _ _ _ e), tt)))
row2_sound k k2 t t2 clone = (λ e. taken_clone (holding_of _ e), (λ e. full_clone (no_room_of _ _ _ e), tt))
row2_sound k k2 t t2 (from_iter u) =
    (λ e. astray_from (astray_of _ _ _ e), (λ e. taken_from (holding_of _ e), (λ e. full_from (no_room_of _ _ _ e), tt)))
row2_sound k k2 t t2 same = tt

row2_tested : {k k2 : Kind} {t t2 : Tray} {j : ℕ} {call : Call2} → Applies2 k k2 t t2 j call → Tests j (refusals_of2 k k2 call t t2)
row2_tested (Applies2.invalid_first e) = inl (e, omega arith)
row2_tested (Applies2.invalid_second e) = inr (inl (e, omega arith))
row2_tested (beyond_split h) = inr (inr (inl (lt-ltb _ _ h, omega arith)))
row2_tested (astray_from h) = inr (inr (inl (of_astray _ _ _ h, omega arith)))
row2_tested (taken_split h) = inr (inr (inr (inl (of_holding _ h, omega arith))))
row2_tested (taken_clone h) = inr (inr (inl (of_holding _ h, omega arith)))
row2_tested (taken_from h) = inr (inr (inr (inl (of_holding _ h, omega arith))))
row2_tested (full_append h) = inr (inr (inl (lt-ltb _ _ h, omega arith)))
row2_tested (full_split h) = inr (inr (inr (of_no_room _ _ _ h)))
row2_tested (full_clone h) = inr (inr (of_no_room _ _ _ h))
row2_tested (full_from h) = inr (inr (inr (of_no_room _ _ _ h)))

pub two_numbers : (k k2 : Kind) (call : Call2) (t t2 : Tray) (o : Outcome2) → o ≡ does2 k k2 call t t2 → Answers (λ j. Applies2 k k2 t t2 j call) o.number
two_numbers k k2 call t t2 o promised =
    rw (promised, (two_settled k k2 call t t2).first)
    (answers (λ j. Applies2 k k2 t t2 j call) (refusals_of2 k k2 call t t2) (row2_rising (cap t) t.head t.len (list k t) (cap t2) t2.head t2.len (list k2 t2) call)
    (λ e. Applies2.invalid_first e, (λ e. Applies2.invalid_second e, row2_sound k k2 t t2 call)) (λ j a. row2_tested a))

-- Makings.
made_sound : (slots : List ℕ) (m : Making) → Sound (λ j. AppliesMade slots j m) (makes (length slots) m).refusals
made_sound slots new = tt
made_sound slots (with_capacity i) = (λ e. full_capacity (ltb-true _ _ e), tt)
made_sound slots (from_elem i x) = (λ e. full_elem (ltb-true _ _ e), tt)

made_tested : {slots : List ℕ} {j : ℕ} {m : Making} → AppliesMade slots j m → Tests j (refusals_made m slots)
made_tested (too_many h) = inl (lt-ltb _ _ h, omega arith)
made_tested (full_capacity h) = inr (inl (lt-ltb _ _ h, omega arith))
made_tested (full_elem h) = inr (inl (lt-ltb _ _ h, omega arith))

pub made_numbers : (k : Kind) (m : Making) (slots : List ℕ) (o : Outcome) → o ≡ made k m slots → Answers (λ j. AppliesMade slots j m) o.number
made_numbers k m slots o promised =
    rw (promised, (made_settled k m slots).first)
    (answers (λ j. AppliesMade slots j m) (refusals_made m slots) (made_rising _ m) (λ e. too_many (ltb-true _ _ e), made_sound slots m) (λ j a. made_tested a))
