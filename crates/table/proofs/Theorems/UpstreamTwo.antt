-- Upstream's clauses of a call on two containers, as `Upstream` has those on one: each follows from the call's promise, `o ≡ does2 k k2 call t t2`. T, the
-- second, stands for upstream's `other` and for the container that it returns.
use Prim.Native.Nat.{ℕ, ◌-◌, ◌≤◌, ◌<◌}
use mathlib.Core.Path.{◌≡◌, ap, ◌∙◌}
use mathlib.Core.Bool.{true, false, cond}
use mathlib.Core.List.{List, [], ◌++◌}
use mathlib.Core.Logic.{◌⊎◌, inl, inr, ⊎_elim}
use native.Mathlib.Omega.{arith}
use borrow.Author.Tests.{lt-ltb, le-ltb, eq-eqb, ne_eqb}
use lib.Dec.{ltb}
use lib.ListN.{length, get_or, take, drop}
use lib.Seq.{ext_get_or}
use Rattle.slots.specs.Layout.{Kind}
use Rattle.slots.proofs.Words.{below?}
use Rattle.table.specs.Tray.{Tray, cap, list, invalid}
use Rattle.table.specs.Calls.{Call2, append, split_off, clone, same}
use Rattle.table.specs.Table.{after2, holding, equal_lists}
use Rattle.table.specs.Does.{Outcome2, row_of2, does2}
use Rattle.table.proofs.Laws.Refusals.{first_number}
use Rattle.table.proofs.Laws.Done.{many}
use Rattle.table.proofs.Laws.Equal.{equal?}
use Rattle.table.proofs.Theorems.Refused.{two_settled}
use Rattle.table.proofs.Theorems.Listed.{two_listed}
use Rattle.table.proofs.Theorems.Sameness.{same_exactly}
use Rattle.table.proofs.Theorems.Upstream.{Says, IfRoom, by_lt}

-- 0 where T is empty and holds m, else 5 or 6
abbrev pub IfTakes : (number c2 n2 m : ℕ) → Type 0
IfTakes number c2 n2 m = Says number 0 ((n2 ≡ 0) × (m ≤ c2)) ⊎ (Says number 5 (0 < n2) ⊎ Says number 6 ((n2 ≡ 0) × (c2 < m)))

-- and 3 where the list does not go up to at
abbrev pub IfSplits : (number n at c2 n2 : ℕ) → Type 0
IfSplits number n at c2 n2 = Says number 3 (n < at) ⊎ ((at ≤ n) × IfTakes number c2 n2 (n - at))

pub by_taking : (number c2 n2 m : ℕ) → number ≡ cond (holding n2) 5 (cond (ltb c2 m) 6 0) → IfTakes number c2 n2 m
by_taking number c2 n2 m e =
    ⊎_elim
    (λ (some : 0 < n2). inr (inl (e ∙ rw (ne_eqb n2 0 (omega arith)), some)))
    (λ (less : n2 ≤ 0).
    let none : n2 ≡ 0 = omega arith in
    ⊎_elim
    (λ (lt : c2 < m). inr (inr (e ∙ rw (eq-eqb n2 0 none, lt-ltb c2 m lt), (none, lt))))
    (λ (le : m ≤ c2). inl (e ∙ rw (eq-eqb n2 0 none, le-ltb c2 m le), (none, le)))
    (below? c2 m))
    (below? 0 n2)

-- ANY CALL ON TWO
module _ (k k2 : Kind) (call : Call2) (t t2 : Tray) (o : Outcome2) (promised : o ≡ does2 k k2 call t t2) where
  pub first_list : o.number ≡ 0 → list k o.first ≡ (after2 call (list k t) (list k2 t2)).0
  first_list done = (two_listed k k2 call t t2 o promised done).first.listed

  pub second_list : o.number ≡ 0 → list k2 o.second ≡ (after2 call (list k t) (list k2 t2)).1
  second_list done = (two_listed k k2 call t t2 o promised done).second.listed

  pub numbered2 : invalid k t ≡ false → invalid k2 t2 ≡ false → o.number ≡ first_number (row_of2 k k2 call t t2).refusals
  numbered2 ok ok2 = rw (promised, (two_settled k k2 call t t2).first, ok, ok2)

-- TWO CONTAINERS, of which nothing is asked
module _ (k k2 : Kind) (t t2 : Tray) (o : Outcome2) where
  pub append_list : o ≡ does2 k k2 append t t2 → o.number ≡ 0 → list k o.first ≡ list k t ++ list k2 t2
  append_list = first_list k k2 append t t2 o

  pub append_other : o ≡ does2 k k2 append t t2 → o.number ≡ 0 → list k2 o.second ≡ []
  append_other = second_list k k2 append t t2 o

  pub split_off_list : (at : ℕ) → o ≡ does2 k k2 (split_off at) t t2 → o.number ≡ 0 → list k o.first ≡ take at (list k t)
  split_off_list at = first_list k k2 (split_off at) t t2 o

  pub split_off_other : (at : ℕ) → o ≡ does2 k k2 (split_off at) t t2 → o.number ≡ 0 → list k2 o.second ≡ drop at (list k t)
  split_off_other at = second_list k k2 (split_off at) t t2 o

  -- clone: the copy is the list, and so as long and the same in each entry
  pub clone_list : o ≡ does2 k k2 clone t t2 → o.number ≡ 0 → list k2 o.second ≡ list k t
  clone_list = second_list k k2 clone t t2 o

  pub clone_length : o ≡ does2 k k2 clone t t2 → o.number ≡ 0 → length (list k2 o.second) ≡ length (list k t)
  clone_length promised done = ap length (clone_list promised done)

  pub clone_entry : o ≡ does2 k k2 clone t t2 → o.number ≡ 0 → (i : ℕ) → i < length (list k t) → get_or (list k2 o.second) i 0 ≡ get_or (list k t) i 0
  clone_entry promised done i below = ap (λ l. get_or l i 0) (clone_list promised done)

-- TWO VALID CONTAINERS: which number
module _ (k k2 : Kind) (t t2 : Tray) (o : Outcome2) (ok : invalid k t ≡ false) (ok2 : invalid k2 t2 ≡ false) where
  pub append_answers : o ≡ does2 k k2 append t t2 → IfRoom o.number (cap t) (length (list k t)) (length (list k2 t2))
  append_answers promised = rw (many k t, many k2 t2) (by_lt o.number (cap t - t.len) t2.len 6 (numbered2 k k2 append t t2 o promised ok ok2))

  pub split_off_answers : (at : ℕ) → o ≡ does2 k k2 (split_off at) t t2 → IfSplits o.number (length (list k t)) at (cap t2) (length (list k2 t2))
  split_off_answers at promised =
      let e = numbered2 k k2 (split_off at) t t2 o promised ok ok2 in
      rw (many k t, many k2 t2)
      (⊎_elim
      (λ (lt : t.len < at). inl (e ∙ rw (lt-ltb t.len at lt), lt))
      (λ (le : at ≤ t.len). inr (le, by_taking o.number (cap t2) t2.len (t.len - at) (e ∙ rw (le-ltb t.len at le))))
      (below? t.len at))

  pub clone_answers : o ≡ does2 k k2 clone t t2 → IfTakes o.number (cap t2) (length (list k2 t2)) (length (list k t))
  clone_answers promised = rw (many k t, many k2 t2) (by_taking o.number (cap t2) t2.len t.len (numbered2 k k2 clone t t2 o promised ok ok2))

-- EQUALITY, as upstream's `eq_spec` has it: equal lengths and equal entries
abbrev pub EqSpec : (l l2 : List ℕ) → Type 0
EqSpec l l2 = (length l ≡ length l2) × ((i : ℕ) → i < length l → get_or l i 0 ≡ get_or l2 i 0)

-- and so equal lists, and the other way round
pub eq_spec_lists : (l l2 : List ℕ) → EqSpec l l2 → l ≡ l2
eq_spec_lists l l2 spec = ext_get_or 0 l l2 spec.0 spec.1

pub lists_eq_spec : (l l2 : List ℕ) → l ≡ l2 → EqSpec l l2
lists_eq_spec l l2 e = (ap length e, λ i below. ap (λ l. get_or l i 0) e)

module _ (k k2 : Kind) (t t2 : Tray) (o : Outcome2) (ok : invalid k t ≡ false) (ok2 : invalid k2 t2 ≡ false) (promised : o ≡ does2 k k2 same t t2) where
  pub equal_answers : o.number ≡ 0
  equal_answers = numbered2 k k2 same t t2 o promised ok ok2

  -- yes is 1, no is 0
  pub equal_value : Says o.value 1 (EqSpec (list k t) (list k2 t2)) ⊎ Says o.value 0 (EqSpec (list k t) (list k2 t2) → ⊥)
  equal_value =
      let exact = same_exactly k k2 t t2 o ok ok2 promised in
      ⊎_elim
      (λ (is : (equal_lists (list k t) (list k2 t2) ≡ true) × (list k t ≡ list k2 t2)). inl (exact.equal is.1, lists_eq_spec _ _ is.1))
      (λ (not : (equal_lists (list k t) (list k2 t2) ≡ false) × (list k t ≡ list k2 t2 → ⊥)). inr (exact.differ not.1, λ spec. not.1 (eq_spec_lists _ _ spec)))
      (equal? (list k t) (list k2 t2))
