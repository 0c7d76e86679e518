-- Which entries a call moves, position by position, and so how many, where they are one run of positions. Over any two placings.
use Rattle.std.proofs.Common.{◌≡◌, ℕ, ◌+◌, ◌-◌, ◌<◌, ◌≤◌, Bool, true, false, not, eqb, ltb, leb, sym, refl, ap, ◌∙◌, ⊎_elim, arith, le-ltb, lt-ltb, eq-eqb, ne_eqb, le-leb}
use borrow.Author.Tests.{lt-leb}
use Rattle.slots.specs.Count.{tally}
use Rattle.slots.specs.Moves.{Carried, to, gone, stay, inserted, removed, swapped, replaced, kept, elsewhere, moved}
use Rattle.slots.proofs.Words.{below?, same?}
use Rattle.slots.proofs.Sums.{tally_cong, tally_none, tally_run, tally_both}

-- an entry that is carried to its own slot, to another, or out of the list
home : (now : ℕ → ℕ) (s k : ℕ) (c : Carried) → c ≡ to k → now k ≡ s → elsewhere now s c ≡ false
home now s k c e q = rw e (ap not (eq-eqb _ _ q))

away : (now : ℕ → ℕ) (s k : ℕ) (c : Carried) → c ≡ to k → (now k ≡ s → ⊥) → elsewhere now s c ≡ true
away now s k c e ne = rw e (ap not (ne_eqb _ _ ne))

out : (now : ℕ → ℕ) (s : ℕ) (c : Carried) → c ≡ gone → elsewhere now s c ≡ false
out now s c e = rw e

pub moved_stay : (place : ℕ → ℕ) (n : ℕ) → moved place place stay n ≡ 0
unfolding moved
moved_stay place n = tally_none n _ (λ j h. home place (place j) j _ refl refl)

pub moved_kept : (place : ℕ → ℕ) (k n : ℕ) → moved place place (kept k) n ≡ 0
unfolding moved
moved_kept place k n =
    tally_none n _ (λ j h.
    ⊎_elim
    (λ (lt : j < k). home place (place j) j (kept k j) (rw (lt-ltb j k lt)) refl)
    (λ (ge : k ≤ j). out place (place j) (kept k j) (rw (le-ltb j k ge)))
    (below? j k))

-- nothing remains, wherever the head is put
pub moved_gone : (was now : ℕ → ℕ) (carry : ℕ → Carried) (n : ℕ) → ((j : ℕ) → j < n → carry j ≡ gone) → moved was now carry n ≡ 0
unfolding moved
moved_gone was now carry n all = tally_none n _ (λ j h. out now (was j) (carry j) (all j h))

pub moved_none : (was now : ℕ → ℕ) (n : ℕ) → moved was now (kept 0) n ≡ 0
moved_none was now n = moved_gone was now (kept 0) n (λ j h. rw (le-ltb j 0 (omega arith)))

pub moved_replaced : (place : ℕ → ℕ) (i n : ℕ) → moved place place (replaced i) n ≡ 0
unfolding moved
moved_replaced place i n =
    tally_none n _ (λ j h.
    ⊎_elim
    (λ (e : j ≡ i). out place (place j) (replaced i j) (rw (eq-eqb j i e)))
    (λ (ne : j ≡ i → ⊥). home place (place j) j (replaced i j) (rw (ne_eqb j i ne)) refl)
    (same? j i))

pub inserted_low : (i j : ℕ) → j < i → inserted i j ≡ to j
inserted_low i j h = rw (lt-ltb j i h)

pub inserted_high : (i j : ℕ) → i ≤ j → inserted i j ≡ to (j + 1)
inserted_high i j h = rw (le-ltb j i h)

pub removed_low : (i j : ℕ) → j < i → removed i j ≡ to j
removed_low i j h = rw (ne_eqb j i (omega arith), lt-ltb j i h)

pub removed_here : (i j : ℕ) → j ≡ i → removed i j ≡ gone
removed_here i j e = rw (eq-eqb j i e)

pub removed_high : (i j : ℕ) → i < j → removed i j ≡ to (j - 1)
removed_high i j h = rw (ne_eqb j i (omega arith), le-ltb j i (omega arith))

-- the count, where it is known of each position whether its entry takes another slot
pub moved_each : (was now : ℕ → ℕ) (carry : ℕ → Carried) (n : ℕ) (test : ℕ → Bool) → ((j : ℕ) → j < n → elsewhere now (was j) (carry j) ≡ test j)
    → moved was now carry n ≡ tally n test
unfolding moved
moved_each was now carry n test each = tally_cong n _ test each

-- how many positions are before i, from i on, and past it
pub tally_before : (n i : ℕ) → i ≤ n → tally n (λ j. ltb j i) ≡ i
tally_before n i h =
    tally_run n 0 i _ (omega arith) h (λ j _ l. lt-ltb j i l) (λ j l. absurd (omega arith)) (λ j g _. le-ltb j i g) ∙ omega arith

pub tally_from : (n i : ℕ) → i ≤ n → tally n (λ j. leb i j) ≡ n - i
tally_from n i h = tally_run n i n _ h (omega arith) (λ j g _. le-leb i j g) (λ j l. lt-leb i j l) (λ j g l. absurd (omega arith))

pub tally_past : (n i : ℕ) → i < n → tally n (λ j. ltb i j) ≡ n - 1 - i
tally_past n i h =
    tally_run n (i + 1) n _ (omega arith) (omega arith) (λ j g _. lt-ltb i j (omega arith)) (λ j l. le-ltb i j (omega arith)) (λ j g l. absurd (omega arith))
    ∙ omega arith

-- all of them, and all but one
pub tally_all : (n : ℕ) → tally n (λ j. true) ≡ n
tally_all n = tally_run n 0 n _ (omega arith) (omega arith) (λ j _ _. refl) (λ j l. absurd (omega arith)) (λ j g l. absurd (omega arith)) ∙ omega arith

pub tally_but : (n i : ℕ) → i < n → tally n (λ j. not (eqb j i)) ≡ n - 1
tally_but n i h =
    let here : tally n (λ j. eqb j i) ≡ i + 1 - i =
    tally_run n i (i + 1) _ (omega arith) (omega arith)
    (λ j g l. eq-eqb j i (omega arith)) (λ j l. ne_eqb j i (omega arith)) (λ j g l. ne_eqb j i (omega arith)) in
    omega (arith, tally_both n (λ j. eqb j i))

module _ (was now : ℕ → ℕ) (n i : ℕ) where
  -- insert: the entries before i take other slots and the rest keep theirs, or the other way round, or all take others
  pub insert_low_each : ((j : ℕ) → j < i → now j ≡ was j → ⊥) → ((j : ℕ) → i ≤ j → j < n → now (j + 1) ≡ was j)
      → (j : ℕ) → j < n → elsewhere now (was j) (inserted i j) ≡ ltb j i
  insert_low_each go keep j h =
      ⊎_elim
      (λ (low : j < i). away now _ j _ (inserted_low i j low) (go j low) ∙ sym (lt-ltb j i low))
      (λ (high : i ≤ j). home now _ (j + 1) _ (inserted_high i j high) (keep j high h) ∙ sym (le-ltb j i high))
      (below? j i)

  pub insert_high_each : ((j : ℕ) → j < i → now j ≡ was j) → ((j : ℕ) → i ≤ j → j < n → now (j + 1) ≡ was j → ⊥)
      → (j : ℕ) → j < n → elsewhere now (was j) (inserted i j) ≡ leb i j
  insert_high_each keep go j h =
      ⊎_elim
      (λ (low : j < i). home now _ j _ (inserted_low i j low) (keep j low) ∙ sym (lt-leb i j low))
      (λ (high : i ≤ j). away now _ (j + 1) _ (inserted_high i j high) (go j high h) ∙ sym (le-leb i j high))
      (below? j i)

  pub insert_all_each : ((j : ℕ) → j < i → now j ≡ was j → ⊥) → ((j : ℕ) → i ≤ j → j < n → now (j + 1) ≡ was j → ⊥)
      → (j : ℕ) → j < n → elsewhere now (was j) (inserted i j) ≡ true
  insert_all_each go go' j h =
      ⊎_elim
      (λ (low : j < i). away now _ j _ (inserted_low i j low) (go j low))
      (λ (high : i ≤ j). away now _ (j + 1) _ (inserted_high i j high) (go' j high h))
      (below? j i)

  -- remove, in the same way
  remove_each : (test : ℕ → Bool) → ((j : ℕ) → j < i → elsewhere now (was j) (to j) ≡ test j) → test i ≡ false
      → ((j : ℕ) → i < j → j < n → elsewhere now (was j) (to (j - 1)) ≡ test j) → (j : ℕ) → j < n → elsewhere now (was j) (removed i j) ≡ test j
  remove_each test low here high j h =
      ⊎_elim
      (λ (l : j < i). rw (removed_low i j l) (low j l))
      (λ (g : i ≤ j).
      ⊎_elim
      (λ (past : i < j). rw (removed_high i j past) (high j past h))
      (λ (le : j ≤ i). let e : j ≡ i = omega arith in rw e (rw (removed_here i i refl) (sym here)))
      (below? i j))
      (below? j i)

  pub remove_low_each : ((j : ℕ) → j < i → now j ≡ was j → ⊥) → ((j : ℕ) → i < j → j < n → now (j - 1) ≡ was j)
      → (j : ℕ) → j < n → elsewhere now (was j) (removed i j) ≡ ltb j i
  remove_low_each go keep =
      remove_each (λ j. ltb j i)
      (λ j l. away now _ j _ refl (go j l) ∙ sym (lt-ltb j i l))
      (le-ltb i i (omega arith))
      (λ j l h. home now _ (j - 1) _ refl (keep j l h) ∙ sym (le-ltb j i (omega arith)))

  pub remove_high_each : ((j : ℕ) → j < i → now j ≡ was j) → ((j : ℕ) → i < j → j < n → now (j - 1) ≡ was j → ⊥)
      → (j : ℕ) → j < n → elsewhere now (was j) (removed i j) ≡ ltb i j
  remove_high_each keep go =
      remove_each (λ j. ltb i j)
      (λ j l. home now _ j _ refl (keep j l) ∙ sym (le-ltb i j (omega arith)))
      (le-ltb i i (omega arith))
      (λ j l h. away now _ (j - 1) _ refl (go j l h) ∙ sym (lt-ltb i j l))

  pub remove_all_each : ((j : ℕ) → j < i → now j ≡ was j → ⊥) → ((j : ℕ) → i < j → j < n → now (j - 1) ≡ was j → ⊥)
      → (j : ℕ) → j < n → elsewhere now (was j) (removed i j) ≡ not (eqb j i)
  remove_all_each go go' =
      remove_each (λ j. not (eqb j i))
      (λ j l. away now _ j _ refl (go j l) ∙ ap not (sym (ne_eqb j i (omega arith))))
      (ap not (eq-eqb i i refl))
      (λ j l h. away now _ (j - 1) _ refl (go' j l h) ∙ ap not (sym (ne_eqb j i (omega arith))))

-- NONE MOVES where each that remains stands in its old slot.
stays_put : (now : ℕ → ℕ) (s : ℕ) (c : Carried) → ((k : ℕ) → c ≡ to k → now k ≡ s) → elsewhere now s c ≡ false
stays_put now s (to k) same = home now s k (to k) refl (same k refl)
stays_put now s gone same = refl

pub moved_put : (was now : ℕ → ℕ) (carry : ℕ → Carried) (n : ℕ) → ((j k : ℕ) → j < n → carry j ≡ to k → now k ≡ was j) → moved was now carry n ≡ 0
unfolding moved
moved_put was now carry n same = tally_none n _ (λ j h. stays_put now (was j) (carry j) (λ k. same j k h))

-- THE SLOTS ALONE are counted: two layouts that have the entries that remain in the same slots have the same count.
as_laid : (now now' : ℕ → ℕ) (s : ℕ) (c : Carried) → ((k : ℕ) → c ≡ to k → now k ≡ now' k) → elsewhere now s c ≡ elsewhere now' s c
as_laid now now' s (to k) same = rw (same k refl)
as_laid now now' s gone same = refl

pub moved_laid : (was now now' : ℕ → ℕ) (carry : ℕ → Carried) (n : ℕ) → ((j k : ℕ) → j < n → carry j ≡ to k → now k ≡ now' k)
    → moved was now carry n ≡ moved was now' carry n
unfolding moved
moved_laid was now now' carry n same = moved_each was now carry n _ (λ j h. as_laid now now' (was j) (carry j) (λ k. same j k h))

-- swap_remove moves the last to i, unless it is i
pub swapped_here : (i n j : ℕ) → j ≡ i → swapped i n j ≡ gone
swapped_here i n j e = rw (eq-eqb j i e)

pub swapped_last : (i n j : ℕ) → (j ≡ i → ⊥) → j ≡ n - 1 → swapped i n j ≡ to i
swapped_last i n j ne e = rw (ne_eqb j i ne, eq-eqb j (n - 1) e)

pub swapped_other : (i n j : ℕ) → (j ≡ i → ⊥) → (j ≡ n - 1 → ⊥) → swapped i n j ≡ to j
swapped_other i n j ne less = rw (ne_eqb j i ne, ne_eqb j (n - 1) less)

module _ (place : ℕ → ℕ) (n i : ℕ) where
  swap_home : (j : ℕ) → (j ≡ n - 1 → i ≡ n - 1) → elsewhere place (place j) (swapped i n j) ≡ false
  swap_home j h =
      ⊎_elim
      (λ e. out place _ _ (swapped_here i n j e))
      (λ ne. home place (place j) j _ (swapped_other i n j ne (λ e. ne (e ∙ sym (h e)))) refl)
      (same? j i)

  pub swap_moves_none : i ≡ n - 1 → moved place place (swapped i n) n ≡ 0
  unfolding moved
  swap_moves_none e = tally_none n _ (λ j h. swap_home j (λ _. e))

  pub swap_moves_one : i < n → (i ≡ n - 1 → ⊥) → (place i ≡ place (n - 1) → ⊥) → moved place place (swapped i n) n ≡ 1
  unfolding moved
  swap_moves_one fits ne apart =
      tally_run n (n - 1) n _ (omega arith) (omega arith)
      (λ j h k. let e : j ≡ n - 1 = omega arith in rw e (away place (place (n - 1)) i _ (swapped_last i n (n - 1) (λ q. ne (sym q)) refl) apart))
      (λ j h. swap_home j (λ e. absurd (omega arith)))
      (λ j h k. absurd (omega arith))
      ∙ omega arith
