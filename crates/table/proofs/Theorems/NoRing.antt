-- What the moves pay for: out of ring order no plate need ever move. A new one goes into a free slot, one that is taken out leaves a gap, and all others
-- stay where they are. But then head and length no longer tell where each plate stands (request 07).
use Prim.Native.Nat.{ℕ, ◌+◌, ◌-◌, ◌≤◌, ◌<◌}
use mathlib.Core.Path.{◌≡◌, ap}
use mathlib.Core.Bool.{false, cond}
use mathlib.Core.Logic.{⊎_elim}
use native.Mathlib.Omega.{arith}
use borrow.Author.Tests.{lt-ltb, le-ltb, eq-eqb, ne_eqb}
use lib.Dec.{ltb, eqb}
use Rattle.slots.specs.Layout.{ring, place}
use Rattle.slots.specs.Moves.{to, inserted, removed}
use Rattle.slots.proofs.Words.{below?, same?}
use Rattle.slots.proofs.Placing.{one_slot}
use Rattle.slots.proofs.Moves.{moved_put, removed_low, removed_here, removed_high}
use Rattle.table.specs.Tray.{Tray, cap, invalid}
use Rattle.table.specs.Calls.{Call, insert, remove}
use Rattle.table.specs.Does.{Outcome, does}
use Rattle.table.proofs.Laws.Refusals.{passed_tests}
use Rattle.table.proofs.Laws.Valid.{fit}
use Rattle.table.proofs.Theorems.Refused.{call_clear}
use Rattle.table.proofs.Theorems.Sides.{with_layout}
use Rattle.table.proofs.Theorems.Best.{one_more, one_less}

-- n entries in c slots, each in a slot of its own; and, of the list that a call leaves, one with which no remaining entry changes its slot
pub record Layout (c n : ℕ) (lay : ℕ → ℕ) : Type 0 where
  pub inside : (p : ℕ) → p < n → lay p < c
  pub apart : (p q : ℕ) → p < n → q < n → lay p ≡ lay q → p ≡ q

pub record StayPut (call : Call) (t : Tray) (o : Outcome) (lay : ℕ → ℕ) : Type 0 where
  pub layout : Layout (cap t) o.tray.len lay
  pub none : with_layout call t lay ≡ 0

-- The slot of a new position is that of an old one: the new entry takes the slot behind the last, which is free; and where one is taken out, all others keep
-- theirs.
abbrev pub aside : (i n p : ℕ) → ℕ
aside i n p = cond (ltb p i) p (cond (eqb p i) n (p - 1))

abbrev pub gapped : (i p : ℕ) → ℕ
gapped i p = cond (ltb p i) p (p + 1)

-- slots of different old positions are different ones
apart_by : (t : Tray) → invalid ring t ≡ false → (n : ℕ) (from : ℕ → ℕ) → ((p : ℕ) → p < n → from p < cap t)
    → ((p q : ℕ) → p < n → q < n → from p ≡ from q → p ≡ q) → Layout (cap t) n (λ p. place ring (cap t) t.head (from p))
apart_by t ok n from few one =
    let f = fit ring t ok in
    record {
      inside = λ p h. f.placed.inside (from p) (few p h);
      apart = λ p q hp hq e. one p q hp hq (one_slot f.placed (from p) (from q) (few p hp) (few q hq) e);
    }

-- INSERT. Each position before the place, there and behind it.
module _ (i n : ℕ) where
  aside_is : (p : ℕ) {P : Type 0} → (p < i → aside i n p ≡ p → P) → (p ≡ i → aside i n p ≡ n → P) → (i < p → aside i n p ≡ p - 1 → P) → P
  aside_is p low here high =
      ⊎_elim
      (λ (lt : p < i). low lt (rw (lt-ltb p i lt)))
      (λ (ge : i ≤ p).
      ⊎_elim
      (λ (e : p ≡ i). here e (rw (le-ltb p i ge, eq-eqb p i e)))
      (λ (ne : p ≡ i → ⊥). high (omega arith) (rw (le-ltb p i ge, ne_eqb p i ne)))
      (same? p i))
      (below? p i)

  aside_one : (p q : ℕ) → p < n + 1 → q < n + 1 → aside i n p ≡ aside i n q → p ≡ q
  aside_one p q hp hq e =
      aside_is p
      (λ l a. aside_is q (λ m b. omega arith) (λ m b. omega arith) (λ m b. omega arith))
      (λ l a. aside_is q (λ m b. omega arith) (λ m b. omega arith) (λ m b. omega arith))
      (λ l a. aside_is q (λ m b. omega arith) (λ m b. omega arith) (λ m b. omega arith))

  aside_back : (j k : ℕ) → j < n → inserted i j ≡ to k → aside i n k ≡ j
  aside_back j k h e =
      let k_is : k ≡ cond (ltb j i) j (j + 1) = cc in
      ⊎_elim
      (λ (low : j < i).
      let same : k ≡ j = rw (lt-ltb j i low) at k_is in
      aside_is k (λ l a. omega arith) (λ l a. omega arith) (λ l a. omega arith))
      (λ (high : i ≤ j).
      let next : k ≡ j + 1 = rw (le-ltb j i high) at k_is in
      aside_is k (λ l a. omega arith) (λ l a. omega arith) (λ l a. omega arith))
      (below? j i)

-- REMOVE
module _ (i : ℕ) where
  gapped_is : (p : ℕ) {P : Type 0} → (p < i → gapped i p ≡ p → P) → (i ≤ p → gapped i p ≡ p + 1 → P) → P
  gapped_is p low high = ⊎_elim (λ (lt : p < i). low lt (rw (lt-ltb p i lt))) (λ (ge : i ≤ p). high ge (rw (le-ltb p i ge))) (below? p i)

  gapped_one : (p q : ℕ) → gapped i p ≡ gapped i q → p ≡ q
  gapped_one p q e =
      gapped_is p
      (λ l a. gapped_is q (λ m b. omega arith) (λ m b. omega arith))
      (λ l a. gapped_is q (λ m b. omega arith) (λ m b. omega arith))

  gapped_back : (j k : ℕ) → removed i j ≡ to k → gapped i k ≡ j
  gapped_back j k e =
      ⊎_elim
      (λ (low : j < i). let at = removed_low i j low in let same : k ≡ j = cc in gapped_is k (λ l a. omega arith) (λ l a. omega arith))
      (λ (high : i ≤ j).
      ⊎_elim
      (λ (here : j ≡ i). let at = removed_here i j here in let z : ◌≡◌ {A = ℕ} 0 1 = cc in absurd (omega arith))
      (λ (past : j ≡ i → ⊥). let at = removed_high i j (omega arith) in let next : k ≡ j - 1 = cc in gapped_is k (λ l a. omega arith) (λ l a. omega arith))
      (same? j i))
      (below? j i)

-- Where the calls are done. Here o is what is seen of a call, as its promise says.
pub insert_stay_put : (t : Tray) (i x : ℕ) (o : Outcome) → o ≡ does ring (insert i x) t → o.number ≡ 0
    → StayPut (insert i x) t o (λ p. place ring (cap t) t.head (aside i t.len p))
insert_stay_put t i x o promised done =
    let e = call_clear ring (insert i x) t o promised done in
    let fits : i ≤ t.len = omega passed_tests in
    let room : t.len < cap t = omega passed_tests in
    record {
      layout = rw (one_more t i x o promised done) (apart_by t e.0 (t.len + 1) (aside i t.len)
          (λ p h. aside_is i t.len p (λ l a. omega arith) (λ l a. omega arith) (λ l a. omega arith))
          (aside_one i t.len));
      none = moved_put _ _ _ t.len (λ j k h c. ap (place ring (cap t) t.head) (aside_back i t.len j k h c));
    }

pub remove_stay_put : (t : Tray) (i : ℕ) (o : Outcome) → o ≡ does ring (remove i) t → o.number ≡ 0
    → StayPut (remove i) t o (λ p. place ring (cap t) t.head (gapped i p))
remove_stay_put t i o promised done =
    let e = call_clear ring (remove i) t o promised done in
    let fits : i < t.len = omega passed_tests in
    let room = (fit ring t e.0).fits in
    record {
      layout = rw (one_less t i o promised done) (apart_by t e.0 (t.len - 1) (gapped i)
          (λ p h. gapped_is i p (λ l a. omega arith) (λ l a. omega arith))
          (λ p q hp hq. gapped_one i p q));
      none = moved_put _ _ _ t.len (λ j k h c. ap (place ring (cap t) t.head) (gapped_back i j k c));
    }
