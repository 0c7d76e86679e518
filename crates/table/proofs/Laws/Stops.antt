-- How the one test that a call makes before its work is read: past it the state is valid and the call's condition holds; where it stops a valid
-- state, the condition fails. And that the code's short form of it is the table's.
use mathlib.Core.Path.{◌≡◌, refl, sym, ap, ◌∙◌}
use mathlib.Core.Bool.{Bool, true, false, not, ◌&&◌, ◌||◌}
use Prim.Native.Nat.{ℕ, ◌+◌, ◌-◌, ◌^◌, ◌≤◌, ◌<◌}
use mathlib.Core.Logic.{⊎_elim}
use native.Mathlib.Omega.{arith}
use borrow.Author.Tests.{ltb-true, ltb-false, leb-true, lt-ltb, le-ltb, le-leb, eqb-true, eq-eqb, ne_eqb, not-true, not-false}
use lib.Dec.{ltb, leb, eqb}
use Rattle.slots.specs.Layout.{Kind, ring, vector}
use Rattle.slots.proofs.Words.{below?}
use Rattle.table.specs.Tray.{valid, within}
use Rattle.table.specs.Tested.{gate, Stopped, Strays}
use Rattle.table.proofs.Laws.Valid.{Valid, and_left, and_right, gated}

-- THE SHORT FORMS. Two tests that agree where a third holds, after it or before it
under : (x y t : Bool) → (t ≡ true → x ≡ y) → x && t ≡ y && t
under x y true h = ap (λ z. z && true) (h refl)
under true true false h = refl
under true false false h = refl
under false true false h = refl
under false false false h = refl

after : (t x y : Bool) → (t ≡ true → x ≡ y) → t && x ≡ t && y
after true x y h = h refl
after false x y h = refl

-- a head of 0 is right wherever it can be; any other has a slot, and an entry in the ring
heads : (home some inside none : Bool) → (home ≡ true → inside || none ≡ true)
    → home || (some && inside) ≡ (inside || (none && home)) && (some || home)
heads true some true none h = or_true some
  where
    or_true : (b : Bool) → true ≡ b || true
    or_true true = refl
    or_true false = refl
heads true true false true h = refl
heads true false false true h = refl
heads true some false false h = let z : ◌≡◌ {A = Bool} false true = h refl in cc
heads false true true none h = refl
heads false true false true h = refl
heads false true false false h = refl
heads false false true none h = refl
heads false false false true h = refl
heads false false false false h = refl

turned : (e b a : Bool) → e && (b && a) ≡ (b && e) && a
turned true true a = refl
turned true false a = refl
turned false true a = refl
turned false false a = refl

slot_or_none : (c h : ℕ) → eqb h 0 ≡ true → ltb h c || eqb c 0 ≡ true
slot_or_none c h e = ⊎_elim (λ (lt : h < c). rw (lt-ltb h c lt)) (λ (ge : c ≤ h). rw (le-ltb h c ge, eq-eqb c 0 (omega (arith, eqb-true h 0 e)))) (below? h c)

pub ring_short : (c h n : ℕ) → not (leb c 4096 && (leb n c && (eqb h 0 || (ltb 0 n && ltb h c)))) ≡ not (valid ring c h n)
unfolding valid
ring_short c h n = ap (λ z. not (leb c 4096 && (leb n c && z))) (heads (eqb h 0) (ltb 0 n) (ltb h c) (eqb c 0) (slot_or_none c h))

-- where there is a slot, only the head's bound and the home of an empty ring are left of a ring's state; where there is an entry, only the bound
head_alone : (c h n : ℕ) → 0 < c → ltb h c && (ltb 0 n || eqb h 0) ≡ (ltb h c || (eqb c 0 && eqb h 0)) && (ltb 0 n || eqb h 0)
head_alone c h n some = rw (ne_eqb c 0 (λ e. omega arith)) (ap (λ z. z && (ltb 0 n || eqb h 0)) (or_false (ltb h c)))
  where
    or_false : (b : Bool) → b ≡ b || false
    or_false true = refl
    or_false false = refl

bound_alone : (c h n : ℕ) → 0 < c → 0 < n → ltb h c ≡ (ltb h c || (eqb c 0 && eqb h 0)) && (ltb 0 n || eqb h 0)
bound_alone c h n some entry =
    rw (lt-ltb 0 n entry, ne_eqb c 0 (λ e. omega arith)) (both_false (ltb h c))
  where
    both_false : (b : Bool) → b ≡ (b || false) && true
    both_false true = refl
    both_false false = refl

-- a condition that only a container with an entry meets
ring_held : (c h n : ℕ) (q : Bool) → (q ≡ true → 0 < n) → not ((leb c 4096 && (leb n c && ltb h c)) && q) ≡ not (valid ring c h n && q)
unfolding valid
ring_held c h n q some =
    ap not
    (under _ _ q (λ a.
    let entry = some a in
    ap (λ z. leb c 4096 && z) (after (leb n c) _ _ (λ b. bound_alone c h n (omega (arith, leb-true n c b)) entry))))

pub ring_lacks : (c h n i : ℕ) → not ((leb c 4096 && (leb n c && ltb h c)) && ltb i n) ≡ not (valid ring c h n && ltb i n)
ring_lacks c h n i = ring_held c h n (ltb i n) (λ q. omega (arith, ltb-true i n q))

pub ring_rests : (c h n a b : ℕ)
    → not ((leb c 4096 && (leb n c && ltb h c)) && (ltb a b && leb b n)) ≡ not (valid ring c h n && (ltb a b && leb b n))
ring_rests c h n a b =
    ring_held c h n (ltb a b && leb b n) (λ q. omega (arith, ltb-true a b (and_left _ _ q), leb-true b n (and_right (ltb a b) _ q)))

pub vector_held : (c n : ℕ) (q : Bool) → not (leb c 4096 && (leb n c && q)) ≡ not (valid vector c 0 n && q)
unfolding valid
vector_held c n q = ap not (turned (leb c 4096) (leb n c) q)

-- below the capacity a length fits, and there is a slot
fits_too : (c n : ℕ) (x y : Bool) → n < c → x ≡ y → x ≡ leb n c && y
fits_too c n x y lt e = rw (le-leb n c (omega arith)) e

pub ring_roomy : (c h n : ℕ) → not ((leb c 4096 && (ltb h c && (ltb 0 n || eqb h 0))) && ltb n c) ≡ not (valid ring c h n && ltb n c)
unfolding valid
ring_roomy c h n =
    ap not
    (under _ _ (ltb n c) (λ a. let lt = ltb-true n c a in ap (λ z. leb c 4096 && z) (fits_too c n _ _ lt (head_alone c h n (omega arith)))))

pub vector_roomy : (c n : ℕ) → not (leb c 4096 && ltb n c) ≡ not (valid vector c 0 n && ltb n c)
unfolding valid
vector_roomy c n = ap not (under _ _ (ltb n c) (λ a. fits_too c n _ _ (ltb-true n c a) refl))

-- WHAT THE TEST TELLS
module _ (k : Kind) (c h n : ℕ) (q s : Bool) where
  both : s ≡ not (valid k c h n && q) → s ≡ false → valid k c h n && q ≡ true
  both e go = not-false _ (sym e ∙ go)

  ok : s ≡ not (valid k c h n && q) → s ≡ false → not (valid k c h n) ≡ false
  ok e go = rw (and_left (valid k c h n) q (both e go))

  holds : s ≡ not (valid k c h n && q) → s ≡ false → q ≡ true
  holds e go = and_right (valid k c h n) q (both e go)

  pub stopped : s ≡ not (valid k c h n && q) → (c < 2 ^ 64) × (h < 2 ^ 64) × (n < 2 ^ 64)
      → (not (valid k c h n) ≡ false → Valid c h n) → Stopped k c h n q s
  stopped e u facts = record {
    is = e;
    small = gated s c 4096 u.0 (λ go. (facts (ok e go)).small);
    fits = gated s n c u.2 (λ go. (facts (ok e go)).fits);
    inside = gated s h (c - 1) u.1 (λ go. (facts (ok e go)).inside);
  }

  pub valid_past : Stopped k c h n q s → s ≡ false → not (valid k c h n) ≡ false
  valid_past t go = ok t.is go

  -- where it stops, and the state was found valid
  fails : (w : Bool) → Stopped k c h n q s → s ≡ true → w ≡ not (valid k c h n) → w ≡ false → q ≡ false
  fails w t stop ew fine = past (valid k c h n) (not-false _ (sym ew ∙ fine)) (not-true _ (sym t.is ∙ stop))
    where
      past : (v : Bool) → v ≡ true → v && q ≡ false → q ≡ false
      past true e f = f
      past false e f = let x : q ≡ false = cc in x

-- a bound, behind the gate of the test
gated_below : (s : Bool) (a b : ℕ) → a < 2 ^ 64 → (s ≡ false → a < b) → a < b + gate s
unfolding gate
gated_below true a b u h = omega arith
gated_below false a b u h = omega (arith, h refl)

-- the condition a < b
module _ (k : Kind) (c h n a b : ℕ) (s : Bool) where
  pub below_past : Stopped k c h n (ltb a b) s → s ≡ false → a < b
  below_past t go = ltb-true a b (holds k c h n (ltb a b) s t.is go)

  pub bound_fails : (w : Bool) → Stopped k c h n (ltb a b) s → s ≡ true → w ≡ not (valid k c h n) → w ≡ false → leb b a ≡ true
  bound_fails w t stop ew fine = le-leb b a (ltb-false a b (fails k c h n (ltb a b) s w t stop ew fine))

  pub stopped_below : Stopped k c h n (ltb a b) s → a < 2 ^ 64 → Stopped k c h n (ltb a b) s × (a < b + gate s)
  stopped_below t u = (t, gated_below s a b u (λ go. below_past t go))

-- a container that has an entry, and one that has none
module _ (k : Kind) (c h n : ℕ) (s : Bool) where
  pub some_past : Stopped k c h n (ltb 0 n) s → s ≡ false → n ≡ 0 → ⊥
  some_past t go e = omega (arith, below_past k c h n 0 n s t go)

  pub none_held : (w : Bool) → Stopped k c h n (ltb 0 n) s → s ≡ true → w ≡ not (valid k c h n) → w ≡ false → eqb n 0 ≡ true
  none_held w t stop ew fine = eq-eqb n 0 (omega (arith, leb-true n 0 (bound_fails k c h n 0 n s w t stop ew fine)))

-- a cursor that has a step: a < b ≤ n
left_of : (x y : Bool) → y ≡ true → x && y ≡ false → x ≡ false
left_of true y e f = sym e ∙ f
left_of false y e f = refl

module _ (k : Kind) (c h n a b : ℕ) (s : Bool) where
  pub before_past : Stopped k c h n (ltb a b && leb b n) s → s ≡ false → a < b
  before_past t go = ltb-true a b (and_left _ _ (holds k c h n (ltb a b && leb b n) s t.is go))

  pub within_past : Stopped k c h n (ltb a b && leb b n) s → s ≡ false → b ≤ n
  within_past t go = leb-true b n (and_right (ltb a b) _ (holds k c h n (ltb a b && leb b n) s t.is go))

  pub ordered_past : Stopped k c h n (ltb a b && leb b n) s → s ≡ false → a ≤ b
  ordered_past t go = omega (arith, before_past t go)

  pub apart_past : Stopped k c h n (ltb a b && leb b n) s → s ≡ false → a ≡ b → ⊥
  apart_past t go e = omega (arith, before_past t go)

  pub meets : (w : Bool) → Stopped k c h n (ltb a b && leb b n) s → s ≡ true → w ≡ not (valid k c h n) → w ≡ false → a ≤ b → b ≤ n → eqb a b ≡ true
  meets w t stop ew fine le fits =
      let short = left_of (ltb a b) (leb b n) (le-leb b n fits) (fails k c h n (ltb a b && leb b n) s w t stop ew fine) in
      eq-eqb a b (omega (arith, ltb-false a b short))

  pub stopped_step : Stopped k c h n (ltb a b && leb b n) s → (a < 2 ^ 64) × (b < 2 ^ 64)
      → Stopped k c h n (ltb a b && leb b n) s × (a < b + gate s) × (b ≤ n + gate s)
  stopped_step t u = (t, gated_below s a b u.0 (λ go. before_past t go), gated s b n u.1 (λ go. within_past t go))

-- A range or a cursor that the code's own test finds in order.
module _ (a b n : ℕ) (s : Bool) where
  pub in_order : Strays a b n s → s ≡ false → a ≤ b
  in_order t go = leb-true a b (and_left _ _ (not-false (within a b n) (sym t.is ∙ go)))

  pub in_reach : Strays a b n s → s ≡ false → b ≤ n
  in_reach t go = leb-true b n (and_right (leb a b) _ (not-false (within a b n) (sym t.is ∙ go)))

  pub is_astray : Strays a b n s → s ≡ true → not (within a b n) ≡ true
  is_astray t stop = sym t.is ∙ stop

  pub not_astray : Strays a b n s → s ≡ false → not (within a b n) ≡ false
  not_astray t go = sym t.is ∙ go

  pub strays : s ≡ not (within a b n) → (a < 2 ^ 64) × (b < 2 ^ 64) → Strays a b n s
  strays e u = record {
    is = e;
    ordered = gated s a b u.0 (λ go. leb-true a b (and_left _ _ (not-false (within a b n) (sym e ∙ go))));
    fits = gated s b n u.1 (λ go. leb-true b n (and_right (leb a b) _ (not-false (within a b n) (sym e ∙ go))));
  }

pub ruleset stops = (is_astray, not_astray, in_order, in_reach, valid_past, below_past, bound_fails, some_past, none_held, within_past, ordered_past, apart_past, meets)
