-- What a valid state tells of its numbers, and how `omega` has it behind the flag of the code's test.
use mathlib.Core.Path.{◌≡◌, refl, sym, ◌∙◌}
use mathlib.Core.Bool.{Bool, true, false, not, ◌&&◌, ◌||◌}
use Prim.Native.Nat.{ℕ, ◌+◌, ◌-◌, ◌^◌, ◌≤◌, ◌<◌}
use native.Mathlib.Omega.{arith}
use borrow.Author.Tests.{ltb-true, leb-true, eqb-true, le-ltb, not-false}
use lib.Dec.{ltb, leb, eqb}
use Rattle.slots.specs.Layout.{Kind, ring, vector, place, pos}
use Rattle.slots.proofs.Placing.{Placing, placing}
use Rattle.table.specs.Tray.{Tray, cap, valid, invalid}
use Rattle.table.specs.Tested.{gate, Tested}

-- h ≤ c - 1 says h < c, or c = h = 0; an empty ring is at home
pub record Valid (c h n : ℕ) : Type 0 where
  pub small : c ≤ 4096
  pub fits : n ≤ c
  pub inside : h ≤ c - 1
  pub home : n ≡ 0 → h ≡ 0

-- the two halves of a test that holds
pub and_left : (a b : Bool) → a && b ≡ true → a ≡ true
and_left true b e = refl
and_left false b e = e

pub and_right : (a b : Bool) → a && b ≡ true → b ≡ true
and_right true b e = e
and_right false b e = let x : b ≡ true = cc in x

head_inside : (c h : ℕ) (l : Bool) → ltb h c ≡ l → l || (eqb c 0 && eqb h 0) ≡ true → h ≤ c - 1
head_inside c h true e q = omega (arith, ltb-true h c e)
head_inside c h false e q = omega (arith, eqb-true h 0 (and_right (eqb c 0) _ q))

at_home : (h n : ℕ) → ltb 0 n || eqb h 0 ≡ true → n ≡ 0 → h ≡ 0
at_home h n q e = eqb-true h 0 (rw (le-ltb 0 n (omega arith)) at q)

pub ring_facts : (c h n : ℕ) → not (valid ring c h n) ≡ false → Valid c h n
unfolding valid
ring_facts c h n ok =
    let e = not-false (valid ring c h n) ok in
    let rest = and_right (leb c 4096) _ e in
    let heads = and_right (leb n c) _ rest in
    record {
      small = leb-true c 4096 (and_left _ _ e);
      fits = leb-true n c (and_left _ _ rest);
      inside = head_inside c h _ refl (and_left _ _ heads);
      home = at_home h n (and_right (ltb h c || (eqb c 0 && eqb h 0)) _ heads);
    }

pub vector_facts : (c n : ℕ) → not (valid vector c 0 n) ≡ false → Valid c 0 n
unfolding valid
vector_facts c n ok =
    let e = not-false (valid vector c 0 n) ok in
    record { small = leb-true c 4096 (and_right (leb n c) _ e); fits = leb-true n c (and_left _ _ e); inside = omega arith; home = λ none. refl }

-- what a valid tray tells
pub record Fit (k : Kind) (t : Tray) : Type 0 where
  pub small : cap t ≤ 4096
  pub fits : t.len ≤ cap t
  pub placed : Placing (cap t) (place k (cap t) t.head) (pos k (cap t) t.head)

pub fit : (k : Kind) (t : Tray) → invalid k t ≡ false → Fit k t
unfolding valid
fit ring t ok = let v = ring_facts (cap t) t.head t.len ok in record { small = v.small; fits = v.fits; placed = placing ring _ _ v.inside }
fit vector t ok = let v = vector_facts (cap t) t.len ok in record { small = v.small; fits = v.fits; placed = placing vector _ 0 (omega arith) }

pub ring_inside : (t : Tray) → invalid ring t ≡ false → 0 < cap t → t.head < cap t
ring_inside t ok some = omega (arith, ring_facts (cap t) t.head t.len ok)

-- a bound behind a gate, and the rule by which `omega` passes the gate of a flag that is false
pub gated : (b : Bool) (x y : ℕ) → x < 2 ^ 64 → (b ≡ false → x ≤ y) → x ≤ y + gate b
unfolding gate
gated true x y u h = omega arith
gated false x y u h = omega (arith, h refl)

pub passed : (b : Bool) → b ≡ false → gate b ≡ 0
unfolding gate
passed b e = rw e

pub ruleset state = (arith, passed)

pub tested : (k : Kind) (c h n : ℕ) (b : Bool) → b ≡ not (valid k c h n) → (c < 2 ^ 64) × (h < 2 ^ 64) × (n < 2 ^ 64) → (not (valid k c h n) ≡ false → Valid c h n) → Tested k c h n b
tested k c h n b e u facts = record {
  is = e;
  small = gated b c 4096 u.0 (λ ok. (facts (sym e ∙ ok)).small);
  fits = gated b n c u.2 (λ ok. (facts (sym e ∙ ok)).fits);
  inside = gated b h (c - 1) u.1 (λ ok. (facts (sym e ∙ ok)).inside);
}
