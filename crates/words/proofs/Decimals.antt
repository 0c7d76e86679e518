-- The digits that the kit's `decimal` gives, the fewest that hold the number, are the number's decimal digits; so they are written as such.
use mathlib.Core.Path.{◌≡◌, refl, ap}
use mathlib.Core.Bool.{Bool, true, false}
use mathlib.Core.List.{List, [], ◌∷◌, ◌++◌}
use Prim.Native.Nat.{ℕ, zero, suc, ◌+◌, ◌-◌, ◌/◌, ◌%◌, ◌^◌, ◌≤◌, ◌<◌}
use native.Mathlib.Nat.{pow-suc, pow-le-pow_right, not-suc-le-zero}
use native.Mathlib.Omega.{arith}
use borrow.Author.Tests.{eq-eqb, ne_eqb, lt-ltb, le-ltb, leb-true, leb-false}
use lib.Dec.{leb}
use lib.ListN.{take}
use Rattle.io.specs.Digits.{last_digits, IsDigitCount}
use Rattle.words.specs.Words.{bytes, decimal_in, decimal, numbered, several}
use Rattle.words.specs.Wrote.{Wrote}
use Rattle.words.proofs.Writing.{wrote_none, wrote_then}

one_digit : (most n : ℕ) → n < 10 → last_digits 10 1 n ≡ decimal_in most n
unfolding decimal_in
one_digit zero n h = let e : n % 10 ≡ n = omega arith in rw (e, lt-ltb n 10 h)
one_digit (suc most) n h = let e : n % 10 ≡ n = omega arith in rw (e, lt-ltb n 10 h)

some : (k : ℕ) → 1 ≤ 10 ^ k
some k = let least : 0 ≤ k = omega arith in pow-le-pow_right {n = 10} (omega arith) least

digits_in : (most k n : ℕ) → n ≤ most → IsDigitCount 10 1 n k → last_digits 10 k n ≡ decimal_in most n
unfolding decimal_in
digits_in most zero n h f = absurd (not-suc-le-zero f.0)
digits_in most (suc zero) n h f = one_digit most n (omega (arith, f.1))
digits_in zero (suc (suc k)) n h f =
    let less : suc (suc k) - 1 ≡ suc k = omega arith in
    let big : 10 ^ (suc k) ≤ n = rw less at (f.2 (omega arith)) in
    absurd (omega (arith, pow-suc 10 k, some k))
digits_in (suc most) (suc (suc k)) n h f =
    let less : suc (suc k) - 1 ≡ suc k = omega arith in
    let one : suc k - 1 ≡ k = omega arith in
    let big : 10 ^ (suc k) ≤ n = rw less at (f.2 (omega arith)) in
    let two : 10 ≤ n = omega (arith, pow-suc 10 k, some k) in
    let last : n % 10 < 10 = omega arith in
    let tenth : IsDigitCount 10 1 (n / 10) (suc k) =
    (omega arith, omega (arith, pow-suc 10 (suc k), f.1), λ h. rw one (omega (arith, pow-suc 10 k))) in
    rw (le-ltb n 10 two, lt-ltb (n % 10) 10 last) (ap (λ (l : List ℕ). l ++ ((48 + n % 10) ∷ [])) (digits_in most (suc k) (n / 10) (omega arith) tenth))

pub digits_decimal : (k n : ℕ) → IsDigitCount 10 1 n k → last_digits 10 k n ≡ decimal n
unfolding decimal
digits_decimal k n f = digits_in n k n (omega arith) f

-- a number of 64 bits has twenty at most
pub few : (k n : ℕ) → n < 2 ^ 64 → IsDigitCount 10 1 n k → k ≤ 20
few k n small f = go (leb k 20) refl
  where
    go : (b : Bool) → leb k 20 ≡ b → k ≤ 20
    go true e = leb-true k 20 e
    go false e =
        let up : 20 ≤ k - 1 = omega (arith, leb-false k 20 e) in
        let most : 10 ^ 20 ≤ 10 ^ (k - 1) = pow-le-pow_right {n = 10} (omega arith) up in
        absurd (omega (arith, f.2 (omega (arith, leb-false k 20 e))))

-- a is the text before, at the place; b and c are the text after each piece, m and m2 the places behind them
module _ {a b : List ℕ} {at m : ℕ} where
  pub decimal_wrote : (t : List ℕ) (n k : ℕ) → Wrote a at (take k t) m b → take k t ≡ last_digits 10 k n → IsDigitCount 10 1 n k → Wrote a at (decimal n) m b
  decimal_wrote t n k p e f = rw (← digits_decimal k n f, ← e) p

  module _ {c : List ℕ} {m2 : ℕ} where
    pub numbered_wrote : (n : ℕ) (words : List ℕ) → Wrote a at (decimal n) m b → Wrote b m words m2 c → Wrote a at (numbered n words) m2 c
    unfolding numbered
    numbered_wrote n words p q = wrote_then p q

module _ {a b c d : List ℕ} {at m m2 m3 : ℕ} where
  pub several_one : (n : ℕ) (what : List ℕ) → Wrote a at (decimal n) m b → Wrote b m (bytes " ") m2 c → Wrote c m2 what m3 d → n ≡ 1 → Wrote a at (several n what) m3 d
  unfolding several
  several_one n what p q r e = rw (eq-eqb n 1 e) (wrote_then p (wrote_then q (wrote_then r wrote_none)))

  module _ {f : List ℕ} {m4 : ℕ} where
    pub several_more : (n : ℕ) (what : List ℕ) → Wrote a at (decimal n) m b → Wrote b m (bytes " ") m2 c → Wrote c m2 what m3 d → Wrote d m3 (bytes "s") m4 f → (n ≡ 1 → ⊥)
        → Wrote a at (several n what) m4 f
    unfolding several
    several_more n what p q r s other = rw (ne_eqb n 1 other) (wrote_then p (wrote_then q (wrote_then r s)))
