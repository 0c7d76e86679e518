-- Digits read from a text: what is left of it decides, and what was read fits its digits.
use mathlib.Core.Path.{◌≡◌, refl, sym, ap, ◌∙◌}
use mathlib.Core.Bool.{Bool, true, false, not, ◌&&◌, ◌||◌}
use mathlib.Core.List.{List, [], ◌∷◌}
use Prim.Native.Nat.{ℕ, ◌+◌, ◌-◌, ◌*◌, ◌/◌, ◌%◌, ◌^◌, ◌≤◌, ◌<◌}
use native.Mathlib.Nat.{pow-suc, pow-le-pow_right, mod-eq_of_lt}
use native.Mathlib.Numerals.{add-one}
use native.Mathlib.Omega.{arith}
use borrow.Author.Tests.{leb-true, leb-false, ltb-true, ltb-false, le-leb, lt-leb}
use lib.Dec.{leb, ltb}
use Rattle.std.specs.List.{fold}
use lib.ListN.{length, get_or, drop, drop_of_length-le}
use lib.Seq.{drop-cons}
use Rattle.digits.specs.Hex.{is_digit, are_digits, worth, says_from, says, number_in}
use Rattle.digits.specs.Low.{low_of, lows_from, low_in}

-- what is left from i on: one byte, and what is left from i + 1 on
left : (s : List ℕ) (i : ℕ) → i < length s → drop i s ≡ get_or s i 0 ∷ drop (i + 1) s
left s i h = rw (add-one, drop-cons s i 0)

none_left : (s : List ℕ) (i : ℕ) → length s ≤ i → drop i s ≡ []
none_left s i h = drop_of_length-le s {i = i} h

-- the two halves of a test that holds
pub and_left : (a b : Bool) → a && b ≡ true → a ≡ true
and_left true b e = refl
and_left false b e = e

pub and_right : (a b : Bool) → a && b ≡ true → b ≡ true
and_right true b e = e
and_right false b e = absurd (let z : ◌≡◌ {A = ℕ} 0 1 = cc in omega arith)

-- the two ranges of a digit
pub record Range (b : ℕ) : Type 0 where
  pub low : b < 58 → 48 ≤ b
  pub high : 58 ≤ b → (97 ≤ b) × (b < 103)

pub range : (b : ℕ) → is_digit b ≡ true → Range b
range b e = go (leb 48 b && ltb b 58) refl e
  where
    go : (low : Bool) → leb 48 b && ltb b 58 ≡ low → low || (leb 97 b && ltb b 103) ≡ true → Range b
    go true p q = record {
      low = λ h. leb-true 48 b (and_left _ _ p);
      high = λ h. absurd (let lt = ltb-true b 58 (and_right (leb 48 b) _ p) in omega arith);
    }
    go false p q = record {
      low = λ h. absurd (let le = leb-true 97 b (and_left _ _ q) in omega arith);
      high = λ h. (leb-true 97 b (and_left _ _ q), ltb-true b 103 (and_right (leb 97 b) _ q));
    }

-- all bytes tested, one after another
pub none_other : (s : List ℕ) → not (fold (λ bad b. bad || not (is_digit b)) false s) ≡ are_digits s
none_other s = go false s
  where
    step : (a b c : Bool) → not (a || not b) && c ≡ not a && (b && c)
    step true b c = refl
    step false true c = refl
    step false false c = refl

    go : (bad : Bool) (s : List ℕ) → not (fold (λ bad b. bad || not (is_digit b)) bad s) ≡ not bad && are_digits s
    go true [] = refl
    go false [] = refl
    go bad (b ∷ s) = go (bad || not (is_digit b)) s ∙ step bad (is_digit b) (are_digits s)

-- of a loop that reads low bits, byte after byte: x is what was read
pub low_turn : (s : List ℕ) (i x w v : ℕ) → lows_from x (drop i s) ≡ v → i < length s → w ≡ low_of (get_or s i 0) → lows_from (x * 16 + w) (drop (i + 1) s) ≡ v
low_turn s i x w v is h e = rw e (sym (ap (lows_from x) (left s i h))) ∙ is

pub low_end : (s : List ℕ) (i x : ℕ) → lows_from x (drop i s) ≡ lows_from 0 s → length s ≤ i → length s ≤ 16 → x ≡ low_in s
unfolding low_in
low_end s i x is h few = rw (le-leb _ _ few) (sym (ap (lows_from x) (none_left s i h)) ∙ is)

pub low_many : (s : List ℕ) → 16 < length s → 0 ≡ low_in s
unfolding low_in
low_many s many = rw (lt-leb _ _ many)

-- of digits they say the number
low_digit : (b : ℕ) → is_digit b ≡ true → low_of b ≡ worth b
low_digit b e = go (ltb b 58) refl (range b e)
  where
    go : (low : Bool) → ltb b 58 ≡ low → Range b → low_of b ≡ worth b
    go true p r =
        let lt = ltb-true b 58 p in
        let from = r.low lt in
        let w : worth b ≡ b - 48 = rw p in
        let q : b / 64 ≡ 0 = omega arith in
        let r : b % 16 ≡ b - 48 = omega arith in
        let low : b % 16 + 9 * (b / 64) ≡ b - 48 = omega arith in
        let small : b - 48 < 16 = omega arith in
        ap (λ n. n % 16) low ∙ mod-eq_of_lt small ∙ sym w
    go false p r =
        let le = ltb-false b 58 p in
        let from = r.high le in
        let w : worth b ≡ b - 87 = rw p in
        let q : b / 64 ≡ 1 = omega arith in
        let r : b % 16 ≡ b - 96 = omega arith in
        let low : b % 16 + 9 * (b / 64) ≡ b - 87 = omega arith in
        let small : b - 87 < 16 = omega arith in
        ap (λ n. n % 16) low ∙ mod-eq_of_lt small ∙ sym w

lows_say : (x : ℕ) (s : List ℕ) → are_digits s ≡ true → lows_from x s ≡ says_from x s
lows_say x [] e = refl
lows_say x (b ∷ s) e =
    ap (λ w. lows_from (x * 16 + w) s) (low_digit b (and_left _ _ e)) ∙ lows_say (x * 16 + worth b) s (and_right (is_digit b) _ e)

pub low_says : (s : List ℕ) → are_digits s ≡ true → length s ≤ 16 → low_in s ≡ says s
unfolding low_in
low_says s e few = rw (le-leb _ _ few) (lows_say 0 s e)

-- the number of a part: what its digits say, or 0
pub number_says : (s : List ℕ) (x : ℕ) → length s ≤ 16 → true ≡ are_digits s → x ≡ says s → x ≡ number_in s
unfolding number_in
number_says s x short all e = rw (le-leb _ _ short, ← all) e

pub number_low : (s : List ℕ) (d : Bool) (x : ℕ) → d ≡ are_digits s → d ≡ true → x ≡ low_in s → x ≡ number_in s
unfolding number_in
number_low s d x e t ex = go (leb (length s) 16) refl
  where
    digits : are_digits s ≡ true
    digits = sym e ∙ t

    go : (b : Bool) → leb (length s) 16 ≡ b → x ≡ number_in s
    go true p = ex ∙ low_says s digits (leb-true _ _ p) ∙ sym (rw (p, digits))
    go false p = ex ∙ sym (low_many s (leb-false _ _ p)) ∙ sym (rw p)

pub number_none : (s : List ℕ) (d : Bool) → d ≡ are_digits s → d ≡ false → 0 ≡ number_in s
unfolding number_in
number_none s d e f = let other : are_digits s ≡ false = sym e ∙ f in rw (other, and_false (leb (length s) 16))
  where
    and_false : (b : Bool) → b && false ≡ false
    and_false true = refl
    and_false false = refl

-- i digits say less than 16 to the i
pub grows : (i x w : ℕ) → x < 16 ^ i → w < 16 → x * 16 + w < 16 ^ (i + 1)
grows i x w lx lw = rw (add-one, pow-suc) (omega arith)

pub fits : (i x w : ℕ) → x < 16 ^ i → w < 16 → i < 16 → x * 16 + w < 2 ^ 64
fits i x w lx lw h =
    let most : 16 ^ (i + 1) ≤ 16 ^ 16 = let up : i + 1 ≤ 16 = omega arith in pow-le-pow_right {n = 16} (omega arith) up in
    let all : ◌≡◌ {A = ℕ} (16 ^ 16) (2 ^ 64) = refl in
    omega (arith, grows i x w lx lw)

pub times_fits : (i x : ℕ) → x < 16 ^ i → i < 16 → x * 16 < 2 ^ 64
times_fits i x lx h = omega (arith, fits i x 0 lx (omega arith) h)

pub none_small : (n : ℕ) → 0 < 16 ^ n
none_small n = let least : 0 ≤ n = omega arith in pow-le-pow_right {n = 16} (omega arith) least

pub small_end : (i x n : ℕ) → x < 16 ^ i → i ≤ n → n ≤ i → x < 16 ^ n
small_end i x n lx p q = let e : i ≡ n = omega arith in rw e at lx

-- what `low` needs, and `number`
pub ruleset reading = (low_many, none_small, low_turn, grows, low_end, small_end)

pub ruleset numbered = (number_low, number_none, none_small)
