-- Digits and numbers, both ways: what digits say is written as those digits, and what is written says its number.
use mathlib.Core.Path.{◌≡◌, refl, sym, ap, ◌∙◌}
use mathlib.Core.Bool.{Bool, true, false, ◌&&◌}
use mathlib.Core.List.{List, [], ◌∷◌, ◌++◌, append_assoc, append-nil}
use Prim.Native.Nat.{ℕ, zero, suc, ◌+◌, ◌-◌, ◌*◌, ◌/◌, ◌%◌, ◌^◌, ◌≤◌, ◌<◌}
use native.Mathlib.Nat.{pow-suc, add-mul, mul_assoc, mul_comm}
use native.Mathlib.Omega.{arith}
use borrow.Author.Tests.{lt-ltb, le-ltb, le-leb, ltb-false, ltb-true}
use lib.Dec.{ltb, leb}
use lib.ListN.{length}
use Rattle.digits.specs.Hex.{digit, hex, is_digit, are_digits, worth, says_from, says}
use Rattle.digits.proofs.Digits.{and_left, and_right, range}

-- a digit is the byte of what it says
digit_worth : (b : ℕ) → is_digit b ≡ true → (digit (worth b) ≡ b) × (worth b < 16)
digit_worth b e = go (ltb b 58) refl
  where
    go : (low : Bool) → ltb b 58 ≡ low → (digit (worth b) ≡ b) × (worth b < 16)
    go true p =
        let lt = ltb-true b 58 p in
        let from : 48 ≤ b = (range b e).low lt in
        let w : worth b ≡ b - 48 = rw p in
        let under : b - 48 < 10 = omega arith in
        let small : ltb (b - 48) 10 ≡ true = lt-ltb _ _ under in
        (ap digit w ∙ rw small (omega arith), omega arith)
    go false p =
        let le = ltb-false b 58 p in
        let from = (range b e).high le in
        let w : worth b ≡ b - 87 = rw p in
        let over : 10 ≤ b - 87 = omega arith in
        let big : ltb (b - 87) 10 ≡ false = le-ltb _ _ over in
        (ap digit w ∙ rw big (omega arith), omega arith)

-- the byte of a number below 16 is a digit, and says it
worth_digit : (d : ℕ) → d < 16 → (is_digit (digit d) ≡ true) × (worth (digit d) ≡ d)
worth_digit d h = go (ltb d 10) refl
  where
    go : (low : Bool) → ltb d 10 ≡ low → (is_digit (digit d) ≡ true) × (worth (digit d) ≡ d)
    go true p =
        let lt = ltb-true d 10 p in
        let is : digit d ≡ 48 + d = rw p in
        let a : leb 48 (48 + d) ≡ true = (let u : 48 ≤ 48 + d = omega arith in le-leb _ _ u) in
        let b : ltb (48 + d) 58 ≡ true = (let u : 48 + d < 58 = omega arith in lt-ltb _ _ u) in
        (ap is_digit is ∙ rw (a, b), ap worth is ∙ rw b (omega arith))
    go false p =
        let le = ltb-false d 10 p in
        let is : digit d ≡ 87 + d = rw p in
        let a : leb 97 (87 + d) ≡ true = (let u : 97 ≤ 87 + d = omega arith in le-leb _ _ u) in
        let b : ltb (87 + d) 103 ≡ true = (let u : 87 + d < 103 = omega arith in lt-ltb _ _ u) in
        let c : ltb (87 + d) 58 ≡ false = (let u : 58 ≤ 87 + d = omega arith in le-ltb _ _ u) in
        let f : leb 48 (87 + d) ≡ true = (let u : 48 ≤ 87 + d = omega arith in le-leb _ _ u) in
        (ap is_digit is ∙ rw (f, c, a, b), ap worth is ∙ rw c (omega arith))

-- WHAT DIGITS SAY IS WRITTEN AS THOSE DIGITS
hex_from : (k x : ℕ) (s : List ℕ) → are_digits s ≡ true → hex (k + length s) (says_from x s) ≡ hex k x ++ s
unfolding hex
hex_from k x [] e = let z : k + 0 ≡ k = omega arith in ap (λ n. hex n x) z ∙ sym (append-nil (hex k x))
hex_from k x (b ∷ s) e =
    let d = digit_worth b (and_left _ _ e) in
    let q : (x * 16 + worth b) / 16 ≡ x = omega arith in
    let r : (x * 16 + worth b) % 16 ≡ worth b = omega arith in
    let one : hex (suc k) (x * 16 + worth b) ≡ hex k x ++ (b ∷ []) = rw (q, r, d.0) in
    let z : k + suc (length s) ≡ suc k + length s = omega arith in
    ap (λ n. hex n (says_from (x * 16 + worth b) s)) z
    ∙ hex_from (suc k) (x * 16 + worth b) s (and_right (is_digit b) _ e)
    ∙ ap (λ l. l ++ s) one
    ∙ append_assoc (hex k x) (b ∷ []) s

pub hex_says : (n : ℕ) (s : List ℕ) → are_digits s ≡ true → length s ≡ n → hex n (says s) ≡ s
unfolding hex
hex_says n s e en = let z : n ≡ 0 + length s = omega arith in ap (λ n. hex n (says s)) z ∙ hex_from 0 0 s e

-- WHAT IS WRITTEN IS DIGITS, AND SAYS ITS NUMBER
pub digits_append : (a b : List ℕ) → are_digits (a ++ b) ≡ are_digits a && are_digits b
digits_append [] b = refl
digits_append (x ∷ a) b = rw (digits_append a b) (go (is_digit x) (are_digits a) (are_digits b))
  where
    go : (d e f : Bool) → d && (e && f) ≡ (d && e) && f
    go true e f = refl
    go false e f = refl

says_last : (x : ℕ) (a : List ℕ) (b : ℕ) → says_from x (a ++ (b ∷ [])) ≡ says_from x a * 16 + worth b
says_last x [] b = refl
says_last x (y ∷ a) b = says_last (x * 16 + worth y) a b

pub digits_hex : (n x : ℕ) → are_digits (hex n x) ≡ true
unfolding hex
digits_hex zero x = refl
digits_hex (suc n) x =
    digits_append (hex n (x / 16)) (digit (x % 16) ∷ []) ∙ rw (digits_hex n (x / 16), (worth_digit (x % 16) (omega arith)).0)

pub says_hex : (n x : ℕ) → x < 16 ^ n → says (hex n x) ≡ x
unfolding hex
says_hex zero x h = omega arith
says_hex (suc n) x h =
    let h2 : x < 16 ^ n * 16 = rw pow-suc at h in
    says_last 0 (hex n (x / 16)) (digit (x % 16))
    ∙ rw (says_hex n (x / 16) (omega arith), (worth_digit (x % 16) (omega arith)).1) (omega arith)

-- n digits say less than 16 to the n
says_small : (x : ℕ) (s : List ℕ) (k : ℕ) → are_digits s ≡ true → x < 16 ^ k → says_from x s < 16 ^ (k + length s)
says_small x [] k e h = let z : k + 0 ≡ k = omega arith in rw z h
says_small x (b ∷ s) k e h =
    let d = digit_worth b (and_left _ _ e) in
    let up : x * 16 + worth b < 16 ^ suc k = rw pow-suc (omega arith) in
    let z : k + suc (length s) ≡ suc k + length s = omega arith in
    rw z (says_small (x * 16 + worth b) s (suc k) (and_right (is_digit b) _ e) up)

pub says_under : (n : ℕ) (s : List ℕ) → are_digits s ≡ true → length s ≡ n → says s < 16 ^ n
says_under n s e en = let z : n ≡ 0 + length s = omega arith in rw z (says_small 0 s 0 e (omega arith))

-- WHAT STANDS BEFORE counts once for each number that the digits behind it can say
says_from_law : (x : ℕ) (s : List ℕ) → says_from x s ≡ x * 16 ^ length s + says s
says_from_law x [] = omega arith
says_from_law x (b ∷ s) =
    let p : ℕ = 16 ^ length s in
    let w : ℕ = worth b in
    let up : x * 16 ^ suc (length s) ≡ x * 16 * p = rw (pow-suc, mul_comm p 16) (sym (mul_assoc x 16 p)) in
    let here = says_from_law (x * 16 + w) s in
    let alone = says_from_law (0 * 16 + w) s in
    let none : (0 * 16 + w) * p ≡ w * p = ap (λ n. n * p) (omega arith) in
    omega (arith, up, here, alone, none, add-mul (x * 16) w p)

from_append : (x : ℕ) (a b : List ℕ) → says_from x (a ++ b) ≡ says_from (says_from x a) b
from_append x [] b = refl
from_append x (y ∷ a) b = from_append (x * 16 + worth y) a b

pub says_append : (a b : List ℕ) → says (a ++ b) ≡ says a * 16 ^ length b + says b
says_append a b = from_append 0 a b ∙ says_from_law (says a) b
