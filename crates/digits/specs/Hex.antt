-- Numbers as lower-case hexadecimal digits, high digit first.
use Rattle.std.specs.Prelude.{ℕ, zero, suc, ◌+◌, ◌-◌, ◌*◌, ◌/◌, ◌%◌, Bool, true, cond, ◌&&◌, ◌||◌, List, [], ◌∷◌, ◌++◌, ltb, leb, length}

-- the byte of a digit below 16: 0 to 9, then a to f
abbrev pub digit : ℕ → ℕ
digit d = cond (ltb d 10) (48 + d) (87 + d)

-- n digits that say x, of which the n lowest are kept
unfoldable pub hex : (n x : ℕ) → List ℕ
hex zero x = []
hex (suc n) x = hex n (x / 16) ++ (digit (x % 16) ∷ [])

-- a line feed
abbrev pub lf : ℕ
lf = 10

-- 0 to 9 or a to f
abbrev pub is_digit : (b : ℕ) → Bool
is_digit b = (leb 48 b && ltb b 58) || (leb 97 b && ltb b 103)

abbrev pub are_digits : List ℕ → Bool
are_digits [] = true
are_digits (b ∷ s) = is_digit b && are_digits s

-- what a digit says, and what a run of them says, read from the left
abbrev pub worth : (b : ℕ) → ℕ
worth b = cond (ltb b 58) (b - 48) (b - 87)

abbrev pub says_from : ℕ → List ℕ → ℕ
says_from x [] = x
says_from x (b ∷ s) = says_from (x * 16 + worth b) s

abbrev pub says : List ℕ → ℕ
says s = says_from 0 s

-- the number of 64 bits that a run says: digits, sixteen at most; anything else says 0
unfoldable pub number_in : List ℕ → ℕ
number_in s = cond (leb (length s) 16 && are_digits s) (says s) 0
