-- What the low bits of bytes say, whatever they are: of digits, their number (`proofs/Digits.low_says`).
use Rattle.std.specs.Prelude.{ℕ, ◌+◌, ◌*◌, ◌/◌, ◌%◌, cond, List, [], ◌∷◌, leb, length}

-- 0 to 9 are 30 to 39 and a to f 61 to 66: the low four bits, and nine more for a letter, which has bit 6
abbrev pub low_of : (b : ℕ) → ℕ
low_of b = (b % 16 + 9 * (b / 64)) % 16

abbrev pub lows_from : ℕ → List ℕ → ℕ
lows_from x [] = x
lows_from x (b ∷ s) = lows_from (x * 16 + low_of b) s

-- sixteen bytes at most; more say 0
unfoldable pub low_in : List ℕ → ℕ
low_in s = cond (leb (length s) 16) (lows_from 0 s) 0
