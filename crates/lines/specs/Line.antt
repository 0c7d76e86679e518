-- A line of a text: so many lower-case hexadecimal digits and a line feed; what stands at a place, and where the next line begins.
use Rattle.std.specs.Prelude.{ℕ, ◌+◌, Bool, cond, ◌&&◌, List, ltb, leb, eqb, length, get_or, take, drop, Some, None}
use Rattle.digits.specs.Hex.{are_digits, says, lf}
use Rattle.lines.specs.declared.Step.{Step}

-- n digits and a line feed come first
unfoldable pub is_line : (n : ℕ) → List ℕ → Bool
is_line n s = ltb n (length s) && (are_digits (take n s) && eqb (get_or s n 0) lf)

-- what n digits say, from a place on
unfoldable pub field : (at n : ℕ) → List ℕ → ℕ
field at n text = says (take n (drop at text))

-- a line was found there, or none: sixteen digits at most are a number of 64 bits
abbrev pub found_at : (at n x : ℕ) → Step
found_at at n x = record { line = Some x; next = at + n + 1 }

abbrev pub none_at : (at : ℕ) → Step
none_at at = record { line = None; next = at }

unfoldable pub line_at : (text : List ℕ) (at n : ℕ) → Step
line_at text at n = cond (leb n 16 && is_line n (drop at text)) (found_at at n (field at n text)) (none_at at)
