-- Line and byte, both from 1: a line ends at LF, wherever it stands.
use Rattle.std.specs.Prelude.{ℕ, ◌+◌, ◌≤◌, ◌≡◌, cond, List, [], ◌∷◌, eqb, length}
use Rattle.import.specs.declared.counts.Spot.{Spot}

-- behind one byte, and behind some, of which the first stood on this line, or was this byte of its line
abbrev pub line_on : (line b : ℕ) → ℕ
line_on line b = cond (eqb b 10) (line + 1) line

abbrev pub byte_on : (byte b : ℕ) → ℕ
byte_on byte b = cond (eqb b 10) 1 (byte + 1)

unfoldable pub line_after : (line : ℕ) (s : List ℕ) → ℕ
line_after line [] = line
line_after line (b ∷ s) = line_after (line_on line b) s

unfoldable pub byte_after : (byte : ℕ) (s : List ℕ) → ℕ
byte_after byte [] = byte
byte_after byte (b ∷ s) = byte_after (byte_on byte b) s

-- The promise of the function that counts: the spot behind some bytes, no further on than they are many.
pub record Behind (first : Spot) (s : List ℕ) (r : Spot) : Type 0 where
  pub line : r.line ≡ line_after first.line s
  pub byte : r.byte ≡ byte_after first.byte s
  pub line_near : r.line ≤ first.line + length s
  pub byte_near : r.byte ≤ first.byte + length s
