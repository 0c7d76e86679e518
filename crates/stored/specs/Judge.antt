-- How a stored text is judged and read, line by line. Nobody needs to believe this: it is proved to accept exactly the acceptable texts (`proofs/Exactly`).
use Rattle.std.specs.Prelude.{ℕ, zero, suc, Bool, true, false, cond, ◌&&◌, ◌||◌, List, [], ◌∷◌, length, take, drop, ltb, leb, eqb}
use Rattle.slots.specs.Layout.{most, Kind, ring, vector}
use Rattle.table.specs.Tray.{Tray, valid}
use Rattle.table.specs.Does.{head_after}
use Rattle.digits.specs.Hex.{says}
use Rattle.lines.specs.Line.{is_line, field}
use Rattle.stored.specs.Form.{kind_byte, size}

-- n slot lines come first, and what they say
unfoldable pub are_lines : (n : ℕ) → List ℕ → Bool
are_lines zero s = true
are_lines (suc n) s = is_line 8 s && are_lines n (drop 9 s)

unfoldable pub numbers : (n : ℕ) → List ℕ → List ℕ
numbers zero s = []
numbers (suc n) s = says (take 8 s) ∷ numbers n (drop 9 s)

-- the numbers of the first line
abbrev pub cap_in : List ℕ → ℕ
cap_in text = field 4 4 text

abbrev pub head_of : List ℕ → ℕ
head_of text = field 8 4 text

abbrev pub len_in : List ℕ → ℕ
len_in text = field 12 4 text

-- the container that a text tells: an empty ring has head 0, and a vector has none
unfoldable pub told : Kind → List ℕ → Tray
told k text = record { head = head_after k (len_in text) (head_of text); len = len_in text; slots = numbers (cap_in text) (drop 17 text) }

-- an older text's empty ring
abbrev pub is_older : (c h n : ℕ) → Bool
is_older c h n = eqb n 0 && (ltb h c && leb c most)

-- a state that a text may have: a valid one, or an older text's; a vector's head is 0
unfoldable pub stands : Kind → (c h n : ℕ) → Bool
stands ring c h n = valid ring c h n || is_older c h n
stands vector c h n = eqb h 0 && valid vector c 0 n

-- the first line is one, of this kind, with 00 after it, and the text is as long as its capacity says
unfoldable pub opens : (kind : ℕ) → List ℕ → Bool
opens kind text = is_line 16 text && (eqb (field 0 2 text) kind && (eqb (field 2 2 text) 0 && eqb (length text) (size (cap_in text))))

unfoldable pub judge : Kind → List ℕ → Bool
judge k text = opens (kind_byte k) text && (stands k (cap_in text) (head_of text) (len_in text) && are_lines (cap_in text) (drop 17 text))

-- by a kind number; an unknown one is a no
unfoldable pub judge_by : (kind : ℕ) → List ℕ → Bool
judge_by kind text = cond (eqb kind 0) (judge ring text) (cond (eqb kind 1) (judge vector text) false)
