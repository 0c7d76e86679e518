-- The stored form of a container, byte by byte, as paper 01 gives it.
use Rattle.std.specs.Prelude.{ℕ, ◌+◌, ◌*◌, List, [], ◌∷◌, ◌++◌}
use Rattle.slots.specs.Layout.{Kind, ring, vector}
use Rattle.table.specs.Tray.{Tray, cap}
use Rattle.digits.specs.Hex.{hex, lf}

-- 00 is a ring, 01 a vector
abbrev pub kind_byte : Kind → ℕ
kind_byte ring = 0
kind_byte vector = 1

-- the head of a vector is 0
abbrev pub head_in : Kind → ℕ → ℕ
head_in ring h = h
head_in vector h = 0

-- first line: kind, 00, capacity, head, length, as 1, 1, 2, 2, 2 bytes
unfoldable pub state_digits : (c h n : ℕ) → List ℕ
state_digits c h n = hex 4 c ++ (hex 4 h ++ (hex 4 n ++ (lf ∷ [])))

unfoldable pub first_line : (kind c h n : ℕ) → List ℕ
first_line kind c h n = hex 2 kind ++ (hex 2 0 ++ state_digits c h n)

-- then one line of 8 digits for each slot, in slot order
unfoldable pub slot_line : (x : ℕ) → List ℕ
slot_line x = hex 8 x ++ (lf ∷ [])

unfoldable pub slot_lines : (slots : List ℕ) → List ℕ
slot_lines [] = []
slot_lines (x ∷ slots) = slot_line x ++ slot_lines slots

unfoldable pub form : Kind → Tray → List ℕ
form k t = first_line (kind_byte k) (cap t) (head_in k t.head) t.len ++ slot_lines t.slots

-- the text takes 17 + 9c bytes
abbrev pub size : (c : ℕ) → ℕ
size c = 17 + 9 * c
