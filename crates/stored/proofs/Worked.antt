-- Stored texts worked out byte by byte: W of paper 01, a text that is too short, an invalid container.
use mathlib.Core.Path.{◌≡◌, refl}
use mathlib.Core.List.{List, [], ◌∷◌, ◌++◌}
use Prim.Native.Nat.{ℕ}
use Rattle.slots.specs.Layout.{ring, vector}
use Rattle.table.specs.Tray.{Tray, valid, nowhere}
use Rattle.table.specs.Does.{gives, refused}
use Rattle.digits.specs.Hex.{hex}
use Rattle.digits.specs.Put.{put}
use Rattle.stored.specs.Form.{state_digits, first_line, slot_line, slot_lines, form}
use Rattle.stored.specs.Written.{Written, writes}

-- capacity 4, head 2, list 9, 10, 11
abbrev W : Tray
W = record { head = 2; len = 3; slots = 11 ∷ 0 ∷ 9 ∷ 10 ∷ [] }

-- 0000000400020003, then 0000000b, 00000000, 00000009, 0000000a, each ended by LF
abbrev zeros : List ℕ
zeros = 48 ∷ 48 ∷ 48 ∷ 48 ∷ 48 ∷ 48 ∷ 48 ∷ []

abbrev text : List ℕ
text =
    (zeros ++ (52 ∷ 48 ∷ 48 ∷ 48 ∷ 50 ∷ 48 ∷ 48 ∷ 48 ∷ 51 ∷ 10 ∷ []))
    ++ ((zeros ++ (98 ∷ 10 ∷ [])) ++ ((zeros ++ (48 ∷ 10 ∷ [])) ++ ((zeros ++ (57 ∷ 10 ∷ [])) ++ (zeros ++ (97 ∷ 10 ∷ [])))))

pub ring_form : form ring W ≡ text
unfolding form first_line state_digits slot_line slot_lines hex
ring_form = refl

-- a vector has kind 01, and its largest entry is eight times f
pub vector_form : form vector (record { head = 0; len = 1; slots = 4294967295 ∷ [] })
    ≡ 48 ∷ 49 ∷ 48 ∷ 48 ∷ 48 ∷ 48 ∷ 48 ∷ 49 ∷ 48 ∷ 48 ∷ 48 ∷ 48 ∷ 48 ∷ 48 ∷ 48 ∷ 49 ∷ 10 ∷ 102 ∷ 102 ∷ 102 ∷ 102 ∷ 102 ∷ 102 ∷ 102 ∷ 102 ∷ 10 ∷ []
unfolding form first_line state_digits slot_line slot_lines hex
vector_form = refl

-- on no slots: the first line only; the byte after it stays; one byte less is too short; a head that is no slot is refused first
abbrev none : Tray
none = record { head = 0; len = 0; slots = [] }

abbrev blank : List ℕ
blank = 1 ∷ 2 ∷ 3 ∷ 4 ∷ 5 ∷ 6 ∷ 7 ∷ 8 ∷ 9 ∷ 10 ∷ 11 ∷ 12 ∷ 13 ∷ 14 ∷ 15 ∷ 16 ∷ []

abbrev written : (value : ℕ) → Tray → List ℕ → Written
written value t text = record { outcome = gives value 0 t.head t.len t.slots; text = text }

abbrev answers : (number : ℕ) → Tray → List ℕ → Written
answers number t text = record { outcome = refused t nowhere number; text = text }

pub short : (writes ring none (blank ++ (17 ∷ 18 ∷ [])) ≡ written 17 none (zeros ++ (zeros ++ (48 ∷ 48 ∷ 10 ∷ 18 ∷ []))))
    × (writes ring none blank ≡ answers 6 none blank)
    × (writes ring (record { head = 1; len = 0; slots = [] }) [] ≡ answers 1 (record { head = 1; len = 0; slots = [] }) [])
unfolding writes valid form first_line state_digits slot_line slot_lines hex put
short = (refl, refl, refl)
