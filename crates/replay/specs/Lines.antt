-- Which lines of `replay` can be taken.
use Rattle.std.specs.Prelude.{ℕ, Bool, not, ◌&&◌, ◌||◌, List, length, take, drop, eqb, ltb, leb}
use Rattle.digits.specs.Hex.{are_digits, says}

-- from one number to another, both with it
abbrev pub among : (op a b : ℕ) → Bool
among op a b = leb a op && leb op b

-- the operations
unfoldable pub is_known : (op : ℕ) → Bool
is_known op =
    ((((((((among op 0x01 0x0b || among op 0x10 0x1e) || among op 0x20 0x33) || among op 0x38 0x3d) || among op 0x40 0x44) || among op 0x50 0x53)
    || among op 0x60 0x66) || among op 0x70 0x76) || among op 0x80 0x84)
    || among op 0x90 0x91

-- those whose b is an entry
unfoldable pub takes_entry : (op : ℕ) → Bool
takes_entry op =
    (((((((((eqb op 0x03 || eqb op 0x06) || among op 0x15 0x17) || eqb op 0x1a) || eqb op 0x1d) || among op 0x25 0x26) || eqb op 0x28) || eqb op 0x2a)
    || eqb op 0x2d) || among op 0x3c 0x3d) || eqb op 0x90

-- slots above 4,200, a slot that isn't there, an entry above 32 bits, more numbers than the second has slots, a text above 40,000 bytes, a byte of it
-- that isn't there, a byte above 8 bits
unfoldable pub is_beyond : (entry : Bool) (op a b cap cap2 size : ℕ) → Bool
is_beyond entry op a b cap cap2 size =
    (((((((eqb op 0x01 || eqb op 0x04) && ltb 4200 a) || (eqb op 0x03 && leb cap a)) || (eqb op 0x06 && leb cap2 a)) || (entry && leb 0x1_0000_0000 b))
    || (eqb op 0x2f && ltb cap2 a))
    || ((eqb op 0x0a || among op 0x80 0x81) && ltb 40000 a))
    || (eqb op 0x0b && (leb size a || ltb 255 b))

-- an operation whose numbers are within reach
unfoldable pub reaches : (op a b cap cap2 size : ℕ) → Bool
reaches op a b cap cap2 size = is_known op && not (is_beyond (takes_entry op) op a b cap cap2 size)

abbrev pub field : (from count : ℕ) → List ℕ → ℕ
field from count l = says (take count (drop from l))

-- a line that can be taken, where the containers have so many slots and the text so many bytes: 34 digits that say such an operation and its numbers
unfoldable pub takes : (l : List ℕ) (cap cap2 size : ℕ) → Bool
takes l cap cap2 size = (eqb (length l) 34 && are_digits l) && reaches (field 0 2 l) (field 2 16 l) (field 18 16 l) cap cap2 size
