-- What a line of `tray` says: a call, or why it is none.
use Rattle.std.specs.Prelude.{ℕ, Bool, cond, ◌&&◌, List, [], ◌∷◌, length, take, drop, eqb, Result, Ok, Err}
use Rattle.digits.specs.Hex.{are_digits, says}
use Rattle.digits.specs.Rows.{under}
use Rattle.tray_lines.specs.declared.lines.RingOp.{RingOp}
use Rattle.tray_lines.specs.declared.lines.VectorOp.{VectorOp}
use Rattle.tray_lines.specs.declared.lines.Call.{Call}
use Rattle.tray_lines.specs.declared.lines.Unsaid.{Unsaid}
use Rattle.tray_lines.specs.declared.lines.Unsaid.TheVariants.{Garbled, Unknown}
use Rattle.tray_lines.specs.declared.lines.Which.TheVariants.{First, Second}

-- why a line is no call: 7 and 8
abbrev pub number_in : Unsaid → ℕ
number_in Garbled = 7
number_in Unknown = 8

-- 16 lower-case hexadecimal digits
abbrev pub is_line : List ℕ → Bool
is_line l = eqb (length l) 16 && are_digits l

-- operation, container, position, value: 1, 1, 2, 4 bytes
abbrev pub field : (from count : ℕ) → List ℕ → ℕ
field from count l = says (take count (drop from l))

abbrev pub operation : List ℕ → ℕ
operation l = field 0 2 l

abbrev pub container : List ℕ → ℕ
container l = field 2 2 l

abbrev pub position : List ℕ → ℕ
position l = field 4 4 l

abbrev pub value : List ℕ → ℕ
value l = field 8 8 l

-- the operations of each kind by their numbers, with position i and value x; a length stands in position
abbrev pub ring_ops : (i x : ℕ) → List (ℕ × RingOp)
ring_ops i x =
    (1, RingOp.PushBack x)
    ∷ (2, RingOp.PushFront x)
    ∷ (3, RingOp.PopBack)
    ∷ (4, RingOp.PopFront)
    ∷ (5, RingOp.Insert i x)
    ∷ (6, RingOp.Remove i)
    ∷ (8, RingOp.Append)
    ∷ (9, RingOp.SplitOff i)
    ∷ (10, RingOp.Truncate i)
    ∷ (11, RingOp.Resize i x)
    ∷ (12, RingOp.Clear)
    ∷ (13, RingOp.Read i)
    ∷ (14, RingOp.Write i x)
    ∷ []

abbrev pub vector_ops : (i x : ℕ) → List (ℕ × VectorOp)
vector_ops i x =
    (1, VectorOp.Push x)
    ∷ (3, VectorOp.Pop)
    ∷ (5, VectorOp.Insert i x)
    ∷ (6, VectorOp.Remove i)
    ∷ (7, VectorOp.SwapRemove i)
    ∷ (8, VectorOp.Append)
    ∷ (9, VectorOp.SplitOff i)
    ∷ (10, VectorOp.Truncate i)
    ∷ (11, VectorOp.Resize i x)
    ∷ (12, VectorOp.Clear)
    ∷ (13, VectorOp.Read i)
    ∷ (14, VectorOp.Write i x)
    ∷ []

-- those that are said, by the same numbers
abbrev pub sure : {A : Type 0} → List (ℕ × A) → List (ℕ × Result A Unsaid)
sure [] = []
sure (row ∷ rest) = (row.0, Ok row.1) ∷ sure rest

-- A number that stands in no row is unknown.
abbrev pub ring_says : (op i x : ℕ) → Result RingOp Unsaid
ring_says op i x = under op (sure (ring_ops i x)) (Err Unknown)

abbrev pub vector_says : (op i x : ℕ) → Result VectorOp Unsaid
vector_says op i x = under op (sure (vector_ops i x)) (Err Unknown)

-- the call that an operation is on a container
abbrev pub calls : {A : Type 0} → (A → Call) → Result A Unsaid → Result Call Unsaid
calls call (Ok op) = Ok (call op)
calls call (Err e) = Err e

-- Rings 0 and 1, vectors 2 and 3.
unfoldable pub call_says : (op container i x : ℕ) → Result Call Unsaid
call_says op container i x =
    under container
    ((0, calls (Call.Ring First) (ring_says op i x))
    ∷ (1, calls (Call.Ring Second) (ring_says op i x))
    ∷ (2, calls (Call.Vector First) (vector_says op i x))
    ∷ (3, calls (Call.Vector Second) (vector_says op i x))
    ∷ [])
    (Err Unknown)

-- garbled before unknown
unfoldable pub said : (l : List ℕ) → Result Call Unsaid
said l = cond (is_line l) (call_says (operation l) (container l) (position l) (value l)) (Err Garbled)
