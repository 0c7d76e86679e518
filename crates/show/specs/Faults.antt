-- The first fault of a stored text in reading order: its line and byte, both from 1, and what was expected there. A byte that is missing is at fault where it should stand.
use Rattle.std.specs.Prelude.{ℕ, zero, suc, ◌+◌, cond, List, [], ◌∷◌, length, drop, ltb, leb, eqb, Option, Some, None, Result, Ok, Err}
use Rattle.slots.specs.Layout.{most}
use Rattle.digits.specs.Hex.{is_digit}
use Rattle.lines.specs.Line.{is_line, field}
use Rattle.show.specs.declared.faults.Expected.{Expected}
use Rattle.show.specs.declared.faults.Expected.TheVariants.{ADigit, LineEnd, AKind, ZeroByte, FewSlots, AHead, NoHead, NoSlots, ALength, TextEnd}
use Rattle.show.specs.declared.faults.Fault.{Fault}

-- a judgement: nothing is at fault, or this
abbrev pub Judged : Type 0
Judged = Result (Unit {0}) Fault

-- a fault, and none
abbrev pub fault_at : (line byte : ℕ) (what : Expected) → Judged
fault_at line byte what = Err (record { line = line; byte = byte; what = what })

abbrev pub sound : Judged
sound = Ok tt

-- how many digits come first, n at most
unfoldable pub leading : (n : ℕ) → List ℕ → ℕ
leading zero s = 0
leading (suc n) [] = 0
leading (suc n) (b ∷ s) = cond (is_digit b) (suc (leading n s)) 0

-- of a line of n digits: the first byte that is no digit, else the one that does not end the line
unfoldable pub line_fault : (line n : ℕ) → List ℕ → Judged
line_fault line n s = cond (is_line n s) sound (cond (ltb (leading n s) n) (fault_at line (leading n s + 1) ADigit) (fault_at line (n + 1) LineEnd))

-- of the first line's numbers, from left to right; a vector's kind is 1, and head 0 is always one
unfoldable pub head_what : (kind c h : ℕ) → Option Expected
head_what kind c h = cond (eqb h 0) None (cond (eqb kind 1) (Some NoHead) (cond (eqb c 0) (Some NoSlots) (cond (leb c h) (Some AHead) None)))

-- a head at fault, else what comes behind it
abbrev pub head_or : Option Expected → Judged → Judged
head_or None behind = behind
head_or (Some what) behind = fault_at 1 9 what

unfoldable pub state_fault : (kind form c h n : ℕ) → Judged
state_fault kind form c h n =
    cond (ltb 1 kind) (fault_at 1 1 AKind)
    (cond (ltb 0 form) (fault_at 1 3 ZeroByte)
    (cond (ltb most c) (fault_at 1 5 FewSlots)
    (head_or (head_what kind c h)
    (cond (ltb c n) (fault_at 1 13 ALength) sound))))

unfoldable pub first_fault : List ℕ → Judged
first_fault text = state_fault (field 0 2 text) (field 2 2 text) (field 4 4 text) (field 8 4 text) (field 12 4 text)

-- of n slots' lines, from this line on, and of what comes behind them
unfoldable pub slots_fault : (line n : ℕ) → List ℕ → Judged
slots_fault line zero s = cond (ltb 0 (length s)) (fault_at line 1 TextEnd) sound
slots_fault line (suc n) s = cond (is_line 8 s) (slots_fault (line + 1) n (drop 9 s)) (line_fault line 8 s)

-- the first of two
abbrev pub or_else : Judged → Judged → Judged
or_else (Ok _) g = g
or_else (Err f) g = Err f

-- the first line's digits and its end, then its numbers, then the slots' lines and the end
unfoldable pub fault : List ℕ → Judged
fault text = or_else (line_fault 1 16 text) (or_else (first_fault text) (slots_fault 2 (field 4 4 text) (drop 17 text)))
