-- The line that is answered: number, value, moves, head, length, slot as 1, 4, 2, 2, 2, 2 bytes, in hexadecimal digits, ended by LF.
use Rattle.std.specs.Prelude.{ℕ, List, [], ◌∷◌, ◌++◌, Result, Ok, Err}
use Rattle.digits.specs.Hex.{hex, lf}
use Rattle.table.specs.Reported.{no_slot}
use Rattle.table.specs.World.{World}
use Rattle.tray_lines.specs.declared.lines.Call.{Call}
use Rattle.tray_lines.specs.declared.lines.Unsaid.{Unsaid}
use Rattle.tray_lines.specs.declared.acts.Answer.{Answer}
use Rattle.tray_lines.specs.Lines.{number_in, said}
use Rattle.tray_lines.specs.Acts.{acts}
use Rattle.tray_lines.specs.Seen
use Rattle.tray_lines.specs.declared.acts.After.{After}

unfoldable pub line_of : Answer → List ℕ
line_of a =
    hex 2 a.number ++ (hex 8 a.value ++ (hex 4 a.moves ++ (hex 4 a.head ++ (hex 4 a.len ++ (hex 4 a.slot ++ (lf ∷ []))))))

-- after 7 and 8 the rest is 0, and there is no slot
abbrev pub bare : (number : ℕ) → Answer
bare number = record { number = number; value = 0; moves = 0; slot = no_slot; head = 0; len = 0 }

-- what a line comes to: the world afterwards, and the line that is answered
pub record Tells : Type 0 where
  pub world : World
  pub text : List ℕ

abbrev pub tells_of : World → Result Call Unsaid → Tells
tells_of w (Ok c) = record { world = (acts w c).world; text = line_of (acts w c).answer }
tells_of w (Err e) = record { world = w; text = line_of (bare (number_in e)) }

unfoldable pub tells : World → (line : List ℕ) → Tells
tells w line = tells_of w (said line)

-- how the code's answer is read
abbrev pub told_seen : After (List ℕ) → Tells
told_seen t = record { world = Seen.world t.trays; text = t.answer }
