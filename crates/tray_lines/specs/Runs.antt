-- A run of the program: the lines of its input, the events that they make, what is answered, and the world afterwards.
use Rattle.std.specs.Prelude.{ℕ, cond, List, [], ◌∷◌, ◌++◌, eqb, Result, Ok, Err}
use Rattle.digits.specs.Hex.{lf}
use Rattle.table.specs.World.{World, Event}
use Rattle.tray_lines.specs.declared.lines.Call.{Call}
use Rattle.tray_lines.specs.declared.lines.Unsaid.{Unsaid}
use Rattle.tray_lines.specs.Lines.{said}
use Rattle.tray_lines.specs.Acts.{event, makings, begun}
use Rattle.tray_lines.specs.Answers.{tells}
use Rattle.tray_lines.specs.Feeds.{is_empty}

-- the lines of an input, of which l stands before it; what follows the last LF is a line if it isn't empty
abbrev pub lines_of : (l input : List ℕ) → List (List ℕ)
lines_of l [] = cond (is_empty l) [] (l ∷ [])
lines_of l (b ∷ input) = cond (eqb b lf) (l ∷ lines_of [] input) (lines_of (l ++ (b ∷ [])) input)

-- those of them that an LF ended
abbrev pub finished : (l input : List ℕ) → List (List ℕ)
finished l [] = []
finished l (b ∷ input) = cond (eqb b lf) (l ∷ finished [] input) (finished (l ++ (b ∷ [])) input)

-- what a sequence of lines is answered, and the world after it
abbrev pub answered : World → List (List ℕ) → List ℕ
answered w [] = []
answered w (l ∷ ls) = (tells w l).text ++ answered (tells w l).world ls

abbrev pub after : World → List (List ℕ) → World
after w [] = w
after w (l ∷ ls) = after (tells w l).world ls

-- the events of a line and of a sequence of lines: one for each call, and none where a line is refused with 7 or 8
abbrev pub events_of : World → Result Call Unsaid → List Event
events_of w (Ok c) = event w c ∷ []
events_of w (Err e) = []

abbrev pub calls : World → List (List ℕ) → List Event
calls w [] = []
calls w (l ∷ ls) = events_of w (said l) ++ calls (tells w l).world ls

-- all events of a run: the four makings, then the calls
abbrev pub happened : List (List ℕ) → List Event
happened ls = makings ++ calls begun ls
