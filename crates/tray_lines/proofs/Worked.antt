-- The listing of paper 01: its seven lines are answered by its seven lines.
use mathlib.Core.Path.{◌≡◌, refl}
use mathlib.Core.List.{List, [], ◌∷◌, ◌++◌}
use Prim.Native.Nat.{ℕ}
use Rattle.slots.specs.Lists.{tabulate}
use Rattle.slots.specs.Count.{one, tally}
use Rattle.slots.specs.Layout.{slot_of, pos_of, entries, relaid}
use Rattle.slots.specs.Moves.{moved}
use Rattle.table.specs.Tray.{valid}
use Rattle.table.specs.Does.{does, does2, made}
use Rattle.table.specs.Reported.{reported}
use Rattle.digits.specs.Hex.{hex, lf}
use Rattle.digits.specs.Rows.{under}
use Rattle.tray_lines.specs.Lines.{call_says, said}
use Rattle.tray_lines.specs.Acts.{acts, begun}
use Rattle.tray_lines.specs.Answers.{line_of, tells}
use Rattle.tray_lines.specs.Runs.{lines_of, answered}

-- a line: operation, container, position, value
abbrev line : (op c i x : ℕ) → List ℕ
line op c i x = hex 2 op ++ (hex 2 c ++ (hex 4 i ++ (hex 8 x ++ (lf ∷ []))))

-- an answer: number, value, moves, head, length, slot
abbrev answer : (number value moves head len slot : ℕ) → List ℕ
answer number value moves head len slot = line_of (record { number = number; value = value; moves = moves; slot = slot; head = head; len = len })

-- zz
abbrev garbled : List ℕ
garbled = 122 ∷ 122 ∷ lf ∷ []

pub listing : answered begun (lines_of [] (line 1 0 0 10 ++ (line 2 0 0 9 ++ (line 1 0 0 11 ++ (line 6 0 1 0 ++ (line 4 1 0 0 ++ (line 2 2 0 1 ++ garbled)))))))
    ≡ answer 0 0 0 0 1 0 ++ (answer 0 0 0 3 2 3 ++ (answer 0 0 0 3 3 1 ++ (answer 0 10 1 3 2 0 ++ (answer 4 0 0 0 0 65535 ++ (answer 8 0 0 0 0 65535 ++ (answer 7 0 0 0 0 65535 ++ []))))))
unfolding begun acts tells said call_says under line_of hex does does2 reported made valid entries relaid moved tabulate tally one slot_of pos_of
listing = refl

-- the fourth of them, digit by digit: 000000000a0001000300020000
pub fourth : answer 0 10 1 3 2 0
    ≡ 48 ∷ 48 ∷ 48 ∷ 48 ∷ 48 ∷ 48 ∷ 48 ∷ 48 ∷ 48 ∷ 97 ∷ 48 ∷ 48 ∷ 48 ∷ 49 ∷ 48 ∷ 48 ∷ 48 ∷ 51 ∷ 48 ∷ 48 ∷ 48 ∷ 50 ∷ 48 ∷ 48 ∷ 48 ∷ 48 ∷ 10 ∷ []
unfolding line_of hex
fourth = refl
