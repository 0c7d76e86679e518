-- What the call that undoes doubled quotes gives: its answer, and every byte of the lent text.
use Rattle.std.specs.Prelude.{ℕ, ◌≡◌, Bool, not, Result, Ok, Err, List, [], ◌∷◌, ◌++◌, ltb, length, drop}
use Rattle.table.specs.Tray.{within}
use Rattle.table.specs.declared.answers.Refusal.{Refusal}
use Rattle.table.specs.Answers.{number_in}
use Rattle.record.specs.Undone.{undone, part}
use Rattle.record.specs.Recorded.{longest, Told, told, first_of}

-- what is seen of it
pub record Unquoted : Type 0 where
  pub answer : Told
  pub out : List ℕ

abbrev pub unquoted : Told → List ℕ → Unquoted
unquoted answer out = record { answer = answer; out = out }

-- a text too long; a start and an end that are none of it; a lent text too short
abbrev pub text_tests : (text : List ℕ) (start end : ℕ) (out : List ℕ) → List (Bool × ℕ)
text_tests text start end out =
    (ltb longest (length text), 11) ∷ (not (within start end (length text)), 3) ∷ (ltb (length out) (length (undone (part text start end))), 6) ∷ []

-- the field's bytes, then what stood there
abbrev pub before : (new old : List ℕ) → List ℕ
before new old = new ++ drop (length new) old

unfoldable pub unquotes : (text : List ℕ) (start end : ℕ) (out : List ℕ) → Unquoted
unquotes text start end out =
    first_of (λ m. unquoted (told m 0) out) (text_tests text start end out)
    (unquoted (told 0 (length (undone (part text start end)))) (before (undone (part text start end)) out))

-- how `field_text` tells it: how many bytes it wrote, or the number of why it is refused, with value 0
abbrev pub numbered : Result ℕ Refusal → Told
numbered (Ok size) = told 0 size
numbered (Err e) = told (number_in e) 0

-- The promise of `field_text`.
pub record Unquotes (text : List ℕ) (start end : ℕ) (out : List ℕ) (r : Result ℕ Refusal) (out' : List ℕ) : Type 0 where
  pub row : unquoted (numbered r) out' ≡ unquotes text start end out
