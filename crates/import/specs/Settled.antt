-- Whether an answer on a text stands whatever comes after the text. At the input's end every answer does. Else a record must have ended by a line
-- end, and a byte that may not stand there must not be a CR at the text's end: an LF may follow it. A quote may yet be closed.
use Rattle.std.specs.Prelude.{ℕ, ◌+◌, ◌-◌, ◌≡◌, ◌≢◌, Bool, true, not, cond, ◌&&◌, ◌||◌, List, Option, None, Result, Ok, Err, eqb, ltb, length, get_or}
use Rattle.record.specs.declared.Fault.{Fault}
use Rattle.record.specs.declared.Fault.TheVariants.{Stray, Unclosed, Long}
use Rattle.record.specs.Recorded.{Told, judges}
use Rattle.record.specs.Steps.{place_told}
use Rattle.import.specs.declared.Reason.{Reason}
use Rattle.import.specs.declared.Reason.TheVariants.{Text, TooMany}
use Rattle.import.specs.declared.Ending.{Ending}

abbrev pub stands : (text : List ℕ) (at b : ℕ) → Bool
stands text at b = ltb at (length text) && eqb (get_or text at 0) b

-- what the library tells of a text, by its number: where the next record starts, or why there is none
abbrev pub seen : Told → Result ℕ Fault
seen t =
    cond (eqb t.number 0) (Ok t.value)
    (cond (eqb t.number 9) (Err (Stray t.value)) (cond (eqb t.number 10) (Err (Unclosed t.value)) (Err Long)))

-- the place that is told with a reason
abbrev pub reason_at : Reason → ℕ
reason_at (Text fault) = place_told fault
reason_at TooMany = 0

unfoldable pub settled : (text : List ℕ) (last : Bool) → Result ℕ Fault → Bool
settled text last (Ok next) = last || (ltb 0 next && stands text (next - 1) 10)
settled text last (Err (Stray at)) = last || (not (stands text at 13) || ltb (at + 1) (length text))
settled text last (Err (Unclosed at)) = last
settled text last (Err Long) = last

-- a byte-order mark: ef, bb, bf
unfoldable pub mark : (text : List ℕ) → Bool
mark text = stands text 0 239 && (stands text 1 187 && stands text 2 191)

-- What `take` has of a text is settled: it passes bytes, or refuses, only on an answer that stands whatever comes after the text.
pub record Settles (text : List ℕ) (last : Bool) (r : Result (Option ℕ) Ending) : Type 0 where
  pub done : r ≢ Ok None → settled text last (seen (judges text)) ≡ true
