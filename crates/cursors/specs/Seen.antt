-- How the code's cursor and answers are read: an answer's state is a cursor, which a refusal gives back, and paper 01's number and value are those of its case.
use Rattle.std.specs.Prelude.{ℕ, ◌≡◌, cond, not, List, Result}
use Rattle.slots.specs.Layout.{Kind, vector}
use Rattle.table.specs.Tray.{Tray, Cursor, valid, within}
use Rattle.table.specs.Calls.{Call, Call2}
use Rattle.table.specs.Does.{Outcome, Outcome2, does, does2}
use Rattle.table.specs.Reported.{no_slot}
use Rattle.table.specs.Answers.{numbered}
use Rattle.table.specs.Totals.{total_second}
use Rattle.table.specs.declared.answers.Answer.{Answer}
use Rattle.table.specs.declared.answers.Both.{Both}
use Rattle.table.specs.declared.answers.Numbered.{Numbered}
use Rattle.table.specs.declared.answers.Refusal.{Refusal}
use Rattle.table.specs.declared.answers.Refusal.TheVariants.{Invalid, Beyond, Empty}
use Rattle.vector.specs.declared.Vector.{Vector}
use Rattle.vector.specs.Seen.{tray}
use Rattle.cursors.specs.declared.Cursor as code

abbrev pub cursor : code.Cursor → Cursor
cursor u = record { front = u.front; back = u.back }

-- the cursor that a refused iter gives
abbrev pub none : code.Cursor
none = record { front = 0; back = 0 }

-- an answer about a cursor, with the container, which it leaves as it was
abbrev pub seen : Numbered code.Cursor → Tray → Outcome
seen a t = record { number = a.number; value = a.value; moves = a.moves; tray = t; cursor = cursor a.state }

-- from_iter: the container stays as it was; T is a vector
abbrev pub seen_into : Numbered (Both code.Cursor Vector) → Tray → List ℕ → Outcome2
seen_into a t theirs =
    record { number = a.number; value = a.value; moves = a.moves; first = t; second = tray a.state.second theirs; cursor = cursor a.state.first }

-- The promise of a step or a peek by the cursor u on the container t: the answer is the row, and reports no slot.
pub record Steps (k : Kind) (call : Call) (t : Tray) (u : code.Cursor) (a : Result (Answer code.Cursor) Refusal) : Type 0 where
  pub row : seen (numbered u a) t ≡ does k call t
  pub slot : (numbered u a).slot ≡ no_slot

-- of iter and into_iter, which are given no cursor
abbrev pub Starts : (k : Kind) (call : Call) (t : Tray) (a : Result (Answer code.Cursor) Refusal) → Type 0
Starts k call t a = Steps k call t none a

-- The promise of from_iter by the cursor u on the container t and the vector T, whose slots held z and then hold `theirs`: the answer is the row and reports no
-- slot, and T has the total, as it comes from the one that was given.
pub record Takes (k : Kind) (call : Call2) (t : Tray) (u : code.Cursor) (second : Vector) (z : List ℕ)
    (a : Result (Answer (Both code.Cursor Vector)) Refusal) (theirs : List ℕ) : Type 0 where
  pub row : seen_into (numbered (record { first = u; second = second }) a) t theirs ≡ does2 k vector call t (tray second z)
  pub slot : (numbered (record { first = u; second = second }) a).slot ≡ no_slot
  pub total : (numbered (record { first = u; second = second }) a).state.second.total.sum ≡ total_second k vector call t (tray second z) second.total.sum

-- of the private function `no_step`: the container is none, or the cursor is astray, or else it has ended
abbrev pub why_no_step : (k : Kind) (c h n : ℕ) (u : code.Cursor) → Refusal
why_no_step k c h n u = cond (not (valid k c h n)) Invalid (cond (not (within u.front u.back n)) Beyond Empty)
