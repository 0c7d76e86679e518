-- How the code's answers are read: a refusal has its number, and a call's answer or refusal is what the papers number.
use Rattle.std.specs.Prelude.{ℕ, Result, Ok, Err}
use Rattle.table.specs.Table.{first_invalid, second_invalid, beyond, empty, taken, full, number_of}
use Rattle.table.specs.Reported.{no_slot}
use Rattle.table.specs.declared.answers.Refusal.{Refusal}
use Rattle.table.specs.declared.answers.Refusal.TheVariants.{Invalid, SecondInvalid, Beyond, Empty, Taken, Full, Stray, Unclosed, Long, Moves, Unacceptable}
use Rattle.table.specs.declared.answers.Answer.{Answer}
use Rattle.table.specs.declared.answers.Numbered.{Numbered}

-- the table's numbers, and those that requests added
abbrev pub number_in : Refusal → ℕ
number_in Invalid = number_of first_invalid
number_in SecondInvalid = number_of second_invalid
number_in Beyond = number_of beyond
number_in Empty = number_of empty
number_in Taken = number_of taken
number_in Full = number_of full
number_in Stray = 9
number_in Unclosed = 10
number_in Long = 11
number_in Moves = 12
number_in Unacceptable = 14

-- what `telling` and `lit` put together
abbrev pub told : {S : Type 0} → (value moves : ℕ) → S → Answer S
told value moves state = record { value = value; moves = moves; slot = no_slot; state = state }

abbrev pub lit : {S : Type 0} → (at : ℕ) → Answer S → Answer S
lit at a = record { value = a.value; moves = a.moves; slot = at; state = a.state }

-- A call that is done has number 0. A refused one has the number of its refusal, value 0, moves 0, no slot, and the state that was given.
abbrev pub numbered : {S : Type 0} → (given : S) → Result (Answer S) Refusal → Numbered S
numbered given (Ok a) = record { number = 0; value = a.value; moves = a.moves; slot = a.slot; state = a.state }
numbered given (Err e) = record { number = number_in e; value = 0; moves = 0; slot = no_slot; state = given }
