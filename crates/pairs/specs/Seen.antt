-- How an answer of a call on two is read: two states and their slots are two trays, an answer and both runs of slots are an outcome; and what a call promises.
use Rattle.std.specs.Prelude.{ℕ, ◌≡◌, List, Result}
use Rattle.table.specs.Tray.{nowhere}
use Rattle.table.specs.Calls.{Call2}
use Rattle.table.specs.Does.{Outcome2, does2}
use Rattle.table.specs.Reported.{no_slot}
use Rattle.table.specs.Answers.{numbered}
use Rattle.table.specs.Totals.{total_first, total_second}
use Rattle.table.specs.declared.answers.Answer.{Answer}
use Rattle.table.specs.declared.answers.Both.{Both}
use Rattle.table.specs.declared.answers.Numbered.{Numbered}
use Rattle.table.specs.declared.answers.Refusal.{Refusal}
use Rattle.containers.specs.Reading.{Reading, tray_by}

abbrev pub both : {A B : Type 0} → A → B → Both A B
both first second = record { first = first; second = second }

abbrev pub seen2 : {A B : Type 0} → Reading A → Reading B → Numbered (Both A B) → (slots theirs : List ℕ) → Outcome2
seen2 of of2 a slots theirs = record {
  number = a.number;
  value = a.value;
  moves = a.moves;
  first = tray_by of a.state.first slots;
  second = tray_by of2 a.state.second theirs;
  cursor = nowhere;
}

-- The promise of a call on the first, whose slots held s, and on T, whose slots held z: its answer a and what the slots hold afterwards are its row; it reports
-- no slot, and each state has the total, as it comes from the one that was given.
pub record Meets {A B : Type 0} (of : Reading A) (of2 : Reading B) (call : Call2) (first : A) (s : List ℕ) (second : B) (z : List ℕ)
    (a : Result (Answer (Both A B)) Refusal) (s' z' : List ℕ) : Type 0 where
  pub row : seen2 of of2 (numbered (both first second) a) s' z' ≡ does2 of.kind of2.kind call (tray_by of first s) (tray_by of2 second z)
  pub slot : (numbered (both first second) a).slot ≡ no_slot
  pub total : of.sum (numbered (both first second) a).state.first ≡ total_first of.kind of2.kind call (tray_by of first s) (tray_by of2 second z) (of.sum first)
  pub total2 : of2.sum (numbered (both first second) a).state.second ≡ total_second of.kind of2.kind call (tray_by of first s) (tray_by of2 second z) (of2.sum second)
