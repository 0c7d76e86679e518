-- How the code's answers are read: the container's answer as the papers number it, with the text; and what a writer promises.
use Rattle.std.specs.Prelude.{ℕ, ◌≡◌, List, Result}
use Rattle.slots.specs.Layout.{ring, vector}
use Rattle.table.specs.Reported.{no_slot}
use Rattle.table.specs.Answers.{numbered}
use Rattle.table.specs.declared.answers.Answer.{Answer}
use Rattle.table.specs.declared.answers.Numbered.{Numbered}
use Rattle.table.specs.declared.answers.Refusal.{Refusal}
use Rattle.ring.specs.declared.Ring.{Ring}
use Rattle.ring.specs.Seen as rings
use Rattle.vector.specs.declared.Vector.{Vector}
use Rattle.vector.specs.Seen as vectors
use Rattle.stored.specs.Written.{Written, writes}

abbrev pub seen_ring : Numbered Ring → (slots text : List ℕ) → Written
seen_ring a slots text = record { outcome = rings.seen a slots; text = text }

abbrev pub seen_vector : Numbered Vector → (slots text : List ℕ) → Written
seen_vector a slots text = record { outcome = vectors.seen a slots; text = text }

-- The promise of the writer for a ring whose slots hold these numbers: its answer and every byte of the text are what `writes` says;
-- it reports no slot, and the state comes back with its total, which the text does not hold.
pub record RingStored (over : Ring) (slots before : List ℕ) (a : rings.Answered) (after : List ℕ) : Type 0 where
  pub row : seen_ring (numbered over a) slots after ≡ writes ring (rings.tray over slots) before
  pub slot : (numbered over a).slot ≡ no_slot
  pub total : (numbered over a).state.total ≡ over.total

pub record VectorStored (over : Vector) (slots before : List ℕ) (a : Result (Answer Vector) Refusal) (after : List ℕ) : Type 0 where
  pub row : seen_vector (numbered over a) slots after ≡ writes vector (vectors.tray over slots) before
  pub slot : (numbered over a).slot ≡ no_slot
  pub total : (numbered over a).state.total ≡ over.total
