-- How the code's values are read: four containers with their slots are the table's world, and what was done to two of them is an outcome.
use Rattle.std.specs.Prelude.{ℕ, ◌≡◌, List, [], ◌∷◌, Result}
use Rattle.slots.specs.Layout.{Kind, ring, vector}
use Rattle.table.specs.Tray.{nowhere}
use Rattle.table.specs.Does.{Outcome2}
use Rattle.table.specs.World.{Container, World}
use Rattle.table.specs.Answers.{numbered}
use Rattle.table.specs.declared.answers.Answer as table_answers
use Rattle.table.specs.declared.answers.Both.{Both}
use Rattle.table.specs.declared.answers.Numbered.{Numbered}
use Rattle.table.specs.declared.answers.Refusal.{Refusal}
use Rattle.ring.specs.Seen as rings
use Rattle.vector.specs.Seen as vectors
use Rattle.containers.specs.Reading.{Reading}
use Rattle.tray_lines.specs.declared.lines.Which.{Which}
use Rattle.tray_lines.specs.declared.lines.Which.TheVariants.{First, Second}
use Rattle.tray_lines.specs.declared.acts.Held.{Held}
use Rattle.tray_lines.specs.declared.acts.Trays.{Trays}
use Rattle.tray_lines.specs.declared.acts.Answer.{Answer}
use Rattle.tray_lines.specs.declared.acts.After.{After}
use Rattle.tray_lines.specs.Kept.{Keeping, ring_kept, vector_kept}
use Rattle.tray_lines.specs.Acts.{Act, Acts, act_does, act_slot}

abbrev pub ring_here : Held ℕ → Container
ring_here h = record { kind = ring; tray = rings.tray (ring_kept.state h) h.slots }

abbrev pub vector_here : Held Unit → Container
vector_here h = record { kind = vector; tray = vectors.tray (vector_kept.state h) h.slots }

-- rings 0 and 1, vectors 2 and 3
abbrev pub world : Trays → World
world t = ring_here t.rings.first ∷ ring_here t.rings.second ∷ vector_here t.vectors.first ∷ vector_here t.vectors.second ∷ []

-- what a call did to a container and to the other of its kind, with what it answered
abbrev pub Did : Type 0 → Type 0
Did H = Numbered (Both (Held H) (Held H))

abbrev pub did_seen : {H : Type 0} → (Held H → Container) → Did H → Outcome2
did_seen here d = record {
  number = d.number;
  value = d.value;
  moves = d.moves;
  first = (here d.state.first).tray;
  second = (here d.state.second).tray;
  cursor = nowhere;
}

-- The promise of an operation on a container, with the other of its kind: what was done, and the slot that it reports.
pub record Does {H : Type 0} (k : Kind) (here : Held H → Container) (act : Act) (me other : Held H) (d : Did H) : Type 0 where
  pub row : did_seen here d ≡ act_does k act (here me).tray (here other).tray
  pub slot : d.slot ≡ act_slot k act (here me).tray

-- what the private function `one` answers: the other container as it was
abbrev pub one : {S H : Type 0} → Keeping S H → (given : S) → Result (table_answers.Answer S) Refusal → (slots : List ℕ) → Held H → Did H
one keeps given a slots other = record {
  number = (numbered given a).number;
  value = (numbered given a).value;
  moves = (numbered given a).moves;
  slot = (numbered given a).slot;
  state = record { first = keeps.hold (numbered given a).state slots; second = other };
}

-- what `two` answers
abbrev pub two : {S H : Type 0} → Keeping S H → (given : Both S S) → Result (table_answers.Answer (Both S S)) Refusal → (slots theirs : List ℕ) → Did H
two keeps given a slots theirs = record {
  number = (numbered given a).number;
  value = (numbered given a).value;
  moves = (numbered given a).moves;
  slot = (numbered given a).slot;
  state = record { first = keeps.hold (numbered given a).state.first slots; second = keeps.hold (numbered given a).state.second theirs };
}

-- what `shown` answers
abbrev pub shown : {S H : Type 0} → Reading S → Keeping S H → Did H → Answer
shown reads keeps d = record {
  number = d.number;
  value = d.value;
  moves = d.moves;
  slot = d.slot;
  head = reads.head (keeps.state d.state.first);
  len = d.state.first.len;
}

-- the one named first, as a call on it has them
abbrev pub turned : {H : Type 0} → Which → Both H H → Both H H
turned First b = b
turned Second b = record { first = b.second; second = b.first }

abbrev pub acted_seen : After Answer → Acts
acted_seen a = record { world = world a.trays; answer = a.answer }
