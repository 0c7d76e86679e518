-- What the readers give and promise: a refusal, with state 0, 0 and the slots as they were; or the container that the text tells, with its total worked out.
use Rattle.std.specs.Prelude.{ℕ, ◌≡◌, not, cond, List, length, ltb, eqb, Result}
use Rattle.slots.specs.Layout.{most, Kind, ring, vector}
use Rattle.slots.specs.Total.{total}
use Rattle.table.specs.Tray.{cap, list, nowhere}
use Rattle.table.specs.Calls.{alike}
use Rattle.table.specs.Does.{Outcome, refused, gives, bare}
use Rattle.table.specs.Reported.{no_slot}
use Rattle.table.specs.Promise.{Arrival}
use Rattle.table.specs.Answers.{numbered}
use Rattle.table.specs.declared.answers.Answer.{Answer}
use Rattle.table.specs.declared.answers.Refusal.{Refusal}
use Rattle.ring.specs.Seen as rings
use Rattle.vector.specs.declared.Vector.{Vector}
use Rattle.vector.specs.Seen as vectors
use Rattle.stored.specs.Judge.{told, judge}

unfoldable pub reads : Kind → (text slots : List ℕ) → Outcome
reads k text slots =
    cond (ltb most (length slots)) (refused (bare slots) nowhere 1)
    (cond (not (judge k text)) (refused (bare slots) nowhere 14)
    (cond (not (eqb (cap (told k text)) (length slots))) (refused (bare slots) nowhere 6)
    (gives 0 0 (told k text).head (told k text).len (told k text).slots)))

-- the total is the sum of the entries
unfoldable pub total_read : Kind → (text slots : List ℕ) → ℕ
total_read k text slots = total (list k (reads k text slots).tray)

-- The promise of a reader on slots that held `before`: its answer, as the papers number it, and every slot afterwards are what `reads` says; it reports no slot.
pub record RingRead (text before : List ℕ) (a : rings.Answered) (after : List ℕ) : Type 0 where
  pub row : rings.seen (numbered rings.bare_ring a) after ≡ reads ring text before
  pub slot : (numbered rings.bare_ring a).slot ≡ no_slot
  pub total : (numbered rings.bare_ring a).state.total.sum ≡ total_read ring text before

pub record VectorRead (text before : List ℕ) (a : Result (Answer Vector) Refusal) (after : List ℕ) : Type 0 where
  pub row : vectors.seen (numbered vectors.none a) after ≡ reads vector text before
  pub slot : (numbered vectors.none a).slot ≡ no_slot
  pub total : (numbered vectors.none a).state.total.sum ≡ total_read vector text before

-- A reading as demand 3 takes it: a container's one making, and the entries that the text tells enter.
abbrev pub reading : Kind → (text : List ℕ) → Arrival
reading k text = record { has = alike k; makes = λ k' slots. reads k' text slots; begins = list k (told k text) }
