-- How a caller in C reads a call: the state is three numbers, or two, and the answer is one word; and what an exported call promises.
use Rattle.std.specs.Prelude.{ℕ, zero, suc, ◌/◌, ◌%◌, ◌≡◌, List, [], ◌∷◌, get_or}
use Rattle.slots.specs.Layout.{Kind, vector}
use Rattle.table.specs.Tray.{Tray, Cursor, nowhere}
use Rattle.table.specs.Calls.{Call, Call2, Making, Look, look, from_iter}
use Rattle.table.specs.Does.{Outcome, Outcome2, does, does2, made}
use Rattle.table.specs.Reported.{no_slot, reported}
use Rattle.table.specs.Totals.{total_after, total_made, total_first, total_second}
use Rattle.table.specs.Within.{does_within, reported_within, total_within}
use Rattle.runs.specs.Width.{summing}
use Rattle.ring.specs.declared.Ring.{Ring}
use Rattle.ring.specs.Seen as rings
use Rattle.vector.specs.declared.Vector.{Vector}
use Rattle.vector.specs.Seen as vectors
use Rattle.cursors.specs.declared.Cursor as code

-- the value is the word's low 32 bits, the slot the next 16, the moves are the next 12, the number is the high 4
abbrev pub value_in : ℕ → ℕ
value_in word = word % 4294967296

abbrev pub slot_in : ℕ → ℕ
slot_in word = word / 4294967296 % 65536

abbrev pub moves_in : ℕ → ℕ
moves_in word = word / 4294967296 / 65536 % 4096

abbrev pub number_in : ℕ → ℕ
number_in word = word / 4294967296 / 65536 / 4096

-- a ring's state is its head, its length and its total, a vector's its length and its total: how it goes in, and how it comes out
abbrev pub ring_in : List ℕ → Ring
ring_in state = rings.state (get_or state 0 0) (get_or state 1 0) (summing (get_or state 2 0))

abbrev pub ring_out : Ring → List ℕ
ring_out r = r.head ∷ r.len ∷ r.total.sum ∷ []

abbrev pub vector_in : List ℕ → Vector
vector_in state = vectors.state (get_or state 0 0) (summing (get_or state 1 0))

abbrev pub vector_out : Vector → List ℕ
vector_out v = v.len ∷ v.total.sum ∷ []

-- the numbers that a call leaves: a refused one leaves those that it was given
abbrev pub unless_refused : (number : ℕ) (out given : List ℕ) → List ℕ
unless_refused zero out given = out
unless_refused (suc m) out given = given

-- a container, by its state and its slots: its tray, and beside it the total that the state keeps
pub record Held : Type 0 where
  pub tray : Tray
  pub total : ℕ

abbrev pub ring_tray : (state slots : List ℕ) → Tray
ring_tray state slots = rings.tray (ring_in state) slots

abbrev pub ring_of : (state slots : List ℕ) → Held
ring_of state slots = record { tray = ring_tray state slots; total = (ring_in state).total.sum }

abbrev pub vector_tray : (state slots : List ℕ) → Tray
vector_tray state slots = vectors.tray (vector_in state) slots

abbrev pub vector_of : (state slots : List ℕ) → Held
vector_of state slots = record { tray = vector_tray state slots; total = (vector_in state).total.sum }

-- a cursor is its front and its back
abbrev pub cursor_of : List ℕ → Cursor
cursor_of numbers = record { front = get_or numbers 0 0; back = get_or numbers 1 0 }

abbrev pub cursor_in : List ℕ → code.Cursor
cursor_in numbers = record { front = get_or numbers 0 0; back = get_or numbers 1 0 }

abbrev pub cursor_out : code.Cursor → List ℕ
cursor_out u = u.front ∷ u.back ∷ []

-- a word as an outcome: of a call with a cursor, without one, and on two containers
abbrev pub heard_at : (word : ℕ) → Tray → Cursor → Outcome
heard_at word t u = record { number = number_in word; value = value_in word; moves = moves_in word; tray = t; cursor = u }

abbrev pub heard : (word : ℕ) → Tray → Outcome
heard word t = heard_at word t nowhere

abbrev pub heard_into : (word : ℕ) → (t t2 : Tray) → Cursor → Outcome2
heard_into word t t2 u = record { number = number_in word; value = value_in word; moves = moves_in word; first = t; second = t2; cursor = u }

abbrev pub heard2 : (word : ℕ) → (t t2 : Tray) → Outcome2
heard2 word t t2 = heard_into word t t2 nowhere

-- The promise of an exported call: its word and the container afterwards are its row; the word has the slot that the call reports, and the state the total.
pub record Hears (k : Kind) (call : Call) (before : Held) (word : ℕ) (after : Held) : Type 0 where
  pub row : heard word after.tray ≡ does k call before.tray
  pub slot : slot_in word ≡ reported k call before.tray
  pub total : after.total ≡ total_after k call before.tray before.total

-- of a call with an allowance (request 11), in the same words
pub record HearsWithin (a : ℕ) (k : Kind) (call : Call) (before : Held) (word : ℕ) (after : Held) : Type 0 where
  pub row : heard word after.tray ≡ does_within a k call before.tray
  pub slot : slot_in word ≡ reported_within a k call before.tray
  pub total : after.total ≡ total_within a k call before.tray before.total

-- of a step of a cursor, which comes to be u: it reports no slot, and leaves the state
pub record HearsAt (k : Kind) (q : Look) (b : Held) (word : ℕ) (u : Cursor) : Type 0 where
  pub row : heard_at word b.tray u ≡ does k (look q) b.tray
  pub slot : slot_in word ≡ no_slot

-- of a call on two: it reports no slot
pub record Hears2 (k k2 : Kind) (call : Call2) (before before2 : Held) (word : ℕ) (after after2 : Held) : Type 0 where
  pub row : heard2 word after.tray after2.tray ≡ does2 k k2 call before.tray before2.tray
  pub slot : slot_in word ≡ no_slot
  pub total : after.total ≡ total_first k k2 call before.tray before2.tray before.total
  pub total2 : after2.total ≡ total_second k k2 call before.tray before2.tray before2.total

-- of a making, which starts the total right and reports no slot
pub record HearsMade (k : Kind) (m : Making) (slots : List ℕ) (word : ℕ) (after : Held) : Type 0 where
  pub row : heard word after.tray ≡ made k m slots
  pub slot : slot_in word ≡ no_slot
  pub total : after.total ≡ total_made k m slots

-- of from_iter, which fills a vector by the cursor u, leaves the cursor at v, and leaves the container that it walks
pub record HearsInto (k : Kind) (u : Cursor) (b before2 : Held) (word : ℕ) (v : Cursor) (after2 : Held) : Type 0 where
  pub row : heard_into word b.tray after2.tray v ≡ does2 k vector (from_iter u) b.tray before2.tray
  pub slot : slot_in word ≡ no_slot
  pub total2 : after2.total ≡ total_second k vector (from_iter u) b.tray before2.tray before2.total

-- what the private function `word` makes
pub record Worded (m x k n word : ℕ) : Type 0 where
  pub number : number_in word ≡ m
  pub value : value_in word ≡ x
  pub moves : moves_in word ≡ k
  pub slot : slot_in word ≡ n
