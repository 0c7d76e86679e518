-- What a call promises of its answer as the papers number it: the C interface has numbers, so each answer is put in numbers first.
use mathlib.Core.Path.{◌≡◌}
use mathlib.Core.List.{List}
use Prim.Native.Nat.{ℕ}
use Rattle.std.specs.Prelude.{Result}
use Rattle.slots.specs.Layout.{Kind, ring, vector}
use Rattle.table.specs.Tray.{Tray}
use Rattle.table.specs.Calls.{Call, Call2, Making}
use Rattle.table.specs.Does.{Outcome2, does, does2, made}
use Rattle.table.specs.Reported.{no_slot, reported}
use Rattle.table.specs.Totals.{total_after, total_made, total_first, total_second}
use Rattle.table.specs.Within.{does_within, reported_within, total_within}
use Rattle.table.specs.Answers.{numbered}
use Rattle.table.specs.declared.answers.Answer.{Answer}
use Rattle.table.specs.declared.answers.Both.{Both}
use Rattle.table.specs.declared.answers.Numbered.{Numbered}
use Rattle.table.specs.declared.answers.Refusal.{Refusal}
use Rattle.ring.specs.declared.Ring.{Ring}
use Rattle.ring.specs.Seen as rings
use Rattle.vector.specs.declared.Vector.{Vector}
use Rattle.vector.specs.Seen as vectors
use Rattle.containers.specs.Reading.{Reading}
use Rattle.pairs.specs.Seen.{both, seen2, Meets}
use Rattle.cursors.specs.declared.Cursor as code
use Rattle.cursors.specs.Seen.{none, seen, seen_into, Steps, Takes}

pub record RingMeets (call : Call) (r : Ring) (before : List ℕ) (a : Numbered Ring) (after : List ℕ) : Type 0 where
  pub row : rings.seen a after ≡ does ring call (rings.tray r before)
  pub slot : a.slot ≡ reported ring call (rings.tray r before)
  pub total : a.state.total.sum ≡ total_after ring call (rings.tray r before) r.total.sum

pub record RingWithin (allowance : ℕ) (call : Call) (r : Ring) (before : List ℕ) (a : Numbered Ring) (after : List ℕ) : Type 0 where
  pub row : rings.seen a after ≡ does_within allowance ring call (rings.tray r before)
  pub slot : a.slot ≡ reported_within allowance ring call (rings.tray r before)
  pub total : a.state.total.sum ≡ total_within allowance ring call (rings.tray r before) r.total.sum

pub record RingMakes (m : Making) (before : List ℕ) (a : Numbered Ring) (after : List ℕ) : Type 0 where
  pub row : rings.seen a after ≡ made ring m before
  pub slot : a.slot ≡ no_slot
  pub total : a.state.total.sum ≡ total_made ring m before

pub record VectorMeets (call : Call) (v : Vector) (before : List ℕ) (a : Numbered Vector) (after : List ℕ) : Type 0 where
  pub row : vectors.seen a after ≡ does vector call (vectors.tray v before)
  pub slot : a.slot ≡ reported vector call (vectors.tray v before)
  pub total : a.state.total.sum ≡ total_after vector call (vectors.tray v before) v.total.sum

pub record VectorMakes (m : Making) (before : List ℕ) (a : Numbered Vector) (after : List ℕ) : Type 0 where
  pub row : vectors.seen a after ≡ made vector m before
  pub slot : a.slot ≡ no_slot
  pub total : a.state.total.sum ≡ total_made vector m before

pub ring_numbers : (call : Call) (r : Ring) (s z : List ℕ) (a : Numbered Ring) (told : Result (Answer Ring) Refusal) → a ≡ numbered r told → rings.Meets call r s told z → RingMeets call r s a z
ring_numbers call r s z a told is e = rw is (record { row = e.row; slot = e.slot; total = e.total })

pub within_numbers : (allowance : ℕ) (call : Call) (r : Ring) (s z : List ℕ) (a : Numbered Ring) (told : Result (Answer Ring) Refusal) → a ≡ numbered r told
    → rings.MeetsWithin allowance call r s told z → RingWithin allowance call r s a z
within_numbers allowance call r s z a told is e = rw is (record { row = e.row; slot = e.slot; total = e.total })

pub vector_numbers : (call : Call) (v : Vector) (s z : List ℕ) (a : Numbered Vector) (told : Result (Answer Vector) Refusal) → a ≡ numbered v told → vectors.Meets call v s told z
    → VectorMeets call v s a z
vector_numbers call v s z a told is e = rw is (record { row = e.row; slot = e.slot; total = e.total })

-- a refused making leaves the state of no entries
pub ring_made_numbers : (m : Making) (r : Ring) (s z : List ℕ) (a : Numbered Ring) (told : Result (Answer Ring) Refusal) → a ≡ numbered r told → r ≡ rings.bare_ring → rings.Makes m s told z
    → RingMakes m s a z
ring_made_numbers m r s z a told is bare e = rw (is, bare) (record { row = e.row; slot = e.slot; total = e.total })

pub vector_made_numbers : (m : Making) (v : Vector) (s z : List ℕ) (a : Numbered Vector) (told : Result (Answer Vector) Refusal) → a ≡ numbered v told → v ≡ vectors.none → vectors.Makes m s told z
    → VectorMakes m s a z
vector_made_numbers m v s z a told is bare e = rw (is, bare) (record { row = e.row; slot = e.slot; total = e.total })

-- ON TWO, and of a cursor, in the same words.
abbrev pub of_ring : Reading Ring
of_ring = record { kind = ring; head = λ r. r.head; size = λ r. r.len; sum = λ r. r.total.sum }

abbrev pub of_vector : Reading Vector
of_vector = record { kind = vector; head = λ v. 0; size = λ v. v.len; sum = λ v. v.total.sum }

abbrev pub rings_seen : Numbered (Both Ring Ring) → (slots theirs : List ℕ) → Outcome2
rings_seen = seen2 of_ring of_ring

abbrev pub vectors_seen : Numbered (Both Vector Vector) → (slots theirs : List ℕ) → Outcome2
vectors_seen = seen2 of_vector of_vector

pub record Two {A B : Type 0} (of : Reading A) (of2 : Reading B) (call : Call2) (first : A) (s : List ℕ) (second : B) (z : List ℕ) (a : Numbered (Both A B)) (s' z' : List ℕ) : Type 0 where
  pub row : seen2 of of2 a s' z' ≡ does2 of.kind of2.kind call (record { head = of.head first; len = of.size first; slots = s }) (record { head = of2.head second; len = of2.size second; slots = z })
  pub slot : a.slot ≡ no_slot
  pub total : of.sum a.state.first
      ≡ total_first of.kind of2.kind call (record { head = of.head first; len = of.size first; slots = s }) (record { head = of2.head second; len = of2.size second; slots = z }) (of.sum first)
  pub total2 : of2.sum a.state.second
      ≡ total_second of.kind of2.kind call (record { head = of.head first; len = of.size first; slots = s }) (record { head = of2.head second; len = of2.size second; slots = z }) (of2.sum second)

abbrev pub RingsMeet : (call : Call2) (first : Ring) (s : List ℕ) (second : Ring) (z : List ℕ) (a : Numbered (Both Ring Ring)) (s' z' : List ℕ) → Type 0
RingsMeet = Two of_ring of_ring

abbrev pub VectorsMeet : (call : Call2) (first : Vector) (s : List ℕ) (second : Vector) (z : List ℕ) (a : Numbered (Both Vector Vector)) (s' z' : List ℕ) → Type 0
VectorsMeet = Two of_vector of_vector

abbrev pub mixed_seen : Numbered (Both Ring Vector) → (slots theirs : List ℕ) → Outcome2
mixed_seen = seen2 of_ring of_vector

abbrev pub MixedMeet : (call : Call2) (first : Ring) (s : List ℕ) (second : Vector) (z : List ℕ) (a : Numbered (Both Ring Vector)) (s' z' : List ℕ) → Type 0
MixedMeet = Two of_ring of_vector

pub two_numbers : {A B : Type 0} (of : Reading A) (of2 : Reading B) (call : Call2) (first : A) (second : B) (s z s' z' : List ℕ) (a : Numbered (Both A B)) (told : Result (Answer (Both A B)) Refusal)
    → a ≡ numbered (both first second) told → Meets of of2 call first s second z told s' z' → Two of of2 call first s second z a s' z'
two_numbers of of2 call first second s z s' z' a told is e = rw is (record { row = e.row; slot = e.slot; total = e.total; total2 = e.total2 })

pub record Stepped (k : Kind) (call : Call) (t : Tray) (a : Numbered code.Cursor) : Type 0 where
  pub row : seen a t ≡ does k call t
  pub slot : a.slot ≡ no_slot

pub step_numbers : (k : Kind) (call : Call) (t : Tray) (u : code.Cursor) (a : Numbered code.Cursor) (told : Result (Answer code.Cursor) Refusal) → a ≡ numbered u told → Steps k call t u told
    → Stepped k call t a
step_numbers k call t u a told is e = rw is (record { row = e.row; slot = e.slot })

-- a refused beginning leaves the cursor 0, 0
pub start_numbers : (k : Kind) (call : Call) (t : Tray) (u : code.Cursor) (a : Numbered code.Cursor) (told : Result (Answer code.Cursor) Refusal) → a ≡ numbered u told → u ≡ none
    → Steps k call t none told → Stepped k call t a
start_numbers k call t u a told is bare e = rw (is, bare) (record { row = e.row; slot = e.slot })

pub record Taken (k : Kind) (call : Call2) (t : Tray) (second : Vector) (z : List ℕ) (a : Numbered (Both code.Cursor Vector)) (theirs : List ℕ) : Type 0 where
  pub row : seen_into a t theirs ≡ does2 k vector call t (vectors.tray second z)
  pub slot : a.slot ≡ no_slot
  pub total : a.state.second.total.sum ≡ total_second k vector call t (vectors.tray second z) second.total.sum

pub taken_numbers : (k : Kind) (call : Call2) (t : Tray) (u : code.Cursor) (v : Vector) (z z' : List ℕ) (a : Numbered (Both code.Cursor Vector)) (told : Result (Answer (Both code.Cursor Vector)) Refusal)
    → a ≡ numbered (record { first = u; second = v }) told → Takes k call t u v z told z' → Taken k call t v z a z'
taken_numbers k call t u v z z' a told is e = rw is (record { row = e.row; slot = e.slot; total = e.total })
