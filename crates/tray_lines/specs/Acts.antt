-- What a call of `tray` is in the table: a call on one container or on two, the event that it makes, and what is answered of it.
use Rattle.std.specs.Prelude.{ℕ, Bool, List, [], ◌∷◌, replicate}
use Rattle.slots.specs.Layout.{Kind, ring, vector}
use Rattle.table.specs.Tray.{Tray}
use Rattle.table.specs.Calls as table
use Rattle.table.specs.Calls.{push, push_front, pop, pop_front, insert, remove, swap_remove, write, truncate, resize, clear, look, read}
use Rattle.table.specs.Calls.{append, split_off, has, has2, new}
use Rattle.table.specs.Does.{Outcome, Outcome2, does, does2, made}
use Rattle.table.specs.Reported.{no_slot, reported}
use Rattle.table.specs.World.{Container, World, at, Event, arrived, called, called_two, make, on, on_two, step, run}
use Rattle.tray_lines.specs.declared.lines.RingOp.{RingOp}
use Rattle.tray_lines.specs.declared.lines.VectorOp.{VectorOp}
use Rattle.tray_lines.specs.declared.lines.Which.{Which}
use Rattle.tray_lines.specs.declared.lines.Which.TheVariants.{First, Second}
use Rattle.tray_lines.specs.declared.lines.Call.{Call}
use Rattle.tray_lines.specs.declared.acts.Answer.{Answer}

-- a call of the table on one container, or on two of one kind, of which T is the other
pub data Act : Type 0 where
  one : table.Call → Act
  two : table.Call2 → Act

-- the fourteen operations of paper 01 by their numbers, with position i and value x
abbrev pub operations : (i x : ℕ) → List (ℕ × Act)
operations i x =
    (1, one (push x))
    ∷ (2, one (push_front x))
    ∷ (3, one pop)
    ∷ (4, one pop_front)
    ∷ (5, one (insert i x))
    ∷ (6, one (remove i))
    ∷ (7, one (swap_remove i))
    ∷ (8, two append)
    ∷ (9, two (split_off i))
    ∷ (10, one (truncate i))
    ∷ (11, one (resize i x))
    ∷ (12, one clear)
    ∷ (13, one (look (read i)))
    ∷ (14, one (write i x))
    ∷ []

-- whether a kind has it
abbrev pub has_act : Act → Kind → Bool
has_act (one call) k = has call k
has_act (two call) k = has2 call k k

-- what each operation of the code is
abbrev pub ring_act : RingOp → Act
ring_act (RingOp.PushBack x) = one (push x)
ring_act (RingOp.PushFront x) = one (push_front x)
ring_act RingOp.PopBack = one pop
ring_act RingOp.PopFront = one pop_front
ring_act (RingOp.Insert i x) = one (insert i x)
ring_act (RingOp.Remove i) = one (remove i)
ring_act RingOp.Append = two append
ring_act (RingOp.SplitOff i) = two (split_off i)
ring_act (RingOp.Truncate k) = one (truncate k)
ring_act (RingOp.Resize k x) = one (resize k x)
ring_act RingOp.Clear = one clear
ring_act (RingOp.Read i) = one (look (read i))
ring_act (RingOp.Write i x) = one (write i x)

abbrev pub vector_act : VectorOp → Act
vector_act (VectorOp.Push x) = one (push x)
vector_act VectorOp.Pop = one pop
vector_act (VectorOp.Insert i x) = one (insert i x)
vector_act (VectorOp.Remove i) = one (remove i)
vector_act (VectorOp.SwapRemove i) = one (swap_remove i)
vector_act VectorOp.Append = two append
vector_act (VectorOp.SplitOff i) = two (split_off i)
vector_act (VectorOp.Truncate k) = one (truncate k)
vector_act (VectorOp.Resize k x) = one (resize k x)
vector_act VectorOp.Clear = one clear
vector_act (VectorOp.Read i) = one (look (read i))
vector_act (VectorOp.Write i x) = one (write i x)

-- an outcome of one container, with the other as it was
abbrev pub beside : Outcome → Tray → Outcome2
beside o t2 = record { number = o.number; value = o.value; moves = o.moves; first = o.tray; second = t2; cursor = o.cursor }

-- what it does to a container and the other of its kind
abbrev pub act_does : Kind → Act → (t t2 : Tray) → Outcome2
act_does k (one call) t t2 = beside (does k call t) t2
act_does k (two call) t t2 = does2 k k call t t2

-- the first or the second of two
abbrev pub of_two : {A : Type 0} → Which → (first second : A) → A
of_two First first second = first
of_two Second first second = second

-- the container that a call names, the other of its kind, its kind, and what it does
abbrev pub named : Call → ℕ
named (Call.Ring which op) = of_two which 0 1
named (Call.Vector which op) = of_two which 2 3

abbrev pub other : Call → ℕ
other (Call.Ring which op) = of_two which 1 0
other (Call.Vector which op) = of_two which 3 2

abbrev pub act_of : Call → Act
act_of (Call.Ring which op) = ring_act op
act_of (Call.Vector which op) = vector_act op

-- the event that it makes on containers i and j
abbrev pub event_at : World → (i j : ℕ) → Act → Event
event_at w i j (one call) = on i call (does (at w i).kind call (at w i).tray)
event_at w i j (two call) = on_two i j call (does2 (at w i).kind (at w j).kind call (at w i).tray (at w j).tray)

abbrev pub event : World → Call → Event
event w c = event_at w (named c) (other c) (act_of c)

-- the slot that is reported: a call on two has none to report
abbrev pub act_slot : Kind → Act → Tray → ℕ
act_slot k (one call) t = reported k call t
act_slot k (two call) t = no_slot

-- number, value, moves and slot, with the head and the length of the container afterwards; a vector's head is 0
abbrev pub reports : (number value moves slot : ℕ) → Container → Answer
reports number value moves slot b =
    record { number = number; value = value; moves = moves; slot = slot; head = b.tray.head; len = b.tray.len }

abbrev pub answer_of : Event → (slot : ℕ) → Container → Answer
answer_of (arrived k a slots o) slot b = reports o.number o.value o.moves slot b
answer_of (called i p o) slot b = reports o.number o.value o.moves slot b
answer_of (called_two i j p o) slot b = reports o.number o.value o.moves slot b

-- what a call comes to: the world afterwards, and what is answered
pub record Acts : Type 0 where
  pub world : World
  pub answer : Answer

abbrev pub acts_as : World → Event → (named slot : ℕ) → Acts
acts_as w e i slot = record { world = step w e; answer = answer_of e slot (at (step w e) i) }

unfoldable pub acts : World → Call → Acts
acts w c = acts_as w (event w c) (named c) (act_slot (at w (named c)).kind (act_of c) (at w (named c)).tray)

-- the four makings: capacity 4 each, all slots 0 and empty
abbrev pub free : List ℕ
free = replicate 4 0

abbrev pub makings : List Event
makings =
    make ring new free (made ring new free)
    ∷ make ring new free (made ring new free)
    ∷ make vector new free (made vector new free)
    ∷ make vector new free (made vector new free)
    ∷ []

unfoldable pub begun : World
begun = run [] makings
