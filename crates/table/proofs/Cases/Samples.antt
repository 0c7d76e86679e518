-- How the worked cases write an outcome, and the trays that they start from, beside those of `Trays`.
use Prim.Native.Nat.{ℕ}
use mathlib.Core.List.{[], ◌∷◌}
use Rattle.table.specs.Tray.{Tray, Cursor}
use Rattle.table.specs.Does.{Outcome, Outcome2}
use Rattle.table.proofs.Theorems.Trays.{tray, cursor}

-- Done with this value, the tray as it was; the same with the cursor that comes back; and refused, with the cursor that was given.
abbrev pub tells : (value : ℕ) → Tray → Outcome
tells value t = record { number = 0; value = value; moves = 0; tray = t; cursor = cursor 0 0 }

abbrev pub shows : (value : ℕ) → Cursor → Tray → Outcome
shows value u t = record { number = 0; value = value; moves = 0; tray = t; cursor = u }

abbrev pub stops : (number : ℕ) → Cursor → Tray → Outcome
stops number u t = record { number = number; value = 0; moves = 0; tray = t; cursor = u }

-- Of two: done, with the trays afterwards; refused; a yes or no; done and refused with a cursor.
abbrev pub gives2 : (t t2 : Tray) → Outcome2
gives2 t t2 = record { number = 0; value = 0; moves = 0; first = t; second = t2; cursor = cursor 0 0 }

abbrev pub answers2 : (number : ℕ) → (t t2 : Tray) → Outcome2
answers2 number t t2 = record { number = number; value = 0; moves = 0; first = t; second = t2; cursor = cursor 0 0 }

abbrev pub tells2 : (value : ℕ) → (t t2 : Tray) → Outcome2
tells2 value t t2 = record { number = 0; value = value; moves = 0; first = t; second = t2; cursor = cursor 0 0 }

abbrev pub shows2 : Cursor → (t t2 : Tray) → Outcome2
shows2 u t t2 = record { number = 0; value = 0; moves = 0; first = t; second = t2; cursor = u }

abbrev pub stops2 : (number : ℕ) → Cursor → (t t2 : Tray) → Outcome2
stops2 number u t t2 = record { number = number; value = 0; moves = 0; first = t; second = t2; cursor = u }

-- on no slots, of either kind
abbrev pub no_slots : Tray
no_slots = tray 0 0 []

-- invalid as a ring and as a vector: more entries than slots
abbrev pub overfull : Tray
overfull = tray 0 3 (5 ∷ 6 ∷ [])

-- invalid as a ring, and empty: the head is no slot
abbrev pub head_out : Tray
head_out = tray 2 0 (5 ∷ 6 ∷ [])

-- invalid as a ring, since it is empty: the head is a slot and not 0
abbrev pub empty_turned : Tray
empty_turned = tray 1 0 (5 ∷ 6 ∷ [])

-- a ring with no entry; one with one, and one with two, list 3,4, which have their last slot for a head
abbrev pub empty_ring : Tray
empty_ring = tray 0 0 (5 ∷ 6 ∷ [])

abbrev pub one_entry : Tray
one_entry = tray 1 1 (3 ∷ 6 ∷ [])

abbrev pub two_entries : Tray
two_entries = tray 1 2 (4 ∷ 3 ∷ [])

-- a ring that is full, list 10,11,12
abbrev pub full_ring : Tray
full_ring = tray 1 3 (12 ∷ 10 ∷ 11 ∷ [])

-- Rings of capacity 6 whose list is 20,21,.. and whose free slots hold 7 and 8. This one wraps after two entries.
abbrev pub wrapping : Tray
wrapping = tray 4 4 (22 ∷ 23 ∷ 7 ∷ 8 ∷ 20 ∷ 21 ∷ [])

-- it ends at the last slot
abbrev pub to_last : Tray
to_last = tray 2 4 (7 ∷ 8 ∷ 20 ∷ 21 ∷ 22 ∷ 23 ∷ [])

-- it goes on from there into slot 0
abbrev pub into_first : Tray
into_first = tray 2 5 (24 ∷ 7 ∷ 20 ∷ 21 ∷ 22 ∷ 23 ∷ [])

-- it begins at slot 0
abbrev pub from_first : Tray
from_first = tray 0 5 (20 ∷ 21 ∷ 22 ∷ 23 ∷ 24 ∷ 7 ∷ [])

-- it begins at the last slot
abbrev pub from_last : Tray
from_last = tray 5 5 (21 ∷ 22 ∷ 23 ∷ 24 ∷ 7 ∷ 20 ∷ [])

-- an empty vector, and one that is full
abbrev pub empty_vector : Tray
empty_vector = tray 0 0 (5 ∷ 6 ∷ [])

abbrev pub full_vector : Tray
full_vector = tray 0 2 (5 ∷ 6 ∷ [])
