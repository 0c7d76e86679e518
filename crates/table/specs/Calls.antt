-- The calls of paper 01 that bear a number, and which of them each kind of container has.
use Rattle.std.specs.Prelude.{ℕ, Bool, true, false, List}
use Rattle.slots.specs.Layout.{Kind, ring, vector}
use Rattle.table.specs.Tray.{Cursor}

-- A call that changes nothing. `range` is the question that goes with a part; a part itself bears no number (`Parts`).
pub data Look : Type 0 where
  len is_empty : Look
  read : (i : ℕ) → Look
  reserve try_reserve try_reserve_exact : (k : ℕ) → Look
  range : (a b : ℕ) → Look
  iter into_iter : Look
  step_front step_back : Cursor → Look
  peek_front peek_back : Cursor → (k : ℕ) → Look

-- A call on one container. `push` is push_back and push, `pop` is pop_back and pop, `extend` is extend_from_slice.
pub data Call : Type 0 where
  push push_front : (x : ℕ) → Call
  pop pop_front : Call
  insert : (i x : ℕ) → Call
  remove swap_remove : (i : ℕ) → Call
  write : (i x : ℕ) → Call
  truncate : (k : ℕ) → Call
  resize : (k x : ℕ) → Call
  clear : Call
  extend : (s : List ℕ) → Call
  look : Look → Call

-- A call on two containers, of which T is the second. `same` is ring sameness, vector equality, and a ring's sameness with a vector.
pub data Call2 : Type 0 where
  append : Call2
  split_off : (at : ℕ) → Call2
  clone : Call2
  from_iter : Cursor → Call2
  same : Call2

-- A container's one making.
pub data Making : Type 0 where
  new : Making
  with_capacity : (k : ℕ) → Making
  from_elem : (k x : ℕ) → Making

-- which kinds have a call: both, or one of them only
abbrev pub both : Kind → Bool
both k = true

abbrev pub rings : Kind → Bool
rings ring = true
rings vector = false

abbrev pub vectors : Kind → Bool
vectors ring = false
vectors vector = true

abbrev pub has_look : Look → Kind → Bool
has_look len = both
has_look is_empty = vectors
has_look (read i) = both
has_look (reserve k) = both
has_look (try_reserve k) = vectors
has_look (try_reserve_exact k) = vectors
has_look (range a b) = vectors
has_look iter = both
has_look into_iter = both
has_look (step_front u) = both
has_look (step_back u) = both
has_look (peek_front u k) = both
has_look (peek_back u k) = both

abbrev pub has : Call → Kind → Bool
has (push x) = both
has (push_front x) = rings
has pop = both
has pop_front = rings
has (insert i x) = both
has (remove i) = both
has (swap_remove i) = vectors
has (write i x) = both
has (truncate k) = both
has (resize k x) = both
has clear = both
has (extend s) = vectors
has (look q) = has_look q

abbrev pub has_making : Making → Kind → Bool
has_making new = both
has_making (with_capacity k) = both
has_making (from_elem k x) = vectors

-- T is of the same kind
abbrev pub alike : Kind → Kind → Bool
alike ring = rings
alike vector = vectors

-- T is a vector, whatever the first is
abbrev pub into_vector : Kind → Kind → Bool
into_vector k = vectors

-- T is of the same kind, or a vector
abbrev pub comparable : Kind → Kind → Bool
comparable ring = both
comparable vector = vectors

abbrev pub has2 : Call2 → Kind → Kind → Bool
has2 append = alike
has2 (split_off at) = alike
has2 clone = alike
has2 (from_iter u) = into_vector
has2 same = comparable
