-- What a call gives: the answer, and the state, slots and cursor afterwards. The promise of every call is `seen answer ≡ does ..`.
use Rattle.std.specs.Prelude.{ℕ, Bool, cond, List, [], ◌∷◌, length, ltb, eqb}
use Rattle.slots.specs.Layout.{most, Kind, ring, vector, place, pos, relaid}
use Rattle.slots.specs.Moves.{Carried, moved}
use Rattle.table.specs.Tray.{Tray, cap, list, invalid, Cursor, nowhere}
use Rattle.table.specs.Calls.{Call, Call2, Making}
use Rattle.table.specs.Table.{Refusal, first_invalid, second_invalid, number_of, Row, Row2, row, row2, makes, after, after2, begins}

pub record Outcome : Type 0 where
  pub number : ℕ
  pub value : ℕ
  pub moves : ℕ
  pub tray : Tray
  pub cursor : Cursor

-- a refusal: value 0, moves 0, all as it was
abbrev pub refused : Tray → Cursor → ℕ → Outcome
refused t u number = record { number = number; value = 0; moves = 0; tray = t; cursor = u }

-- a call that is done and has no cursor
abbrev pub gives : (value moves h n : ℕ) → List ℕ → Outcome
gives value moves h n slots =
    record { number = 0; value = value; moves = moves; tray = record { head = h; len = n; slots = slots }; cursor = nowhere }

-- the first refusal that applies, in the order given; else what is done
abbrev pub first_refusal : {A : Type 0} → (ℕ → A) → List (Bool × Refusal) → A → A
first_refusal refuse [] done = done
first_refusal refuse (r ∷ rest) done = cond r.0 (refuse (number_of r.1)) (first_refusal refuse rest done)

-- the head afterwards, where the row says h and n entries are left: an empty ring's is 0; a vector has none, and 0 stands there
abbrev pub head_after : Kind → (n h : ℕ) → ℕ
head_after ring n h = cond (eqb n 0) 0 h
head_after vector n h = 0

-- the container once its list is `l`, where the row says `head`
abbrev pub relay : Kind → Tray → (l : List ℕ) (head : ℕ) → Tray
relay k t l head = record {
  head = head_after k (length l) head;
  len = length l;
  slots = relaid (pos k (cap t) t.head) (pos k (cap t) (head_after k (length l) head)) t.len l t.slots;
}

-- how many of its entries then stand in another slot
abbrev pub shifted : Kind → Tray → (l : List ℕ) (head : ℕ) (carry : ℕ → Carried) → ℕ
shifted k t l head carry = moved (place k (cap t) t.head) (place k (cap t) (relay k t l head).head) carry t.len

-- a call that is done: its row and the list afterwards say all
abbrev pub done : Kind → Tray → (l : List ℕ) → Row → Outcome
done k t l r = record {
  number = 0;
  value = r.value;
  moves = shifted k t l r.head r.carry;
  tray = relay k t l r.head;
  cursor = r.cursor;
}

abbrev pub row_of : Kind → Call → Tray → Row
row_of k call t = row (cap t) t.head t.len (list k t) call

-- the refusals of a call, those of the state before them
abbrev pub refusals_of : Kind → Call → Tray → List (Bool × Refusal)
refusals_of k call t = (invalid k t, first_invalid) ∷ (row_of k call t).refusals

-- A call on one container.
unfoldable pub does : Kind → Call → Tray → Outcome
does k call t = first_refusal (refused t (row_of k call t).given) (refusals_of k call t) (done k t (after call (list k t)) (row_of k call t))

-- state 0, 0 on these slots, which a refused making gives too
abbrev pub bare : List ℕ → Tray
bare slots = record { head = 0; len = 0; slots = slots }

abbrev pub refusals_made : Making → (slots : List ℕ) → List (Bool × Refusal)
refusals_made m slots = (ltb most (length slots), first_invalid) ∷ (makes (length slots) m).refusals

-- A making.
unfoldable pub made : Kind → Making → List ℕ → Outcome
made k m slots = first_refusal (refused (bare slots) nowhere) (refusals_made m slots) (done k (bare slots) (begins m) (makes (length slots) m))

-- value and moves are of the container named first
pub record Outcome2 : Type 0 where
  pub number : ℕ
  pub value : ℕ
  pub moves : ℕ
  pub first : Tray
  pub second : Tray
  pub cursor : Cursor

abbrev pub refused2 : (t t2 : Tray) → Cursor → ℕ → Outcome2
refused2 t t2 u number = record { number = number; value = 0; moves = 0; first = t; second = t2; cursor = u }

abbrev pub done2 : (k k2 : Kind) (t t2 : Tray) → (lists : List ℕ × List ℕ) → Row2 → Outcome2
done2 k k2 t t2 lists r = record {
  number = 0;
  value = r.value;
  moves = shifted k t lists.0 t.head r.carry;
  first = relay k t lists.0 t.head;
  second = relay k2 t2 lists.1 r.head2;
  cursor = r.cursor;
}

abbrev pub row_of2 : (k k2 : Kind) → Call2 → (t t2 : Tray) → Row2
row_of2 k k2 call t t2 = row2 (cap t) t.head t.len (list k t) (cap t2) t2.head t2.len (list k2 t2) call

abbrev pub refusals_of2 : (k k2 : Kind) → Call2 → (t t2 : Tray) → List (Bool × Refusal)
refusals_of2 k k2 call t t2 = (invalid k t, first_invalid) ∷ (invalid k2 t2, second_invalid) ∷ (row_of2 k k2 call t t2).refusals

-- A call on two containers.
unfoldable pub does2 : (k k2 : Kind) → Call2 → (t t2 : Tray) → Outcome2
does2 k k2 call t t2 =
    first_refusal (refused2 t t2 (row_of2 k k2 call t t2).given) (refusals_of2 k k2 call t t2)
    (done2 k k2 t t2 (after2 call (list k t) (list k2 t2)) (row_of2 k k2 call t t2))
