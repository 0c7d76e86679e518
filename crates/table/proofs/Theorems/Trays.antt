-- The trays worked by hand of paper 01, cases a to m, proved together: one table, each case computed from the definitions. Each outcome is
-- written out whole, by itself, and not by a word of the definitions.
use mathlib.Core.Path.{◌≡◌, refl}
use mathlib.Core.List.{List, [], ◌∷◌}
use Prim.Native.Nat.{ℕ}
use Rattle.slots.specs.Lists.{tabulate}
use Rattle.slots.specs.Count.{one, tally}
use Rattle.slots.specs.Layout.{ring, vector, slot_of, pos_of, entries, relaid}
use Rattle.slots.specs.Moves.{moved}
use Rattle.table.specs.Tray.{Tray, valid, Cursor}
use Rattle.table.specs.Calls.{push, push_front, pop, pop_front, insert, remove, swap_remove, truncate, resize}
use Rattle.table.specs.Does.{Outcome, does}

-- a state and its slots
abbrev pub tray : (h n : ℕ) → List ℕ → Tray
tray h n slots = record { head = h; len = n; slots = slots }

abbrev pub cursor : (front back : ℕ) → Cursor
cursor front back = record { front = front; back = back }

-- done: number 0, the value, the moves, and the state and slots afterwards
abbrev pub gives : (value moves h n : ℕ) → List ℕ → Outcome
gives value moves h n slots = record { number = 0; value = value; moves = moves; tray = tray h n slots; cursor = cursor 0 0 }

-- refused: the number, value 0, moves 0, and the state and slots as they were
abbrev pub answers : (number : ℕ) → Tray → Outcome
answers number t = record { number = number; value = 0; moves = 0; tray = t; cursor = cursor 0 0 }

-- W is c 4, h 2, n 3, slots 11,0,9,10 (list 9,10,11)
abbrev pub W : Tray
W = tray 2 3 (11 ∷ 0 ∷ 9 ∷ 10 ∷ [])

-- U is a vector, n 3, slots 1,2,3,9
abbrev pub U : Tray
U = tray 0 3 (1 ∷ 2 ∷ 3 ∷ 9 ∷ [])

-- Where the paper leaves an entry or a slot open it is any, and case g is of both kinds.
pub record Cases : Type 0 where
  pub a : does ring (insert 1 8) W ≡ gives 0 1 1 4 (11 ∷ 9 ∷ 8 ∷ 10 ∷ [])
  pub b : does ring (insert 2 8) W ≡ gives 0 1 2 4 (8 ∷ 11 ∷ 9 ∷ 10 ∷ [])
  pub c : does ring (remove 0) W ≡ gives 9 0 3 2 (11 ∷ 0 ∷ 0 ∷ 10 ∷ [])
  pub d : does ring (remove 1) W ≡ gives 10 1 2 2 (0 ∷ 0 ∷ 9 ∷ 11 ∷ [])
  pub e_remove : does ring (remove 3) W ≡ answers 3 (tray 2 3 (11 ∷ 0 ∷ 9 ∷ 10 ∷ []))
  pub e_insert : (x : ℕ) → does ring (insert 4 x) W ≡ answers 3 (tray 2 3 (11 ∷ 0 ∷ 9 ∷ 10 ∷ []))
  pub f : (x : ℕ) → does ring (push x) (tray 0 1 (6 ∷ [])) ≡ answers 6 (tray 0 1 (6 ∷ []))
  pub g_push : (x : ℕ) → (does ring (push x) (tray 0 0 []) ≡ answers 6 (tray 0 0 [])) × (does vector (push x) (tray 0 0 []) ≡ answers 6 (tray 0 0 []))
  pub g_pop : (does ring pop (tray 0 0 []) ≡ answers 4 (tray 0 0 [])) × (does vector pop (tray 0 0 []) ≡ answers 4 (tray 0 0 []))
  pub h : does ring (push_front 4) (tray 0 0 (3 ∷ [])) ≡ gives 0 0 0 1 (4 ∷ [])
  pub i : (p q r s : ℕ) → does ring (push 1) (tray 4 0 (p ∷ q ∷ r ∷ s ∷ [])) ≡ answers 1 (tray 4 0 (p ∷ q ∷ r ∷ s ∷ []))
  pub j : does ring pop_front (tray 1 1 (3 ∷ 6 ∷ [])) ≡ gives 6 0 0 0 (3 ∷ 0 ∷ [])
  pub k_first : does vector (swap_remove 0) U ≡ gives 1 1 0 2 (3 ∷ 2 ∷ 0 ∷ 9 ∷ [])
  pub k_last : does vector (swap_remove 2) U ≡ gives 3 0 0 2 (1 ∷ 2 ∷ 0 ∷ 9 ∷ [])
  pub l : does vector (insert 3 7) U ≡ gives 0 0 0 4 (1 ∷ 2 ∷ 3 ∷ 7 ∷ [])
  pub m_truncate : does vector (truncate 5) U ≡ gives 0 0 0 3 (1 ∷ 2 ∷ 3 ∷ 9 ∷ [])
  pub m_resize : (x : ℕ) → does vector (resize 5 x) U ≡ answers 6 (tray 0 3 (1 ∷ 2 ∷ 3 ∷ 9 ∷ []))

pub cases : Cases
unfolding does valid entries relaid moved tabulate tally one slot_of pos_of
cases = record {
  a = refl;
  b = refl;
  c = refl;
  d = refl;
  e_remove = refl;
  e_insert = λ x. refl;
  f = λ x. refl;
  g_push = λ x. (refl, refl);
  g_pop = (refl, refl);
  h = refl;
  i = λ p q r s. refl;
  j = refl;
  k_first = refl;
  k_last = refl;
  l = refl;
  m_truncate = refl;
  m_resize = λ x. refl;
}
