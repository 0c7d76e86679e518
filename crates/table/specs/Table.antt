-- The table of paper 01. First the list afterwards, which the upstream clauses decide; then a row for each call with what paper 01 decides:
-- why it is refused, its value, the head afterwards and the carrying. Here c is the capacity, h the head, n the length and l the list before
-- the call.
use Rattle.std.specs.Prelude.{ℕ, ◌+◌, ◌-◌, Bool, true, false, not, cond, ◌&&◌, List, [], ◌∷◌, ◌++◌, length, get_or, take, drop, replicate, ltb, leb, eqb}
use Rattle.slots.specs.Lists.{update, insert_at, remove_at}
use Rattle.slots.specs.Layout.{slot_of}
use Rattle.slots.specs.Moves.{Carried, stay, inserted, removed, swapped, replaced, kept}
use Rattle.table.specs.Tray.{Cursor, nowhere, within}
use Rattle.table.specs.Calls.{Look, len, is_empty, read, reserve, try_reserve, try_reserve_exact, range, iter, into_iter, step_front, step_back, peek_front, peek_back}
use Rattle.table.specs.Calls.{Call, push, push_front, pop, pop_front, insert, remove, swap_remove, write, truncate, resize, clear, extend, look}
use Rattle.table.specs.Calls.{Call2, append, split_off, clone, from_iter, same, Making, new, with_capacity, from_elem}

-- LIST AFTERWARDS. `take k` of a list with no more than k entries is that list.
abbrev pub after : Call → (l : List ℕ) → List ℕ
after (push x) l = l ++ (x ∷ [])
after (push_front x) l = x ∷ l
after pop l = take (length l - 1) l
after pop_front l = drop 1 l
after (insert i x) l = insert_at l i x
after (remove i) l = remove_at l i
after (swap_remove i) l = take (length l - 1) (update l i (get_or l (length l - 1) 0))
after (write i x) l = update l i x
after (truncate k) l = take k l
after (resize k x) l = take k l ++ replicate (k - length l) x
after clear l = []
after (extend s) l = l ++ s
after (look q) l = l

-- what remains of a cursor
abbrev pub remaining : Cursor → (l : List ℕ) → List ℕ
remaining u l = take (u.back - u.front) (drop u.front l)

-- both lists afterwards: the first's, and T's
abbrev pub after2 : Call2 → (l l2 : List ℕ) → List ℕ × List ℕ
after2 append l l2 = (l ++ l2, [])
after2 (split_off at) l l2 = (take at l, drop at l)
after2 clone l l2 = (l, l)
after2 (from_iter u) l l2 = (l, remaining u l)
after2 same l l2 = (l, l2)

-- the list that a making begins with
abbrev pub begins : Making → List ℕ
begins new = []
begins (with_capacity k) = []
begins (from_elem k x) = replicate k x

-- why a call is refused, and the number that it answers
pub data Refusal : Type 0 where
  first_invalid second_invalid beyond empty taken full : Refusal

abbrev pub number_of : Refusal → ℕ
number_of first_invalid = 1
number_of second_invalid = 2
number_of beyond = 3
number_of empty = 4
number_of taken = 5
number_of full = 6

-- What a call on a valid container says besides its list. The refusals are tried in their order. The rest is of a call that is done: the
-- value, the ring's head afterwards, where it carries each position, and the cursor, with the one given, which a refusal gives back.
pub record Row : Type 0 where
  pub refusals : List (Bool × Refusal)
  pub value : ℕ
  pub head : ℕ
  pub carry : ℕ → Carried
  pub given : Cursor
  pub cursor : Cursor

-- a row of a call that has no cursor
abbrev pub changes : (refusals : List (Bool × Refusal)) (value : ℕ) (head : ℕ) (carry : ℕ → Carried) → Row
changes refusals value head carry = record { refusals = refusals; value = value; head = head; carry = carry; given = nowhere; cursor = nowhere }

-- the head one slot back, (h + c − 1) mod c, and one slot on, (h + 1) mod c
abbrev pub head_back : (c h : ℕ) → ℕ
head_back c h = slot_of c h (c - 1)

abbrev pub head_on : (c h : ℕ) → ℕ
head_on c h = slot_of c h 1

-- what a call that changes nothing says: the list, the head and each position stay
pub record LookRow : Type 0 where
  pub refusals : List (Bool × Refusal)
  pub value : ℕ
  pub given : Cursor
  pub cursor : Cursor

abbrev pub tells : (refusals : List (Bool × Refusal)) (value : ℕ) → LookRow
tells refusals value = record { refusals = refusals; value = value; given = nowhere; cursor = nowhere }

-- one that shows a cursor, of which u is given and v comes back
abbrev pub walks : (u : Cursor) (refusals : List (Bool × Refusal)) (value : ℕ) (v : Cursor) → LookRow
walks u refusals value v = record { refusals = refusals; value = value; given = u; cursor = v }

abbrev pub looking : (h : ℕ) → LookRow → Row
looking h r = record { refusals = r.refusals; value = r.value; head = h; carry = stay; given = r.given; cursor = r.cursor }

-- without front ≤ back ≤ n a cursor is refused, and a step of an ended one
abbrev pub astray : Cursor → (n : ℕ) → Bool
astray u n = not (within u.front u.back n)

abbrev pub ended : Cursor → Bool
ended u = eqb u.front u.back

abbrev pub look_row : (c n : ℕ) (l : List ℕ) → Look → LookRow
look_row c n l len = tells [] n
look_row c n l is_empty = tells [] (cond (eqb n 0) 1 0)
look_row c n l (read i) = tells ((leb n i, beyond) ∷ []) (get_or l i 0)
look_row c n l (reserve k) = tells ((ltb (c - n) k, full) ∷ []) 0
look_row c n l (try_reserve k) = tells ((ltb (c - n) k, full) ∷ []) 0
look_row c n l (try_reserve_exact k) = tells ((ltb (c - n) k, full) ∷ []) 0
look_row c n l (range a b) = tells ((not (within a b n), beyond) ∷ []) 0
look_row c n l iter = walks nowhere [] 0 (record { front = 0; back = n })
look_row c n l into_iter = walks nowhere [] 0 (record { front = 0; back = n })
look_row c n l (step_front u) =
    walks u ((astray u n, beyond) ∷ (ended u, empty) ∷ []) (get_or l u.front 0) (record { front = u.front + 1; back = u.back })
look_row c n l (step_back u) =
    walks u ((astray u n, beyond) ∷ (ended u, empty) ∷ []) (get_or l (u.back - 1) 0) (record { front = u.front; back = u.back - 1 })
look_row c n l (peek_front u k) = walks u ((astray u n, beyond) ∷ (leb (u.back - u.front) k, beyond) ∷ []) (get_or l (u.front + k) 0) u
look_row c n l (peek_back u k) = walks u ((astray u n, beyond) ∷ (leb (u.back - u.front) k, beyond) ∷ []) (get_or l (u.back - 1 - k) 0) u

-- REFUSED FOR; VALUE; RING HEAD AFTERWARDS; CARRYING
abbrev pub row : (c h n : ℕ) (l : List ℕ) → Call → Row
row c h n l (push x) = changes ((leb c n, full) ∷ []) 0 h stay
row c h n l (push_front x) = changes ((leb c n, full) ∷ []) 0 (head_back c h) (inserted 0)
row c h n l pop = changes ((eqb n 0, empty) ∷ []) (get_or l (n - 1) 0) h (removed (n - 1))
row c h n l pop_front = changes ((eqb n 0, empty) ∷ []) (get_or l 0 0) (head_on c h) (removed 0)
row c h n l (insert i x) = changes ((ltb n i, beyond) ∷ (leb c n, full) ∷ []) 0 (cond (ltb i (n - i)) (head_back c h) h) (inserted i)
row c h n l (remove i) = changes ((leb n i, beyond) ∷ []) (get_or l i 0) (cond (ltb i (n - 1 - i)) (head_on c h) h) (removed i)
row c h n l (swap_remove i) = changes ((leb n i, beyond) ∷ []) (get_or l i 0) h (swapped i n)
row c h n l (write i x) = changes ((leb n i, beyond) ∷ []) (get_or l i 0) h (replaced i)
row c h n l (truncate k) = changes [] 0 h (kept k)
row c h n l (resize k x) = changes ((ltb c k, full) ∷ []) 0 h (kept k)
row c h n l clear = changes [] 0 0 (kept 0)
row c h n l (extend s) = changes ((ltb (c - n) (length s), full) ∷ []) 0 h stay
row c h n l (look q) = looking h (look_row c n l q)

-- a making stands on no entries
abbrev pub makes : (c : ℕ) → Making → Row
makes c new = changes [] 0 0 stay
makes c (with_capacity k) = changes ((ltb c k, full) ∷ []) 0 0 stay
makes c (from_elem k x) = changes ((ltb c k, full) ∷ []) 0 0 stay

-- What a call on two valid containers says besides their lists. The first keeps its head; head2 is T's afterwards.
pub record Row2 : Type 0 where
  pub refusals : List (Bool × Refusal)
  pub value : ℕ
  pub carry : ℕ → Carried
  pub head2 : ℕ
  pub given : Cursor
  pub cursor : Cursor

abbrev pub changes2 : (refusals : List (Bool × Refusal)) (carry : ℕ → Carried) → Row2
changes2 refusals carry = record { refusals = refusals; value = 0; carry = carry; head2 = 0; given = nowhere; cursor = nowhere }

-- yes is 1, no is 0
abbrev pub asks2 : (test : Bool) (h2 : ℕ) → Row2
asks2 test h2 = record { refusals = []; value = cond test 1 0; carry = stay; head2 = h2; given = nowhere; cursor = nowhere }

-- equal lengths and equal entries
abbrev pub equal_lists : List ℕ → List ℕ → Bool
equal_lists [] [] = true
equal_lists [] (y ∷ ys) = false
equal_lists (x ∷ xs) [] = false
equal_lists (x ∷ xs) (y ∷ ys) = eqb x y && equal_lists xs ys

-- T isn't empty
abbrev pub holding : (n2 : ℕ) → Bool
holding n2 = not (eqb n2 0)

abbrev pub row2 : (c h n : ℕ) (l : List ℕ) (c2 h2 n2 : ℕ) (l2 : List ℕ) → Call2 → Row2
row2 c h n l c2 h2 n2 l2 append = changes2 ((ltb (c - n) n2, full) ∷ []) stay
row2 c h n l c2 h2 n2 l2 (split_off at) = changes2 ((ltb n at, beyond) ∷ (holding n2, taken) ∷ (ltb c2 (n - at), full) ∷ []) (kept at)
row2 c h n l c2 h2 n2 l2 clone = changes2 ((holding n2, taken) ∷ (ltb c2 n, full) ∷ []) stay
row2 c h n l c2 h2 n2 l2 (from_iter u) = record {
  refusals = (astray u n, beyond) ∷ (holding n2, taken) ∷ (ltb c2 (u.back - u.front), full) ∷ [];
  value = 0;
  carry = stay;
  head2 = 0;
  given = u;
  cursor = record { front = u.back; back = u.back };
}
row2 c h n l c2 h2 n2 l2 same = asks2 (equal_lists l l2) h2
