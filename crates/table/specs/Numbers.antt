-- The numbers a call may answer, number by number, as paper 01 lists them: `Applies .. m call` says that m's condition holds. The table has
-- the same conditions row by row; `proofs/Numbers` shows that a call answers the lowest number that applies here.
use Rattle.std.specs.Prelude.{ℕ, ◌-◌, ◌≤◌, ◌<◌, ◌≡◌, true, List, length}
use Rattle.slots.specs.Layout.{most, Kind}
use Rattle.table.specs.Tray.{Tray, cap, invalid, Cursor}
use Rattle.table.specs.Calls.{read, reserve, try_reserve, try_reserve_exact, range, step_front, step_back, peek_front, peek_back}
use Rattle.table.specs.Calls.{Call, push, push_front, pop, pop_front, insert, remove, swap_remove, write, resize, extend, look}
use Rattle.table.specs.Calls.{Call2, append, split_off, clone, from_iter, Making, with_capacity, from_elem}

-- without a ≤ b ≤ n
abbrev pub Astray : (a b n : ℕ) → Type 0
Astray a b n = (a ≤ b) × (b ≤ n) → ⊥

-- fewer free slots than entries to add
abbrev pub NoRoom : (c n more : ℕ) → Type 0
NoRoom c n more = c - n < more

-- c is the capacity, n the length
pub data Applies (k : Kind) (t : Tray) : ℕ → Call → Type 0 where
  invalid_first : {call : Call} → invalid k t ≡ true → Applies k t 1 call
  beyond_read : {i : ℕ} → t.len ≤ i → Applies k t 3 (look (read i))
  beyond_write : {i x : ℕ} → t.len ≤ i → Applies k t 3 (write i x)
  beyond_remove : {i : ℕ} → t.len ≤ i → Applies k t 3 (remove i)
  beyond_swap : {i : ℕ} → t.len ≤ i → Applies k t 3 (swap_remove i)
  beyond_insert : {i x : ℕ} → t.len < i → Applies k t 3 (insert i x)
  astray_front : {u : Cursor} → Astray u.front u.back t.len → Applies k t 3 (look (step_front u))
  astray_back : {u : Cursor} → Astray u.front u.back t.len → Applies k t 3 (look (step_back u))
  astray_peek : {u : Cursor} {i : ℕ} → Astray u.front u.back t.len → Applies k t 3 (look (peek_front u i))
  astray_peek_back : {u : Cursor} {i : ℕ} → Astray u.front u.back t.len → Applies k t 3 (look (peek_back u i))
  past_peek : {u : Cursor} {i : ℕ} → u.back - u.front ≤ i → Applies k t 3 (look (peek_front u i))
  past_peek_back : {u : Cursor} {i : ℕ} → u.back - u.front ≤ i → Applies k t 3 (look (peek_back u i))
  astray_range : {a b : ℕ} → Astray a b t.len → Applies k t 3 (look (range a b))
  empty_pop : t.len ≡ 0 → Applies k t 4 pop
  empty_pop_front : t.len ≡ 0 → Applies k t 4 pop_front
  ended_front : {u : Cursor} → u.front ≡ u.back → Applies k t 4 (look (step_front u))
  ended_back : {u : Cursor} → u.front ≡ u.back → Applies k t 4 (look (step_back u))
  full_push : {x : ℕ} → NoRoom (cap t) t.len 1 → Applies k t 6 (push x)
  full_push_front : {x : ℕ} → NoRoom (cap t) t.len 1 → Applies k t 6 (push_front x)
  full_insert : {i x : ℕ} → NoRoom (cap t) t.len 1 → Applies k t 6 (insert i x)
  full_extend : {s : List ℕ} → NoRoom (cap t) t.len (length s) → Applies k t 6 (extend s)
  full_reserve : {m : ℕ} → NoRoom (cap t) t.len m → Applies k t 6 (look (reserve m))
  full_try : {m : ℕ} → NoRoom (cap t) t.len m → Applies k t 6 (look (try_reserve m))
  full_exact : {m : ℕ} → NoRoom (cap t) t.len m → Applies k t 6 (look (try_reserve_exact m))
  full_resize : {m x : ℕ} → cap t < m → Applies k t 6 (resize m x)

-- of a call on two, of which T is the second
pub data Applies2 (k k2 : Kind) (t t2 : Tray) : ℕ → Call2 → Type 0 where
  invalid_first : {call : Call2} → invalid k t ≡ true → Applies2 k k2 t t2 1 call
  invalid_second : {call : Call2} → invalid k2 t2 ≡ true → Applies2 k k2 t t2 2 call
  beyond_split : {at : ℕ} → t.len < at → Applies2 k k2 t t2 3 (split_off at)
  astray_from : {u : Cursor} → Astray u.front u.back t.len → Applies2 k k2 t t2 3 (from_iter u)
  taken_split : {at : ℕ} → 0 < t2.len → Applies2 k k2 t t2 5 (split_off at)
  taken_clone : 0 < t2.len → Applies2 k k2 t t2 5 clone
  taken_from : {u : Cursor} → 0 < t2.len → Applies2 k k2 t t2 5 (from_iter u)
  full_append : NoRoom (cap t) t.len t2.len → Applies2 k k2 t t2 6 append
  full_split : {at : ℕ} → NoRoom (cap t2) t2.len (t.len - at) → Applies2 k k2 t t2 6 (split_off at)
  full_clone : NoRoom (cap t2) t2.len t.len → Applies2 k k2 t t2 6 clone
  full_from : {u : Cursor} → NoRoom (cap t2) t2.len (u.back - u.front) → Applies2 k k2 t t2 6 (from_iter u)

-- of a making on these slots
pub data AppliesMade (slots : List ℕ) : ℕ → Making → Type 0 where
  too_many : {m : Making} → most < length slots → AppliesMade slots 1 m
  full_capacity : {i : ℕ} → length slots < i → AppliesMade slots 6 (with_capacity i)
  full_elem : {i x : ℕ} → length slots < i → AppliesMade slots 6 (from_elem i x)

-- m's condition holds, and no lower number's does
abbrev pub Lowest : (applies : ℕ → Type 0) → ℕ → Type 0
Lowest applies m = applies m × ((j : ℕ) → j < m → applies j → ⊥)
