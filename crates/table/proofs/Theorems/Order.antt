-- "The first that applies, from the lowest number up": in every row the refusals stand in the order of their numbers, those of the
-- state before them.
use mathlib.Core.Path.{◌≡◌, refl}
use mathlib.Core.Bool.{Bool, true, ◌&&◌}
use mathlib.Core.List.{List, [], ◌∷◌}
use Prim.Native.Nat.{ℕ}
use lib.Dec.{leb}
use Rattle.table.specs.Calls.{Look, len, is_empty, read, reserve, try_reserve, try_reserve_exact, range, iter, into_iter, step_front, step_back, peek_front, peek_back}
use Rattle.table.specs.Calls.{Call, push, push_front, pop, pop_front, insert, remove, swap_remove, write, truncate, resize, clear, extend, look}
use Rattle.table.specs.Calls.{Call2, append, split_off, clone, from_iter, same, Making, new, with_capacity, from_elem}
use Rattle.table.specs.Table.{Refusal, number_of, row, look_row, row2, makes}

-- no number of the list is below m, nor below one before it
abbrev pub rising : (m : ℕ) → List (Bool × Refusal) → Bool
rising m [] = true
rising m (r ∷ rest) = leb m (number_of r.1) && rising (number_of r.1) rest

pub look_rising : (c n : ℕ) (l : List ℕ) (k : Look) → rising 1 (look_row c n l k).refusals ≡ true
look_rising c n l len = refl
look_rising c n l is_empty = refl
look_rising c n l (read i) = refl
look_rising c n l (reserve k) = refl
look_rising c n l (try_reserve k) = refl
look_rising c n l (try_reserve_exact k) = refl
look_rising c n l (range a b) = refl
look_rising c n l iter = refl
look_rising c n l into_iter = refl
look_rising c n l (step_front u) = refl
look_rising c n l (step_back u) = refl
look_rising c n l (peek_front u k) = refl
look_rising c n l (peek_back u k) = refl

pub row_rising : (c h n : ℕ) (l : List ℕ) (call : Call) → rising 1 (row c h n l call).refusals ≡ true
row_rising c h n l (push x) = refl
row_rising c h n l (push_front x) = refl
row_rising c h n l pop = refl
row_rising c h n l pop_front = refl
row_rising c h n l (insert i x) = refl
row_rising c h n l (remove i) = refl
row_rising c h n l (swap_remove i) = refl
row_rising c h n l (write i x) = refl
row_rising c h n l (truncate k) = refl
row_rising c h n l (resize k x) = refl
row_rising c h n l clear = refl
row_rising c h n l (extend s) = refl
row_rising c h n l (look k) = look_rising c n l k

pub made_rising : (c : ℕ) (m : Making) → rising 1 (makes c m).refusals ≡ true
made_rising c new = refl
made_rising c (with_capacity k) = refl
made_rising c (from_elem k x) = refl

pub row2_rising : (c h n : ℕ) (l : List ℕ) (c2 h2 n2 : ℕ) (l2 : List ℕ) (call : Call2) → rising 2 (row2 c h n l c2 h2 n2 l2 call).refusals ≡ true
row2_rising c h n l c2 h2 n2 l2 append = refl
row2_rising c h n l c2 h2 n2 l2 (split_off at) = refl
row2_rising c h n l c2 h2 n2 l2 clone = refl
row2_rising c h n l c2 h2 n2 l2 (from_iter u) = refl
row2_rising c h n l c2 h2 n2 l2 same = refl
