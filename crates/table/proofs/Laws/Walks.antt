-- A cursor's step or peek where it is done, for a ring and a vector at once: the cursor is in order and within the list.
use mathlib.Core.Path.{◌≡◌}
use mathlib.Core.Bool.{false}
use Prim.Native.Nat.{ℕ, ◌+◌, ◌-◌, ◌≤◌, ◌<◌}
use native.Mathlib.Omega.{arith}
use borrow.Author.Tests.{ne_eqb, lt-leb}
use lib.ListN.{get_or}
use Rattle.slots.specs.Layout.{Kind, place}
use Rattle.table.specs.Tray.{Tray, cap, invalid, Cursor}
use Rattle.table.specs.Calls.{look, step_front, step_back, peek_front, peek_back}
use Rattle.table.specs.Does.{Outcome, does}
use Rattle.table.proofs.Laws.Refusals.{inside}
use Rattle.table.proofs.Laws.Done.{Homed, at}
use Rattle.table.proofs.Laws.Looks.{shows, look_done}

-- s is the slot of the entry shown
module _ (k : Kind) (t : Tray) (o : Outcome) (ok : invalid k t ≡ false) (home : Homed k t) (u : Cursor) (s : ℕ) (ordered : u.front ≤ u.back) (fits : u.back ≤ t.len) where
  pub step_front_done : (u.front ≡ u.back → ⊥) → s ≡ place k (cap t) t.head u.front
      → o ≡ shows t (get_or t.slots s 0) (record { front = u.front + 1; back = u.back }) → o ≡ does k (look (step_front u)) t
  step_front_done some es eo =
      look_done k t o ok home (step_front u) (inside _ _ _ ordered fits, (ne_eqb _ _ some, tt)) (rw (at k t u.front s (omega arith) es) eo)

  pub step_back_done : (u.front ≡ u.back → ⊥) → s ≡ place k (cap t) t.head (u.back - 1)
      → o ≡ shows t (get_or t.slots s 0) (record { front = u.front; back = u.back - 1 }) → o ≡ does k (look (step_back u)) t
  step_back_done some es eo =
      look_done k t o ok home (step_back u) (inside _ _ _ ordered fits, (ne_eqb _ _ some, tt)) (rw (at k t (u.back - 1) s (omega arith) es) eo)

  pub peek_front_done : (i : ℕ) → i < u.back - u.front → s ≡ place k (cap t) t.head (u.front + i)
      → o ≡ shows t (get_or t.slots s 0) u → o ≡ does k (look (peek_front u i)) t
  peek_front_done i more es eo =
      look_done k t o ok home (peek_front u i) (inside _ _ _ ordered fits, (lt-leb _ _ more, tt)) (rw (at k t (u.front + i) s (omega arith) es) eo)

  pub peek_back_done : (i : ℕ) → i < u.back - u.front → s ≡ place k (cap t) t.head (u.back - 1 - i)
      → o ≡ shows t (get_or t.slots s 0) u → o ≡ does k (look (peek_back u i)) t
  peek_back_done i more es eo =
      look_done k t o ok home (peek_back u i) (inside _ _ _ ordered fits, (lt-leb _ _ more, tt)) (rw (at k t (u.back - 1 - i) s (omega arith) es) eo)
