-- The slot that a call reports (request 10), a column beside its row: where the entry stands that it put in, read or wrote, or where the one stood that it
-- took out. The column names a position, never a slot; the placing turns the one into the other.
use Rattle.std.specs.Prelude.{ℕ, ◌-◌, cond, eqb}
use Rattle.slots.specs.Layout.{Kind, place}
use Rattle.table.specs.Tray.{Tray, cap}
use Rattle.table.specs.Calls.{Look, len, is_empty, read, reserve, try_reserve, try_reserve_exact, range, iter, into_iter, step_front, step_back, peek_front, peek_back}
use Rattle.table.specs.Calls.{Call, push, push_front, pop, pop_front, insert, remove, swap_remove, write, truncate, resize, clear, extend, look}
use Rattle.table.specs.Does.{Outcome, does}

-- the entry concerned stands at position p afterwards, or stood at position p before; or there is none
pub data Concerned : Type 0 where
  stands_at stood_at : (p : ℕ) → Concerned
  no_entry : Concerned

abbrev pub concerned_look : Look → Concerned
concerned_look (read i) = stands_at i
concerned_look len = no_entry
concerned_look is_empty = no_entry
concerned_look (reserve k) = no_entry
concerned_look (try_reserve k) = no_entry
concerned_look (try_reserve_exact k) = no_entry
concerned_look (range a b) = no_entry
concerned_look iter = no_entry
concerned_look into_iter = no_entry
concerned_look (step_front u) = no_entry
concerned_look (step_back u) = no_entry
concerned_look (peek_front u k) = no_entry
concerned_look (peek_back u k) = no_entry

-- THE COLUMN, where n is the length before the call. The calls on two and the makings have no such entry.
abbrev pub concerned : (n : ℕ) → Call → Concerned
concerned n (push x) = stands_at n
concerned n (push_front x) = stands_at 0
concerned n (insert i x) = stands_at i
concerned n (write i x) = stands_at i
concerned n pop = stood_at (n - 1)
concerned n pop_front = stood_at 0
concerned n (remove i) = stood_at i
concerned n (swap_remove i) = stood_at i
concerned n (truncate k) = no_entry
concerned n (resize k x) = no_entry
concerned n clear = no_entry
concerned n (extend s) = no_entry
concerned n (look q) = concerned_look q

-- what is reported where there is none, and on a refusal
abbrev pub no_slot : ℕ
no_slot = 65535

-- the entry's slot, of c slots: the head was h, and is h'
abbrev pub slot_for : Kind → (c h h' : ℕ) → Concerned → ℕ
slot_for k c h h' (stands_at p) = place k c h' p
slot_for k c h h' (stood_at p) = place k c h p
slot_for k c h h' no_entry = no_slot

-- as an outcome of the call tells it
abbrev pub told_slot : Kind → Call → Tray → Outcome → ℕ
told_slot k call t o = cond (eqb o.number 0) (slot_for k (cap t) t.head o.tray.head (concerned t.len call)) no_slot

-- The slot that a call on one container reports.
unfoldable pub reported : Kind → Call → Tray → ℕ
reported k call t = told_slot k call t (does k call t)
