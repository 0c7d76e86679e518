-- What a vector's part calls lend: which slots, and so which entries. A part bears no number; the question `range` answers for the same state
-- and range.
use Rattle.std.specs.Prelude.{ℕ, ◌-◌, cond, not, ◌||◌, List, take, drop}
use Rattle.slots.specs.Layout.{vector}
use Rattle.table.specs.Tray.{Tray, invalid, within}

-- a run of slots: its first, and how many
pub record Part : Type 0 where
  pub start : ℕ
  pub count : ℕ

-- the empty part at slot 0
abbrev pub no_part : Part
no_part = record { start = 0; count = 0 }

-- the slots of positions a to b; an invalid state, or a range without a ≤ b ≤ n, gives the empty part at slot 0
abbrev pub lends : (a b : ℕ) → Tray → Part
lends a b t = cond (invalid vector t || not (within a b t.len)) no_part (record { start = a; count = b - a })

-- as_slice, as_ref, deref, as_mut_slice and deref_mut lend all entries
abbrev pub lends_all : Tray → Part
lends_all t = lends 0 t.len t

-- what stands in a part of the slots
abbrev pub in_part : Part → List ℕ → List ℕ
in_part p slots = take p.count (drop p.start slots)
