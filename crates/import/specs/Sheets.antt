-- What is counted over the records, and what a record adds. That nothing is counted more often than bytes were passed, so that every count fits, each
-- Sheet says by itself; that what is held or collected is within its room, each Window and each Page.
use Rattle.std.specs.Prelude.{ℕ, ◌+◌, ◌-◌, ◌≤◌, ◌<◌, ◌≡◌, cond, List, Option, Some, None, Result, Ok, Err, eqb, length, take}
use Rattle.record.specs.Undone.{undone, part}
use Rattle.import.specs.declared.counts.Spot.{Spot}
use Rattle.import.specs.declared.counts.Sheet.{Sheet}
use Rattle.import.specs.declared.Ending.{Ending}
use Rattle.import.specs.Lines.{field_line}
use Rattle.words.specs.Wrote.{Wrote}

-- one record more, of k fields
pub record Counted (s : Sheet) (k next : ℕ) (behind : Spot) (r : Sheet) : Type 0 where
  pub passed : r.passed ≡ s.passed + next
  pub spot : r.spot ≡ behind
  pub records : r.records ≡ s.records + 1
  pub first : r.first ≡ cond (eqb s.records 0) k s.first
  pub others : r.others ≡ cond (eqb k r.first) s.others (s.others + 1)

-- how many bytes are done with, of a text on which this was the answer
abbrev pub done_of : Result (Option ℕ) Ending → ℕ
done_of (Ok (Some next)) = next
done_of (Ok None) = 0
done_of (Err e) = 0

-- a record taken from a text of so many bytes: what is done with is counted, and no more than there is; a record has bytes
pub record Took (s : Sheet) (text : ℕ) (r : Result (Option ℕ) Ending) (s' : Sheet) : Type 0 where
  pub within : done_of r ≤ text
  pub passed : s'.passed ≡ s.passed + done_of r
  pub some : (next : ℕ) → r ≡ Ok (Some next) → 0 < next

-- a field's text is no longer than the lent bytes, and is the field's own bytes, if the field is of the text and they fit
pub record OwnText (text : List ℕ) (start end room n : ℕ) (field : List ℕ) : Type 0 where
  pub fits : n ≤ length field
  pub own : length text ≤ 65535 → start ≤ end → end ≤ length text → length (undone (part text start end)) ≤ room → take n field ≡ undone (part text start end)

-- a field's line is put behind what is collected, or first once that is written; it is that of the field's own bytes, if the field is of the text
pub record Says (text : List ℕ) (start end : ℕ) (out : List ℕ) (end' : ℕ) (out' : List ℕ) : Type 0 where
  pub at : ℕ
  pub wrote : length text ≤ 65535 → start ≤ end → end ≤ length text → length (undone (part text start end)) ≤ 65535
      → Wrote out at (field_line (undone (part text start end))) end' out'

-- records taken from a window of so many bytes, from a place on: next is where the rest begins
pub record Went (s : Sheet) (from window : ℕ) (r : Result ℕ Ending) (s' : Sheet) : Type 0 where
  pub next : ℕ
  pub answered : (n : ℕ) → r ≡ Ok n → n ≡ next
  pub more : from ≤ next
  pub within : next ≤ window
  pub passed : s'.passed + from ≡ s.passed + next

-- at the start: nothing is counted but a mark's bytes
pub record Started (mark : ℕ) (r : Sheet) : Type 0 where
  pub passed : r.passed ≡ mark
  pub records : r.records ≡ 0
  pub others : r.others ≡ 0

pub record Begun (from : ℕ) (r : Sheet) : Type 0 where
  pub next : from ≡ r.passed
  pub passed : r.passed ≤ 3

-- a turn: bytes are passed, or it ends. from is where the rest begins. However it ends, no byte that was passed is forgotten
abbrev pub left : (s : Sheet) (from : ℕ) → ℕ
left s from = 18446744073709551616 - s.passed + from

pub record Turned (s : Sheet) (from : ℕ) (r : Result Unit Ending) (s' : Sheet) (from' : ℕ) : Type 0 where
  pub few : s'.passed ≤ s.passed + 65536
  pub less : r ≡ Ok tt → left s' from' < left s from
  pub kept : left s' from' ≤ left s from
