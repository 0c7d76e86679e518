-- What is written, with the cells that are left, is always the whole row.
use Rattle.std.proofs.Common.{◌≡◌, ◌≤◌, ◌+◌, ◌-◌, ◌*◌, length}
use Rattle.words.proofs.Writing.{Left}
use Rattle.show.specs.Rows.{slot_cells}
use Rattle.show.proofs.rows.put_slot_cells.Given as goal

abbrev pub invariant-loop-i : goal.invariant-loop-i
invariant-loop-i l =
    (l.end + 45 * (l.fn.row.last - l.i) ≤ l.at + 360)
    × Left l.fn.out l.at (slot_cells l.w.digits l.fn.row.first (l.fn.row.last - l.fn.row.first)) l.end (slot_cells l.w.digits l.i (l.fn.row.last - l.i)) l.out
