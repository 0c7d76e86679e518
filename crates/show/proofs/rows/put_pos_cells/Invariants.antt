-- What is written, with the cells that are left, is always the whole row.
use Rattle.std.proofs.Common.{◌≡◌, ◌≤◌, ◌+◌, ◌-◌, ◌*◌, length}
use Rattle.words.proofs.Writing.{Left}
use Rattle.show.specs.Rows.{pos_cells}
use Rattle.show.proofs.rows.put_pos_cells.Given as goal

abbrev pub invariant-loop-i : goal.invariant-loop-i
invariant-loop-i l =
    (l.end + 45 * (l.fn.row.last - l.i) ≤ l.at + 360)
    × Left l.fn.out l.at (pos_cells l.w.digits (length l.held.slots.now) l.held.head l.held.len l.fn.row.first (l.fn.row.last - l.fn.row.first)) l.end (pos_cells l.w.digits (length l.held.slots.now) l.held.head l.held.len l.i (l.fn.row.last - l.i)) l.out
