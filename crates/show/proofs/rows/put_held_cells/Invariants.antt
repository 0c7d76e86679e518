-- What is written, with the cells that are left, is always the whole row.
use Rattle.std.proofs.Common.{◌≡◌, ◌≤◌, ◌+◌, ◌-◌, ◌*◌, length}
use Rattle.words.proofs.Writing.{Left}
use Rattle.show.specs.Rows.{held_cells}
use Rattle.show.proofs.rows.put_held_cells.Given as goal

abbrev pub invariant-loop-x : goal.invariant-loop-x
invariant-loop-x l =
    (l.end + 45 * (l.fn.row.last - (l.fn.row.first + l.x-index)) ≤ l.at + 360)
    × Left l.fn.out l.at (held_cells l.w.digits l.slots l.fn.row.first (l.fn.row.last - l.fn.row.first)) l.end (held_cells l.w.digits l.slots (l.fn.row.first + l.x-index) (l.fn.row.last - (l.fn.row.first + l.x-index))) l.out
