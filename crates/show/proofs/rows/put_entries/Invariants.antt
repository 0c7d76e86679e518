-- What is written, with the cells that are left, is always the whole row.
use Rattle.std.proofs.Common.{◌≡◌, ◌≤◌, ◌+◌, ◌-◌, ◌*◌, length}
use Rattle.words.proofs.Writing.{Left}
use Rattle.show.specs.Rows.{entry_cells, list_in}
use Rattle.show.proofs.rows.put_entries.Given as goal

abbrev pub invariant-loop-j : goal.invariant-loop-j
invariant-loop-j l =
    (l.end + 22 * (l.fn.row.last - l.j) ≤ l.at + 176)
    × Left l.fn.out l.at (entry_cells (list_in l.held.slots.now l.held.head l.held.len) l.fn.row.first (l.fn.row.last - l.fn.row.first)) l.end (entry_cells (list_in l.held.slots.now l.held.head l.held.len) l.j (l.fn.row.last - l.j)) l.out
