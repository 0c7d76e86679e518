-- `Cursor::into_iter` meets its promise: its row is that of `iter`.
use Rattle.cursors.proofs.Cursor.into_iter.Goals as goal

pub returns : goal.returns
unfolding Rattle.table.specs.Does.does
returns g c = record { row = c.iter.ensures.row; slot = c.iter.ensures.slot }
