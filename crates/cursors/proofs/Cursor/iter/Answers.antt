-- `Cursor::iter` meets its promise: a cursor over all entries, or the refusal.
use mathlib.Core.Path.{refl, sym, ◌∙◌}
use Rattle.table.specs.Calls.{iter}
use Rattle.cursors.proofs.Told.{is_invalid, is_done}
use Rattle.cursors.proofs.Cursor.iter.Goals as goal

pub returns-then-is_invalid : goal.returns-then-is_invalid
returns-then-is_invalid g c = is_invalid _ _ _ iter refl (sym c.is_invalid.ensures.is ∙ c.if-is_invalid.true)

pub returns : goal.returns
returns g c = is_done _ _ _ iter refl _ _ _ (sym c.is_invalid.ensures.is ∙ c.if-is_invalid.false) (g.met.C.Container.headed c.args.over) tt c.telling.ensures refl cc
