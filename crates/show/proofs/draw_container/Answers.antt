-- The text has a first line.
use native.Mathlib.Omega.{arith}
use Rattle.show.proofs.Holding.{drawn_line}
use Rattle.show.proofs.draw_container.Goals as goal

pub field_at-was-requires : goal.field_at-was-requires
field_at-was-requires g c = (drawn_line _ _ _ c.requires, omega arith)
