-- `Vector::swap_remove` meets its promise: the last entry goes to slot i, unless it is the one removed, a law for each.
use native.Mathlib.Omega.{arith}
use lib.ListN.{length-set}
use Rattle.table.specs.Does.{does}
use Rattle.table.proofs.Laws.Shifted.{swap_done}
use Rattle.table.proofs.Laws.VectorDone.{vector_swap_last_done}
use Rattle.vector.proofs.Told.{passed_on, refusals, shown_lit}
use Rattle.vector.proofs.Vector.swap_remove.Goals as goal

pub returns-in_err-holding : goal.returns-in_err-holding
returns-in_err-holding c = passed_on c.from_residual.ensures.1 (search (refusals, c.in_err-holding.ensures))

pub returns-then-i-last : goal.returns-then-i-last
unfolding does
returns-then-i-last c = search (vector_swap_last_done, shown_lit, c.in_ok-holding.ensures)

pub returns : goal.returns
unfolding does
returns c = search (swap_done, shown_lit, c.in_ok-holding.ensures)

pub bounds-slots-last-3 : goal.bounds-slots-last-3
bounds-slots-last-3 c = simp length-set (omega (arith, c.in_ok-holding.ensures))
