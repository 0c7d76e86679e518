-- `vector_read` meets its promise: refused, or the state, every slot and the total.
use Rattle.stored.specs.Reads.{VectorRead}
use Rattle.stored.proofs.Taking.{passed_on, vector_turned, len_fits, out_few, vector_done}
use native.Mathlib.Omega.{arith}
use Rattle.stored.proofs.readers.vector_read.Goals as goal

pub returns-in_err-first : goal.returns-in_err-first
returns-in_err-first c = passed_on (λ a. VectorRead c.args.text.now c.args.slots.now a c.take.new.slots) c.from_residual.ensures.1 (vector_turned _ _ _ _ c.in_err-first.ensures)

pub run-total-requires : goal.run-total-requires
run-total-requires c =
    let took = c.in_ok-first.ensures in
    (out_few _ _ _ _ _ took, omega arith, len_fits _ _ _ _ _ took)

pub returns : goal.returns
returns c = vector_done _ _ _ _ c.in_ok-first.ensures _ _ c.run-total.ensures c.done.ensures
