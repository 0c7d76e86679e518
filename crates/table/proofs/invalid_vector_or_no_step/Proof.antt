-- `table::invalid_vector_or_no_step` meets its promise.
use native.Mathlib.Omega.{arith}
use Rattle.slots.specs.Layout.{vector}
use Rattle.table.proofs.Laws.Valid.{vector_facts}
use Rattle.table.proofs.Laws.Stops.{vector_held, stopped, stopped_step}
use Rattle.table.proofs.invalid_vector_or_no_step.Statement.{statement}
use Rattle.table.proofs.invalid_vector_or_no_step.Tie as tie

pub invalid_vector_or_no_step_spec : {M : Type 1} → statement M
invalid_vector_or_no_step_spec =
    tie.close
    (tie.spec (λ c. stopped_step vector _ _ _ _ _ _ (stopped vector _ _ _ _ _ (vector_held _ _ _) (omega arith) (vector_facts _ _)) (omega arith)))
