-- `table::invalid_vector_or_full` meets its promise.
use native.Mathlib.Omega.{arith}
use Rattle.slots.specs.Layout.{vector}
use Rattle.table.proofs.Laws.Valid.{vector_facts}
use Rattle.table.proofs.Laws.Stops.{vector_roomy, stopped, stopped_below}
use Rattle.table.proofs.invalid_vector_or_full.Statement.{statement}
use Rattle.table.proofs.invalid_vector_or_full.Tie as tie

pub invalid_vector_or_full_spec : {M : Type 1} → statement M
invalid_vector_or_full_spec =
    tie.close
    (tie.spec (λ c. stopped_below vector _ _ _ _ _ _ (stopped vector _ _ _ _ _ (vector_roomy _ _) (omega arith) (vector_facts _ _)) (omega arith)))
