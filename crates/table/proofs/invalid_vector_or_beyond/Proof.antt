-- `table::invalid_vector_or_beyond` meets its promise.
use native.Mathlib.Omega.{arith}
use Rattle.slots.specs.Layout.{vector}
use Rattle.table.proofs.Laws.Valid.{vector-facts}
use Rattle.table.proofs.Laws.Stops.{vector-held, stopped, stopped-below}
use Rattle.table.proofs.invalid_vector_or_beyond.Statement.{statement}
use Rattle.table.proofs.invalid_vector_or_beyond.Tie as tie

pub invalid-vector-or-beyond-spec : {M : Type 1} → statement M
invalid-vector-or-beyond-spec =
    tie.close
    (tie.spec (λ c. stopped-below vector _ _ _ _ _ _ (stopped vector _ _ _ _ _ (vector-held _ _ _) (omega arith) (vector-facts _ _)) (omega arith)))
