-- `table::invalid_ring_or_full` meets its promise.
use native.Mathlib.Omega.{arith}
use Rattle.slots.specs.Layout.{ring}
use Rattle.table.proofs.Laws.Valid.{ring_facts}
use Rattle.table.proofs.Laws.Stops.{ring_roomy, stopped, stopped_below}
use Rattle.table.proofs.invalid_ring_or_full.Statement.{statement}
use Rattle.table.proofs.invalid_ring_or_full.Tie as tie

pub invalid_ring_or_full_spec : {M : Type 1} → statement M
invalid_ring_or_full_spec =
    tie.close
    (tie.spec (λ c. stopped_below ring _ _ _ _ _ _ (stopped ring _ _ _ _ _ (ring_roomy _ _ _) (omega arith) (ring_facts _ _ _)) (omega arith)))
