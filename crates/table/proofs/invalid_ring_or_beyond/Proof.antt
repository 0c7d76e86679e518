-- `table::invalid_ring_or_beyond` meets its promise.
use native.Mathlib.Omega.{arith}
use Rattle.slots.specs.Layout.{ring}
use Rattle.table.proofs.Laws.Valid.{ring_facts}
use Rattle.table.proofs.Laws.Stops.{ring_lacks, stopped, stopped_below}
use Rattle.table.proofs.invalid_ring_or_beyond.Statement.{statement}
use Rattle.table.proofs.invalid_ring_or_beyond.Tie as tie

pub invalid_ring_or_beyond_spec : {M : Type 1} → statement M
invalid_ring_or_beyond_spec =
    tie.close
    (tie.spec (λ c. stopped_below ring _ _ _ _ _ _ (stopped ring _ _ _ _ _ (ring_lacks _ _ _ _) (omega arith) (ring_facts _ _ _)) (omega arith)))
