-- `table::invalid_ring_or_no_step` meets its promise.
use native.Mathlib.Omega.{arith}
use Rattle.slots.specs.Layout.{ring}
use Rattle.table.proofs.Laws.Valid.{ring_facts}
use Rattle.table.proofs.Laws.Stops.{ring_rests, stopped, stopped_step}
use Rattle.table.proofs.invalid_ring_or_no_step.Statement.{statement}
use Rattle.table.proofs.invalid_ring_or_no_step.Tie as tie

pub invalid_ring_or_no_step_spec : {M : Type 1} → statement M
invalid_ring_or_no_step_spec =
    tie.close
    (tie.spec (λ c. stopped_step ring _ _ _ _ _ _ (stopped ring _ _ _ _ _ (ring_rests _ _ _ c.args.front c.args.back) (omega arith) (ring_facts _ _ _)) (omega arith)))
