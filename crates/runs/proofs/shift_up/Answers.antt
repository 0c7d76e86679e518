-- A run of slots is a run of positions, and past the last slot a second run goes on at slot 0, one step across from the first.
use Rattle.std.proofs.Common.{arith, rules}
use Rattle.slots.proofs.Parted.{up_one, up_two}
use Rattle.runs.proofs.shift_up.Goals as goal
use Rattle.runs.proofs.shift_up.Goals.{then-runs-gt0, else-runs-gt0}

pub returns : goal.returns
returns c =
    elim c.if-runs-gt0.branch [
      | then-runs-gt0 w ↦ up_two _ _ _ _ _ _ _ _ c.requires c.parted-runs.ensures _ w.if-runs-gt0.true w.run_up.ensures (rw w.slots-is at c.run_up-2.ensures)
      | else-runs-gt0 w ↦ up_one _ _ _ _ _ _ _ _ c.requires c.parted-runs.ensures (omega (arith, w.if-runs-gt0.false)) (rw w.slots-is at c.run_up-2.ensures)
    ]
