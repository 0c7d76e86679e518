-- A part of the slots is lent, laid and added up.
use Rattle.slots.proofs.Totals.{sum_run}
use Rattle.slots.proofs.Brings.{bring_run}
use Rattle.runs.proofs.bring.bring_run.Goals as goal

pub returns : goal.returns
returns c = (search bring_run, search sum_run)
