-- What is done to the part that is lent is done to the slots.
use Rattle.std.proofs.Common.{rules}
use Rattle.slots.proofs.Parts.{fill_back}
use Rattle.slots.proofs.Totals.{sum_run}
use Rattle.runs.proofs.clear.run_clear.Goals as goal

pub returns : goal.returns
returns c = (search sum_run, search fill_back, search rules)
