-- `plain_end` meets its promise: at each byte the run that is left comes to the same end.
use Rattle.std.proofs.Common.{rules}
use Rattle.record.specs.Scan.{special}
use Rattle.record.proofs.Laws.Runs.{run_turn, run_stop, run_over}
use Rattle.record.proofs.plain_end.Goals as goal

pub loop-i-preserved : goal.loop-i-preserved
loop-i-preserved c = search (run_turn special, rules)

pub returns-then-special : goal.returns-then-special
returns-then-special c = search (run_stop special, rules)

pub returns : goal.returns
returns c = search (run_over special, rules)
