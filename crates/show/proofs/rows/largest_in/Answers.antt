-- The largest so far, with what is left, is always the largest of all.
use Rattle.std.proofs.Common.{rules}
use Rattle.show.proofs.Drawn.{largest_turn, largest_end}
use Rattle.show.proofs.rows.largest_in.Goals as goal

pub loop-x-preserved : goal.loop-x-preserved
loop-x-preserved c = search (largest_turn, rules)

pub returns : goal.returns
returns c = search (largest_end, rules)
