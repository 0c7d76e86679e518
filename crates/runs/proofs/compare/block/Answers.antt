-- Nothing was compared at first; each turn compares one number more.
use Rattle.std.proofs.Common.{rules}
use Rattle.slots.proofs.Compares.{block_none, block_more, block_all}
use Rattle.runs.proofs.compare.block.Goals as goal

pub loop-j-init : goal.loop-j-init
loop-j-init g c = search (block_none, rules)

pub loop-j-preserved : goal.loop-j-preserved
loop-j-preserved g c = search (block_more, rules)

pub returns : goal.returns
returns g c = search (block_all, rules)
