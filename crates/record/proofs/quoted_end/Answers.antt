-- `quoted_end` meets its promise: at each quote the body that is left comes to the same end.
use Rattle.std.proofs.Common.{rules}
use Rattle.record.proofs.Laws.Runs.{quoted_first, quoted_again, quoted_stop}
use Rattle.record.proofs.quoted_end.Goals as goal

pub loop-i-init : goal.loop-i-init
loop-i-init c = search (quoted_first, rules)

pub loop-i-preserved : goal.loop-i-preserved
loop-i-preserved c = search (quoted_again, rules)

pub returns : goal.returns
returns c = quoted_stop c.args.text.now c.loop-i.i _ c.loop-i.invariant c.stands.result c.stands.ensures c.loop-i-test.false
