-- One byte more, and the whole run.
use Rattle.std.proofs.Common.{rules}
use Rattle.tray_lines.proofs.Fed.{step_at, feed_turn, feed_end}
use Rattle.tray_lines.proofs.feeds.feed_all.Goals as goal

pub loop-b-preserved : goal.loop-b-preserved
loop-b-preserved c = search (step_at, feed_turn, rules)

pub returns : goal.returns
returns c = search (feed_end, rules)
