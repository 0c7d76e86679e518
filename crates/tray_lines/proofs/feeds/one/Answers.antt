-- A byte that is no LF is kept.
use Rattle.std.proofs.Common.{rules}
use Rattle.tray_lines.proofs.Fed.{step_byte}
use Rattle.tray_lines.proofs.feeds.one.Goals as goal

pub returns : goal.returns
returns c = search (step_byte, rules)
