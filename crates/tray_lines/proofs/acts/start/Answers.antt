-- Four makings, one after another.
use Rattle.std.proofs.Common.{rules}
use Rattle.tray_lines.proofs.Doing.{four_made}
use Rattle.tray_lines.proofs.acts.start.Goals as goal

pub returns : goal.returns
returns c = search (four_made, rules)
