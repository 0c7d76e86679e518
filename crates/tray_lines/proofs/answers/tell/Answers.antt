-- What the line says decides.
use Rattle.std.proofs.Common.{rules}
use Rattle.tray_lines.proofs.Answered.{tell_call, tell_none}
use Rattle.tray_lines.proofs.answers.tell.Goals as goal

pub returns-in-Ok : goal.returns-in-Ok
returns-in-Ok c = search (tell_call, rules)

pub returns-in-Err : goal.returns-in-Err
returns-in-Err c = search (tell_none, rules)
