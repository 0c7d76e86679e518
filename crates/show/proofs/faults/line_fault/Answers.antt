-- The line that is found, else its digits counted.
use Rattle.std.proofs.Common.{rules}
use Rattle.show.proofs.Finding.{line_sound, line_digit, line_end_law}
use Rattle.show.proofs.faults.line_fault.Goals as goal

pub returns-then-is_some : goal.returns-then-is_some
returns-then-is_some c = search (line_sound, rules)

pub returns-then-k-n : goal.returns-then-k-n
returns-then-k-n c = search (line_digit, rules)

pub returns : goal.returns
returns c = search (line_end_law, rules)
