-- Whether the lines that are left are lines is always whether all are.
use Rattle.std.proofs.Common.{◌≡◌, ◌-◌, drop}
use Rattle.stored.specs.Judge.{are_lines}
use Rattle.stored.proofs.judges.are_lines.Given as goal

abbrev pub invariant-loop-slot : goal.invariant-loop-slot
invariant-loop-slot l = (l.lines.text ≡ l.initial.lines.text) × (are_lines (l.count - l._slot) (drop l.lines.at l.lines.text.now) ≡ are_lines l.count (drop l.from l.text))
