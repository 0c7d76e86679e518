-- The slots written, with what the lines left say, are always what all lines say.
use Rattle.std.proofs.Common.{◌≡◌, true, length, ◌+◌, ◌-◌, ◌*◌, ◌++◌}
use Rattle.std.specs.Prelude.{take, drop}
use Rattle.stored.specs.Judge.{are_lines, numbers}
use Rattle.stored.proofs.readers.take_slots.Given as goal

abbrev pub invariant-loop-i : goal.invariant-loop-i
invariant-loop-i l =
    (are_lines (length l.fn.slots - l.i) (drop (l.from + 9 * l.i) l.text) ≡ true)
    × (take l.i l.slots ++ numbers (length l.fn.slots - l.i) (drop (l.from + 9 * l.i) l.text) ≡ numbers (length l.fn.slots) (drop l.from l.text))
