-- What is put, with the lines that are left put after it, is always the whole.
use Rattle.std.proofs.Common.{◌≡◌, ◌+◌, ◌*◌}
use Rattle.std.specs.Prelude.{drop}
use Rattle.digits.specs.Put.{put}
use Rattle.stored.specs.Form.{slot_lines}
use Rattle.stored.proofs.put_slots.Given as goal

abbrev pub invariant-loop-i : goal.invariant-loop-i
invariant-loop-i l = put l.text (l.from + 9 * l.i) (slot_lines (drop l.i l.slots)) ≡ put l.fn.text l.from (slot_lines l.slots)
