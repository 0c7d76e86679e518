-- The largest so far, with what is left, is always the largest of all.
use Rattle.std.proofs.Common.{◌≡◌, ◌-◌, length, drop}
use Rattle.show.specs.Rows.{largest}
use Rattle.show.proofs.rows.largest_in.Given as goal

abbrev pub invariant-loop-x : goal.invariant-loop-x
invariant-loop-x l = largest l.largest (drop l.x-index l.slots) ≡ largest (length l.slots - 1) l.slots
