-- At each turn the two sums are those of the numbers so far, whose slots hold 0.
use Rattle.std.proofs.Common.{◌≡◌, ◌*◌, ◌%◌, ◌^◌, ◌≤◌, take}
use Rattle.slots.specs.Layout.{itself}
use Rattle.slots.specs.Shift.{Filled}
use Rattle.slots.specs.Total.{total}
use Rattle.slots.proofs.Halves.{highs}
use Rattle.runs.proofs.clear.clean.Given as goal

abbrev pub invariant-loop-slot : goal.invariant-loop-slot
invariant-loop-slot l = record {
  sums : l.halves.sum ≡ total (take l.slot-index l.fn.part) % 2 ^ 32;
  highs : l.halves.high ≡ highs (take l.slot-index l.fn.part);
  small : l.halves.high ≤ 65536 * l.slot-index;
  filled : Filled itself 0 l.slot-index 0 l.fn.part l.part;
}
