-- At each turn the first k numbers are laid, and the two sums are theirs.
use Rattle.std.proofs.Common.{◌≡◌, ◌*◌, ◌%◌, ◌^◌, ◌≤◌, length, take}
use Rattle.slots.specs.Layout.{itself}
use Rattle.slots.specs.Copy.{Laid}
use Rattle.slots.specs.Total.{total}
use Rattle.slots.proofs.Halves.{highs}
use Rattle.runs.proofs.bring.many.Given as goal

abbrev pub invariant-loop-k : goal.invariant-loop-k
invariant-loop-k l = record {
  laid : Laid itself l.at l.k l.part l.fn.slots l.slots;
  sums : l.halves.sum ≡ total (take l.k l.part) % 2 ^ 32;
  highs : l.halves.high ≡ highs (take l.k l.part);
  small : l.halves.high ≤ 65536 * l.k;
}
