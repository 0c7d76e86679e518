-- At each turn the first k numbers are laid and added up.
use Rattle.std.proofs.Common.{◌≡◌, ◌*◌, ◌^◌, ◌≤◌, length, take}
use Rattle.slots.specs.Layout.{itself}
use Rattle.slots.specs.Copy.{Laid}
use Rattle.slots.specs.Total.{total}
use Rattle.runs.proofs.bring.few.Given as goal

abbrev pub invariant-loop-k : goal.invariant-loop-k
invariant-loop-k l = record {
  laid : Laid itself l.at l.k l.part l.fn.slots l.slots;
  added : l.sum ≡ total (take l.k l.part);
  small : l.sum ≤ 2 ^ 32 * l.k;
}
