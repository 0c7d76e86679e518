-- `put_shown` meets its promise: the bytes up to here are written; no byte takes more than four.
use Prim.Native.Nat.{◌+◌, ◌*◌, ◌≤◌}
use lib.ListN.{take}
use Rattle.words.specs.Wrote.{Wrote}
use Rattle.import.specs.Lines.{all_shown}
use Rattle.import.proofs.prints.put_shown.Given as goal

abbrev pub invariant-loop-b : goal.invariant-loop-b
invariant-loop-b l = Wrote l.initial.out l.at (all_shown (take l.b-index l.part)) l.end l.out × (l.end ≤ l.at + 4 * l.b-index)
