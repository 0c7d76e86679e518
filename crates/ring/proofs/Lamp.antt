-- The slot that an answer reports (request 10), from the promise of the call that gave it: it is a slot of the ring and holds the entry that the call is about,
-- or held it; it is reported by the calls that request 10 names, done, and by no other.
use mathlib.Core.List.{List}
use Prim.Native.Nat.{ℕ}
use Rattle.slots.specs.Layout.{ring}
use Rattle.table.specs.Answers.{numbered}
use Rattle.table.specs.Calls.{Call}
use Rattle.table.proofs.Theorems.Reported.{Lit, lit_as_promised}
use Rattle.ring.specs.declared.Ring.{Ring}
use Rattle.ring.specs.Seen.{tray, seen, Meets, Answered}

pub lamp : (call : Call) (r : Ring) (before after : List ℕ) (a : Answered) → Meets call r before a after
    → Lit ring call (tray r before) (seen (numbered r a) after) (numbered r a).slot
lamp call r before after a m = lit_as_promised ring call _ _ _ m.row m.slot
