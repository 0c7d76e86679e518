-- The slot that an answer reports (request 10), from the promise of the call that gave it: it is a slot of the vector and holds the entry that the call is about,
-- or held it; it is reported by the calls that request 10 names, done, and by no other.
use mathlib.Core.List.{List}
use Prim.Native.Nat.{ℕ}
use Rattle.std.proofs.Common.{Result}
use Rattle.table.specs.Answers.{numbered}
use Rattle.table.specs.declared.answers.Answer.{Answer}
use Rattle.table.specs.declared.answers.Refusal.{Refusal}
use Rattle.slots.specs.Layout.{vector}
use Rattle.table.specs.Calls.{Call}
use Rattle.table.proofs.Theorems.Reported.{Lit, lit_as_promised}
use Rattle.vector.specs.declared.Vector.{Vector}
use Rattle.vector.specs.Seen.{tray, seen, Meets}

pub lamp : (call : Call) (v : Vector) (before after : List ℕ) (a : Result (Answer Vector) Refusal) → Meets call v before a after → Lit vector call (tray v before) (seen (numbered v a) after) (numbered v a).slot
lamp call v before after a m = lit_as_promised vector call _ _ _ m.row m.slot
