-- Reading a record is an event of demand 3 on two vectors: the starts and the ends enter. `judge` and `field_text` have no container.
use Prim.Native.Nat.{ℕ}
use mathlib.Core.Path.{refl}
use contract.Lifetimes.{Lfts}
use denote.Triple.Clauses.{AtExit}
use borrow.Fn.World.{ArgsD, ResD}
use Rattle.slots.specs.Layout.{vector}
use Rattle.table.specs.World.{World, called_two, Ours}
use Rattle.table.proofs.Laws.Named.{Are, ours_called_two}
use Rattle.vector.specs.Seen.{tray}
use Rattle.table.specs.Answers.{numbered}
use Rattle.pairs.specs.Seen.{both, seen2}
use Rattle.record.specs.Recorded.{of_vector, recording}
use Rattle.record.proofs.Laws.Kept.{recording_kept}
use Rattle.record.specs.contracts.read as read·fn
use Rattle.record.proofs.read.Reads as read·reads

-- In what follows a are the arguments, r is the result, and e the arguments as they are at the return.
module _ (w : World) (i j : ℕ) (κs : Lfts 3) where
  pub read_ours : (a : ArgsD read·fn.signature κs) (r : ResD read·fn.signature κs) (e : AtExit read·fn.ended κs)
      → Are w i j vector vector (tray a.1.0 a.1.1.0.now) (tray a.1.1.1.0 a.1.1.1.1.0.now) → read·reads.Learnt κs a r e
      → Ours w (called_two i j (recording a.0.now) (seen2 of_vector of_vector (numbered (both a.1.0 a.1.1.1.0) r) e.1.1.0.now e.1.1.1.1.0.now))
  read_ours a r e are learnt = ours_called_two w i j _ _ _ _ _ _ (recording_kept a.0.now) refl are learnt.row
