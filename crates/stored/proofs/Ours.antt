-- Each writer is an event of demand 3: it is one of our calls, and leaves every container as it was.
use Prim.Native.Nat.{ℕ}
use mathlib.Core.Path.{◌≡◌, refl, ap}
use mathlib.Core.List.{List}
use contract.Lifetimes.{Lfts}
use denote.Triple.Clauses.{AtExit}
use borrow.Fn.World.{ArgsD, ResD}
use Rattle.slots.specs.Layout.{Kind, ring, vector}
use Rattle.table.specs.Tray.{Tray, cap}
use Rattle.table.specs.Answers.{numbered}
use Rattle.table.specs.Promise.{Kept}
use Rattle.table.specs.World.{World, called, Ours}
use Rattle.table.proofs.Laws.Refusals.{either}
use Rattle.table.proofs.Laws.Keeps.{showing_kept}
use Rattle.table.proofs.Laws.Named.{Is, ours_called}
use Rattle.table.proofs.Theorems.AlwaysHome.{Homes, showing_homes}
use Rattle.table.proofs.Theorems.Capacity.{Sized, showing_sized}
use Rattle.digits.specs.Put.{put}
use Rattle.ring.specs.Seen as rings
use Rattle.vector.specs.Seen as vectors
use Rattle.stored.specs.Form.{form, size}
use Rattle.stored.specs.Written.{Written, refusals_text, writes}
use Rattle.stored.specs.Storing.{storing}
use Rattle.stored.proofs.Writes.{refusing, telling}
use Rattle.stored.specs.contracts.ring_text as ring_text·fn
use Rattle.stored.proofs.ring_text.Reads as ring_text·reads
use Rattle.stored.specs.contracts.vector_text as vector_text·fn
use Rattle.stored.proofs.vector_text.Reads as vector_text·reads

pub as_it_was : (k : Kind) (t : Tray) (text : List ℕ) → (writes k t text).outcome.tray ≡ t
unfolding writes
as_it_was k t text =
    either (λ (w : Written). w.outcome.tray ≡ t) (λ m. refusing t m text) (refusals_text k t text) (telling t (size (cap t)) (put text 0 (form k t)))
    (λ r. refl) (λ clear. refl)

pub storing_kept : (text : List ℕ) → Kept (storing text)
storing_kept text = showing_kept _ _ (λ k t. as_it_was k t text)

-- an empty ring's head stays 0
pub storing_homes : (text : List ℕ) → Homes (storing text)
storing_homes text = showing_homes _ _ (λ k t. as_it_was k t text)

-- and the slots are as many
pub storing_sized : (text : List ℕ) → Sized (storing text)
storing_sized text = showing_sized _ _ (λ k t. as_it_was k t text)

-- In what follows a are the arguments, r is the result, and e the arguments as they are at the return.
module _ (w : World) (i : ℕ) (κs : Lfts 2) where
  pub ring_text_ours : (a : ArgsD ring_text·fn.signature κs) (r : ResD ring_text·fn.signature κs) (e : AtExit ring_text·fn.ended κs)
      → Is w i ring (rings.tray a.0 a.1.0.now) → ring_text·reads.Learnt κs a r e
      → Ours w (called i (storing a.1.1.0.now) (rings.seen (numbered a.0 r) a.1.0.now))
  ring_text_ours a r e is learnt = ours_called w i ring _ _ _ (storing_kept _) refl is (ap (λ (w : Written). w.outcome) learnt.row)

  pub vector_text_ours : (a : ArgsD vector_text·fn.signature κs) (r : ResD vector_text·fn.signature κs) (e : AtExit vector_text·fn.ended κs)
      → Is w i vector (vectors.tray a.0 a.1.0.now) → vector_text·reads.Learnt κs a r e
      → Ours w (called i (storing a.1.1.0.now) (vectors.seen (numbered a.0 r) a.1.0.now))
  vector_text_ours a r e is learnt = ours_called w i vector _ _ _ (storing_kept _) refl is (ap (λ (w : Written). w.outcome) learnt.row)
