-- The totals of an answer on two containers (request 04), from the promise of the call that gave it: where each was the sum of its entries, each is.
use Prim.Native.Nat.{ℕ, ◌^◌, ◌<◌}
use mathlib.Core.Path.{◌≡◌}
use mathlib.Core.List.{List}
use Rattle.std.specs.Prelude.{Result}
use Rattle.slots.specs.Layout.{ring, vector}
use Rattle.slots.specs.Total.{total}
use Rattle.table.specs.Tray.{list}
use Rattle.table.specs.Calls.{Call2}
use Rattle.table.specs.Answers.{numbered}
use Rattle.table.specs.declared.answers.Answer.{Answer}
use Rattle.table.specs.declared.answers.Both.{Both}
use Rattle.table.specs.declared.answers.Refusal.{Refusal}
use Rattle.table.proofs.Theorems.Sums.{first_sum, second_sum}
use Rattle.ring.specs.declared.Ring.{Ring}
use Rattle.ring.specs.Seen as rings
use Rattle.vector.specs.declared.Vector.{Vector}
use Rattle.vector.specs.Seen as vectors
use Rattle.containers.specs.Reading.{Reading, tray_by}
use Rattle.containers.specs.contracts.RingContainer.TheImpl as as_ring
use Rattle.containers.specs.contracts.VectorContainer.TheImpl as as_vector
use Rattle.pairs.specs.Seen.{both, seen2, Meets}

-- of any two containers: v and s are the one named first and its slots, w and z are T and its slots, with a prime afterwards
module _ {A B : Type 0} (of : Reading A) (of2 : Reading B) (call : Call2) (v : A) (w : B) (s z s' z' : List ℕ) (a : Result (Answer (Both A B)) Refusal)
    (m : Meets of of2 call v s w z a s' z') where
  pub first_right : of.sum v ≡ total (list of.kind (tray_by of v s)) → total (list of.kind (tray_by of (numbered (both v w) a).state.first s')) < 2 ^ 64
      → of.sum (numbered (both v w) a).state.first ≡ total (list of.kind (tray_by of (numbered (both v w) a).state.first s'))
  first_right = first_sum of.kind of2.kind call _ _ (seen2 of of2 (numbered (both v w) a) s' z') m.row _ _ m.total

  pub second_right : of2.sum w ≡ total (list of2.kind (tray_by of2 w z)) → total (list of2.kind (tray_by of2 (numbered (both v w) a).state.second z')) < 2 ^ 64
      → of2.sum (numbered (both v w) a).state.second ≡ total (list of2.kind (tray_by of2 (numbered (both v w) a).state.second z'))
  second_right = second_sum of.kind of2.kind call _ _ (seen2 of of2 (numbered (both v w) a) s' z') m.row _ _ m.total2

module _ (call : Call2) (v w : Ring) (s z s' z' : List ℕ) (a : Result (Answer (Both Ring Ring)) Refusal)
    (m : Meets as_ring.ghosts.reads as_ring.ghosts.reads call v s w z a s' z') where
  pub rings_first_right : v.total.sum ≡ total (list ring (rings.tray v s)) → total (list ring (rings.tray (numbered (both v w) a).state.first s')) < 2 ^ 64
      → (numbered (both v w) a).state.first.total.sum ≡ total (list ring (rings.tray (numbered (both v w) a).state.first s'))
  rings_first_right = first_right as_ring.ghosts.reads as_ring.ghosts.reads call v w s z s' z' a m

  pub rings_second_right : w.total.sum ≡ total (list ring (rings.tray w z)) → total (list ring (rings.tray (numbered (both v w) a).state.second z')) < 2 ^ 64
      → (numbered (both v w) a).state.second.total.sum ≡ total (list ring (rings.tray (numbered (both v w) a).state.second z'))
  rings_second_right = second_right as_ring.ghosts.reads as_ring.ghosts.reads call v w s z s' z' a m

module _ (call : Call2) (v w : Vector) (s z s' z' : List ℕ) (a : Result (Answer (Both Vector Vector)) Refusal)
    (m : Meets as_vector.ghosts.reads as_vector.ghosts.reads call v s w z a s' z') where
  pub vectors_first_right : v.total.sum ≡ total (list vector (vectors.tray v s)) → total (list vector (vectors.tray (numbered (both v w) a).state.first s')) < 2 ^ 64
      → (numbered (both v w) a).state.first.total.sum ≡ total (list vector (vectors.tray (numbered (both v w) a).state.first s'))
  vectors_first_right = first_right as_vector.ghosts.reads as_vector.ghosts.reads call v w s z s' z' a m

  pub vectors_second_right : w.total.sum ≡ total (list vector (vectors.tray w z)) → total (list vector (vectors.tray (numbered (both v w) a).state.second z')) < 2 ^ 64
      → (numbered (both v w) a).state.second.total.sum ≡ total (list vector (vectors.tray (numbered (both v w) a).state.second z'))
  vectors_second_right = second_right as_vector.ghosts.reads as_vector.ghosts.reads call v w s z s' z' a m
