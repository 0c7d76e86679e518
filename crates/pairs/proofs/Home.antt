-- Request 03 from the generated contracts of the calls on two rings: after one that is done, either that is empty has head 0.
use mathlib.Core.Path.{◌≡◌}
use mathlib.Core.List.{List}
use Prim.Native.Nat.{ℕ}
use mir.Syntax.{Dict}
use contract.Lifetimes.{Lfts}
use denote.Ref.{Bor}
use denote.MutBor.{MutBor}
use denote.Param.Laws.{Laws, IsCopy}
use denote.Triple.Clauses.{AtExit}
use Rattle.std.specs.declared.clone.Clone
use Rattle.slots.specs.Layout.{ring}
use Rattle.table.specs.Calls.{Call2}
use Rattle.table.specs.Answers.{numbered}
use Rattle.table.specs.declared.answers.Both.{Both}
use Rattle.table.proofs.Theorems.Home.{done_home2}
use Rattle.ring.specs.contracts.Ring as ringed
use Rattle.ring.specs.declared.Ring.{Ring}
use Rattle.ring.specs.Seen.{tray}
use Rattle.containers.specs.contracts.RingContainer.TheImpl as as_ring
use Rattle.pairs.specs.Seen.{both, Meets}
use Rattle.pairs.proofs.Upstream.{Answered}
use Rattle.pairs.proofs.append as append·fn
use Rattle.pairs.specs.contracts.append as append·promise
use Rattle.pairs.proofs.split_off as split_off·fn
use Rattle.pairs.specs.contracts.split_off as split_off·promise
use Rattle.pairs.proofs.clone as clone·fn
use Rattle.pairs.specs.contracts.clone as clone·promise

-- both states of an answer: where nothing is in it, the head is 0
pub record BothHome (t : Both Ring Ring) : Type 0 where
  pub first : t.first.len ≡ 0 → t.first.head ≡ 0
  pub second : t.second.len ≡ 0 → t.second.head ≡ 0

-- whichever call it was
pub calls_home : (call : Call2) (v w : Ring) (s z s' z' : List ℕ) (r : Answered Ring) → Meets as_ring.ghosts.reads as_ring.ghosts.reads call v s w z r s' z'
    → (numbered (both v w) r).number ≡ 0 → BothHome (numbered (both v w) r).state
calls_home call v w s z s' z' r meets zero =
    let home = done_home2 ring ring call (tray v s) (tray w z) _ meets.row zero in
    record { first = home.0; second = home.1 }

-- In what follows v and s are the ring named first and its slots, w and z are T and its slots, r is the result, and e the arguments as they are at the return.
module _ (L : Laws ringed.the_row) (K : IsCopy ringed.the_row) (D : Dict) (H : Clone.Ghosts Ring) (E : Dict) (κs : Lfts 3) (v w : Ring) (z : MutBor (List ℕ))
    (r : Answered Ring) where
  pub append_home : (s : MutBor (List ℕ)) (e : AtExit (append·promise.ended ringed.the_row as_ring.ghosts D H E) κs)
      → append·fn.Reads.Learnt ringed.the_row L K as_ring.ghosts D H E κs (v, (s, (w, (z, tt)))) r e → (numbered (both v w) r).number ≡ 0
      → BothHome (numbered (both v w) r).state
  append_home s e learnt = calls_home _ _ _ _ _ _ _ _ learnt

  pub split_off_home : (s : MutBor (List ℕ)) (at : ℕ) (e : AtExit (split_off·promise.ended ringed.the_row as_ring.ghosts D H E) κs)
      → split_off·fn.Reads.Learnt ringed.the_row L K as_ring.ghosts D H E κs (v, (s, (at, (w, (z, tt))))) r e → (numbered (both v w) r).number ≡ 0
      → BothHome (numbered (both v w) r).state
  split_off_home s at e learnt = calls_home _ _ _ _ _ _ _ _ learnt

  pub clone_home : (s : Bor (List ℕ)) (e : AtExit (clone·promise.ended ringed.the_row as_ring.ghosts D H E) κs)
      → clone·fn.Reads.Learnt ringed.the_row L K as_ring.ghosts D H E κs (v, (s, (w, (z, tt)))) r e → (numbered (both v w) r).number ≡ 0
      → BothHome (numbered (both v w) r).state
  clone_home s e learnt = calls_home _ _ _ _ _ _ _ _ learnt
