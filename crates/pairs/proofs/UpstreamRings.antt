-- Upstream's clauses of `vecdeque.rs` on two rings, each from the generated contract of its function at rings: those of any container, by the names of `ring`.
use Prim.Native.Nat.{ℕ, ◌<◌}
use mathlib.Core.Path.{◌≡◌}
use mathlib.Core.List.{List, [], ◌++◌}
use lib.ListN.{length, get_or, take, drop}
use mir.Syntax.{Dict}
use denote.Ref.{Bor}
use denote.MutBor.{MutBor}
use denote.Param.Laws.{Laws, IsCopy}
use contract.Lifetimes.{Lfts}
use denote.Triple.Clauses.{AtExit}
use Rattle.std.specs.declared.clone.Clone
use Rattle.table.specs.Answers.{numbered}
use Rattle.table.proofs.Theorems.Upstream.{IfRoom}
use Rattle.table.proofs.Theorems.UpstreamTwo.{IfTakes, IfSplits}
use Rattle.ring.specs.contracts.Ring as ringed
use Rattle.ring.specs.declared.Ring.{Ring}
use Rattle.ring.proofs.Upstream.{view, Valid}
use Rattle.containers.specs.contracts.RingContainer.TheImpl as as_ring
use Rattle.pairs.specs.Seen.{both}
use Rattle.pairs.proofs.Upstream as any
use Rattle.pairs.proofs.Upstream.{Answered}
use Rattle.pairs.proofs.append as append·fn
use Rattle.pairs.specs.contracts.append as append·promise
use Rattle.pairs.proofs.split_off as split_off·fn
use Rattle.pairs.specs.contracts.split_off as split_off·promise
use Rattle.pairs.proofs.clone as clone·fn
use Rattle.pairs.specs.contracts.clone as clone·promise

-- In what follows v and s are the container named first and its slots, w and z are T and its slots, r is the result, and e the arguments as they are at the
-- return: `e.1.0` are the first's slots then, and the other of e are T's.
module _ (L : Laws ringed.the_row) (K : IsCopy ringed.the_row) (D : Dict) (H : Clone.Ghosts Ring) (E : Dict) where
  module _ (κs : Lfts 3) (v w : Ring) (s : MutBor (List ℕ)) (z : MutBor (List ℕ)) (r : Answered Ring) (e : AtExit
      (append·promise.ended ringed.the_row as_ring.ghosts D H E) κs)
      (learnt : append·fn.Reads.Learnt ringed.the_row L K as_ring.ghosts D H E κs (v, (s, (w, (z, tt)))) r e) where
    pub append_list : (numbered (both v w) r).number ≡ 0 → view (numbered (both v w) r).state.first e.1.0.now ≡ view v s.now ++ view w z.now
    append_list = any.append_list ringed.the_row L K as_ring.ghosts D H E κs v w s z r e learnt

    pub append_other : (numbered (both v w) r).number ≡ 0 → view (numbered (both v w) r).state.second e.1.1.1.0.now ≡ []
    append_other = any.append_other ringed.the_row L K as_ring.ghosts D H E κs v w s z r e learnt

    pub append_answers : Valid v s.now → Valid w z.now → IfRoom (numbered (both v w) r).number (length s.now) (length (view v s.now)) (length (view w z.now))
    append_answers ok ok2 = any.append_answers ringed.the_row L K as_ring.ghosts D H E κs v w s z r e learnt ok ok2

  module _ (κs : Lfts 3) (v w : Ring) (s : MutBor (List ℕ)) (z : MutBor (List ℕ)) (at : ℕ) (r : Answered Ring) (e : AtExit
      (split_off·promise.ended ringed.the_row as_ring.ghosts D H E) κs)
      (learnt : split_off·fn.Reads.Learnt ringed.the_row L K as_ring.ghosts D H E κs (v, (s, (at, (w, (z, tt))))) r e) where
    pub split_off_list : (numbered (both v w) r).number ≡ 0 → view (numbered (both v w) r).state.first e.1.0.now ≡ take at (view v s.now)
    split_off_list = any.split_off_list ringed.the_row L K as_ring.ghosts D H E κs v w s z at r e learnt

    pub split_off_other : (numbered (both v w) r).number ≡ 0 → view (numbered (both v w) r).state.second e.1.1.1.1.0.now ≡ drop at (view v s.now)
    split_off_other = any.split_off_other ringed.the_row L K as_ring.ghosts D H E κs v w s z at r e learnt

    pub split_off_answers : Valid v s.now → Valid w z.now → IfSplits (numbered (both v w) r).number (length (view v s.now)) at (length z.now) (length (view w z.now))
    split_off_answers ok ok2 = any.split_off_answers ringed.the_row L K as_ring.ghosts D H E κs v w s z at r e learnt ok ok2

  module _ (κs : Lfts 3) (v w : Ring) (s : Bor (List ℕ)) (z : MutBor (List ℕ)) (r : Answered Ring) (e : AtExit
      (clone·promise.ended ringed.the_row as_ring.ghosts D H E) κs)
      (learnt : clone·fn.Reads.Learnt ringed.the_row L K as_ring.ghosts D H E κs (v, (s, (w, (z, tt)))) r e) where
    pub clone_list : (numbered (both v w) r).number ≡ 0 → view (numbered (both v w) r).state.second e.1.1.1.0.now ≡ view v s.now
    clone_list = any.clone_list ringed.the_row L K as_ring.ghosts D H E κs v w s z r e learnt

    pub clone_length : (numbered (both v w) r).number ≡ 0 → length (view (numbered (both v w) r).state.second e.1.1.1.0.now) ≡ length (view v s.now)
    clone_length = any.clone_length ringed.the_row L K as_ring.ghosts D H E κs v w s z r e learnt

    pub clone_entry : (numbered (both v w) r).number ≡ 0 → (i : ℕ) → i < length (view v s.now)
        → get_or (view (numbered (both v w) r).state.second e.1.1.1.0.now) i 0 ≡ get_or (view v s.now) i 0
    clone_entry = any.clone_entry ringed.the_row L K as_ring.ghosts D H E κs v w s z r e learnt

    pub clone_answers : Valid v s.now → Valid w z.now → IfTakes (numbered (both v w) r).number (length z.now) (length (view w z.now)) (length (view v s.now))
    clone_answers ok ok2 = any.clone_answers ringed.the_row L K as_ring.ghosts D H E κs v w s z r e learnt ok ok2
