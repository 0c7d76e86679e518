-- Upstream's clauses of `vec.rs` on two vectors, each from the generated contract of its function at vectors: those of any container, by the names of `vector`.
use Prim.Native.Nat.{ℕ, ◌<◌}
use mathlib.Core.Path.{◌≡◌}
use mathlib.Core.List.{List, [], ◌++◌}
use mathlib.Core.Logic.{◌⊎◌}
use lib.ListN.{length, get_or, take, drop}
use mir.Syntax.{Dict}
use denote.Ref.{Bor}
use denote.MutBor.{MutBor}
use denote.Param.Laws.{Laws, IsCopy}
use contract.Lifetimes.{Lfts}
use denote.Triple.Clauses.{AtExit}
use Rattle.std.specs.declared.clone.Clone
use Rattle.slots.specs.Layout.{vector}
use Rattle.table.specs.Answers.{numbered}
use Rattle.table.proofs.Theorems.Upstream.{Says, IfRoom}
use Rattle.table.proofs.Theorems.UpstreamTwo as law
use Rattle.table.proofs.Theorems.UpstreamTwo.{IfTakes, IfSplits, EqSpec}
use Rattle.vector.specs.contracts.Vector as vectored
use Rattle.vector.specs.declared.Vector.{Vector}
use Rattle.vector.proofs.Upstream.{view, Valid}
use Rattle.containers.specs.contracts.VectorContainer.TheImpl as as_vector
use Rattle.pairs.specs.Seen.{both}
use Rattle.pairs.proofs.Upstream as any
use Rattle.pairs.proofs.Upstream.{Answered}
use Rattle.pairs.proofs.append as append·fn
use Rattle.pairs.specs.contracts.append as append·promise
use Rattle.pairs.proofs.split_off as split_off·fn
use Rattle.pairs.specs.contracts.split_off as split_off·promise
use Rattle.pairs.proofs.clone as clone·fn
use Rattle.pairs.specs.contracts.clone as clone·promise
use Rattle.pairs.proofs.same as same·fn
use Rattle.pairs.specs.contracts.same as same·promise

-- In what follows v and s are the container named first and its slots, w and z are T and its slots, r is the result, and e the arguments as they are at the
-- return: `e.1.0` are the first's slots then, and the other of e are T's.
module _ (L : Laws vectored.the_row) (K : IsCopy vectored.the_row) (D : Dict) (H : Clone.Ghosts Vector) (E : Dict) where
  module _ (κs : Lfts 3) (v w : Vector) (s : MutBor (List ℕ)) (z : MutBor (List ℕ)) (r : Answered Vector) (e : AtExit
      (append·promise.ended vectored.the_row as_vector.ghosts D H E) κs)
      (learnt : append·fn.Reads.Learnt vectored.the_row L K as_vector.ghosts D H E κs (v, (s, (w, (z, tt)))) r e) where
    pub append_list : (numbered (both v w) r).number ≡ 0 → view (numbered (both v w) r).state.first e.1.0.now ≡ view v s.now ++ view w z.now
    append_list = any.append_list vectored.the_row L K as_vector.ghosts D H E κs v w s z r e learnt

    pub append_other : (numbered (both v w) r).number ≡ 0 → view (numbered (both v w) r).state.second e.1.1.1.0.now ≡ []
    append_other = any.append_other vectored.the_row L K as_vector.ghosts D H E κs v w s z r e learnt

    pub append_answers : Valid v s.now → Valid w z.now → IfRoom (numbered (both v w) r).number (length s.now) (length (view v s.now)) (length (view w z.now))
    append_answers ok ok2 = any.append_answers vectored.the_row L K as_vector.ghosts D H E κs v w s z r e learnt ok ok2

  module _ (κs : Lfts 3) (v w : Vector) (s : MutBor (List ℕ)) (z : MutBor (List ℕ)) (at : ℕ) (r : Answered Vector) (e : AtExit
      (split_off·promise.ended vectored.the_row as_vector.ghosts D H E) κs)
      (learnt : split_off·fn.Reads.Learnt vectored.the_row L K as_vector.ghosts D H E κs (v, (s, (at, (w, (z, tt))))) r e) where
    pub split_off_list : (numbered (both v w) r).number ≡ 0 → view (numbered (both v w) r).state.first e.1.0.now ≡ take at (view v s.now)
    split_off_list = any.split_off_list vectored.the_row L K as_vector.ghosts D H E κs v w s z at r e learnt

    pub split_off_other : (numbered (both v w) r).number ≡ 0 → view (numbered (both v w) r).state.second e.1.1.1.1.0.now ≡ drop at (view v s.now)
    split_off_other = any.split_off_other vectored.the_row L K as_vector.ghosts D H E κs v w s z at r e learnt

    pub split_off_answers : Valid v s.now → Valid w z.now → IfSplits (numbered (both v w) r).number (length (view v s.now)) at (length z.now) (length (view w z.now))
    split_off_answers ok ok2 = any.split_off_answers vectored.the_row L K as_vector.ghosts D H E κs v w s z at r e learnt ok ok2

  module _ (κs : Lfts 3) (v w : Vector) (s : Bor (List ℕ)) (z : MutBor (List ℕ)) (r : Answered Vector) (e : AtExit
      (clone·promise.ended vectored.the_row as_vector.ghosts D H E) κs)
      (learnt : clone·fn.Reads.Learnt vectored.the_row L K as_vector.ghosts D H E κs (v, (s, (w, (z, tt)))) r e) where
    pub clone_list : (numbered (both v w) r).number ≡ 0 → view (numbered (both v w) r).state.second e.1.1.1.0.now ≡ view v s.now
    clone_list = any.clone_list vectored.the_row L K as_vector.ghosts D H E κs v w s z r e learnt

    pub clone_length : (numbered (both v w) r).number ≡ 0 → length (view (numbered (both v w) r).state.second e.1.1.1.0.now) ≡ length (view v s.now)
    clone_length = any.clone_length vectored.the_row L K as_vector.ghosts D H E κs v w s z r e learnt

    pub clone_entry : (numbered (both v w) r).number ≡ 0 → (i : ℕ) → i < length (view v s.now)
        → get_or (view (numbered (both v w) r).state.second e.1.1.1.0.now) i 0 ≡ get_or (view v s.now) i 0
    clone_entry = any.clone_entry vectored.the_row L K as_vector.ghosts D H E κs v w s z r e learnt

    pub clone_answers : Valid v s.now → Valid w z.now → IfTakes (numbered (both v w) r).number (length z.now) (length (view w z.now)) (length (view v s.now))
    clone_answers ok ok2 = any.clone_answers vectored.the_row L K as_vector.ghosts D H E κs v w s z r e learnt ok ok2

module _ (L L2 : Laws vectored.the_row) (K K2 : IsCopy vectored.the_row) (D : Dict) (H : Clone.Ghosts Vector) (E : Dict) (D2 : Dict) (H2 : Clone.Ghosts Vector)
    (E2 : Dict)
    (κs : Lfts 4) (v w : Vector) (s z : Bor (List ℕ)) (r : Answered Vector) (e : AtExit
    (same·promise.ended vectored.the_row vectored.the_row as_vector.ghosts D H E as_vector.ghosts D2 H2 E2) κs)
    (learnt : same·fn.Reads.Learnt vectored.the_row vectored.the_row L L2 K K2 as_vector.ghosts D H E as_vector.ghosts D2 H2 E2 κs (v, (s, (w, (z, tt)))) r e) where
  pub equal_value : Valid v s.now → Valid w z.now
      → Says (numbered (both v w) r).value 1 (EqSpec (view v s.now) (view w z.now)) ⊎ Says (numbered (both v w) r).value 0 (EqSpec (view v s.now) (view w z.now) → ⊥)
  equal_value ok ok2 = law.equal_value vector vector _ _ _ ok ok2 learnt.row

  pub equal_answers : Valid v s.now → Valid w z.now → (numbered (both v w) r).number ≡ 0
  equal_answers ok ok2 = law.equal_answers vector vector _ _ _ ok ok2 learnt.row
