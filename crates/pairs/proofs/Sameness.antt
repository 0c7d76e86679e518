-- Sameness from the generated contract of `same`, whichever two containers are compared: of valid ones the value is 1 exactly when the lists are equal, and 0 exactly
-- when they differ; it is reflexive, symmetric and transitive, and the lists alone decide it. Then of two rings, of two vectors, and of a ring and a vector.
use mathlib.Core.Path.{◌≡◌, refl, sym, ap, ◌∙◌}
use mathlib.Core.List.{List}
use Prim.Native.Nat.{ℕ}
use mir.Syntax.{Dict}
use denote.Ref.{Bor}
use denote.RattleType.{RattleType}
use denote.Param.Laws.{Laws, IsCopy}
use contract.Lifetimes.{Lfts}
use denote.Triple.Clauses.{AtExit}
use Rattle.std.specs.Prelude.{Result}
use Rattle.std.specs.declared.clone.Clone
use Rattle.table.specs.Answers.{numbered}
use Rattle.table.specs.declared.answers.Answer.{Answer}
use Rattle.table.specs.declared.answers.Both.{Both}
use Rattle.table.specs.declared.answers.Refusal.{Refusal}
use Rattle.table.proofs.Theorems.Sameness as law
use Rattle.table.proofs.Theorems.Sameness.{Exactly}
use Rattle.ring.specs.contracts.Ring as ringed
use Rattle.ring.specs.declared.Ring.{Ring}
use Rattle.ring.proofs.Upstream as rings
use Rattle.vector.specs.contracts.Vector as vectored
use Rattle.vector.specs.declared.Vector.{Vector}
use Rattle.vector.proofs.Upstream as vectors
use Rattle.containers.specs.declared.Container
use Rattle.containers.specs.contracts.RingContainer.TheImpl as as_ring
use Rattle.containers.specs.contracts.VectorContainer.TheImpl as as_vector
use Rattle.pairs.specs.Seen.{both}
use Rattle.pairs.proofs.Upstream.{view, Valid}
use Rattle.pairs.proofs.same as same·fn
use Rattle.pairs.specs.contracts.same as same·promise

abbrev Told : (A B : Type 0) → Type 0
Told A B = Result (Answer (Both A B)) Refusal

-- In what follows v and s are the container named first and its slots, w and z are T and its slots, r is the result of the call on them, and e the
-- arguments as they are at the return. A and B are the types of the containers, and C and C2 how their states are read; the rest is what a generated contract is
-- stated over beside them.
module _ (A B : RattleType) (L : Laws A) (L2 : Laws B) (K : IsCopy A) (K2 : IsCopy B) (C : Container.Ghosts A.Denot) (D : Dict) (H : Clone.Ghosts A.Denot) (E : Dict)
    (C2 : Container.Ghosts B.Denot) (D2 : Dict) (H2 : Clone.Ghosts B.Denot) (E2 : Dict) where
  module _ (κs : Lfts 4) (v : A.Denot) (w : B.Denot) (s z : Bor (List ℕ)) (r : Told A.Denot B.Denot) (e : AtExit (same·promise.ended A B C D H E C2 D2 H2 E2) κs)
      (learnt : same·fn.Reads.Learnt A B L L2 K K2 C D H E C2 D2 H2 E2 κs (v, (s, (w, (z, tt)))) r e) (ok : Valid C.reads v s.now) (ok2 : Valid C2.reads w z.now) where
    pub same_answers : (numbered (both v w) r).number ≡ 0
    same_answers = law.same_answers C.reads.kind C2.reads.kind _ _ _ ok ok2 learnt.row

    pub same_exactly : Exactly (numbered (both v w) r).value (view C.reads v s.now) (view C2.reads w z.now)
    same_exactly = law.same_exactly C.reads.kind C2.reads.kind _ _ _ ok ok2 learnt.row

  module _ (κs κs' : Lfts 4) (r : Told A.Denot B.Denot) (e : AtExit (same·promise.ended A B C D H E C2 D2 H2 E2) κs) where
    -- SYMMETRIC: a second call, told with a prime, on the two the other way round
    pub same_symmetric : (r' : Told B.Denot A.Denot) (e' : AtExit (same·promise.ended B A C2 D2 H2 E2 C D H E) κs') (v : A.Denot) (w : B.Denot) (s z : Bor (List ℕ))
        → same·fn.Reads.Learnt A B L L2 K K2 C D H E C2 D2 H2 E2 κs (v, (s, (w, (z, tt)))) r e
        → same·fn.Reads.Learnt B A L2 L K2 K C2 D2 H2 E2 C D H E κs' (w, (z, (v, (s, tt)))) r' e' → Valid C.reads v s.now → Valid C2.reads w z.now
        → (numbered (both v w) r).value ≡ (numbered (both w v) r').value
    same_symmetric r' e' v w s z learnt learnt' ok ok2 =
        ap (λ o. o.value) learnt.row ∙ law.same_symmetric C.reads.kind C2.reads.kind _ _ ok ok2 ∙ sym (ap (λ o. o.value) learnt'.row)

    -- THE LISTS ALONE DECIDE: containers that hold the same lists, at other heads or on other capacities, get the same answer
    pub same_by_lists : (r' : Told A.Denot B.Denot) (e' : AtExit (same·promise.ended A B C D H E C2 D2 H2 E2) κs') (v v' : A.Denot) (w w' : B.Denot) (s z s' z' : Bor (List ℕ))
        → same·fn.Reads.Learnt A B L L2 K K2 C D H E C2 D2 H2 E2 κs (v, (s, (w, (z, tt)))) r e
        → same·fn.Reads.Learnt A B L L2 K K2 C D H E C2 D2 H2 E2 κs' (v', (s', (w', (z', tt)))) r' e' → Valid C.reads v s.now → Valid C2.reads w z.now
        → Valid C.reads v' s'.now → Valid C2.reads w' z'.now → view C.reads v s.now ≡ view C.reads v' s'.now → view C2.reads w z.now ≡ view C2.reads w' z'.now
        → (numbered (both v w) r).value ≡ (numbered (both v' w') r').value
    same_by_lists r' e' v v' w w' s z s' z' learnt learnt' ok ok2 ok' ok2' l l2 =
        ap (λ o. o.value) learnt.row
        ∙ law.same_by_lists C.reads.kind C2.reads.kind C.reads.kind C2.reads.kind _ _ _ _ ok ok2 ok' ok2' l l2
        ∙ sym (ap (λ o. o.value) learnt'.row)

-- REFLEXIVE: a container with itself
module _ (A : RattleType) (L L2 : Laws A) (K K2 : IsCopy A) (C : Container.Ghosts A.Denot) (D D2 : Dict) (H H2 : Clone.Ghosts A.Denot) (E E2 : Dict) where
  pub same_reflexive : (κs : Lfts 4) (v : A.Denot) (s : Bor (List ℕ)) (r : Told A.Denot A.Denot) (e : AtExit (same·promise.ended A A C D H E C D2 H2 E2) κs)
      → same·fn.Reads.Learnt A A L L2 K K2 C D H E C D2 H2 E2 κs (v, (s, (v, (s, tt)))) r e → Valid C.reads v s.now → (numbered (both v v) r).value ≡ 1
  same_reflexive κs v s r e learnt ok = (same_exactly A A L L2 K K2 C D H E C D2 H2 E2 κs v v s s r e learnt ok ok).equal refl

-- TRANSITIVE: a second call on the second and a third container, and a third call on the outer two
module _ (A B G : RattleType) (L : Laws A) (L2 : Laws B) (L3 : Laws G) (K : IsCopy A) (K2 : IsCopy B) (K3 : IsCopy G) (C : Container.Ghosts A.Denot) (D : Dict)
    (H : Clone.Ghosts A.Denot) (E : Dict)
    (C2 : Container.Ghosts B.Denot) (D2 : Dict) (H2 : Clone.Ghosts B.Denot) (E2 : Dict) (C3 : Container.Ghosts G.Denot) (D3 : Dict) (H3 : Clone.Ghosts G.Denot)
    (E3 : Dict) where
  pub same_transitive : (κs κs' κs'' : Lfts 4) (r : Told A.Denot B.Denot) (r' : Told B.Denot G.Denot) (r'' : Told A.Denot G.Denot)
      (e : AtExit (same·promise.ended A B C D H E C2 D2 H2 E2) κs) (e' : AtExit (same·promise.ended B G C2 D2 H2 E2 C3 D3 H3 E3) κs')
      (e'' : AtExit (same·promise.ended A G C D H E C3 D3 H3 E3) κs'') (v : A.Denot) (w : B.Denot) (u : G.Denot) (s z y : Bor (List ℕ))
      → same·fn.Reads.Learnt A B L L2 K K2 C D H E C2 D2 H2 E2 κs (v, (s, (w, (z, tt)))) r e
      → same·fn.Reads.Learnt B G L2 L3 K2 K3 C2 D2 H2 E2 C3 D3 H3 E3 κs' (w, (z, (u, (y, tt)))) r' e'
      → same·fn.Reads.Learnt A G L L3 K K3 C D H E C3 D3 H3 E3 κs'' (v, (s, (u, (y, tt)))) r'' e'' → Valid C.reads v s.now → Valid C2.reads w z.now
      → Valid C3.reads u y.now
      → (numbered (both v w) r).value ≡ 1 → (numbered (both w u) r').value ≡ 1 → (numbered (both v u) r'').value ≡ 1
  same_transitive κs κs' κs'' r r' r'' e e' e'' v w u s z y learnt learnt' learnt'' ok ok2 ok3 one one' =
      (same_exactly A G L L3 K K3 C D H E C3 D3 H3 E3 κs'' v u s y r'' e'' learnt'' ok ok3).equal
      ((same_exactly A B L L2 K K2 C D H E C2 D2 H2 E2 κs v w s z r e learnt ok ok2).one one
      ∙ (same_exactly B G L2 L3 K2 K3 C2 D2 H2 E2 C3 D3 H3 E3 κs' w u z y r' e' learnt' ok2 ok3).one one')

-- of two rings
module _ (L : Laws ringed.the_row) (L2 : Laws ringed.the_row) (K : IsCopy ringed.the_row) (K2 : IsCopy ringed.the_row) (D : Dict) (H : Clone.Ghosts Ring) (E : Dict)
    (D2 : Dict) (H2 : Clone.Ghosts Ring) (E2 : Dict) (κs : Lfts 4) (v : Ring) (w : Ring) (s z : Bor (List ℕ)) (r : Told Ring Ring)
    (e : AtExit (same·promise.ended ringed.the_row ringed.the_row as_ring.ghosts D H E as_ring.ghosts D2 H2 E2) κs)
    (learnt : same·fn.Reads.Learnt ringed.the_row ringed.the_row L L2 K K2 as_ring.ghosts D H E as_ring.ghosts D2 H2 E2 κs (v, (s, (w, (z, tt)))) r e)
    (ok : rings.Valid v s.now) (ok2 : rings.Valid w z.now) where
  pub rings_answers : (numbered (both v w) r).number ≡ 0
  rings_answers = same_answers ringed.the_row ringed.the_row L L2 K K2 as_ring.ghosts D H E as_ring.ghosts D2 H2 E2 κs v w s z r e learnt ok ok2

  pub rings_exactly : Exactly (numbered (both v w) r).value (rings.view v s.now) (rings.view w z.now)
  rings_exactly = same_exactly ringed.the_row ringed.the_row L L2 K K2 as_ring.ghosts D H E as_ring.ghosts D2 H2 E2 κs v w s z r e learnt ok ok2

-- of two vectors
module _ (L : Laws vectored.the_row) (L2 : Laws vectored.the_row) (K : IsCopy vectored.the_row) (K2 : IsCopy vectored.the_row) (D : Dict) (H : Clone.Ghosts Vector)
    (E : Dict)
    (D2 : Dict) (H2 : Clone.Ghosts Vector) (E2 : Dict) (κs : Lfts 4) (v : Vector) (w : Vector) (s z : Bor (List ℕ)) (r : Told Vector Vector)
    (e : AtExit (same·promise.ended vectored.the_row vectored.the_row as_vector.ghosts D H E as_vector.ghosts D2 H2 E2) κs)
    (learnt : same·fn.Reads.Learnt vectored.the_row vectored.the_row L L2 K K2 as_vector.ghosts D H E as_vector.ghosts D2 H2 E2 κs (v, (s, (w, (z, tt)))) r e)
    (ok : vectors.Valid v s.now) (ok2 : vectors.Valid w z.now) where
  pub equal_exactly : Exactly (numbered (both v w) r).value (vectors.view v s.now) (vectors.view w z.now)
  equal_exactly = same_exactly vectored.the_row vectored.the_row L L2 K K2 as_vector.ghosts D H E as_vector.ghosts D2 H2 E2 κs v w s z r e learnt ok ok2

-- of a ring and a vector
module _ (L : Laws ringed.the_row) (L2 : Laws vectored.the_row) (K : IsCopy ringed.the_row) (K2 : IsCopy vectored.the_row) (D : Dict) (H : Clone.Ghosts Ring) (E : Dict)
    (D2 : Dict) (H2 : Clone.Ghosts Vector) (E2 : Dict) (κs : Lfts 4) (v : Ring) (w : Vector) (s z : Bor (List ℕ)) (r : Told Ring Vector)
    (e : AtExit (same·promise.ended ringed.the_row vectored.the_row as_ring.ghosts D H E as_vector.ghosts D2 H2 E2) κs)
    (learnt : same·fn.Reads.Learnt ringed.the_row vectored.the_row L L2 K K2 as_ring.ghosts D H E as_vector.ghosts D2 H2 E2 κs (v, (s, (w, (z, tt)))) r e)
    (ok : rings.Valid v s.now) (ok2 : vectors.Valid w z.now) where
  pub same_as_vector_answers : (numbered (both v w) r).number ≡ 0
  same_as_vector_answers = same_answers ringed.the_row vectored.the_row L L2 K K2 as_ring.ghosts D H E as_vector.ghosts D2 H2 E2 κs v w s z r e learnt ok ok2

  pub same_as_vector_exactly : Exactly (numbered (both v w) r).value (rings.view v s.now) (vectors.view w z.now)
  same_as_vector_exactly = same_exactly ringed.the_row vectored.the_row L L2 K K2 as_ring.ghosts D H E as_vector.ghosts D2 H2 E2 κs v w s z r e learnt ok ok2
