-- One answer: any two results that meet a call's generated contract on the same arguments are the same, and so are the contents that they leave in
-- the slots which the call may write. An answer holds the containers themselves, so it is one where a container is told by what is read of it: said of any such,
-- then of rings, of vectors, and of the one and the other.
use Prim.Native.Nat.{ℕ}
use mathlib.Core.Path.{◌≡◌, sym, ap, ap₂, ◌∙◌}
use mathlib.Core.List.{List}
use mir.Syntax.{Dict}
use denote.RattleType.{RattleType}
use denote.Param.Laws.{Laws, IsCopy}
use contract.Lifetimes.{Lfts}
use Rattle.std.specs.Prelude.{Result}
use Rattle.std.specs.declared.clone.Clone
use Rattle.slots.proofs.Twice.{Twice}
use Rattle.table.specs.Calls.{Call2}
use Rattle.table.specs.Does.{Outcome2}
use Rattle.table.specs.declared.answers.Answer.{Answer}
use Rattle.table.specs.declared.answers.Both.{Both}
use Rattle.table.specs.declared.answers.Refusal.{Refusal}
use Rattle.table.proofs.Laws.Numbered.{same_answer}
use Rattle.ring.specs.contracts.Ring as ringed
use Rattle.ring.specs.declared.Ring.{Ring}
use Rattle.ring.specs.Seen as rings
use Rattle.vector.specs.contracts.Vector as vectored
use Rattle.vector.specs.declared.Vector.{Vector}
use Rattle.vector.specs.Seen as vectors
use Rattle.containers.specs.Reading.{Reading}
use Rattle.containers.specs.declared.Container
use Rattle.containers.specs.contracts.RingContainer.TheImpl as as_ring
use Rattle.containers.specs.contracts.VectorContainer.TheImpl as as_vector
use Rattle.pairs.specs.Seen.{both, Meets}
use Rattle.pairs.proofs.append as append·fn
use Rattle.pairs.specs.contracts.append as append·promise
use Rattle.pairs.proofs.split_off as split_off·fn
use Rattle.pairs.specs.contracts.split_off as split_off·promise
use Rattle.pairs.proofs.clone as clone·fn
use Rattle.pairs.specs.contracts.clone as clone·promise
use Rattle.pairs.proofs.same as same·fn
use Rattle.pairs.specs.contracts.same as same·promise

-- a state is told by what is read of it
abbrev pub Telling : {S : Type 0} → Reading S → Type 0
Telling {S = S} of = (c c' : S) → of.head c ≡ of.head c' → of.size c ≡ of.size c' → of.sum c ≡ of.sum c' → c ≡ c'

told_ring : Telling as_ring.ghosts.reads
told_ring c c' head size sum = ap₂ (λ (hn : ℕ × ℕ) m. rings.state hn.0 hn.1 (record { sum = m })) (ap₂ {C = ℕ × ℕ} (λ h n. (h, n)) head size) sum

told_vector : Telling as_vector.ghosts.reads
told_vector c c' head size sum = ap₂ (λ n m. vectors.state n (record { sum = m })) size sum

-- every promise of this crate is `Meets`, and an answer is told by what is seen of it
one : {A B : Type 0} (of : Reading A) (of2 : Reading B) (tell : Telling of) (tell2 : Telling of2) {call : Call2} {first : A} {second : B} {s z : List ℕ}
    (r r' : Result (Answer (Both A B)) Refusal) (s1 z1 s2 z2 : List ℕ) → Meets of of2 call first s second z r s1 z1 → Meets of of2 call first s second z r' s2 z2
    → (r ≡ r') × (s1 ≡ s2) × (z1 ≡ z2)
one {A = A} {B = B} of of2 tell tell2 {call} {first} {second} r r' s1 z1 s2 z2 p q =
    let rows = p.row ∙ sym q.row in
    let is = tell _ _ (ap (λ (o : Outcome2). o.first.head) rows) (ap (λ (o : Outcome2). o.first.len) rows) (p.total ∙ sym q.total) in
    let is2 = tell2 _ _ (ap (λ (o : Outcome2). o.second.head) rows) (ap (λ (o : Outcome2). o.second.len) rows) (p.total2 ∙ sym q.total2) in
    let beside = ap₂ {C = ℕ × Both A B} (λ n t. (n, t)) (p.slot ∙ sym q.slot) (ap₂ both is is2) in (
      same_answer (both first second) r r'
          (ap₂ (λ (o : Outcome2) (b : ℕ × Both A B). record { number = o.number; value = o.value; moves = o.moves; slot = b.0; state = b.1 }) rows beside),
      ap (λ (o : Outcome2). o.first.slots) rows,
      ap (λ (o : Outcome2). o.second.slots) rows,
    )

-- T is the type of the containers, and C how their states are read; the rest is what a generated contract is stated over beside them. In what follows a are the
-- arguments, r and r' are results, and e and e' the arguments as they are at the return.
module _ (T : RattleType) (L : Laws T) (K : IsCopy T) (C : Container.Ghosts T.Denot) (D : Dict) (H : Clone.Ghosts T.Denot) (E : Dict) (tell : Telling C.reads)
    (κs : Lfts 3) where
  pub append_once : Twice (append·promise.ended T C D H E) κs (append·fn.Reads.Learnt T L K C D H E κs)
      (λ r e r' e'. (r ≡ r') × (e.1.0.now ≡ e'.1.0.now) × (e.1.1.1.0.now ≡ e'.1.1.1.0.now))
  append_once a r r' e e' p q = one C.reads C.reads tell tell r r' _ _ _ _ p q

  pub split_off_once : Twice (split_off·promise.ended T C D H E) κs (split_off·fn.Reads.Learnt T L K C D H E κs)
      (λ r e r' e'. (r ≡ r') × (e.1.0.now ≡ e'.1.0.now) × (e.1.1.1.1.0.now ≡ e'.1.1.1.1.0.now))
  split_off_once a r r' e e' p q = one C.reads C.reads tell tell r r' _ _ _ _ p q

  pub clone_once : Twice (clone·promise.ended T C D H E) κs (clone·fn.Reads.Learnt T L K C D H E κs) (λ r e r' e'. (r ≡ r') × (e.1.1.1.0.now ≡ e'.1.1.1.0.now))
  clone_once a r r' e e' p q = let is = one C.reads C.reads tell tell r r' _ _ _ _ p q in (is.0, is.2)

-- of two types, T and T2
module _ (T T2 : RattleType) (L : Laws T) (L2 : Laws T2) (K : IsCopy T) (K2 : IsCopy T2) (C : Container.Ghosts T.Denot) (D : Dict) (H : Clone.Ghosts T.Denot) (E : Dict)
    (C2 : Container.Ghosts T2.Denot) (D2 : Dict) (H2 : Clone.Ghosts T2.Denot) (E2 : Dict) (tell : Telling C.reads) (tell2 : Telling C2.reads) (κs : Lfts 4) where
  pub same_once : Twice (same·promise.ended T T2 C D H E C2 D2 H2 E2) κs (same·fn.Reads.Learnt T T2 L L2 K K2 C D H E C2 D2 H2 E2 κs) (λ r e r' e'. r ≡ r')
  same_once a r r' e e' p q = (one C.reads C2.reads tell tell2 r r' _ _ _ _ p q).0

-- of rings
module _ (L : Laws ringed.the_row) (K : IsCopy ringed.the_row) (D : Dict) (H : Clone.Ghosts Ring) (E : Dict) (κs : Lfts 3) where
  pub ring_append_once : Twice (append·promise.ended ringed.the_row as_ring.ghosts D H E) κs (append·fn.Reads.Learnt ringed.the_row L K as_ring.ghosts D H E κs)
      (λ r e r' e'. (r ≡ r') × (e.1.0.now ≡ e'.1.0.now) × (e.1.1.1.0.now ≡ e'.1.1.1.0.now))
  ring_append_once a r r' e e' p q = append_once ringed.the_row L K as_ring.ghosts D H E told_ring κs a r r' e e' p q

  pub ring_split_off_once : Twice (split_off·promise.ended ringed.the_row as_ring.ghosts D H E) κs (split_off·fn.Reads.Learnt ringed.the_row L K as_ring.ghosts D H E κs)
      (λ r e r' e'. (r ≡ r') × (e.1.0.now ≡ e'.1.0.now) × (e.1.1.1.1.0.now ≡ e'.1.1.1.1.0.now))
  ring_split_off_once a r r' e e' p q = split_off_once ringed.the_row L K as_ring.ghosts D H E told_ring κs a r r' e e' p q

  pub ring_clone_once : Twice (clone·promise.ended ringed.the_row as_ring.ghosts D H E) κs (clone·fn.Reads.Learnt ringed.the_row L K as_ring.ghosts D H E κs)
      (λ r e r' e'. (r ≡ r') × (e.1.1.1.0.now ≡ e'.1.1.1.0.now))
  ring_clone_once a r r' e e' p q = clone_once ringed.the_row L K as_ring.ghosts D H E told_ring κs a r r' e e' p q

-- of vectors
module _ (L : Laws vectored.the_row) (K : IsCopy vectored.the_row) (D : Dict) (H : Clone.Ghosts Vector) (E : Dict) (κs : Lfts 3) where
  pub vector_append_once : Twice (append·promise.ended vectored.the_row as_vector.ghosts D H E) κs (append·fn.Reads.Learnt vectored.the_row L K as_vector.ghosts D H E κs)
      (λ r e r' e'. (r ≡ r') × (e.1.0.now ≡ e'.1.0.now) × (e.1.1.1.0.now ≡ e'.1.1.1.0.now))
  vector_append_once a r r' e e' p q = append_once vectored.the_row L K as_vector.ghosts D H E told_vector κs a r r' e e' p q

  pub vector_split_off_once : Twice (split_off·promise.ended vectored.the_row as_vector.ghosts D H E) κs (split_off·fn.Reads.Learnt vectored.the_row L K as_vector.ghosts D H E κs)
      (λ r e r' e'. (r ≡ r') × (e.1.0.now ≡ e'.1.0.now) × (e.1.1.1.1.0.now ≡ e'.1.1.1.1.0.now))
  vector_split_off_once a r r' e e' p q = split_off_once vectored.the_row L K as_vector.ghosts D H E told_vector κs a r r' e e' p q

  pub vector_clone_once : Twice (clone·promise.ended vectored.the_row as_vector.ghosts D H E) κs (clone·fn.Reads.Learnt vectored.the_row L K as_vector.ghosts D H E κs)
      (λ r e r' e'. (r ≡ r') × (e.1.1.1.0.now ≡ e'.1.1.1.0.now))
  vector_clone_once a r r' e e' p q = clone_once vectored.the_row L K as_vector.ghosts D H E told_vector κs a r r' e e' p q

-- of two rings
module _ (L : Laws ringed.the_row) (L2 : Laws ringed.the_row) (K : IsCopy ringed.the_row) (K2 : IsCopy ringed.the_row) (D : Dict) (H : Clone.Ghosts Ring) (E : Dict)
    (D2 : Dict) (H2 : Clone.Ghosts Ring) (E2 : Dict) (κs : Lfts 4) where
  pub ring_same_once : Twice (same·promise.ended ringed.the_row ringed.the_row as_ring.ghosts D H E as_ring.ghosts D2 H2 E2) κs
      (same·fn.Reads.Learnt ringed.the_row ringed.the_row L L2 K K2 as_ring.ghosts D H E as_ring.ghosts D2 H2 E2 κs) (λ r e r' e'. r ≡ r')
  ring_same_once a r r' e e' p q = same_once ringed.the_row ringed.the_row L L2 K K2 as_ring.ghosts D H E as_ring.ghosts D2 H2 E2 told_ring told_ring κs a r r' e e' p q

-- of two vectors
module _ (L : Laws vectored.the_row) (L2 : Laws vectored.the_row) (K : IsCopy vectored.the_row) (K2 : IsCopy vectored.the_row) (D : Dict) (H : Clone.Ghosts Vector)
    (E : Dict)
    (D2 : Dict) (H2 : Clone.Ghosts Vector) (E2 : Dict) (κs : Lfts 4) where
  pub vector_same_once : Twice (same·promise.ended vectored.the_row vectored.the_row as_vector.ghosts D H E as_vector.ghosts D2 H2 E2) κs
      (same·fn.Reads.Learnt vectored.the_row vectored.the_row L L2 K K2 as_vector.ghosts D H E as_vector.ghosts D2 H2 E2 κs) (λ r e r' e'. r ≡ r')
  vector_same_once a r r' e e' p q = same_once vectored.the_row vectored.the_row L L2 K K2 as_vector.ghosts D H E as_vector.ghosts D2 H2 E2 told_vector told_vector κs a r r' e e' p q

-- of a ring and a vector
module _ (L : Laws ringed.the_row) (L2 : Laws vectored.the_row) (K : IsCopy ringed.the_row) (K2 : IsCopy vectored.the_row) (D : Dict) (H : Clone.Ghosts Ring) (E : Dict)
    (D2 : Dict) (H2 : Clone.Ghosts Vector) (E2 : Dict) (κs : Lfts 4) where
  pub same_as_vector_once : Twice (same·promise.ended ringed.the_row vectored.the_row as_ring.ghosts D H E as_vector.ghosts D2 H2 E2) κs
      (same·fn.Reads.Learnt ringed.the_row vectored.the_row L L2 K K2 as_ring.ghosts D H E as_vector.ghosts D2 H2 E2 κs) (λ r e r' e'. r ≡ r')
  same_as_vector_once a r r' e e' p q = same_once ringed.the_row vectored.the_row L L2 K K2 as_ring.ghosts D H E as_vector.ghosts D2 H2 E2 told_ring told_vector κs a r r' e e' p q

-- of a vector and a ring
module _ (L : Laws vectored.the_row) (L2 : Laws ringed.the_row) (K : IsCopy vectored.the_row) (K2 : IsCopy ringed.the_row) (D : Dict) (H : Clone.Ghosts Vector) (E : Dict)
    (D2 : Dict) (H2 : Clone.Ghosts Ring) (E2 : Dict) (κs : Lfts 4) where
  pub same_as_ring_once : Twice (same·promise.ended vectored.the_row ringed.the_row as_vector.ghosts D H E as_ring.ghosts D2 H2 E2) κs
      (same·fn.Reads.Learnt vectored.the_row ringed.the_row L L2 K K2 as_vector.ghosts D H E as_ring.ghosts D2 H2 E2 κs) (λ r e r' e'. r ≡ r')
  same_as_ring_once a r r' e e' p q = same_once vectored.the_row ringed.the_row L L2 K K2 as_vector.ghosts D H E as_ring.ghosts D2 H2 E2 told_vector told_ring κs a r r' e e' p q
