-- One result: any two that meet a method's generated contract on the same arguments are the same, and so are the contents of the slots that they leave. Of a state
-- that is left the trait tells what is read of it; a ring and a vector have nothing beside that. No `requires` is leaned on.
use Rattle.std.proofs.Common.{◌≡◌, ℕ, ◌%◌, sym, ap, ◌∙◌, arith}
use mathlib.Core.Path.{ap₂}
use mir.Syntax.{Dict}
use denote.RattleType.{RattleType}
use denote.Param.Laws.{Laws, IsCopy}
use contract.Lifetimes.{Lfts}
use Rattle.std.specs.declared.clone.Clone
use Rattle.slots.specs.Layout.{Kind, ring, vector, place, pos_of, itself}
use Rattle.slots.proofs.Placing.{Placing, placing, placing_any}
use Rattle.slots.proofs.Fills.{one_fill}
use Rattle.slots.proofs.Lays.{one_lay}
use Rattle.slots.proofs.Twice.{Twice}
use Rattle.runs.specs.declared.total.Total.{Total}
use Rattle.runs.specs.Width.{summing}
use Rattle.ring.specs.Seen as rings
use Rattle.vector.specs.Seen as vectors
use Rattle.containers.specs.declared.Container
use Rattle.containers.proofs.Container as fn
use Rattle.containers.specs.contracts.Container as promise
use Rattle.containers.proofs.RingContainer.left as ring_left·fn
use Rattle.containers.specs.contracts.RingContainer.left as ring_left·promise
use Rattle.containers.proofs.VectorContainer.left as vector_left·fn
use Rattle.containers.specs.contracts.VectorContainer.left as vector_left·promise

-- the positions of a container, whatever its head
positions : Kind → (c h : ℕ) → ℕ → ℕ
positions ring c h = pos_of c (h % c)
positions vector c h = itself

placed : (k : Kind) (c h : ℕ) → Placing c (place k c h) (positions k c h)
unfolding positions
placed ring c h = placing_any c h
placed vector c h = placing vector c 0 (omega arith)

-- a total is told by its sum
one_total : (m : ℕ) (r r' : Total) → r.sum ≡ m → r'.sum ≡ m → r ≡ r'
one_total m r r' p q = ap summing (p ∙ sym q)

-- T is the type of the container, and C how its states are read; the rest is what a generated contract is stated over beside them. In what follows a are the
-- arguments, r and r' are results, and e and e' the arguments as they are at the return.
module _ (T : RattleType) (L : Laws T) (K : IsCopy T) (C : Container.Ghosts T.Denot) (D : Dict) (H : Clone.Ghosts T.Denot) (E : Dict) where
  module _ (κs : Lfts 1) where
    pub len_once : Twice (promise.len.ended T C D H E) κs (fn.len.Reads.Learnt T L K C D H E κs) (λ r e r' e'. r ≡ r')
    len_once a r r' e e' p q = p ∙ sym q

    pub head_once : Twice (promise.head.ended T C D H E) κs (fn.head.Reads.Learnt T L K C D H E κs) (λ r e r' e'. r ≡ r')
    head_once a r r' e e' p q = p ∙ sym q

    pub total_once : Twice (promise.total.ended T C D H E) κs (fn.total.Reads.Learnt T L K C D H E κs) (λ r e r' e'. r ≡ r')
    total_once a r r' e e' p q = one_total _ r r' p.0 q.0

    pub is_invalid_once : Twice (promise.is_invalid.ended T C D H E) κs (fn.is_invalid.Reads.Learnt T L K C D H E κs) (λ r e r' e'. r ≡ r')
    is_invalid_once a r r' e e' p q = p.is ∙ sym q.is

    pub has_no_step_once : Twice (promise.has_no_step.ended T C D H E) κs (fn.has_no_step.Reads.Learnt T L K C D H E κs) (λ r e r' e'. r ≡ r')
    has_no_step_once a r r' e e' p q = p.0.is ∙ sym q.0.is

    pub left_once : Twice (promise.left.ended T C D H E) κs (fn.left.Reads.Learnt T L K C D H E κs)
        (λ r e r' e'. (C.reads.head r ≡ C.reads.head r') × (C.reads.size r ≡ C.reads.size r') × (C.reads.sum r ≡ C.reads.sum r'))
    left_once a r r' e e' p q = (p.head ∙ sym q.head, p.size ∙ sym q.size, p.sum ∙ sym q.sum)

    pub slot_once : Twice (promise.slot.ended T C D H E) κs (fn.slot.Reads.Learnt T L K C D H E κs) (λ r e r' e'. r ≡ r')
    slot_once a r r' e e' p q = p.0 ∙ sym q.0

  module _ (κs : Lfts 3) where
    pub bring_once : Twice (promise.bring.ended T C D H E) κs (fn.bring.Reads.Learnt T L K C D H E κs) (λ r e r' e'. (r ≡ r') × (e.1.1.1.1.0.now ≡ e'.1.1.1.1.0.now))
    bring_once a r r' e e' p q = (one_total _ r r' p.1 q.1, one_lay _ _ _ _ _ _ _ _ (placed vector _ 0) p.0 q.0)

    pub take_over_once : Twice (promise.take_over.ended T C D H E) κs (fn.take_over.Reads.Learnt T L K C D H E κs)
        (λ r e r' e'. (r ≡ r') × (e.1.0.now ≡ e'.1.0.now) × (e.1.1.1.1.0.now ≡ e'.1.1.1.1.0.now))
    take_over_once a r r' e e' p q = (
      one_total _ r r' p.2 q.2,
      one_lay _ _ _ _ _ _ _ _ (placed C.reads.kind _ _) p.0 q.0,
      one_fill _ _ _ _ _ _ _ _ (placed C.reads.kind _ _) p.1 q.1,
    )

module _ (κs : Lfts 0) where
  pub ring_left_once : Twice ring_left·promise.ended κs (ring_left·fn.Reads.Learnt κs) (λ r e r' e'. r ≡ r')
  ring_left_once a r r' e e' p q =
      let counted = ap₂ {C = ℕ × ℕ} (λ n m. (n, m)) (p.size ∙ sym q.size) (p.sum ∙ sym q.sum) in
      ap₂ (λ h (b : ℕ × ℕ). rings.state h b.0 (summing b.1)) (p.head ∙ sym q.head) counted

  pub vector_left_once : Twice vector_left·promise.ended κs (vector_left·fn.Reads.Learnt κs) (λ r e r' e'. r ≡ r')
  vector_left_once a r r' e e' p q = ap₂ (λ n m. vectors.state n (summing m)) (p.size ∙ sym q.size) (p.sum ∙ sym q.sum)
