-- One result: any two that meet a function's generated contract on the same arguments are the same, since the promise names it; of a test's flag its field `is` does.
use mathlib.Core.Path.{◌≡◌, sym, ◌∙◌}
use mir.Syntax.{Dict}
use denote.RattleType.{RattleType}
use denote.Param.Laws.{Laws, IsCopy}
use contract.Lifetimes.{Lfts}
use Rattle.std.specs.declared.clone.Clone
use Rattle.slots.proofs.Twice.{Twice}
use Rattle.table.proofs.invalid_ring as invalid_ring·fn
use Rattle.table.specs.contracts.invalid_ring as invalid_ring·promise
use Rattle.table.proofs.invalid_vector as invalid_vector·fn
use Rattle.table.specs.contracts.invalid_vector as invalid_vector·promise
use Rattle.table.proofs.invalid_ring_or_beyond as invalid_ring_or_beyond·fn
use Rattle.table.specs.contracts.invalid_ring_or_beyond as invalid_ring_or_beyond·promise
use Rattle.table.proofs.invalid_vector_or_beyond as invalid_vector_or_beyond·fn
use Rattle.table.specs.contracts.invalid_vector_or_beyond as invalid_vector_or_beyond·promise
use Rattle.table.proofs.invalid_ring_or_full as invalid_ring_or_full·fn
use Rattle.table.specs.contracts.invalid_ring_or_full as invalid_ring_or_full·promise
use Rattle.table.proofs.invalid_vector_or_full as invalid_vector_or_full·fn
use Rattle.table.specs.contracts.invalid_vector_or_full as invalid_vector_or_full·promise
use Rattle.table.proofs.invalid_ring_or_no_step as invalid_ring_or_no_step·fn
use Rattle.table.specs.contracts.invalid_ring_or_no_step as invalid_ring_or_no_step·promise
use Rattle.table.proofs.invalid_vector_or_no_step as invalid_vector_or_no_step·fn
use Rattle.table.specs.contracts.invalid_vector_or_no_step as invalid_vector_or_no_step·promise
use Rattle.table.proofs.astray as astray·fn
use Rattle.table.specs.contracts.astray as astray·promise
use Rattle.table.proofs.answers.Answer as fn
use Rattle.table.specs.contracts.answers.Answer as promise
use Rattle.table.proofs.answers.in_numbers as in_numbers·fn
use Rattle.table.specs.contracts.answers.in_numbers as in_numbers·promise
use Rattle.table.proofs.answers.U8FromRefusal.from as from·fn
use Rattle.table.specs.contracts.answers.U8FromRefusal.from as from·promise

-- a are the arguments, r and r' are flags, and e and e' the arguments as they are at the return
module _ (κs : Lfts 0) where
  pub invalid_ring_once : Twice invalid_ring·promise.ended κs (invalid_ring·fn.Reads.Learnt κs) (λ r e r' e'. r ≡ r')
  invalid_ring_once a r r' e e' p q = p.is ∙ sym q.is

  pub invalid_vector_once : Twice invalid_vector·promise.ended κs (invalid_vector·fn.Reads.Learnt κs) (λ r e r' e'. r ≡ r')
  invalid_vector_once a r r' e e' p q = p.is ∙ sym q.is

  pub invalid_ring_or_beyond_once : Twice invalid_ring_or_beyond·promise.ended κs (invalid_ring_or_beyond·fn.Reads.Learnt κs) (λ r e r' e'. r ≡ r')
  invalid_ring_or_beyond_once a r r' e e' p q = p.0.is ∙ sym q.0.is

  pub invalid_vector_or_beyond_once : Twice invalid_vector_or_beyond·promise.ended κs (invalid_vector_or_beyond·fn.Reads.Learnt κs) (λ r e r' e'. r ≡ r')
  invalid_vector_or_beyond_once a r r' e e' p q = p.0.is ∙ sym q.0.is

  pub invalid_ring_or_full_once : Twice invalid_ring_or_full·promise.ended κs (invalid_ring_or_full·fn.Reads.Learnt κs) (λ r e r' e'. r ≡ r')
  invalid_ring_or_full_once a r r' e e' p q = p.0.is ∙ sym q.0.is

  pub invalid_vector_or_full_once : Twice invalid_vector_or_full·promise.ended κs (invalid_vector_or_full·fn.Reads.Learnt κs) (λ r e r' e'. r ≡ r')
  invalid_vector_or_full_once a r r' e e' p q = p.0.is ∙ sym q.0.is

  pub invalid_ring_or_no_step_once : Twice invalid_ring_or_no_step·promise.ended κs (invalid_ring_or_no_step·fn.Reads.Learnt κs) (λ r e r' e'. r ≡ r')
  invalid_ring_or_no_step_once a r r' e e' p q = p.0.is ∙ sym q.0.is

  pub invalid_vector_or_no_step_once : Twice invalid_vector_or_no_step·promise.ended κs (invalid_vector_or_no_step·fn.Reads.Learnt κs) (λ r e r' e'. r ≡ r')
  invalid_vector_or_no_step_once a r r' e e' p q = p.0.is ∙ sym q.0.is

  pub astray_once : Twice astray·promise.ended κs (astray·fn.Reads.Learnt κs) (λ r e r' e'. r ≡ r')
  astray_once a r r' e e' p q = p.is ∙ sym q.is

  pub from_once : Twice from·promise.ended κs (from·fn.Reads.Learnt κs) (λ r e r' e'. r ≡ r')
  from_once a r r' e e' p q = p ∙ sym q

-- S is the type of the states; the rest is what a generated contract is stated over beside it
module _ (S : RattleType) (L : Laws S) (K : IsCopy S) (H : Clone.Ghosts S.Denot) (E : Dict) (κs : Lfts 1) where
  pub telling_once : Twice (promise.telling.ended S H E) κs (fn.telling.Reads.Learnt S L K H E κs) (λ r e r' e'. r ≡ r')
  telling_once a r r' e e' p q = p ∙ sym q

  pub lit_once : Twice (promise.lit.ended S H E) κs (fn.lit.Reads.Learnt S L K H E κs) (λ r e r' e'. r ≡ r')
  lit_once a r r' e e' p q = p ∙ sym q

  pub in_numbers_once : Twice (in_numbers·promise.ended S H E) κs (in_numbers·fn.Reads.Learnt S L K H E κs) (λ r e r' e'. r ≡ r')
  in_numbers_once a r r' e e' p q = p ∙ sym q
