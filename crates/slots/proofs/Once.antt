-- One answer: any two slots that meet a function's generated contract on the same arguments are the same, since the promise names the slot.
use Rattle.std.proofs.Common.{◌≡◌, sym, ◌∙◌}
use contract.Lifetimes.{Lfts}
use Rattle.slots.proofs.Twice.{Twice}
use Rattle.slots.proofs.slot as slot·fn
use Rattle.slots.specs.contracts.slot as slot·promise
use Rattle.slots.proofs.one_on as one_on·fn
use Rattle.slots.specs.contracts.one_on as one_on·promise
use Rattle.slots.proofs.one_back as one_back·fn
use Rattle.slots.specs.contracts.one_back as one_back·promise

-- a are the arguments, r and r' are results, and e and e' the arguments as they are at the return
module _ (κs : Lfts 0) where
  pub slot_once : Twice slot·promise.ended κs (slot·fn.Reads.Learnt κs) (λ r e r' e'. r ≡ r')
  slot_once a r r' e e' p q = p.0 ∙ sym q.0

  pub one_on_once : Twice one_on·promise.ended κs (one_on·fn.Reads.Learnt κs) (λ r e r' e'. r ≡ r')
  one_on_once a r r' e e' p q = p.0 ∙ sym q.0

  pub one_back_once : Twice one_back·promise.ended κs (one_back·fn.Reads.Learnt κs) (λ r e r' e'. r ≡ r')
  one_back_once a r r' e e' p q = p.0 ∙ sym q.0
