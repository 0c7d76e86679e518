-- One answer: any two results that meet a function's generated contract on the same arguments are the same, and so are the texts that they
-- leave.
use mathlib.Core.Path.{◌≡◌, sym, ◌∙◌}
use contract.Lifetimes.{Lfts}
use denote.Triple.Clauses.{AtExit}
use borrow.Fn.World.{ArgsD, ResD}
use Rattle.digits.specs.contracts.put_hex as put_hex·fn
use Rattle.digits.proofs.put_hex.Reads as put_hex·reads
use Rattle.digits.specs.contracts.no_digit as no_digit·fn
use Rattle.digits.proofs.no_digit.Reads as no_digit·reads
use Rattle.digits.specs.contracts.are_digits as are_digits·fn
use Rattle.digits.proofs.are_digits.Reads as are_digits·reads
use Rattle.digits.specs.contracts.low as low·fn
use Rattle.digits.proofs.low.Reads as low·reads
use Rattle.digits.specs.contracts.number as number·fn
use Rattle.digits.proofs.number.Reads as number·reads

-- a are the arguments, r and r' are results, and e and e' the arguments as they are at the return
module _ (κs : Lfts 1) where
  pub put_hex_once : (a : ArgsD put_hex·fn.signature κs) (r r' : ResD put_hex·fn.signature κs) (e e' : AtExit put_hex·fn.ended κs)
      → put_hex·reads.Learnt κs a r e → put_hex·reads.Learnt κs a r' e' → e.0.now ≡ e'.0.now
  put_hex_once a r r' e e' p q = p ∙ sym q

  pub are_digits_once : (a : ArgsD are_digits·fn.signature κs) (r r' : ResD are_digits·fn.signature κs) (e e' : AtExit are_digits·fn.ended κs)
      → are_digits·reads.Learnt κs a r e → are_digits·reads.Learnt κs a r' e' → r ≡ r'
  are_digits_once a r r' e e' p q = p ∙ sym q

  pub number_once : (a : ArgsD number·fn.signature κs) (r r' : ResD number·fn.signature κs) (e e' : AtExit number·fn.ended κs)
      → number·reads.Learnt κs a r e → number·reads.Learnt κs a r' e' → r ≡ r'
  number_once a r r' e e' p q = p.0 ∙ sym q.0

  pub low_once : (a : ArgsD low·fn.signature κs) (r r' : ResD low·fn.signature κs) (e e' : AtExit low·fn.ended κs)
      → low·reads.Learnt κs a r e → low·reads.Learnt κs a r' e' → r ≡ r'
  low_once a r r' e e' p q = p.0 ∙ sym q.0

pub no_digit_once : (κs : Lfts 0) (a : ArgsD no_digit·fn.signature κs) (r r' : ResD no_digit·fn.signature κs) (e e' : AtExit no_digit·fn.ended κs)
    → no_digit·reads.Learnt κs a r e → no_digit·reads.Learnt κs a r' e' → r ≡ r'
no_digit_once κs a r r' e e' p q = p ∙ sym q
