-- One answer: any two results that meet a function's generated contract on the same arguments are the same, and so are the texts that they
-- leave.
use mathlib.Core.Path.{◌≡◌, sym, ◌∙◌}
use contract.Lifetimes.{Lfts}
use denote.Triple.Clauses.{AtExit}
use borrow.Fn.World.{ArgsD, ResD}
use Rattle.words.specs.contracts.put_text as put_text·fn
use Rattle.words.proofs.put_text.Reads as put_text·reads
use Rattle.words.specs.contracts.put_decimal as put_decimal·fn
use Rattle.words.proofs.put_decimal.Reads as put_decimal·reads
use Rattle.words.specs.contracts.put_numbered as put_numbered·fn
use Rattle.words.proofs.put_numbered.Reads as put_numbered·reads
use Rattle.words.specs.contracts.put_several as put_several·fn
use Rattle.words.proofs.put_several.Reads as put_several·reads

-- a are the arguments, r and r' are results, and e and e' the arguments as they are at the return
pub put_text_once : (κs : Lfts 2) (a : ArgsD put_text·fn.signature κs) (r r' : ResD put_text·fn.signature κs) (e e' : AtExit put_text·fn.ended κs)
    → put_text·reads.Learnt κs a r e → put_text·reads.Learnt κs a r' e' → (r ≡ r') × (e.1.0.now ≡ e'.1.0.now)
put_text_once κs a r r' e e' p q = (p.behind ∙ sym q.behind, p.bytes ∙ sym q.bytes)

pub put_decimal_once : (κs : Lfts 1) (a : ArgsD put_decimal·fn.signature κs) (r r' : ResD put_decimal·fn.signature κs) (e e' : AtExit put_decimal·fn.ended κs)
    → put_decimal·reads.Learnt κs a r e → put_decimal·reads.Learnt κs a r' e' → (r ≡ r') × (e.1.0.now ≡ e'.1.0.now)
put_decimal_once κs a r r' e e' p q = (p.0.behind ∙ sym q.0.behind, p.0.bytes ∙ sym q.0.bytes)

pub put_numbered_once : (κs : Lfts 2) (a : ArgsD put_numbered·fn.signature κs) (r r' : ResD put_numbered·fn.signature κs) (e e' : AtExit put_numbered·fn.ended κs)
    → put_numbered·reads.Learnt κs a r e → put_numbered·reads.Learnt κs a r' e' → (r ≡ r') × (e.1.1.0.now ≡ e'.1.1.0.now)
put_numbered_once κs a r r' e e' p q = (p.0.behind ∙ sym q.0.behind, p.0.bytes ∙ sym q.0.bytes)

pub put_several_once : (κs : Lfts 2) (a : ArgsD put_several·fn.signature κs) (r r' : ResD put_several·fn.signature κs) (e e' : AtExit put_several·fn.ended κs)
    → put_several·reads.Learnt κs a r e → put_several·reads.Learnt κs a r' e' → (r ≡ r') × (e.1.1.0.now ≡ e'.1.1.0.now)
put_several_once κs a r r' e e' p q = (p.0.behind ∙ sym q.0.behind, p.0.bytes ∙ sym q.0.bytes)
