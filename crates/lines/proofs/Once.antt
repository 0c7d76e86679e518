-- One answer: any two results that meet a function's generated contract on the same arguments are the same.
use mathlib.Core.Path.{◌≡◌, sym, ◌∙◌}
use contract.Lifetimes.{Lfts}
use denote.Triple.Clauses.{AtExit}
use borrow.Fn.World.{ArgsD, ResD}
use Rattle.lines.specs.contracts.line_at as line_at·fn
use Rattle.lines.proofs.line_at.Reads as line_at·reads
use Rattle.lines.specs.contracts.line_from as line_from·fn
use Rattle.lines.proofs.line_from.Reads as line_from·reads
use Rattle.lines.specs.contracts.Lines.next_line as next_line·fn
use Rattle.lines.proofs.Lines.next_line.Reads as next_line·reads

-- a are the arguments, r and r' are results, and e and e' the arguments as they are at the return
module _ (κs : Lfts 1) where
  pub line_at_once : (a : ArgsD line_at·fn.signature κs) (r r' : ResD line_at·fn.signature κs) (e e' : AtExit line_at·fn.ended κs)
      → line_at·reads.Learnt κs a r e → line_at·reads.Learnt κs a r' e' → r ≡ r'
  line_at_once a r r' e e' p q = p ∙ sym q

  pub line_from_once : (a : ArgsD line_from·fn.signature κs) (r r' : ResD line_from·fn.signature κs) (e e' : AtExit line_from·fn.ended κs)
      → line_from·reads.Learnt κs a r e → line_from·reads.Learnt κs a r' e' → r ≡ r'
  line_from_once a r r' e e' p q = p ∙ sym q

pub next_line_once : (κs : Lfts 2) (a : ArgsD next_line·fn.signature κs) (r r' : ResD next_line·fn.signature κs) (e e' : AtExit next_line·fn.ended κs)
    → next_line·reads.Learnt κs a r e → next_line·reads.Learnt κs a r' e' → (r ≡ r') × (e.0.now ≡ e'.0.now)
next_line_once κs a r r' e e' p q = (p.0 ∙ sym q.0, p.1 ∙ sym q.1)
