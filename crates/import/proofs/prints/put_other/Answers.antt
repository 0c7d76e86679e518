-- `put_other` meets its promise: nothing where the numbers are the same, else the pieces, one behind the other.
use borrow.Author.Tests.{ne_eqb}
use native.Mathlib.Omega.{arith}
use Rattle.words.proofs.Writing.{wrote_then}
use Rattle.import.specs.Lines.{other_than}
use Rattle.import.proofs.prints.put_other.Goals as goal

pub returns : goal.returns
unfolding other_than
returns c =
    let head = c.put_text-end.ensures in
    let first = c.put_decimal.ensures in
    (rw (ne_eqb _ _ c.if-k-first.false) (wrote_then head first.0), omega (arith, head.behind, first.1))
