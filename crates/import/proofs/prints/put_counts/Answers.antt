-- `put_counts` meets its promise: each test has its pieces, one behind another.
use borrow.Author.Tests.{eq-eqb, ne_eqb}
use native.Mathlib.Omega.{arith}
use Rattle.words.proofs.Writing.{wrote_then}
use Rattle.import.specs.Lines.{counts}
use Rattle.import.proofs.prints.put_counts.Goals as goal

pub returns-then-sheet-eq0-2 : goal.returns-then-sheet-eq0-2
unfolding counts
returns-then-sheet-eq0-2 c =
    let head = c.put_text-each.ensures in
    let first = c.put_several.ensures in
    (rw (ne_eqb _ _ c.if-sheet-eq0.false, eq-eqb _ _ c.if-sheet-eq0-2.true) (wrote_then head first.0), omega (arith, head.behind, first.1))

pub returns : goal.returns
unfolding counts
returns c =
    let head = c.put_text-end.ensures in
    let others = c.put_decimal-end.ensures in
    let end = c.put_text.ensures in
    (rw (ne_eqb _ _ c.if-sheet-eq0.false, ne_eqb _ _ c.if-sheet-eq0-2.false) (wrote_then head (wrote_then others.0 end)), omega (arith, head.behind, others.1, end.behind))
