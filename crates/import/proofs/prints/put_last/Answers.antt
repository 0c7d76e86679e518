-- `put_last` meets its promise: the pieces, one behind another.
use native.Mathlib.Omega.{arith}
use Rattle.words.proofs.Writing.{wrote_then}
use Rattle.import.specs.Lines.{last_line}
use Rattle.import.proofs.prints.put_last.Goals as goal

pub returns : goal.returns
unfolding last_line
returns c =
    let head = c.put_several-end.ensures in
    let counts = c.put_counts-end.ensures in
    let ending = c.put_ending-end.ensures in
    let end = c.put_text.ensures in
    (wrote_then head.0 (wrote_then counts.0 (wrote_then ending.0 end)), omega (arith, head.1, counts.1, ending.1, end.behind))
