-- `put_field` meets its promise: the pieces, one behind another.
use native.Mathlib.Omega.{arith}
use Rattle.words.proofs.Writing.{wrote_then}
use Rattle.import.specs.Lines.{field_line}
use Rattle.import.proofs.prints.put_field.Goals as goal

pub returns : goal.returns
unfolding field_line
returns c =
    let head = c.put_text-end.ensures in
    let own = c.put_shown-end.ensures in
    let end = c.put_text.ensures in
    (wrote_then head (wrote_then own.0 end), omega (arith, head.behind, own.1, end.behind))
