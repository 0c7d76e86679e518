-- `put_record` meets its promise: the pieces, one behind another.
use native.Mathlib.Omega.{arith}
use Rattle.words.proofs.Writing.{wrote_then}
use Rattle.import.specs.Lines.{record_line}
use Rattle.import.proofs.prints.put_record.Goals as goal

pub returns : goal.returns
unfolding record_line
returns c =
    let head = c.put_numbered-end.ensures in
    let fields = c.put_several-end.ensures in
    let other = c.put_other-end.ensures in
    let end = c.put_text.ensures in
    (wrote_then head.0 (wrote_then fields.0 (wrote_then other.0 end)), omega (arith, head.1, fields.1, other.1, end.behind))
