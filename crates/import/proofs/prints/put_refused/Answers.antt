-- `put_refused` meets its promise: the pieces, one behind another.
use native.Mathlib.Omega.{arith}
use Rattle.words.proofs.Writing.{wrote_then}
use Rattle.import.specs.Lines.{refused_line}
use Rattle.import.proofs.prints.put_refused.Goals as goal

pub returns : goal.returns
unfolding refused_line
returns c =
    let head = c.put_numbered-end.ensures in
    let spot = c.put_place-end.ensures in
    let why = c.put_why-end.ensures in
    let end = c.put_text.ensures in
    (wrote_then head.0 (wrote_then spot.0 (wrote_then why.0 end)), omega (arith, head.1, spot.1, why.1, end.behind))
