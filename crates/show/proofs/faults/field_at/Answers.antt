-- A part of the first line is digits, and says what the field says.
use Rattle.std.proofs.Common.{rules}
use native.Mathlib.Omega.{arith}
use Rattle.lines.proofs.Parts.{line_parts}
use Rattle.show.proofs.Finding.{field_says}
use Rattle.show.proofs.faults.field_at.Goals as goal

pub slice_bounds-number-end : goal.slice_bounds-number-end
slice_bounds-number-end c = omega (arith, (line_parts 16 c.args.text.now c.requires.0).long)

pub returns : goal.returns
returns c = field_says _ _ _ _ c.requires.0 c.requires.1 c.number.ensures.0 c.number.ensures.1
