-- The digits that are given are the number's, twenty at most.
use native.Mathlib.Omega.{arith}
use Rattle.std.proofs.Common.{rules}
use Rattle.words.proofs.Decimals.{few}
use Rattle.show.proofs.Drawn.{number_wrote}
use Rattle.show.proofs.rows.put_number.Goals as goal

pub returns : goal.returns
returns c = let d = c.decimal-k in (search (number_wrote, rules), omega (arith, few _ _ c.ranges.n.fits d.ensures.len, d.ensures.in_bounds))
