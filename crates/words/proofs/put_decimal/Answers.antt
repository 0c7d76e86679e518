-- The digits that are given are the number's, twenty at most.
use Rattle.std.proofs.Common.{rules, arith}
use Rattle.words.proofs.Decimals.{few, decimal_wrote}
use Rattle.words.proofs.put_decimal.Goals as goal

pub returns : goal.returns
returns c =
    let d = c.decimal-k.ensures in
    (search (decimal_wrote, rules), omega (arith, few _ _ (omega (arith, c.ranges.n.fits)) d.len, c.put_text.ensures.behind))
