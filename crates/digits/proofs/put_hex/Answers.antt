-- After the first digit none is left.
use Rattle.std.proofs.Common.{arith}
use Rattle.digits.proofs.Puts.{put_none}
use Rattle.digits.proofs.put_hex.Goals as goal

pub returns : goal.returns
returns c = put_none _ _ _ _ _ (omega arith) c.loop-k.invariant
