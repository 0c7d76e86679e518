-- Sixteen bytes at most are read, so that what they say fits.
use Rattle.std.proofs.Common.{arith}
use Rattle.digits.proofs.Digits.{times_fits, fits}
use Rattle.digits.proofs.low.Goals as goal

pub overflow_mul-x : goal.overflow_mul-x
overflow_mul-x c = omega (arith, times_fits _ _ c.loop-b.invariant.1 (omega arith))

pub overflow_add-x : goal.overflow_add-x
overflow_add-x c = omega (arith, fits _ _ _ c.loop-b.invariant.1 c.low_of.ensures.1 (omega arith))
