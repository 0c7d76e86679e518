-- What was read, with what is left, always says the whole, and fits the bytes read.
use Rattle.std.proofs.Common.{◌≡◌, ◌^◌, ◌<◌}
use Rattle.std.specs.Prelude.{drop}
use Rattle.digits.specs.Low.{lows_from}
use Rattle.digits.proofs.low.Given as goal

abbrev pub invariant-loop-b : goal.invariant-loop-b
invariant-loop-b l = (lows_from l.x (drop l.b-index l.part) ≡ lows_from 0 l.part) × (l.x < 16 ^ l.b-index)
