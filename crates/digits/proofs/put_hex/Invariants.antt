-- What is put, with the digits that are left put before it, is always the whole.
use Rattle.std.proofs.Common.{◌≡◌}
use Rattle.digits.specs.Hex.{hex}
use Rattle.digits.specs.Put.{put, put_whole}
use Rattle.digits.proofs.put_hex.Given as goal

abbrev pub invariant-loop-k : goal.invariant-loop-k
invariant-loop-k l = put l.text l.at (hex l.k l.rest) ≡ put_whole l.fn.text l.at (hex l.count l.x)
