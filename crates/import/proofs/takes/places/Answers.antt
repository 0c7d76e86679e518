-- `places` meets its promise: a record that is read has no more fields than there are slots.
use Rattle.std.proofs.Common.{arith}
use Rattle.import.proofs.Fitting.{fits}
use Rattle.import.proofs.takes.places.Goals as goal

pub returns : goal.returns
returns c = let f = fits _ _ _ _ _ _ _ _ c.in-Ok.ensures in omega (arith, f.0)
