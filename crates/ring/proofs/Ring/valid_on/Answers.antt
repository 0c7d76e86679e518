-- The test is the definition's.
use Rattle.ring.proofs.Told.{tested_passes}
use Rattle.ring.proofs.Ring.valid_on.Goals as goal

pub returns : goal.returns
returns c = search tested_passes
