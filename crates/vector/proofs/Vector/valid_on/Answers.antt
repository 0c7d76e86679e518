-- The test is the definition's.
use Rattle.vector.proofs.Told.{tested_passes}
use Rattle.vector.proofs.Vector.valid_on.Goals as goal

pub returns : goal.returns
returns c = search tested_passes
