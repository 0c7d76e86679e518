-- Past the one test both hold.
use Rattle.vector.proofs.Told.{stopped_passes}
use Rattle.vector.proofs.Vector.holding.Goals as goal

pub returns : goal.returns
returns c = search stopped_passes
