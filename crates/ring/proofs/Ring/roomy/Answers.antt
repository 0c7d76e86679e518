-- Past the one test both hold.
use Rattle.ring.proofs.Told.{stopped_passes}
use Rattle.ring.proofs.Ring.roomy.Goals as goal

pub returns : goal.returns
returns c = search stopped_passes
