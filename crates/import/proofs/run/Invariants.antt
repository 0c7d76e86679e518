-- `run` meets its promise: each turn that is not the last passes bytes.
use Rattle.import.specs.Sheets.{left}
use Rattle.import.proofs.run.Given as goal

abbrev pub decreases-loop-listing : goal.decreases-loop-listing
decreases-loop-listing g l = left l.listing.sheet l.window.from
