-- `behind_all` meets its promise: it is always behind the bytes up to here.
use borrow.Author.Rules.{rules}
use Rattle.import.proofs.Spots.{behind_none, behind_more}
use Rattle.import.proofs.counts.Spot.behind_all.Goals as goal

pub loop-b-init : goal.loop-b-init
loop-b-init c = behind_none _

pub loop-b-preserved : goal.loop-b-preserved
loop-b-preserved c = search (behind_more, rules)
