-- What was written, with the places that are left, is always the whole.
use Rattle.record.proofs.Laws.Placing.{Placed}
use Rattle.record.proofs.kept.place_all.Given as goal

abbrev pub invariant-loop-k : goal.invariant-loop-k
invariant-loop-k l = Placed l.text l.initial.slots l.initial.theirs l.slots l.theirs l.count l.at l.k
