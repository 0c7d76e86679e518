-- What was laid, with what is left of the kept places, is always the whole, of both.
use Rattle.std.proofs.Common.{take}
use Rattle.record.proofs.Laws.Laying.{Laying}
use Rattle.record.proofs.kept.Kept.lay.Given as goal

abbrev pub invariant-loop-k : goal.invariant-loop-k
invariant-loop-k l = Laying (take l.self.count l.self.places) l.initial.slots l.initial.theirs l.slots l.theirs l.k
