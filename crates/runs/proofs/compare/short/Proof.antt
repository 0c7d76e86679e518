-- `runs::compare::short` meets its promise: the first four and the last four are all of them.
use Rattle.std.proofs.Common.{rules}
use Rattle.slots.proofs.Compares.{short_two}
use Rattle.runs.proofs.compare.short.Statement.{statement}
use Rattle.runs.proofs.compare.short.Tie as tie

pub short_spec : {M : Type 1} → statement M
short_spec =
    tie.close
    (tie.spec
    (λ c κs. search rules)
    (λ c. search rules)
    (λ c κs. search rules)
    (λ c κs. search rules)
    (λ c. search short_two))
