-- `part` meets its promise: the first slot and the count stand at their own digits.
use borrow.Author.Rules.{rules}
use Rattle.tumbrelice.proofs.Lent.{part_worded}
use Rattle.tumbrelice.proofs.parts.part.Statement.{statement}
use Rattle.tumbrelice.proofs.parts.part.Tie as tie

pub part_spec : {M : Type 1} → statement M
part_spec =
    tie.close
    (tie.spec
    (λ c. search rules)
    (λ c. search rules)
    (λ c. search (part_worded, rules)))
