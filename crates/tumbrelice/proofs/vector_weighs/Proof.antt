-- `vector_weighs` meets its promise: a refused call leaves the numbers that it was given, one that is done the length.
use borrow.Author.Rules.{rules}
use Rattle.tumbrelice.proofs.Words.{refused_keeps}
use Rattle.tumbrelice.proofs.Staying.{vector_weighed_out}
use Rattle.tumbrelice.proofs.vector_weighs.Statement.{statement}
use Rattle.tumbrelice.proofs.vector_weighs.Tie as tie

pub vector_weighs_spec : {M : Type 1} → statement M
vector_weighs_spec =
    tie.close
    (tie.spec
    (λ c. search (refused_keeps, rules))
    (λ c. search rules)
    (λ c. search (vector_weighed_out, c.before.before.before.before.requires, rules)))
