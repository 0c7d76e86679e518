-- `ring_weighs` meets its promise: a refused call leaves the numbers that it was given, one that is done the head and the length.
use borrow.Author.Rules.{rules}
use Rattle.tumbrelice.proofs.Words.{refused_keeps}
use Rattle.tumbrelice.proofs.Staying.{weighed_out}
use Rattle.tumbrelice.proofs.ring_weighs.Statement.{statement}
use Rattle.tumbrelice.proofs.ring_weighs.Tie as tie

pub ring_weighs_spec : {M : Type 1} → statement M
ring_weighs_spec =
    tie.close
    (tie.spec
    (λ c. search (refused_keeps, rules))
    (λ c. search rules)
    (λ c. search rules)
    (λ c. search (weighed_out, c.before.before.before.before.before.requires, rules)))
