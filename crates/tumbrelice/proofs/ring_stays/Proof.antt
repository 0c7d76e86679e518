-- `ring_stays` meets its promise: a refused call leaves the numbers that it was given; else an emptied ring's head is 0, and any other stays.
use borrow.Author.Rules.{rules}
use Rattle.tumbrelice.proofs.Words.{refused_keeps}
use Rattle.tumbrelice.proofs.Staying.{emptied_out, rested_out}
use Rattle.tumbrelice.proofs.ring_stays.Statement.{statement}
use Rattle.tumbrelice.proofs.ring_stays.Tie as tie

pub ring_stays_spec : {M : Type 1} → statement M
ring_stays_spec =
    tie.close
    (tie.spec
    (λ c. search (refused_keeps, rules))
    (λ c. search (emptied_out, c.before.before.before.before.before.requires, rules))
    (λ c. search rules)
    (λ c. search (rested_out, c.before.before.before.before.before.before.requires, rules)))
