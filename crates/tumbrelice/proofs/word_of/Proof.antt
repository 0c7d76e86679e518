-- `word_of` meets its promise: each part stands at its own digits, of a call that is done with no number before them.
use borrow.Author.Rules.{rules}
use Rattle.tumbrelice.proofs.Words.{worded, worded_done}
use Rattle.tumbrelice.proofs.word_of.Statement.{statement}
use Rattle.tumbrelice.proofs.word_of.Tie as tie

pub word_of_spec : {M : Type 1} → statement M
word_of_spec =
    tie.close
    (tie.spec
    (λ c. search rules)
    (λ c. search rules)
    (λ c. search rules)
    (λ c. search rules)
    (λ c. search (worded_done, rules))
    (λ c. search rules)
    (λ c. search rules)
    (λ c. search rules)
    (λ c. search rules)
    (λ c. search rules)
    (λ c. search rules)
    (λ c. search (worded, rules)))
