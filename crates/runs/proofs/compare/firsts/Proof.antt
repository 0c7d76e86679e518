-- `runs::compare::firsts` meets its promise: at each turn the first k numbers agree, and the last block takes in all that is left.
use Rattle.std.proofs.Common.{◌≡◌, ◌+◌, ◌-◌, ◌≤◌, take, rules}
use borrow.Author.Tests.{not-true, not-false}
use Rattle.slots.proofs.Compares.{firsts_short, firsts_more, firsts_differ, firsts_last}
use Rattle.runs.proofs.compare.firsts.Statement.{statement}
use Rattle.runs.proofs.compare.firsts.Tie as tie

abbrev invariant-loop-k : tie.invariant-loop-k
invariant-loop-k ours theirs count last k₀ k = (k ≤ last + 8) × (take k ours ≡ take k theirs)

abbrev decreases-loop-k : tie.decreases-loop-k
decreases-loop-k ours theirs count last k₀ k = last - k

pub firsts_spec : {M : Type 1} → statement M
firsts_spec =
    tie.close
    (tie.spec
    invariant-loop-k
    decreases-loop-k
    (λ c κs. search rules)
    (λ c. search firsts_short)
    (λ c. search rules)
    (λ c κs. search rules)
    (λ c. search (firsts_differ, not-true))
    (λ c. search rules)
    (λ c. search rules)
    (λ c. search (firsts_more, not-false, rules))
    (λ c κs. search rules)
    (λ c. search firsts_last))
