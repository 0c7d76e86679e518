-- `tum_vector_range` meets its promise: the part asked for, or the empty one at slot 0: by the tests that tell which.
use borrow.Author.Rules.{rules}
use Rattle.table.proofs.Laws.Valid.{state}
use Rattle.tumbrelice.proofs.Lent.{parting}
use Rattle.tumbrelice.proofs.parts.tum_vector_range.Statement.{statement}
use Rattle.tumbrelice.proofs.parts.tum_vector_range.Tie as tie

pub tum_vector_range_spec : {M : Type 1} → statement M
tum_vector_range_spec =
    tie.close
    (tie.spec
    (λ c. search rules)
    (λ c κs. search rules)
    (λ c κs. search rules)
    (λ c. search parting)
    (λ c κs. search rules)
    (λ c κs. search rules)
    (λ c. search parting)
    (λ c. omega state)
    (λ c κs. (omega state, omega state))
    (λ c. search parting))
