-- The writer as demand 3 takes it: a call that leaves the container as it was, done or refused.
use Rattle.std.specs.Prelude.{List, ℕ}
use Rattle.table.specs.Calls.{both}
use Rattle.table.specs.Promise.{Promise, showing}
use Rattle.stored.specs.Written.{writes}

-- into this text
abbrev pub storing : (text : List ℕ) → Promise
storing text = showing both (λ k t. (writes k t text).outcome)
