-- A call with an allowance (request 11) as demand 3 takes it: the plain call, but refused with 12 where it would move more.
use Rattle.std.specs.Prelude.{ℕ}
use Rattle.table.specs.Calls.{Call}
use Rattle.table.specs.Does.{does}
use Rattle.table.specs.Within.{exceeds}
use Rattle.table.specs.Promise.{Promise, promise, unless}

abbrev pub promise_within : (a : ℕ) → Call → Promise
promise_within a call = unless 12 (λ k t. exceeds a (does k call t)) (promise call)
