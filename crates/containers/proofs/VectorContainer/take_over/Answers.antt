-- A vector's `take_over` meets its promise, likewise.
use Rattle.std.proofs.Common.{rules}
use Rattle.slots.proofs.Lays.{lay_rest}
use Rattle.containers.proofs.VectorContainer.take_over.Goals as goal

pub returns : goal.returns
returns c = (search lay_rest, search rules, search rules)
