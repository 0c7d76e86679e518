-- A ring's `take_over` meets its promise: the run is copied and then cleared, which adds it up.
use Rattle.std.proofs.Common.{rules}
use Rattle.slots.proofs.Lays.{lay_from}
use Rattle.containers.proofs.RingContainer.take_over.Goals as goal

pub returns : goal.returns
returns c = (search lay_from, search rules, search rules)
