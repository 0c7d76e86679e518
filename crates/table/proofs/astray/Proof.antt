-- `table::astray` meets its promise.
use mathlib.Core.Path.{refl}
use native.Mathlib.Omega.{arith}
use Rattle.table.proofs.Laws.Stops.{strays}
use Rattle.table.proofs.astray.Statement.{statement}
use Rattle.table.proofs.astray.Tie as tie

pub astray_spec : {M : Type 1} → statement M
astray_spec = tie.close (tie.spec (λ c. strays _ _ _ _ refl (omega arith)))
