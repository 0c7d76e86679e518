-- The total of an answer (request 04), from the promise of the call that gave it: it has changed by what the ledger says that the call entered, handed out and dropped; where it was the
-- sum of the entries it is their sum; and a making starts it so.
use Prim.Native.Nat.{ℕ, ◌^◌, ◌<◌}
use mathlib.Core.Path.{◌≡◌, ◌∙◌}
use mathlib.Core.List.{List}
use Rattle.std.proofs.Common.{Result}
use Rattle.table.specs.Answers.{numbered}
use Rattle.table.specs.declared.answers.Answer.{Answer}
use Rattle.table.specs.declared.answers.Refusal.{Refusal}
use Rattle.slots.specs.Layout.{vector}
use Rattle.slots.specs.Total.{total}
use Rattle.table.specs.Tray.{list}
use Rattle.table.specs.Calls.{Call, Making}
use Rattle.table.specs.Ledger.{flow}
use Rattle.table.proofs.Theorems.Totals.{Changes, by_ledger}
use Rattle.table.proofs.Theorems.Sums.{call_sum, made_sum}
use Rattle.vector.specs.declared.Vector.{Vector}
use Rattle.vector.specs.Seen.{tray, seen, none, Meets, Makes}

module _ (call : Call) (v : Vector) (before after : List ℕ) (a : Result (Answer Vector) Refusal) (m : Meets call v before a after) where
  pub changes : (numbered v a).number ≡ 0 → Changes (flow call (numbered v a).value (list vector (tray v before))) v.total.sum (numbered v a).state.total.sum
  changes zero = record { is = m.total ∙ (by_ledger vector call _ (seen (numbered v a) after) v.total.sum m.row zero).is }

  pub stays_right : v.total.sum ≡ total (list vector (tray v before)) → total (list vector (tray (numbered v a).state after)) < 2 ^ 64
      → (numbered v a).state.total.sum ≡ total (list vector (tray (numbered v a).state after))
  stays_right = call_sum vector call _ (seen (numbered v a) after) _ _ m.row m.total

pub starts_right : (making : Making) (before after : List ℕ) (a : Result (Answer Vector) Refusal) → Makes making before a after → total (list vector (tray (numbered none a).state after)) < 2 ^ 64
    → (numbered none a).state.total.sum ≡ total (list vector (tray (numbered none a).state after))
starts_right making before after a m = made_sum vector making before (seen (numbered none a) after) _ m.row m.total
