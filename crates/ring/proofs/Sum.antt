-- The total of an answer (request 04), from the promise of the call that gave it: it has changed by what the ledger says that the call entered, handed out and dropped; where it was the
-- sum of the entries it is their sum; and a making starts it so.
use Prim.Native.Nat.{ℕ, ◌^◌, ◌<◌}
use mathlib.Core.Path.{◌≡◌, ◌∙◌}
use mathlib.Core.List.{List}
use Rattle.slots.specs.Layout.{ring}
use Rattle.slots.specs.Total.{total}
use Rattle.table.specs.Tray.{list}
use Rattle.table.specs.Answers.{numbered}
use Rattle.table.specs.Calls.{Call, Making}
use Rattle.table.specs.Ledger.{flow}
use Rattle.table.proofs.Theorems.Totals.{Changes, by_ledger}
use Rattle.table.proofs.Theorems.Sums.{call_sum, made_sum}
use Rattle.ring.specs.declared.Ring.{Ring}
use Rattle.ring.specs.Seen.{tray, seen, Meets, Makes, Answered, bare_ring}

module _ (call : Call) (r : Ring) (before after : List ℕ) (a : Answered) (m : Meets call r before a after) where
  pub changes : (numbered r a).number ≡ 0 → Changes (flow call (numbered r a).value (list ring (tray r before))) r.total.sum (numbered r a).state.total.sum
  changes zero = record { is = m.total ∙ (by_ledger ring call _ (seen (numbered r a) after) r.total.sum m.row zero).is }

  pub stays_right : r.total.sum ≡ total (list ring (tray r before)) → total (list ring (tray (numbered r a).state after)) < 2 ^ 64
      → (numbered r a).state.total.sum ≡ total (list ring (tray (numbered r a).state after))
  stays_right = call_sum ring call _ (seen (numbered r a) after) _ _ m.row m.total

pub starts_right : (making : Making) (before after : List ℕ) (a : Answered) → Makes making before a after
    → total (list ring (tray (numbered bare_ring a).state after)) < 2 ^ 64
    → (numbered bare_ring a).state.total.sum ≡ total (list ring (tray (numbered bare_ring a).state after))
starts_right making before after a m = made_sum ring making before (seen (numbered bare_ring a) after) _ m.row m.total
