-- The total of request 04 by the ledger: a call that is done changes it by what it entered, handed out and dropped, and one that leaves the container as it was, refused or not,
-- leaves the total.
use Prim.Native.Nat.{ℕ, suc, ◌+◌, ◌^◌, ◌<◌}
use mathlib.Core.Path.{◌≡◌, sym, ap, ◌∙◌}
use native.Mathlib.Omega.{arith}
use lib.ListN.{length}
use Rattle.slots.specs.Layout.{Kind, itself}
use Rattle.slots.specs.Total.{total, changed}
use Rattle.slots.proofs.Totals.{same_change, no_change}
use Rattle.table.specs.Tray.{Tray, cap, list}
use Rattle.table.specs.Calls.{Call}
use Rattle.table.specs.Table.{row, after}
use Rattle.table.specs.Does.{Outcome, does, row_of, refusals_of}
use Rattle.table.specs.Ledger.{Flow, flow}
use Rattle.table.specs.Totals.{total_after}
use Rattle.table.proofs.Laws.Refusals.{Clear}
use Rattle.table.proofs.Laws.Rows.{Kept, kept}
use Rattle.table.proofs.Laws.Done.{many}
use Rattle.table.proofs.Laws.Valid.{fit}
use Rattle.table.proofs.Theorems.Refused.{call_clear, call_refused}
use Rattle.table.proofs.Theorems.Listed.{call_listed}

-- a flow changes the total n to n'
pub record Changes (f : Flow) (n n' : ℕ) : Type 0 where
  pub is : n' ≡ changed n (total f.entered) (total f.handed + total f.dropped)

-- a done call's flow balances
flow_balances : (k : Kind) (call : Call) (t : Tray) → Clear (refusals_of k call t)
    → total (flow call (row_of k call t).value (list k t)).entered + total (list k t)
    ≡ total (flow call (row_of k call t).value (list k t)).handed + total (flow call (row_of k call t).value (list k t)).dropped + total (after call (list k t))
unfolding total
flow_balances k call t clear =
    let n_is : length (list k t) ≡ t.len = many k t in
    let none : Clear (row (cap t) t.head (length (list k t)) (list k t) call).refusals = rw n_is clear.1 in
    let all : Kept itself (cap t) (flow call (row_of k call t).value (list k t)) (list k t) (after call (list k t)) =
    rw n_is at (kept itself (cap t) t.head call (list k t) (omega (arith, (fit k t clear.0).fits)) none) in
    all.balance

-- BY THE LEDGER. A call that is done.
pub by_ledger : (k : Kind) (call : Call) (t : Tray) (o : Outcome) (n : ℕ) → o ≡ does k call t → o.number ≡ 0
    → Changes (flow call o.value (list k t)) n (total_after k call t n)
unfolding total_after
by_ledger k call t o n e zero =
    let listed = call_listed k call t o e zero in
    let now : list k (does k call t).tray ≡ after call (list k t) = ap (λ o. list k o.tray) (sym e) ∙ listed.tray.listed in
    record { is = rw (now, listed.value) (same_change n _ _ _ _ (omega (arith, flow_balances k call t (call_clear k call t o e zero)))) }

-- A call that leaves the container as it was, done or refused.
pub same_total : (k : Kind) (call : Call) (t : Tray) (o : Outcome) (n : ℕ) → o ≡ does k call t → o.tray ≡ t → n < 2 ^ 64 → n ≡ total_after k call t n
unfolding total_after
same_total k call t o n e same small =
    let now : (does k call t).tray ≡ t = ap (λ o. o.tray) (sym e) ∙ same in
    rw now (no_change n _ small)

pub refused_total : (k : Kind) (call : Call) (t : Tray) (o : Outcome) (m n : ℕ) → o ≡ does k call t → o.number ≡ suc m → n < 2 ^ 64 → n ≡ total_after k call t n
refused_total k call t o m n e refuses small = same_total k call t o n e (ap (λ o. o.tray) (call_refused k call t o e m refuses)) small
