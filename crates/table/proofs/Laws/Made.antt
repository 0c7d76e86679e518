-- What a making does where it is done, as the proof of its function finds it: o is what is seen, and each premise a fact that the code's steps
-- tell.
use mathlib.Core.Path.{◌≡◌}
use mathlib.Core.List.{List}
use Prim.Native.Nat.{ℕ, ◌≤◌}
use native.Mathlib.Omega.{arith}
use borrow.Author.Tests.{le-ltb}
use lib.ListN.{length, length-replicate, replicate}
use native.Mathlib.Nat.{zero-add}
use Rattle.slots.specs.Layout.{Kind, place, pos}
use Rattle.slots.specs.Shift.{Filled}
use Rattle.slots.proofs.Placing.{placing, no_entries}
use Rattle.slots.proofs.Relaid.{relaid_same}
use Rattle.slots.proofs.Moves.{moved_stay}
use Rattle.slots.proofs.Lays.{relaid_fresh, fill_lays}
use Rattle.table.specs.Tray.{nowhere}
use Rattle.table.specs.Calls.{Making, new, with_capacity, from_elem}
use Rattle.table.specs.Table.{begins, makes}
use Rattle.table.specs.Does.{Outcome, gives, refused, bare, refusals_made, done, made}
use Rattle.table.proofs.Laws.Refusals.{Clear, clear_of}
use Rattle.table.proofs.Laws.Done.{no_head_law}

-- a making on no more than 4,096 slots that no refusal of its row stops
pub made_is : (k : Kind) (m : Making) (slots : List ℕ) → length slots ≤ 4096 → Clear (makes (length slots) m).refusals
    → made k m slots ≡ done k (bare slots) (begins m) (makes (length slots) m)
unfolding made
made_is k m slots few clear =
    let all : Clear (refusals_made m slots) = (le-ltb _ _ few, clear) in
    clear_of (refused (bare slots) nowhere) (refusals_made m slots) (done k (bare slots) (begins m) (makes (length slots) m)) all

module _ (k : Kind) (slots : List ℕ) (o : Outcome) (few : length slots ≤ 4096) where
  pub new_done : o ≡ gives 0 0 0 0 slots → o ≡ made k new slots
  new_done eo =
      cc (
        eo,
        made_is k new slots few tt,
        no_head_law k 0,
        no_entries (place k (length slots) 0) slots,
        moved_stay (place k (length slots) 0) 0,
        relaid_same _ _ 0 slots (placing k (length slots) 0 (omega arith)) (omega arith),
      )

  pub with_capacity_done : (i : ℕ) → i ≤ length slots → o ≡ gives 0 0 0 0 slots → o ≡ made k (with_capacity i) slots
  with_capacity_done i fits eo =
      cc (
        eo,
        made_is k (with_capacity i) slots few (le-ltb _ _ fits, tt),
        no_head_law k 0,
        no_entries (place k (length slots) 0) slots,
        moved_stay (place k (length slots) 0) 0,
        relaid_same _ _ 0 slots (placing k (length slots) 0 (omega arith)) (omega arith),
      )

  pub from_elem_done : (i x : ℕ) (u : List ℕ) → i ≤ length slots → Filled (place k (length slots) 0) 0 i x slots u → o ≡ gives 0 0 0 i u
      → o ≡ made k (from_elem i x) slots
  from_elem_done i x u fits m eo =
      let lays = fill_lays (place k (length slots) 0) 0 i x slots u (rw zero-add m) in
      cc (
        eo,
        made_is k (from_elem i x) slots few (le-ltb _ _ fits, tt),
        no_head_law k i,
        length-replicate i x,
        moved_stay (place k (length slots) 0) 0,
        relaid_fresh (pos k (length slots) 0) _ _ i (replicate i x) slots u (placing k (length slots) 0 (omega arith)) (length-replicate i x) lays,
      )
