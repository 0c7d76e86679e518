-- A call with an allowance, as the code goes about it: 12 where the side that would shift has more entries than allowed, else the plain call; and it is an event of demand 3.
use Prim.Native.Nat.{ℕ, min, ◌-◌, ◌≤◌, ◌<◌}
use mathlib.Core.Path.{◌≡◌, refl, ap}
use mathlib.Core.Bool.{Bool, true, false}
use native.Mathlib.Omega.{arith}
use borrow.Author.Tests.{lt-ltb, le-ltb, lt-leb, ltb-true, eqb-true, eq-eqb}
use lib.Dec.{eqb}
use Rattle.slots.specs.Layout.{Kind, ring}
use Rattle.table.specs.Tray.{Tray, cap, invalid}
use Rattle.table.specs.Calls.{Call, insert, remove, has}
use Rattle.table.specs.Does.{Outcome, does}
use Rattle.table.specs.Promise.{Kept}
use Rattle.table.specs.World.{World, called, Ours}
use Rattle.table.specs.Within.{exceeds, does_within}
use Rattle.table.specs.PromiseWithin.{promise_within}
use Rattle.table.proofs.Laws.Refusals.{both_hold}
use Rattle.table.proofs.Laws.Valid.{and_left, and_right}
use Rattle.table.proofs.Laws.Done.{done_is}
use Rattle.table.proofs.Laws.Keeps.{call_kept, unless_kept}
use Rattle.table.proofs.Laws.Named.{Is, ours_called}
use Rattle.table.proofs.Theorems.Moves.{insert_moves, remove_moves}

pub exceeding : (a : ℕ) (o : Outcome) → o.number ≡ 0 → a < o.moves → exceeds a o ≡ true
exceeding a o done more = both_hold _ _ (eq-eqb o.number 0 done) (lt-ltb a o.moves more)

pub exceeded : (a : ℕ) (o : Outcome) → exceeds a o ≡ true → (o.number ≡ 0) × (a < o.moves)
exceeded a o e = (eqb-true o.number 0 (and_left _ _ e), ltb-true a o.moves (and_right (eqb o.number 0) _ e))

-- The outcome that a plain call promises, where it is refused or within the allowance: then it is the outcome with the allowance too.
pub not_exceeding : (a : ℕ) (o p : Outcome) → o ≡ p → (o.number ≡ 0 → o.moves ≤ a) → exceeds a p ≡ false
not_exceeding a o p e within = rw (← e) (go (exceeds a o) refl)
  where
    go : (b : Bool) → exceeds a o ≡ b → exceeds a o ≡ false
    go true is = let more = exceeded a o is in absurd (omega (arith, within more.0))
    go false is = is

-- A RING, valid, in which the call would be done, with more entries than allowed on the side that would shift.
module _ (t : Tray) (a i : ℕ) (ok : invalid ring t ≡ false) where
  insert_more : (x : ℕ) → i ≤ t.len → t.len < cap t → a < min i (t.len - i) → exceeds a (does ring (insert i x) t) ≡ true
  insert_more x fits room more =
      exceeding a (does ring (insert i x) t) (ap (λ o. o.number) (done_is ring t (insert i x) ok (le-ltb _ _ fits, (lt-leb _ _ room, tt)))) (omega (arith, insert_moves t ok i x fits room))

  pub insert_front_more : (x : ℕ) → i ≤ t.len → t.len < cap t → i < t.len - i → a < i → exceeds a (does ring (insert i x) t) ≡ true
  insert_front_more x fits room near more = insert_more x fits room (omega arith)

  pub insert_back_more : (x : ℕ) → i ≤ t.len → t.len < cap t → t.len - i ≤ i → a < t.len - i → exceeds a (does ring (insert i x) t) ≡ true
  insert_back_more x fits room far more = insert_more x fits room (omega arith)

  remove_more : i < t.len → a < min i (t.len - 1 - i) → exceeds a (does ring (remove i) t) ≡ true
  remove_more fits more =
      exceeding a (does ring (remove i) t) (ap (λ o. o.number) (done_is ring t (remove i) ok (lt-leb _ _ fits, tt))) (omega (arith, remove_moves t ok i fits))

  pub remove_front_more : i < t.len → i < t.len - 1 - i → a < i → exceeds a (does ring (remove i) t) ≡ true
  remove_front_more fits near more = remove_more fits (omega arith)

  pub remove_back_more : i < t.len → t.len - 1 - i ≤ i → a < t.len - 1 - i → exceeds a (does ring (remove i) t) ≡ true
  remove_back_more fits far more = remove_more fits (omega arith)

pub ruleset more_than_allowed = (insert_front_more, insert_back_more, remove_front_more, remove_back_more)

-- AN EVENT of demand 3: a call with an allowance that its kind has, with the outcome that its promise says. 12 leaves all as it was, so the promise is kept.
pub within_kept : (a : ℕ) (call : Call) → Kept (promise_within a call)
within_kept a call = unless_kept 12 (omega arith) (λ k t. exceeds a (does k call t)) (call_kept call)

pub ours_within : (w : World) (i : ℕ) (k : Kind) (t : Tray) (a : ℕ) (call : Call) (o : Outcome) → has call k ≡ true → Is w i k t → o ≡ does_within a k call t
    → Ours w (called i (promise_within a call) o)
unfolding does_within
ours_within w i k t a call o can named e = ours_called w i k t (promise_within a call) o (within_kept a call) can named e
