-- The containers that a call names, and that a call which their kinds have, with the outcome that its promise says, is one of our events: paper 01's,
-- whose promise is its row, and any other whose promise is kept.
use Prim.Native.Nat.{ℕ, ◌<◌}
use mathlib.Core.Path.{◌≡◌}
use mathlib.Core.Bool.{true}
use lib.ListN.{length}
use mathlib.Core.List.{List}
use Rattle.slots.specs.Layout.{Kind}
use Rattle.table.specs.Tray.{Tray}
use Rattle.table.specs.Calls.{Call, Call2, Making, has, has2, has_making}
use Rattle.table.specs.Does.{Outcome, Outcome2, does, does2, made}
use Rattle.table.specs.Promise.{Promise, Promise2, promise, promise2, Kept, Kept2}
use Rattle.table.specs.World.{World, at, called, called_two, make, on, on_two, Ours}
use Rattle.table.proofs.Laws.Keeps.{call_kept, two_kept, made_arrives}

-- container i of the world is this one
pub record Is (w : World) (i : ℕ) (k : Kind) (t : Tray) : Type 0 where
  pub there : i < length w
  pub is : at w i ≡ record { kind = k; tray = t }

-- containers i and j are these, and they are two
pub record Are (w : World) (i j : ℕ) (k k2 : Kind) (t t2 : Tray) : Type 0 where
  pub first : Is w i k t
  pub second : Is w j k2 t2
  pub apart : i ≡ j → ⊥

pub ours_called : (w : World) (i : ℕ) (k : Kind) (t : Tray) (p : Promise) (o : Outcome) → Kept p → p.has k ≡ true → Is w i k t → o ≡ p.does k t → Ours w (called i p o)
ours_called w i k t p o kept can named e = (named.there, rw named.is can, rw named.is e, kept)

pub ours_called_two : (w : World) (i j : ℕ) (k k2 : Kind) (t t2 : Tray) (p : Promise2) (o : Outcome2) → Kept2 p → p.has k k2 ≡ true → Are w i j k k2 t t2
    → o ≡ p.does k k2 t t2 → Ours w (called_two i j p o)
ours_called_two w i j k k2 t t2 p o kept can named e = (
  named.first.there,
  named.second.there,
  named.apart,
  rw (named.first.is, named.second.is) can,
  rw (named.first.is, named.second.is) e,
  kept,
)

pub ours_make : (w : World) (k : Kind) (m : Making) (slots : List ℕ) (o : Outcome) → has_making m k ≡ true → o ≡ made k m slots → Ours w (make k m slots o)
ours_make w k m slots o can e = (can, e, made_arrives m)

pub ours_on : (w : World) (i : ℕ) (k : Kind) (t : Tray) (call : Call) (o : Outcome) → has call k ≡ true → Is w i k t → o ≡ does k call t → Ours w (on i call o)
ours_on w i k t call o can named e = ours_called w i k t (promise call) o (call_kept call) can named e

pub ours_on_two : (w : World) (i j : ℕ) (k k2 : Kind) (t t2 : Tray) (call : Call2) (o : Outcome2) → has2 call k k2 ≡ true → Are w i j k k2 t t2
    → o ≡ does2 k k2 call t t2 → Ours w (on_two i j call o)
ours_on_two w i j k k2 t t2 call o can named e = ours_called_two w i j k k2 t t2 (promise2 call) o (two_kept call) can named e
