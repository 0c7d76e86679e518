-- The room to plan (request 11): an insertion in a ring moves at most half the old length, a removal half of one less than it, rounded down, and some position meets each bound. So k such
-- calls on a ring of c slots, with any other calls in between, move at most k times half of c - 1 in sum; and an allowance of so much is always enough: 12 never comes.
use Prim.Native.Nat.{ℕ, zero, suc, ◌+◌, ◌-◌, ◌*◌, ◌/◌, ◌≤◌, ◌<◌}
use mathlib.Core.Path.{◌≡◌, refl, ap, ◌∙◌}
use mathlib.Core.Bool.{false}
use mathlib.Core.List.{List, [], ◌∷◌}
use native.Mathlib.Omega.{arith}
use borrow.Author.Tests.{lt-leb, le-ltb}
use lib.ListN.{length}
use Rattle.slots.specs.Layout.{ring}
use Rattle.table.specs.Tray.{Tray, cap, invalid}
use Rattle.table.specs.Calls.{Call, insert, remove}
use Rattle.table.specs.Does.{Outcome, refusals_of, does}
use Rattle.table.specs.Promise.{Promise, Arrival, promise}
use Rattle.table.specs.World.{World, at, Event, arrived, called, Ours, step, AllOurs}
use Rattle.table.specs.Within.{does_within}
use Rattle.table.specs.PromiseWithin.{promise_within}
use Rattle.table.proofs.Laws.Refusals.{Clear, passed_tests}
use Rattle.table.proofs.Laws.Valid.{fit}
use Rattle.table.proofs.Theorems.Moves.{insert_moves, remove_moves}
use Rattle.table.proofs.Theorems.Refused.{call_settled, call_refused, call_clear}
use Rattle.table.proofs.Theorems.Within.{each_way, else_plain}
use Rattle.table.proofs.Theorems.Capacity.{AllSizing, Stands, stands_step, made_stands}

-- a bound on the moves of a call that is done is one on those of any
bounded : (call : Call) (t : Tray) (m : ℕ) → (Clear (refusals_of ring call t) → (does ring call t).moves ≤ m) → (does ring call t).moves ≤ m
bounded call t m if_done = go (does ring call t).number refl
  where
    go : (j : ℕ) → (does ring call t).number ≡ j → (does ring call t).moves ≤ m
    go zero e = if_done (call_clear ring call t (does ring call t) refl e)
    go (suc j) e = omega (arith, ap (λ (o : Outcome). o.moves) (call_refused ring call t (does ring call t) refl j e))

-- ONE CALL, on any tray: by the old length, and by the capacity.
module _ (t : Tray) (i : ℕ) where
  pub insert_half : (x : ℕ) → (does ring (insert i x) t).moves ≤ t.len / 2
  insert_half x = bounded (insert i x) t _ (λ e. omega (arith, insert_moves t e.0 i x (omega passed_tests) (omega passed_tests)))

  pub remove_half : (does ring (remove i) t).moves ≤ (t.len - 1) / 2
  remove_half = bounded (remove i) t _ (λ e. omega (arith, remove_moves t e.0 i (omega passed_tests)))

  pub insert_room : (x : ℕ) → (does ring (insert i x) t).moves ≤ (cap t - 1) / 2
  insert_room x =
      bounded (insert i x) t _ (λ e.
      let free : t.len < cap t = omega passed_tests in
      omega (arith, insert_moves t e.0 i x (omega passed_tests) free))

  pub remove_room : (does ring (remove i) t).moves ≤ (cap t - 1) / 2
  remove_room = bounded (remove i) t _ (λ e. omega (arith, remove_half, (fit ring t e.0).fits))

-- MET, in the middle, of every valid ring with a free slot, or with an entry: so no smaller bound would do.
module _ (t : Tray) (ok : invalid ring t ≡ false) where
  pub insert_half_met : (x : ℕ) → t.len < cap t → ((does ring (insert (t.len / 2) x) t).number ≡ 0) × ((does ring (insert (t.len / 2) x) t).moves ≡ t.len / 2)
  insert_half_met x room =
      let fits : t.len / 2 ≤ t.len = omega arith in
      let clear : Clear (refusals_of ring (insert (t.len / 2) x) t) = (ok, (le-ltb _ _ fits, (lt-leb _ _ room, tt))) in
      (ap (λ (o : Outcome). o.number) ((call_settled ring (insert (t.len / 2) x) t).otherwise clear), insert_moves t ok (t.len / 2) x fits room ∙ omega arith)

  pub remove_half_met : 0 < t.len → ((does ring (remove ((t.len - 1) / 2)) t).number ≡ 0) × ((does ring (remove ((t.len - 1) / 2)) t).moves ≡ (t.len - 1) / 2)
  remove_half_met some =
      let fits : (t.len - 1) / 2 < t.len = omega arith in
      let clear : Clear (refusals_of ring (remove ((t.len - 1) / 2)) t) = (ok, (lt-leb _ _ fits, tt)) in
      (ap (λ (o : Outcome). o.number) ((call_settled ring (remove ((t.len - 1) / 2)) t).otherwise clear), remove_moves t ok ((t.len - 1) / 2) fits ∙ omega arith)

-- ENOUGH. With an allowance of half of c - 1, rounded down, or more, 12 never comes: the call is the plain one.
module _ (a : ℕ) (t : Tray) (i : ℕ) (enough : (cap t - 1) / 2 ≤ a) where
  pub insert_enough : (x : ℕ) → does_within a ring (insert i x) t ≡ does ring (insert i x) t
  insert_enough x = else_plain a ring (insert i x) t _ refl (λ more. absurd (omega (arith, insert_room t i x, more.1)))

  pub remove_enough : does_within a ring (remove i) t ≡ does ring (remove i) t
  remove_enough = else_plain a ring (remove i) t _ refl (λ more. absurd (omega (arith, remove_room t i, more.1)))

-- ANY SEQUENCE. A call of these: an insertion or a removal, plain or with an allowance.
pub data Shifting : Promise → Type 0 where
  inserts : (i x : ℕ) → Shifting (promise (insert i x))
  removes : (i : ℕ) → Shifting (promise (remove i))
  inserts_within : (a i x : ℕ) → Shifting (promise_within a (insert i x))
  removes_within : (a i : ℕ) → Shifting (promise_within a (remove i))

-- k of the events are such calls on container i, done or refused, and the moves that they report come to m; any other events stand between them
pub data Picked (i : ℕ) : List Event → (k m : ℕ) → Type 0 where
  no_more : Picked i [] 0 0
  such : {p : Promise} {o : Outcome} {es : List Event} {k m : ℕ} → Shifting p → Picked i es k m → Picked i (called i p o ∷ es) (suc k) (o.moves + m)
  other : {e : Event} {es : List Event} {k m : ℕ} → Picked i es k m → Picked i (e ∷ es) k m

-- one of them
within_room : (a : ℕ) (call : Call) (t : Tray) (m : ℕ) → (does ring call t).moves ≤ m → (does_within a ring call t).moves ≤ m
within_room a call t m plain = each_way (λ (o : Outcome). o.moves ≤ m) a ring call t (λ more. omega arith) (λ less. plain)

shifting_room : (p : Promise) → Shifting p → (t : Tray) → (p.does ring t).moves ≤ (cap t - 1) / 2
unfolding does_within
shifting_room p (inserts i x) t = insert_room t i x
shifting_room p (removes i) t = remove_room t i
shifting_room p (inserts_within a i x) t = within_room a (insert i x) t _ (insert_room t i x)
shifting_room p (removes_within a i) t = within_room a (remove i) t _ (remove_room t i)

event_room : (w : World) (i c : ℕ) (p : Promise) (o : Outcome) → Stands w i ring c → Ours w (called i p o) → Shifting p → o.moves ≤ (c - 1) / 2
event_room w i c p o s our shifts =
    let is : o ≡ p.does ring (at w i).tray = our.2 ∙ ap (λ k. p.does k (at w i).tray) s.kind in
    omega (arith, shifting_room p shifts (at w i).tray, ap (λ (o : Outcome). o.moves) is, s.slots)

-- On a ring of c slots any k such calls, among any events of demand 3, move at most k times half of c - 1, rounded down, in sum.
pub room : (i : ℕ) (w : World) (es : List Event) (c k m : ℕ) → Stands w i ring c → AllOurs w es → AllSizing es → Picked i es k m → m ≤ k * ((c - 1) / 2)
room i w es c k m s ours sized no_more = omega arith
room i w es c k m s ours sized (such {p} {o} {es = es'} {k = k'} {m = m'} shifts picked) =
    let rest = room i (step w (called i p o)) es' c k' m' (stands_step w (called i p o) i ring c s ours.0 sized.0) ours.1 sized.1 picked in
    omega (arith, rest, event_room w i c p o s ours.0 shifts)
room i w es c k m s ours sized (other {e} {es = es'} picked) = room i (step w e) es' c k m (stands_step w e i ring c s ours.0 sized.0) ours.1 sized.1 picked

-- From its making on.
pub room_made : (w : World) (a : Arrival) (slots : List ℕ) (o : Outcome) (es : List Event) (k m : ℕ) → AllOurs w (arrived ring a slots o ∷ es) → AllSizing (arrived ring a slots o ∷ es)
    → Picked (length w) es k m → m ≤ k * ((length slots - 1) / 2)
room_made w a slots o es k m ours sized = room (length w) (step w (arrived ring a slots o)) es (length slots) k m (made_stands w ring a slots o ours.0 sized.0) ours.1 sized.1
