-- Cases of a limit on moves (request 11): one move less than needed, just as many, and more; refusals that come before 12; and a run with 12 in it. Computed from the definitions.
use Prim.Native.Nat.{ℕ, ◌+◌, ◌*◌, ◌≤◌}
use mathlib.Core.Path.{◌≡◌, refl}
use mathlib.Core.List.{List, [], ◌∷◌}
use native.Mathlib.Omega.{arith}
use Rattle.slots.specs.Lists.{tabulate}
use Rattle.slots.specs.Count.{one, tally}
use Rattle.slots.specs.Layout.{ring, slot_of, pos_of, entries, relaid}
use Rattle.slots.specs.Moves.{moved}
use Rattle.slots.specs.Total.{total, changed}
use Rattle.table.specs.Tray.{Tray, valid}
use Rattle.table.specs.Calls.{insert, remove, push, push_front, pop_front, new}
use Rattle.table.specs.Does.{does, made}
use Rattle.table.specs.Reported.{no_slot}
use Rattle.table.specs.Within.{does_within, reported_within, total_within}
use Rattle.table.specs.PromiseWithin.{promise_within}
use Rattle.table.specs.Promise.{arrival}
use Rattle.table.specs.World.{Event, make, on, called, AllOurs, run, lines, standing_all}
use Rattle.table.specs.Ledger.{entered, handed, dropped}
use Rattle.table.proofs.Laws.Keeps.{call_kept, made_arrives}
use Rattle.table.proofs.Laws.Within.{within_kept}
use Rattle.table.proofs.Theorems.Trays.{tray, gives, answers, W}
use Rattle.table.proofs.Theorems.Demand3.{demand_3}
use Rattle.table.proofs.Theorems.Capacity.{AllSizing, making_sized, call_sized, within_sized}
use Rattle.table.proofs.Theorems.Room.{Picked, no_more, such, other, inserts, removes_within, inserts_within, room_made}

-- Trays a and d of paper 01 move one entry, tray c none: 12 where none is allowed, and else the plain call.
on_W :
    (does_within 0 ring (insert 1 8) W ≡ answers 12 W)
    × (does_within 1 ring (insert 1 8) W ≡ gives 0 1 1 4 (11 ∷ 9 ∷ 8 ∷ 10 ∷ []))
    × (does_within 18446744073709551615 ring (insert 1 8) W ≡ gives 0 1 1 4 (11 ∷ 9 ∷ 8 ∷ 10 ∷ []))
    × (does_within 0 ring (remove 1) W ≡ answers 12 W)
    × (does_within 1 ring (remove 1) W ≡ gives 10 1 2 2 (0 ∷ 0 ∷ 9 ∷ 11 ∷ []))
    × (does_within 0 ring (remove 0) W ≡ gives 9 0 3 2 (11 ∷ 0 ∷ 0 ∷ 10 ∷ []))
unfolding does_within does valid entries relaid moved tabulate tally one slot_of pos_of
on_W = (refl, refl, refl, refl, refl, refl)

-- seven entries in eight slots: the middle moves three, which is half of 7 and half of 7 - 1
abbrev seven : Tray
seven = tray 6 7 (3 ∷ 4 ∷ 5 ∷ 6 ∷ 7 ∷ 0 ∷ 1 ∷ 2 ∷ [])

in_the_middle :
    (does_within 2 ring (insert 3 9) seven ≡ answers 12 seven)
    × (does_within 3 ring (insert 3 9) seven ≡ gives 0 3 5 8 (9 ∷ 4 ∷ 5 ∷ 6 ∷ 7 ∷ 1 ∷ 2 ∷ 3 ∷ []))
    × (does_within 2 ring (insert 4 9) seven ≡ answers 12 seven)
    × (does_within 2 ring (insert 5 9) seven ≡ gives 0 2 6 8 (3 ∷ 4 ∷ 5 ∷ 9 ∷ 6 ∷ 7 ∷ 1 ∷ 2 ∷ []))
    × (does_within 2 ring (remove 3) seven ≡ answers 12 seven)
    × (does_within 3 ring (remove 3) seven ≡ gives 4 3 6 6 (3 ∷ 5 ∷ 6 ∷ 7 ∷ 0 ∷ 0 ∷ 1 ∷ 2 ∷ []))
unfolding does_within does valid entries relaid moved tabulate tally one slot_of pos_of
in_the_middle = (refl, refl, refl, refl, refl, refl)

-- Where the plain call is refused its number stands, though nothing may move: 6 of a full ring, 3 beyond the list, 1 of an empty ring with another head.
abbrev filled : Tray
filled = tray 1 4 (8 ∷ 5 ∷ 6 ∷ 7 ∷ [])

refused_as_ever :
    (does_within 0 ring (insert 2 9) filled ≡ answers 6 filled)
    × (does_within 0 ring (insert 5 9) filled ≡ answers 3 filled)
    × (does_within 0 ring (remove 4) filled ≡ answers 3 filled)
    × (does_within 0 ring (insert 0 9) (tray 2 0 (0 ∷ 0 ∷ 0 ∷ [])) ≡ answers 1 (tray 2 0 (0 ∷ 0 ∷ 0 ∷ [])))
    × (does_within 0 ring (remove 1) (tray 4 3 (8 ∷ 5 ∷ 6 ∷ 7 ∷ [])) ≡ answers 1 (tray 4 3 (8 ∷ 5 ∷ 6 ∷ 7 ∷ [])))
unfolding does_within does valid entries relaid moved tabulate tally one slot_of pos_of
refused_as_ever = (refl, refl, refl, refl, refl)

-- what stands beside the row: 12 reports no slot and leaves the total, right or wrong
beside :
    (reported_within 0 ring (insert 1 8) W ≡ no_slot)
    × (reported_within 1 ring (insert 1 8) W ≡ 2)
    × (reported_within 0 ring (remove 1) W ≡ no_slot)
    × (reported_within 1 ring (remove 1) W ≡ 3)
    × (total_within 0 ring (insert 1 8) W 30 ≡ 30)
    × (total_within 1 ring (insert 1 8) W 30 ≡ 38)
    × (total_within 0 ring (remove 1) W 5 ≡ 5)
    × (total_within 1 ring (remove 1) W 5 ≡ 18446744073709551611)
unfolding reported_within total_within does_within does valid entries relaid moved tabulate tally one slot_of pos_of total changed
beside = (refl, refl, refl, refl, refl, refl, refl, refl)

-- A RUN on one ring of five slots: a call that 12 stops enters nothing, and is done with one move more allowed.
abbrev making : Event
making = make ring new (0 ∷ 0 ∷ 0 ∷ 0 ∷ 0 ∷ []) (gives 0 0 0 0 (0 ∷ 0 ∷ 0 ∷ 0 ∷ 0 ∷ []))

abbrev calls : List Event
calls =
    on 0 (push 5) (gives 0 0 0 1 (5 ∷ 0 ∷ 0 ∷ 0 ∷ 0 ∷ []))
    ∷ on 0 (push 6) (gives 0 0 0 2 (5 ∷ 6 ∷ 0 ∷ 0 ∷ 0 ∷ []))
    ∷ called 0 (promise_within 0 (insert 1 8)) (answers 12 (tray 0 2 (5 ∷ 6 ∷ 0 ∷ 0 ∷ 0 ∷ [])))
    ∷ called 0 (promise_within 1 (insert 1 8)) (gives 0 1 0 3 (5 ∷ 8 ∷ 6 ∷ 0 ∷ 0 ∷ []))
    ∷ on 0 (push_front 4) (gives 0 0 4 4 (5 ∷ 8 ∷ 6 ∷ 0 ∷ 4 ∷ []))
    ∷ on 0 (insert 2 9) (gives 0 2 4 5 (5 ∷ 9 ∷ 8 ∷ 6 ∷ 4 ∷ []))
    ∷ called 0 (promise_within 1 (remove 2)) (answers 12 (tray 4 5 (5 ∷ 9 ∷ 8 ∷ 6 ∷ 4 ∷ [])))
    ∷ called 0 (promise_within 2 (remove 2)) (gives 9 2 4 4 (5 ∷ 8 ∷ 6 ∷ 0 ∷ 4 ∷ []))
    ∷ on 0 pop_front (gives 4 0 0 3 (5 ∷ 8 ∷ 6 ∷ 0 ∷ 0 ∷ []))
    ∷ []

abbrev events : List Event
events = making ∷ calls

ours : AllOurs [] events
unfolding does made valid entries relaid moved tabulate tally one slot_of pos_of
ours = (
  (refl, refl, made_arrives new),
  (
    (omega arith, refl, refl, call_kept (push 5)),
    (
      (omega arith, refl, refl, call_kept (push 6)),
      (
        (omega arith, refl, refl, within_kept 0 (insert 1 8)),
        (
          (omega arith, refl, refl, within_kept 1 (insert 1 8)),
          (
            (omega arith, refl, refl, call_kept (push_front 4)),
            (
              (omega arith, refl, refl, call_kept (insert 2 9)),
              (
                (omega arith, refl, refl, within_kept 1 (remove 2)),
                ((omega arith, refl, refl, within_kept 2 (remove 2)), ((omega arith, refl, refl, call_kept pop_front), tt)),
              ),
            ),
          ),
        ),
      ),
    ),
  ),
)

-- 8 entered once, by the call that was done; 9 was handed out once; all that is counted balances
and_so :
    (entered 8 [] (lines events) ≡ 1)
    × (entered 9 [] (lines events) ≡ 1)
    × (handed 9 [] (lines events) ≡ 1)
    × ((x : ℕ) → entered x [] (lines events) ≡ handed x [] (lines events) + dropped x [] (lines events) + standing_all x (run [] events))
unfolding entries tabulate tally one slot_of pos_of
and_so = (refl, refl, refl, λ x. demand_3 events ours x)

-- The five insertions and removals among them, two of them refused, report five moves; and five times half of 5 - 1 is ten.
picked : Picked 0 calls 5 5
picked =
    other (other (such (inserts_within 0 1 8) (such (inserts_within 1 1 8) (other (such (inserts 2 9) (such (removes_within 1 2) (such (removes_within 2 2) (other no_more))))))))

sized : AllSizing events
sized = (
  making_sized new,
  (
    call_sized (push 5),
    (
      call_sized (push 6),
      (
        within_sized 0 (insert 1 8),
        (
          within_sized 1 (insert 1 8),
          (call_sized (push_front 4), (call_sized (insert 2 9), (within_sized 1 (remove 2), (within_sized 2 (remove 2), (call_sized pop_front, tt))))),
        ),
      ),
    ),
  ),
)

five_moves : 5 ≤ 5 * 2
five_moves = room_made [] (arrival new) _ _ calls 5 5 ours sized picked
