-- A run of calls on two rings and two vectors, refused ones among them: demand 3's theorem is not empty. Each outcome, the lists at the end and
-- the counts are written out.
use Prim.Native.Nat.{ℕ, ◌+◌}
use mathlib.Core.Path.{◌≡◌, refl, sym, ap}
use mathlib.Core.Bool.{true≢false}
use mathlib.Core.List.{List, [], ◌∷◌}
use native.Mathlib.Omega.{arith}
use Rattle.slots.specs.Lists.{tabulate}
use Rattle.slots.specs.Count.{one, tally}
use Rattle.slots.specs.Layout.{ring, vector, slot_of, pos_of, entries, relaid}
use Rattle.slots.specs.Moves.{moved}
use Rattle.table.specs.Tray.{valid}
use Rattle.table.specs.Calls.{push, push_front, pop, pop_front, insert, swap_remove, write, truncate, resize, look, read, append, split_off, clone, from_iter, new, with_capacity, from_elem}
use Rattle.table.specs.Does.{Outcome, Outcome2, does, does2, made}
use Rattle.table.specs.World.{Event, make, on, on_two, Ours, AllOurs, run, lines, held, standing, standing_all}
use Rattle.table.specs.Ledger.{modelled, entered, handed, dropped}
use Rattle.table.proofs.Theorems.Trays.{tray, cursor, gives, answers}
use Rattle.table.proofs.Cases.Samples.{gives2, answers2, shows2}
use Rattle.table.proofs.Laws.Keeps.{call_kept, two_kept, made_arrives}
use Rattle.table.proofs.Theorems.Demand3.{models, demand_3}
use Rattle.table.proofs.Theorems.AlwaysHome.{AllHoming, AllHome, making_homes, call_homes, two_homes, always_home}

-- Containers 0 and 1 are rings, 2 and 3 vectors; the last making is refused. W of paper 01 is made by calls and case a is done on it; then a
-- push is refused, entries go over to the other ring and back, copies to a vector, and one of the copies is handed out.
abbrev events : List Event
events =
    make ring new (5 ∷ 0 ∷ 0 ∷ 0 ∷ []) (gives 0 0 0 0 (5 ∷ 0 ∷ 0 ∷ 0 ∷ []))
    ∷ make ring (with_capacity 3) (7 ∷ 7 ∷ 7 ∷ []) (gives 0 0 0 0 (7 ∷ 7 ∷ 7 ∷ []))
    ∷ make vector (from_elem 2 8) (1 ∷ 1 ∷ 1 ∷ []) (gives 0 0 0 2 (8 ∷ 8 ∷ 1 ∷ []))
    ∷ make vector (from_elem 3 8) (6 ∷ 6 ∷ []) (answers 6 (tray 0 0 (6 ∷ 6 ∷ [])))
    ∷ on 0 (push 11) (gives 0 0 0 1 (11 ∷ 0 ∷ 0 ∷ 0 ∷ []))
    ∷ on 0 (push_front 10) (gives 0 0 3 2 (11 ∷ 0 ∷ 0 ∷ 10 ∷ []))
    ∷ on 0 (push_front 9) (gives 0 0 2 3 (11 ∷ 0 ∷ 9 ∷ 10 ∷ []))
    ∷ on 0 (insert 1 8) (gives 0 1 1 4 (11 ∷ 9 ∷ 8 ∷ 10 ∷ []))
    ∷ on 0 (push 8) (answers 6 (tray 1 4 (11 ∷ 9 ∷ 8 ∷ 10 ∷ [])))
    ∷ on_two 0 1 (split_off 2) (gives2 (tray 1 2 (0 ∷ 9 ∷ 8 ∷ 0 ∷ [])) (tray 0 2 (10 ∷ 11 ∷ 7 ∷ [])))
    ∷ on 1 pop_front (gives 10 0 1 1 (0 ∷ 11 ∷ 7 ∷ []))
    ∷ on 1 (resize 3 8) (gives 0 0 1 3 (8 ∷ 11 ∷ 8 ∷ []))
    ∷ on_two 1 0 clone (answers2 5 (tray 1 3 (8 ∷ 11 ∷ 8 ∷ [])) (tray 1 2 (0 ∷ 9 ∷ 8 ∷ 0 ∷ [])))
    ∷ on 1 (truncate 2) (gives 0 0 1 2 (0 ∷ 11 ∷ 8 ∷ []))
    ∷ on_two 1 3 (from_iter (cursor 0 2)) (shows2 (cursor 2 2) (tray 1 2 (0 ∷ 11 ∷ 8 ∷ [])) (tray 0 2 (11 ∷ 8 ∷ [])))
    ∷ on 2 (swap_remove 0) (gives 8 1 0 1 (8 ∷ 0 ∷ 1 ∷ []))
    ∷ on 2 (write 1 8) (answers 3 (tray 0 1 (8 ∷ 0 ∷ 1 ∷ [])))
    ∷ on_two 0 1 append (gives2 (tray 1 4 (8 ∷ 9 ∷ 8 ∷ 11 ∷ [])) (tray 0 0 (0 ∷ 0 ∷ 0 ∷ [])))
    ∷ on 0 (look (read 1)) (gives 8 0 1 4 (8 ∷ 9 ∷ 8 ∷ 11 ∷ []))
    ∷ on 0 pop_front (gives 9 0 2 3 (8 ∷ 0 ∷ 8 ∷ 11 ∷ []))
    ∷ on 3 pop (gives 8 0 0 1 (11 ∷ 0 ∷ []))
    ∷ []

-- one event's facts, and then those of the rest
infixr 3 ◌then◌
abbrev ◌then◌ : {A B : Type 0} → A → B → A × B
a then b = (a, b)

-- each outcome is the table's
ours : AllOurs [] events
unfolding does does2 made valid entries relaid moved tabulate tally one slot_of pos_of
ours =
    (refl, refl, made_arrives new)
    then (refl, refl, made_arrives (with_capacity 3))
    then (refl, refl, made_arrives (from_elem 2 8))
    then (refl, refl, made_arrives (from_elem 3 8))
    then (omega arith, refl, refl, call_kept (push 11))
    then (omega arith, refl, refl, call_kept (push_front 10))
    then (omega arith, refl, refl, call_kept (push_front 9))
    then (omega arith, refl, refl, call_kept (insert 1 8))
    then (omega arith, refl, refl, call_kept (push 8))
    then (omega arith, omega arith, omega arith, refl, refl, two_kept (split_off 2))
    then (omega arith, refl, refl, call_kept pop_front)
    then (omega arith, refl, refl, call_kept (resize 3 8))
    then (omega arith, omega arith, omega arith, refl, refl, two_kept clone)
    then (omega arith, refl, refl, call_kept (truncate 2))
    then (omega arith, omega arith, omega arith, refl, refl, two_kept (from_iter (cursor 0 2)))
    then (omega arith, refl, refl, call_kept (swap_remove 0))
    then (omega arith, refl, refl, call_kept (write 1 8))
    then (omega arith, omega arith, omega arith, refl, refl, two_kept append)
    then (omega arith, refl, refl, call_kept (look (read 1)))
    then (omega arith, refl, refl, call_kept pop_front)
    then (omega arith, refl, refl, call_kept pop)
    then tt

-- the lists that the calls and answers tell
lists : modelled [] (lines events) ≡ (8 ∷ 11 ∷ 8 ∷ []) ∷ [] ∷ (8 ∷ []) ∷ (11 ∷ []) ∷ []
lists = refl

-- and these are what the slots hold
slots_hold : held (run [] events) ≡ (8 ∷ 11 ∷ 8 ∷ []) ∷ [] ∷ (8 ∷ []) ∷ (11 ∷ []) ∷ []
slots_hold = models events ours

-- 8 entered six times: two by from_elem, one by insert, two by the growing resize and one copied by from_iter; none where it was refused. It was
-- handed out twice, was dropped once and stands three times.
eights :
    (entered 8 [] (lines events) ≡ 6)
    × (handed 8 [] (lines events) ≡ 2)
    × (dropped 8 [] (lines events) ≡ 1)
    × (standing_all 8 (run [] events) ≡ 3)
unfolding standing entries tabulate tally one slot_of pos_of
eights = (refl, refl, refl, refl)

-- 11 entered by a push and again as a copy, and stands in a ring and in a vector
elevens :
    (entered 11 [] (lines events) ≡ 2)
    × (handed 11 [] (lines events) ≡ 0)
    × (dropped 11 [] (lines events) ≡ 0)
    × (standing_all 11 (run [] events) ≡ 2)
unfolding standing entries tabulate tally one slot_of pos_of
elevens = (refl, refl, refl, refl)

-- 1 stands in a slot that was lent and never occupied, which counts for nothing
free_slots :
    (entered 1 [] (lines events) ≡ 0)
    × (handed 1 [] (lines events) ≡ 0)
    × (dropped 1 [] (lines events) ≡ 0)
    × (standing_all 1 (run [] events) ≡ 0)
unfolding standing entries tabulate tally one slot_of pos_of
free_slots = (refl, refl, refl, refl)

-- demand 3 of this run
and_so : (x : ℕ) → entered x [] (lines events) ≡ handed x [] (lines events) + dropped x [] (lines events) + standing_all x (run [] events)
and_so x = demand_3 events ours x

-- every empty ring of this run has head 0: container 1, which append has emptied, is one
homing : AllHoming events
homing =
    making_homes new
    then making_homes (with_capacity 3)
    then making_homes (from_elem 2 8)
    then making_homes (from_elem 3 8)
    then call_homes (push 11)
    then call_homes (push_front 10)
    then call_homes (push_front 9)
    then call_homes (insert 1 8)
    then call_homes (push 8)
    then two_homes (split_off 2)
    then call_homes pop_front
    then call_homes (resize 3 8)
    then two_homes clone
    then call_homes (truncate 2)
    then two_homes (from_iter (cursor 0 2))
    then call_homes (swap_remove 0)
    then call_homes (write 1 8)
    then two_homes append
    then call_homes (look (read 1))
    then call_homes pop_front
    then call_homes pop
    then tt

rings_home : AllHome (run [] events)
rings_home = always_home events ours homing

-- What is not ours: from_elem of a ring, a call on a container that is not there, push_front of a vector, one container named twice, append of
-- a vector to a ring, and a pop whose outcome is that of a refusal.
not_ours :
    ((o : Outcome) → Ours [] (make ring (from_elem 1 8) (5 ∷ []) o) → ⊥)
    × ((o : Outcome) → Ours (run [] events) (on 4 pop o) → ⊥)
    × ((o : Outcome) → Ours (run [] events) (on 2 (push_front 1) o) → ⊥)
    × ((o : Outcome2) → Ours (run [] events) (on_two 0 0 append o) → ⊥)
    × ((o : Outcome2) → Ours (run [] events) (on_two 0 2 append o) → ⊥)
    × (Ours (run [] events) (on 2 pop (answers 4 (tray 0 1 (8 ∷ 0 ∷ 1 ∷ [])))) → ⊥)
unfolding does valid entries tabulate
not_ours = (
  λ o our. true≢false (sym our.0),
  λ o our. omega (arith, our.0),
  λ o our. true≢false (sym our.1),
  λ o our. our.2 refl,
  λ o our. true≢false (sym our.3),
  λ our. let e : ◌≡◌ {A = ℕ} 4 0 = ap (λ (o : Outcome). o.number) our.2 in omega arith,
)
