-- Cases of emptied rings (request 03): each call that can take the last entry out, at each head, and beside it the same call where one entry is left;
-- then an empty ring with another head, as first and as T, given to every call. Computed from the definitions.
use mathlib.Core.Path.{◌≡◌, refl}
use mathlib.Core.List.{[], ◌∷◌}
use Rattle.slots.specs.Lists.{tabulate}
use Rattle.slots.specs.Count.{one, tally}
use Rattle.slots.specs.Layout.{ring, vector, slot_of, pos_of, entries, relaid}
use Rattle.slots.specs.Moves.{moved}
use Rattle.table.specs.Tray.{Tray, valid}
use Rattle.table.specs.Calls.{look, len, read, reserve, iter, into_iter, step_front, step_back, peek_front, peek_back}
use Rattle.table.specs.Calls.{push, push_front, pop, pop_front, insert, remove, write, truncate, resize, clear, append, split_off, clone, from_iter, same}
use Rattle.table.specs.Does.{does, does2}
use Rattle.table.proofs.Theorems.Trays.{tray, cursor, gives, answers, W}
use Rattle.table.proofs.Cases.Samples.{gives2, answers2, stops, stops2, no_slots, head_out, empty_turned, empty_ring, one_entry, two_entries, wrapping, empty_vector, overfull}

-- a ring of four slots with one entry, 9, and one with two, 8 and 9, at each head
abbrev one0 : Tray
one0 = tray 0 1 (9 ∷ 5 ∷ 6 ∷ 7 ∷ [])

abbrev one1 : Tray
one1 = tray 1 1 (5 ∷ 9 ∷ 6 ∷ 7 ∷ [])

abbrev one2 : Tray
one2 = tray 2 1 (5 ∷ 6 ∷ 9 ∷ 7 ∷ [])

abbrev one3 : Tray
one3 = tray 3 1 (5 ∷ 6 ∷ 7 ∷ 9 ∷ [])

abbrev two0 : Tray
two0 = tray 0 2 (8 ∷ 9 ∷ 6 ∷ 7 ∷ [])

abbrev two1 : Tray
two1 = tray 1 2 (5 ∷ 8 ∷ 9 ∷ 7 ∷ [])

abbrev two2 : Tray
two2 = tray 2 2 (5 ∷ 6 ∷ 8 ∷ 9 ∷ [])

abbrev two3 : Tray
two3 = tray 3 2 (9 ∷ 5 ∷ 6 ∷ 8 ∷ [])

-- pop_front of one entry: the head is 0, whatever it was; of two, it goes one slot on.
front_pops :
    (does ring pop_front one0 ≡ gives 9 0 0 0 (0 ∷ 5 ∷ 6 ∷ 7 ∷ []))
    × (does ring pop_front one1 ≡ gives 9 0 0 0 (5 ∷ 0 ∷ 6 ∷ 7 ∷ []))
    × (does ring pop_front one2 ≡ gives 9 0 0 0 (5 ∷ 6 ∷ 0 ∷ 7 ∷ []))
    × (does ring pop_front one3 ≡ gives 9 0 0 0 (5 ∷ 6 ∷ 7 ∷ 0 ∷ []))
    × (does ring pop_front two0 ≡ gives 8 0 1 1 (0 ∷ 9 ∷ 6 ∷ 7 ∷ []))
    × (does ring pop_front two1 ≡ gives 8 0 2 1 (5 ∷ 0 ∷ 9 ∷ 7 ∷ []))
    × (does ring pop_front two2 ≡ gives 8 0 3 1 (5 ∷ 6 ∷ 0 ∷ 9 ∷ []))
    × (does ring pop_front two3 ≡ gives 8 0 0 1 (9 ∷ 5 ∷ 6 ∷ 0 ∷ []))
    × (does ring pop_front (tray 0 1 (9 ∷ [])) ≡ gives 9 0 0 0 (0 ∷ []))
unfolding does valid entries relaid moved tabulate tally one slot_of pos_of
front_pops = (refl, refl, refl, refl, refl, refl, refl, refl, refl)

-- pop_back of one entry: the head is 0; of two, it stays.
pops :
    (does ring pop one0 ≡ gives 9 0 0 0 (0 ∷ 5 ∷ 6 ∷ 7 ∷ []))
    × (does ring pop one1 ≡ gives 9 0 0 0 (5 ∷ 0 ∷ 6 ∷ 7 ∷ []))
    × (does ring pop one2 ≡ gives 9 0 0 0 (5 ∷ 6 ∷ 0 ∷ 7 ∷ []))
    × (does ring pop one3 ≡ gives 9 0 0 0 (5 ∷ 6 ∷ 7 ∷ 0 ∷ []))
    × (does ring pop two0 ≡ gives 9 0 0 1 (8 ∷ 0 ∷ 6 ∷ 7 ∷ []))
    × (does ring pop two1 ≡ gives 9 0 1 1 (5 ∷ 8 ∷ 0 ∷ 7 ∷ []))
    × (does ring pop two2 ≡ gives 9 0 2 1 (5 ∷ 6 ∷ 8 ∷ 0 ∷ []))
    × (does ring pop two3 ≡ gives 9 0 3 1 (0 ∷ 5 ∷ 6 ∷ 8 ∷ []))
unfolding does valid entries relaid moved tabulate tally one slot_of pos_of
pops = (refl, refl, refl, refl, refl, refl, refl, refl)

-- remove of the only entry: the head is 0; of the first or the second of two, by the shorter side, which is the back one where both are as long.
removes :
    (does ring (remove 0) one0 ≡ gives 9 0 0 0 (0 ∷ 5 ∷ 6 ∷ 7 ∷ []))
    × (does ring (remove 0) one1 ≡ gives 9 0 0 0 (5 ∷ 0 ∷ 6 ∷ 7 ∷ []))
    × (does ring (remove 0) one2 ≡ gives 9 0 0 0 (5 ∷ 6 ∷ 0 ∷ 7 ∷ []))
    × (does ring (remove 0) one3 ≡ gives 9 0 0 0 (5 ∷ 6 ∷ 7 ∷ 0 ∷ []))
    × (does ring (remove 1) one3 ≡ answers 3 one3)
    × (does ring (remove 0) two3 ≡ gives 8 0 0 1 (9 ∷ 5 ∷ 6 ∷ 0 ∷ []))
    × (does ring (remove 0) two2 ≡ gives 8 0 3 1 (5 ∷ 6 ∷ 0 ∷ 9 ∷ []))
    × (does ring (remove 1) two2 ≡ gives 9 0 2 1 (5 ∷ 6 ∷ 8 ∷ 0 ∷ []))
unfolding does valid entries relaid moved tabulate tally one slot_of pos_of
removes = (refl, refl, refl, refl, refl, refl, refl, refl)

-- truncate and resize of a ring that wraps: to nothing the head is 0, to one entry it stays; of an empty ring, which stays; and up from empty.
cuts :
    (does ring (truncate 0) wrapping ≡ gives 0 0 0 0 (0 ∷ 0 ∷ 7 ∷ 8 ∷ 0 ∷ 0 ∷ []))
    × (does ring (truncate 1) wrapping ≡ gives 0 0 4 1 (0 ∷ 0 ∷ 7 ∷ 8 ∷ 20 ∷ 0 ∷ []))
    × (does ring (truncate 0) empty_ring ≡ gives 0 0 0 0 (5 ∷ 6 ∷ []))
    × (does ring (resize 0 3) wrapping ≡ gives 0 0 0 0 (0 ∷ 0 ∷ 7 ∷ 8 ∷ 0 ∷ 0 ∷ []))
    × (does ring (resize 1 3) wrapping ≡ gives 0 0 4 1 (0 ∷ 0 ∷ 7 ∷ 8 ∷ 20 ∷ 0 ∷ []))
    × (does ring (resize 0 3) empty_ring ≡ gives 0 0 0 0 (5 ∷ 6 ∷ []))
    × (does ring (resize 1 3) empty_ring ≡ gives 0 0 0 1 (3 ∷ 6 ∷ []))
    × (does ring (resize 2 3) empty_ring ≡ gives 0 0 0 2 (3 ∷ 3 ∷ []))
    × (does ring (resize 3 3) empty_ring ≡ answers 6 empty_ring)
    × (does ring clear wrapping ≡ gives 0 0 0 0 (0 ∷ 0 ∷ 7 ∷ 8 ∷ 0 ∷ 0 ∷ []))
unfolding does valid entries relaid moved tabulate tally one slot_of pos_of
cuts = (refl, refl, refl, refl, refl, refl, refl, refl, refl, refl)

-- split_off at 0 hands all over, and the head is 0; at 1 it stays. What is passed on to T stands from slot 0 on, as before.
splits :
    (does2 ring ring (split_off 0) one3 empty_ring ≡ gives2 (tray 0 0 (5 ∷ 6 ∷ 7 ∷ 0 ∷ [])) (tray 0 1 (9 ∷ 6 ∷ [])))
    × (does2 ring ring (split_off 0) two3 empty_ring ≡ gives2 (tray 0 0 (0 ∷ 5 ∷ 6 ∷ 0 ∷ [])) (tray 0 2 (8 ∷ 9 ∷ [])))
    × (does2 ring ring (split_off 1) two3 empty_ring ≡ gives2 (tray 3 1 (0 ∷ 5 ∷ 6 ∷ 8 ∷ [])) (tray 0 1 (9 ∷ 6 ∷ [])))
    × (does2 ring ring (split_off 0) empty_ring empty_ring ≡ gives2 empty_ring empty_ring)
    × (does2 ring ring append empty_ring one3 ≡ gives2 (tray 0 1 (9 ∷ 6 ∷ [])) (tray 0 0 (5 ∷ 6 ∷ 7 ∷ 0 ∷ [])))
    × (does2 ring ring append empty_ring empty_ring ≡ gives2 empty_ring empty_ring)
    × (does2 ring ring clone empty_ring empty_ring ≡ gives2 empty_ring empty_ring)
unfolding does2 valid entries relaid moved tabulate tally one slot_of pos_of
splits = (refl, refl, refl, refl, refl, refl, refl)

-- push_front on an empty ring goes to the last slot; pop_front and pop_back then bring the head back to 0; a stack pushed back lies from slot 0 on.
turns :
    (does ring (push_front 9) (tray 0 0 (5 ∷ 6 ∷ 7 ∷ [])) ≡ gives 0 0 2 1 (5 ∷ 6 ∷ 9 ∷ []))
    × (does ring pop_front (tray 2 1 (5 ∷ 6 ∷ 9 ∷ [])) ≡ gives 9 0 0 0 (5 ∷ 6 ∷ 0 ∷ []))
    × (does ring pop (tray 2 1 (5 ∷ 6 ∷ 9 ∷ [])) ≡ gives 9 0 0 0 (5 ∷ 6 ∷ 0 ∷ []))
    × (does ring (push 1) (tray 0 0 (5 ∷ 6 ∷ 0 ∷ [])) ≡ gives 0 0 0 1 (1 ∷ 6 ∷ 0 ∷ []))
    × (does ring (push 2) (tray 0 1 (1 ∷ 6 ∷ 0 ∷ [])) ≡ gives 0 0 0 2 (1 ∷ 2 ∷ 0 ∷ []))
    × (does ring (push 3) (tray 0 2 (1 ∷ 2 ∷ 0 ∷ [])) ≡ gives 0 0 0 3 (1 ∷ 2 ∷ 3 ∷ []))
    × (does ring (insert 0 1) (tray 0 0 (5 ∷ 6 ∷ 0 ∷ [])) ≡ gives 0 0 0 1 (1 ∷ 6 ∷ 0 ∷ []))
unfolding does valid entries relaid moved tabulate tally one slot_of pos_of
turns = (refl, refl, refl, refl, refl, refl, refl)

-- An empty ring with head 1 on two slots, given to every call of one ring: 1, before 3, 4 and 6, which would apply.
turned_first :
    (does ring (push 9) empty_turned ≡ answers 1 empty_turned)
    × (does ring (push_front 9) empty_turned ≡ answers 1 empty_turned)
    × (does ring pop empty_turned ≡ answers 1 empty_turned)
    × (does ring pop_front empty_turned ≡ answers 1 empty_turned)
    × (does ring (insert 0 9) empty_turned ≡ answers 1 empty_turned)
    × (does ring (insert 1 9) empty_turned ≡ answers 1 empty_turned)
    × (does ring (remove 0) empty_turned ≡ answers 1 empty_turned)
    × (does ring (write 0 9) empty_turned ≡ answers 1 empty_turned)
    × (does ring (truncate 0) empty_turned ≡ answers 1 empty_turned)
    × (does ring (resize 0 9) empty_turned ≡ answers 1 empty_turned)
    × (does ring (resize 3 9) empty_turned ≡ answers 1 empty_turned)
    × (does ring clear empty_turned ≡ answers 1 empty_turned)
    × (does ring (look len) empty_turned ≡ answers 1 empty_turned)
    × (does ring (look (read 0)) empty_turned ≡ answers 1 empty_turned)
    × (does ring (look (reserve 1)) empty_turned ≡ answers 1 empty_turned)
    × (does ring (look (reserve 3)) empty_turned ≡ answers 1 empty_turned)
unfolding does valid entries relaid moved tabulate tally one slot_of pos_of
turned_first = (refl, refl, refl, refl, refl, refl, refl, refl, refl, refl, refl, refl, refl, refl, refl, refl)

-- to every call of a cursor over it
turned_walks :
    (does ring (look iter) empty_turned ≡ stops 1 (cursor 0 0) empty_turned)
    × (does ring (look into_iter) empty_turned ≡ stops 1 (cursor 0 0) empty_turned)
    × (does ring (look (step_front (cursor 0 0))) empty_turned ≡ stops 1 (cursor 0 0) empty_turned)
    × (does ring (look (step_back (cursor 0 0))) empty_turned ≡ stops 1 (cursor 0 0) empty_turned)
    × (does ring (look (peek_front (cursor 0 1) 0)) empty_turned ≡ stops 1 (cursor 0 1) empty_turned)
    × (does ring (look (peek_back (cursor 0 1) 0)) empty_turned ≡ stops 1 (cursor 0 1) empty_turned)
unfolding does valid entries relaid moved tabulate tally one slot_of pos_of
turned_walks = (refl, refl, refl, refl, refl, refl)

-- and to every call on two: as the first 1, as T 2, before 3, 5 and 6; a vector has no head.
turned_two :
    (does2 ring ring append empty_turned W ≡ answers2 1 empty_turned W)
    × (does2 ring ring append W empty_turned ≡ answers2 2 W empty_turned)
    × (does2 ring ring append two_entries empty_turned ≡ answers2 2 two_entries empty_turned)
    × (does2 ring ring append empty_turned empty_turned ≡ answers2 1 empty_turned empty_turned)
    × (does2 ring ring append overfull empty_turned ≡ answers2 1 overfull empty_turned)
    × (does2 ring ring (split_off 0) empty_turned empty_ring ≡ answers2 1 empty_turned empty_ring)
    × (does2 ring ring (split_off 1) W empty_turned ≡ answers2 2 W empty_turned)
    × (does2 ring ring (split_off 0) W empty_turned ≡ answers2 2 W empty_turned)
    × (does2 ring ring (split_off 4) W empty_turned ≡ answers2 2 W empty_turned)
    × (does2 ring ring clone empty_turned empty_ring ≡ answers2 1 empty_turned empty_ring)
    × (does2 ring ring clone one_entry empty_turned ≡ answers2 2 one_entry empty_turned)
    × (does2 ring ring clone W empty_turned ≡ answers2 2 W empty_turned)
    × (does2 ring ring same empty_turned empty_ring ≡ answers2 1 empty_turned empty_ring)
    × (does2 ring ring same empty_ring empty_turned ≡ answers2 2 empty_ring empty_turned)
    × (does2 ring ring same empty_turned head_out ≡ answers2 1 empty_turned head_out)
    × (does2 ring vector same empty_turned empty_vector ≡ answers2 1 empty_turned empty_vector)
    × (does2 ring vector (from_iter (cursor 0 0)) empty_turned empty_vector ≡ stops2 1 (cursor 0 0) empty_turned empty_vector)
    × (does2 ring vector (from_iter (cursor 0 1)) empty_turned no_slots ≡ stops2 1 (cursor 0 1) empty_turned no_slots)
unfolding does2 valid entries relaid moved tabulate tally one slot_of pos_of
turned_two = (refl, refl, refl, refl, refl, refl, refl, refl, refl, refl, refl, refl, refl, refl, refl, refl, refl, refl)
