-- Cases of the calls that change one container: each test of a row from both sides, the shifts of a ring on both sides of its wrap, and what
-- free slots keep. Computed from the definitions.
use mathlib.Core.Path.{◌≡◌, refl}
use mathlib.Core.List.{[], ◌∷◌}
use Rattle.slots.specs.Lists.{tabulate}
use Rattle.slots.specs.Count.{one, tally}
use Rattle.slots.specs.Layout.{ring, vector, slot_of, pos_of, entries, relaid}
use Rattle.slots.specs.Moves.{moved}
use Rattle.table.specs.Tray.{valid}
use Rattle.table.specs.Calls.{push, push_front, pop, pop_front, insert, remove, swap_remove, write, truncate, resize, clear, extend}
use Rattle.table.specs.Does.{does}
use Rattle.table.proofs.Theorems.Trays.{tray, gives, answers, W, U}
use Rattle.table.proofs.Cases.Samples.{no_slots, overfull, head_out, empty_ring, one_entry, full_ring, wrapping, to_last, into_first, from_first, from_last, empty_vector, full_vector}

-- push_back and push: into the slot after the last entry, until the container is full.
pushes :
    (does ring (push 8) W ≡ gives 0 0 2 4 (11 ∷ 8 ∷ 9 ∷ 10 ∷ []))
    × (does ring (push 9) to_last ≡ gives 0 0 2 5 (9 ∷ 8 ∷ 20 ∷ 21 ∷ 22 ∷ 23 ∷ []))
    × (does ring (push 9) empty_ring ≡ gives 0 0 0 1 (9 ∷ 6 ∷ []))
    × (does ring (push 9) full_ring ≡ answers 6 full_ring)
    × (does ring (push 9) overfull ≡ answers 1 overfull)
    × (does vector (push 4294967295) U ≡ gives 0 0 0 4 (1 ∷ 2 ∷ 3 ∷ 4294967295 ∷ []))
    × (does vector (push 9) empty_vector ≡ gives 0 0 0 1 (9 ∷ 6 ∷ []))
    × (does vector (push 9) full_vector ≡ answers 6 full_vector)
    × (does vector (push 9) overfull ≡ answers 1 overfull)
unfolding does valid entries relaid moved tabulate tally one slot_of pos_of
pushes = (refl, refl, refl, refl, refl, refl, refl, refl, refl)

-- push_front: the head goes one slot back, from slot 0 to the last; so on an empty ring too.
front_pushes :
    (does ring (push_front 8) W ≡ gives 0 0 1 4 (11 ∷ 8 ∷ 9 ∷ 10 ∷ []))
    × (does ring (push_front 4294967295) from_first ≡ gives 0 0 5 6 (20 ∷ 21 ∷ 22 ∷ 23 ∷ 24 ∷ 4294967295 ∷ []))
    × (does ring (push_front 9) empty_ring ≡ gives 0 0 1 1 (5 ∷ 9 ∷ []))
    × (does ring (push_front 9) (tray 0 0 (1 ∷ 2 ∷ 3 ∷ 4 ∷ [])) ≡ gives 0 0 3 1 (1 ∷ 2 ∷ 3 ∷ 9 ∷ []))
    × (does ring (push_front 9) full_ring ≡ answers 6 full_ring)
    × (does ring (push_front 9) no_slots ≡ answers 6 no_slots)
    × (does ring (push_front 9) overfull ≡ answers 1 overfull)
unfolding does valid entries relaid moved tabulate tally one slot_of pos_of
front_pushes = (refl, refl, refl, refl, refl, refl, refl)

-- pop_back and pop: the slot given up holds 0, and the head stays; an emptied ring's is 0.
pops :
    (does ring pop W ≡ gives 11 0 2 2 (0 ∷ 0 ∷ 9 ∷ 10 ∷ []))
    × (does ring pop to_last ≡ gives 23 0 2 3 (7 ∷ 8 ∷ 20 ∷ 21 ∷ 22 ∷ 0 ∷ []))
    × (does ring pop one_entry ≡ gives 6 0 0 0 (3 ∷ 0 ∷ []))
    × (does ring pop empty_ring ≡ answers 4 empty_ring)
    × (does ring pop head_out ≡ answers 1 head_out)
    × (does vector pop U ≡ gives 3 0 0 2 (1 ∷ 2 ∷ 0 ∷ 9 ∷ []))
    × (does vector pop empty_vector ≡ answers 4 empty_vector)
    × (does vector pop overfull ≡ answers 1 overfull)
unfolding does valid entries relaid moved tabulate tally one slot_of pos_of
pops = (refl, refl, refl, refl, refl, refl, refl, refl)

-- pop_front: the head goes one slot on, from the last to slot 0.
front_pops :
    (does ring pop_front W ≡ gives 9 0 3 2 (11 ∷ 0 ∷ 0 ∷ 10 ∷ []))
    × (does ring pop_front from_last ≡ gives 20 0 0 4 (21 ∷ 22 ∷ 23 ∷ 24 ∷ 7 ∷ 0 ∷ []))
    × (does ring pop_front (tray 0 1 (3 ∷ [])) ≡ gives 3 0 0 0 (0 ∷ []))
    × (does ring pop_front empty_ring ≡ answers 4 empty_ring)
    × (does ring pop_front no_slots ≡ answers 4 no_slots)
    × (does ring pop_front head_out ≡ answers 1 head_out)
unfolding does valid entries relaid moved tabulate tally one slot_of pos_of
front_pops = (refl, refl, refl, refl, refl, refl)

-- insert in a ring shifts the shorter side, and the back one where both are as long: at 1 and 2 of four, at 2 and 3 of five.
ring_inserts :
    (does ring (insert 1 9) wrapping ≡ gives 0 1 3 5 (22 ∷ 23 ∷ 7 ∷ 20 ∷ 9 ∷ 21 ∷ []))
    × (does ring (insert 2 9) wrapping ≡ gives 0 2 4 5 (9 ∷ 22 ∷ 23 ∷ 8 ∷ 20 ∷ 21 ∷ []))
    × (does ring (insert 1 9) to_last ≡ gives 0 1 1 5 (7 ∷ 20 ∷ 9 ∷ 21 ∷ 22 ∷ 23 ∷ []))
    × (does ring (insert 2 9) to_last ≡ gives 0 2 2 5 (23 ∷ 8 ∷ 20 ∷ 21 ∷ 9 ∷ 22 ∷ []))
    × (does ring (insert 2 9) from_first ≡ gives 0 2 5 6 (21 ∷ 9 ∷ 22 ∷ 23 ∷ 24 ∷ 20 ∷ []))
    × (does ring (insert 3 9) from_first ≡ gives 0 2 0 6 (20 ∷ 21 ∷ 22 ∷ 9 ∷ 23 ∷ 24 ∷ []))
    × (does ring (insert 2 9) from_last ≡ gives 0 2 4 6 (9 ∷ 22 ∷ 23 ∷ 24 ∷ 20 ∷ 21 ∷ []))
    × (does ring (insert 3 9) into_first ≡ gives 0 2 2 6 (23 ∷ 24 ∷ 20 ∷ 21 ∷ 22 ∷ 9 ∷ []))
unfolding does valid entries relaid moved tabulate tally one slot_of pos_of
ring_inserts = (refl, refl, refl, refl, refl, refl, refl, refl)

-- insert at either end moves nothing; position n is done and n + 1 refused; a position beyond comes before a want of room.
insert_ends :
    (does ring (insert 0 9) from_first ≡ gives 0 0 5 6 (20 ∷ 21 ∷ 22 ∷ 23 ∷ 24 ∷ 9 ∷ []))
    × (does ring (insert 5 9) from_first ≡ gives 0 0 0 6 (20 ∷ 21 ∷ 22 ∷ 23 ∷ 24 ∷ 9 ∷ []))
    × (does ring (insert 6 9) from_first ≡ answers 3 from_first)
    × (does ring (insert 0 9) empty_ring ≡ gives 0 0 0 1 (9 ∷ 6 ∷ []))
    × (does ring (insert 1 9) empty_ring ≡ answers 3 empty_ring)
    × (does ring (insert 3 9) full_ring ≡ answers 6 full_ring)
    × (does ring (insert 4 9) full_ring ≡ answers 3 full_ring)
    × (does ring (insert 18446744073709551615 9) W ≡ answers 3 W)
    × (does ring (insert 0 9) no_slots ≡ answers 6 no_slots)
    × (does ring (insert 1 9) no_slots ≡ answers 3 no_slots)
    × (does ring (insert 4 9) overfull ≡ answers 1 overfull)
unfolding does valid entries relaid moved tabulate tally one slot_of pos_of
insert_ends = (refl, refl, refl, refl, refl, refl, refl, refl, refl, refl, refl)

-- insert in a vector shifts all from i on.
vector_inserts :
    (does vector (insert 0 8) U ≡ gives 0 3 0 4 (8 ∷ 1 ∷ 2 ∷ 3 ∷ []))
    × (does vector (insert 1 8) U ≡ gives 0 2 0 4 (1 ∷ 8 ∷ 2 ∷ 3 ∷ []))
    × (does vector (insert 4 8) U ≡ answers 3 U)
    × (does vector (insert 18446744073709551615 8) U ≡ answers 3 U)
    × (does vector (insert 0 4294967295) empty_vector ≡ gives 0 0 0 1 (4294967295 ∷ 6 ∷ []))
    × (does vector (insert 2 8) full_vector ≡ answers 6 full_vector)
    × (does vector (insert 3 8) full_vector ≡ answers 3 full_vector)
    × (does vector (insert 4 8) overfull ≡ answers 1 overfull)
unfolding does valid entries relaid moved tabulate tally one slot_of pos_of
vector_inserts = (refl, refl, refl, refl, refl, refl, refl, refl)

-- remove in a ring shifts the shorter side, and the back one where both are as long: at 1 and 2 of four, at 1 and 2 of five, at 2 and 3 of six.
ring_removes :
    (does ring (remove 1) wrapping ≡ gives 21 1 5 3 (22 ∷ 23 ∷ 7 ∷ 8 ∷ 0 ∷ 20 ∷ []))
    × (does ring (remove 2) wrapping ≡ gives 22 1 4 3 (23 ∷ 0 ∷ 7 ∷ 8 ∷ 20 ∷ 21 ∷ []))
    × (does ring (remove 1) from_last ≡ gives 21 1 0 4 (20 ∷ 22 ∷ 23 ∷ 24 ∷ 7 ∷ 0 ∷ []))
    × (does ring (remove 2) from_last ≡ gives 22 2 5 4 (21 ∷ 23 ∷ 24 ∷ 0 ∷ 7 ∷ 20 ∷ []))
    × (does ring (remove 2) into_first ≡ gives 22 2 2 4 (0 ∷ 7 ∷ 20 ∷ 21 ∷ 23 ∷ 24 ∷ []))
    × (does ring (remove 2) (tray 5 6 (21 ∷ 22 ∷ 23 ∷ 24 ∷ 25 ∷ 20 ∷ [])) ≡ gives 22 2 0 5 (20 ∷ 21 ∷ 23 ∷ 24 ∷ 25 ∷ 0 ∷ []))
    × (does ring (remove 3) (tray 5 6 (21 ∷ 22 ∷ 23 ∷ 24 ∷ 25 ∷ 20 ∷ [])) ≡ gives 23 2 5 5 (21 ∷ 22 ∷ 24 ∷ 25 ∷ 0 ∷ 20 ∷ []))
unfolding does valid entries relaid moved tabulate tally one slot_of pos_of
ring_removes = (refl, refl, refl, refl, refl, refl, refl)

-- remove at either end moves nothing; position n - 1 is done and n refused; where the one entry of a ring goes, the head is 0.
remove_ends :
    (does ring (remove 0) from_first ≡ gives 20 0 1 4 (0 ∷ 21 ∷ 22 ∷ 23 ∷ 24 ∷ 7 ∷ []))
    × (does ring (remove 4) from_first ≡ gives 24 0 0 4 (20 ∷ 21 ∷ 22 ∷ 23 ∷ 0 ∷ 7 ∷ []))
    × (does ring (remove 5) from_first ≡ answers 3 from_first)
    × (does ring (remove 0) one_entry ≡ gives 6 0 0 0 (3 ∷ 0 ∷ []))
    × (does ring (remove 1) one_entry ≡ answers 3 one_entry)
    × (does ring (remove 18446744073709551615) W ≡ answers 3 W)
    × (does ring (remove 0) no_slots ≡ answers 3 no_slots)
    × (does ring (remove 3) overfull ≡ answers 1 overfull)
unfolding does valid entries relaid moved tabulate tally one slot_of pos_of
remove_ends = (refl, refl, refl, refl, refl, refl, refl, refl)

-- remove in a vector shifts all after i.
vector_removes :
    (does vector (remove 0) U ≡ gives 1 2 0 2 (2 ∷ 3 ∷ 0 ∷ 9 ∷ []))
    × (does vector (remove 1) U ≡ gives 2 1 0 2 (1 ∷ 3 ∷ 0 ∷ 9 ∷ []))
    × (does vector (remove 2) U ≡ gives 3 0 0 2 (1 ∷ 2 ∷ 0 ∷ 9 ∷ []))
    × (does vector (remove 3) U ≡ answers 3 U)
    × (does vector (remove 18446744073709551615) U ≡ answers 3 U)
    × (does vector (remove 0) empty_vector ≡ answers 3 empty_vector)
    × (does vector (remove 3) overfull ≡ answers 1 overfull)
unfolding does valid entries relaid moved tabulate tally one slot_of pos_of
vector_removes = (refl, refl, refl, refl, refl, refl, refl)

-- swap_remove moves the last entry, and nothing where the last is the one removed.
swap_removes :
    (does vector (swap_remove 1) U ≡ gives 2 1 0 2 (1 ∷ 3 ∷ 0 ∷ 9 ∷ []))
    × (does vector (swap_remove 1) (tray 0 4 (1 ∷ 2 ∷ 3 ∷ 4 ∷ [])) ≡ gives 2 1 0 3 (1 ∷ 4 ∷ 3 ∷ 0 ∷ []))
    × (does vector (swap_remove 3) U ≡ answers 3 U)
    × (does vector (swap_remove 0) full_vector ≡ gives 5 1 0 1 (6 ∷ 0 ∷ []))
    × (does vector (swap_remove 1) full_vector ≡ gives 6 0 0 1 (5 ∷ 0 ∷ []))
    × (does vector (swap_remove 0) (tray 0 1 (5 ∷ 6 ∷ [])) ≡ gives 5 0 0 0 (0 ∷ 6 ∷ []))
    × (does vector (swap_remove 0) empty_vector ≡ answers 3 empty_vector)
    × (does vector (swap_remove 18446744073709551615) U ≡ answers 3 U)
    × (does vector (swap_remove 3) overfull ≡ answers 1 overfull)
unfolding does valid entries relaid moved tabulate tally one slot_of pos_of
swap_removes = (refl, refl, refl, refl, refl, refl, refl, refl, refl)

-- write hands the old entry out and moves nothing.
writes :
    (does ring (write 0 8) W ≡ gives 9 0 2 3 (11 ∷ 0 ∷ 8 ∷ 10 ∷ []))
    × (does ring (write 2 8) W ≡ gives 11 0 2 3 (8 ∷ 0 ∷ 9 ∷ 10 ∷ []))
    × (does ring (write 3 8) W ≡ answers 3 W)
    × (does ring (write 18446744073709551615 8) W ≡ answers 3 W)
    × (does ring (write 0 8) no_slots ≡ answers 3 no_slots)
    × (does ring (write 3 8) overfull ≡ answers 1 overfull)
    × (does vector (write 0 4294967295) U ≡ gives 1 0 0 3 (4294967295 ∷ 2 ∷ 3 ∷ 9 ∷ []))
    × (does vector (write 2 8) U ≡ gives 3 0 0 3 (1 ∷ 2 ∷ 8 ∷ 9 ∷ []))
    × (does vector (write 3 8) U ≡ answers 3 U)
    × (does vector (write 3 8) overfull ≡ answers 1 overfull)
unfolding does valid entries relaid moved tabulate tally one slot_of pos_of
writes = (refl, refl, refl, refl, refl, refl, refl, refl, refl, refl)

-- truncate below n clears what it leaves out, and those slots only; to n or more it changes nothing.
truncates :
    (does ring (truncate 1) wrapping ≡ gives 0 0 4 1 (0 ∷ 0 ∷ 7 ∷ 8 ∷ 20 ∷ 0 ∷ []))
    × (does ring (truncate 3) wrapping ≡ gives 0 0 4 3 (22 ∷ 0 ∷ 7 ∷ 8 ∷ 20 ∷ 21 ∷ []))
    × (does ring (truncate 4) wrapping ≡ gives 0 0 4 4 (22 ∷ 23 ∷ 7 ∷ 8 ∷ 20 ∷ 21 ∷ []))
    × (does ring (truncate 5) wrapping ≡ gives 0 0 4 4 (22 ∷ 23 ∷ 7 ∷ 8 ∷ 20 ∷ 21 ∷ []))
    × (does ring (truncate 18446744073709551615) wrapping ≡ gives 0 0 4 4 (22 ∷ 23 ∷ 7 ∷ 8 ∷ 20 ∷ 21 ∷ []))
    × (does ring (truncate 0) W ≡ gives 0 0 0 0 (0 ∷ 0 ∷ 0 ∷ 0 ∷ []))
    × (does ring (truncate 0) empty_ring ≡ gives 0 0 0 0 (5 ∷ 6 ∷ []))
    × (does ring (truncate 1) overfull ≡ answers 1 overfull)
    × (does vector (truncate 2) U ≡ gives 0 0 0 2 (1 ∷ 2 ∷ 0 ∷ 9 ∷ []))
    × (does vector (truncate 0) U ≡ gives 0 0 0 0 (0 ∷ 0 ∷ 0 ∷ 9 ∷ []))
    × (does vector (truncate 1) overfull ≡ answers 1 overfull)
unfolding does valid entries relaid moved tabulate tally one slot_of pos_of
truncates = (refl, refl, refl, refl, refl, refl, refl, refl, refl, refl, refl)

-- resize down, to the same, up to the capacity, and past it.
resizes :
    (does ring (resize 2 9) wrapping ≡ gives 0 0 4 2 (0 ∷ 0 ∷ 7 ∷ 8 ∷ 20 ∷ 21 ∷ []))
    × (does ring (resize 4 9) wrapping ≡ gives 0 0 4 4 (22 ∷ 23 ∷ 7 ∷ 8 ∷ 20 ∷ 21 ∷ []))
    × (does ring (resize 5 9) wrapping ≡ gives 0 0 4 5 (22 ∷ 23 ∷ 9 ∷ 8 ∷ 20 ∷ 21 ∷ []))
    × (does ring (resize 6 9) to_last ≡ gives 0 0 2 6 (9 ∷ 9 ∷ 20 ∷ 21 ∷ 22 ∷ 23 ∷ []))
    × (does ring (resize 7 9) to_last ≡ answers 6 to_last)
    × (does ring (resize 0 9) W ≡ gives 0 0 0 0 (0 ∷ 0 ∷ 0 ∷ 0 ∷ []))
    × (does ring (resize 18446744073709551615 9) W ≡ answers 6 W)
    × (does ring (resize 0 9) no_slots ≡ gives 0 0 0 0 [])
    × (does ring (resize 1 9) no_slots ≡ answers 6 no_slots)
    × (does ring (resize 5 9) overfull ≡ answers 1 overfull)
    × (does vector (resize 1 8) U ≡ gives 0 0 0 1 (1 ∷ 0 ∷ 0 ∷ 9 ∷ []))
    × (does vector (resize 3 8) U ≡ gives 0 0 0 3 (1 ∷ 2 ∷ 3 ∷ 9 ∷ []))
    × (does vector (resize 4 4294967295) U ≡ gives 0 0 0 4 (1 ∷ 2 ∷ 3 ∷ 4294967295 ∷ []))
    × (does vector (resize 5 8) overfull ≡ answers 1 overfull)
unfolding does valid entries relaid moved tabulate tally one slot_of pos_of
resizes = (refl, refl, refl, refl, refl, refl, refl, refl, refl, refl, refl, refl, refl, refl)

-- clear puts a ring's head to 0 and leaves free slots as they are.
clears :
    (does ring clear W ≡ gives 0 0 0 0 (0 ∷ 0 ∷ 0 ∷ 0 ∷ []))
    × (does ring clear wrapping ≡ gives 0 0 0 0 (0 ∷ 0 ∷ 7 ∷ 8 ∷ 0 ∷ 0 ∷ []))
    × (does ring clear empty_ring ≡ gives 0 0 0 0 (5 ∷ 6 ∷ []))
    × (does ring clear no_slots ≡ gives 0 0 0 0 [])
    × (does ring clear overfull ≡ answers 1 overfull)
    × (does vector clear U ≡ gives 0 0 0 0 (0 ∷ 0 ∷ 0 ∷ 9 ∷ []))
    × (does vector clear overfull ≡ answers 1 overfull)
unfolding does valid entries relaid moved tabulate tally one slot_of pos_of
clears = (refl, refl, refl, refl, refl, refl, refl)

-- extend_from_slice: as many as there are free slots, none on a full one, and not one more.
extends :
    (does vector (extend (7 ∷ [])) U ≡ gives 0 0 0 4 (1 ∷ 2 ∷ 3 ∷ 7 ∷ []))
    × (does vector (extend (7 ∷ 8 ∷ [])) U ≡ answers 6 U)
    × (does vector (extend []) U ≡ gives 0 0 0 3 (1 ∷ 2 ∷ 3 ∷ 9 ∷ []))
    × (does vector (extend (7 ∷ 4294967295 ∷ [])) empty_vector ≡ gives 0 0 0 2 (7 ∷ 4294967295 ∷ []))
    × (does vector (extend []) full_vector ≡ gives 0 0 0 2 (5 ∷ 6 ∷ []))
    × (does vector (extend (7 ∷ [])) full_vector ≡ answers 6 full_vector)
    × (does vector (extend []) no_slots ≡ gives 0 0 0 0 [])
    × (does vector (extend (7 ∷ [])) no_slots ≡ answers 6 no_slots)
    × (does vector (extend (7 ∷ [])) overfull ≡ answers 1 overfull)
unfolding does valid entries relaid moved tabulate tally one slot_of pos_of
extends = (refl, refl, refl, refl, refl, refl, refl, refl, refl)
