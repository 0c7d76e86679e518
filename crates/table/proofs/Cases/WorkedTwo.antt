-- Cases of the calls on two containers: each test of a row from both sides, of two refusals that apply the lower number, and T's head, which is
-- 0 afterwards. Computed from the definitions.
use mathlib.Core.Path.{◌≡◌, refl}
use mathlib.Core.List.{[], ◌∷◌}
use Rattle.slots.specs.Lists.{tabulate}
use Rattle.slots.specs.Count.{one, tally}
use Rattle.slots.specs.Layout.{ring, vector, slot_of, pos_of, entries, relaid}
use Rattle.slots.specs.Moves.{moved}
use Rattle.table.specs.Tray.{valid}
use Rattle.table.specs.Calls.{append, split_off, clone, from_iter}
use Rattle.table.specs.Does.{does2}
use Rattle.table.proofs.Theorems.Trays.{tray, cursor, W, U}
use Rattle.table.proofs.Cases.Samples.{gives2, answers2, shows2, stops2, no_slots, overfull, empty_ring, one_entry, two_entries, wrapping, to_last, empty_vector, full_vector}

-- append of rings: as many as there are free slots, or none of them; T is emptied whole or not at all.
ring_appends :
    (does2 ring ring append W one_entry ≡ gives2 (tray 2 4 (11 ∷ 6 ∷ 9 ∷ 10 ∷ [])) (tray 0 0 (3 ∷ 0 ∷ [])))
    × (does2 ring ring append W two_entries ≡ answers2 6 W two_entries)
    × (does2 ring ring append to_last two_entries ≡ gives2 (tray 2 6 (3 ∷ 4 ∷ 20 ∷ 21 ∷ 22 ∷ 23 ∷ [])) (tray 0 0 (0 ∷ 0 ∷ [])))
    × (does2 ring ring append wrapping one_entry ≡ gives2 (tray 4 5 (22 ∷ 23 ∷ 6 ∷ 8 ∷ 20 ∷ 21 ∷ [])) (tray 0 0 (3 ∷ 0 ∷ [])))
    × (does2 ring ring append W empty_ring ≡ gives2 W (tray 0 0 (5 ∷ 6 ∷ [])))
    × (does2 ring ring append two_entries empty_ring ≡ gives2 two_entries (tray 0 0 (5 ∷ 6 ∷ [])))
    × (does2 ring ring append two_entries one_entry ≡ answers2 6 two_entries one_entry)
    × (does2 ring ring append empty_ring W ≡ answers2 6 empty_ring W)
    × (does2 ring ring append no_slots no_slots ≡ gives2 no_slots no_slots)
    × (does2 ring ring append no_slots one_entry ≡ answers2 6 no_slots one_entry)
    × (does2 ring ring append W overfull ≡ answers2 2 W overfull)
    × (does2 ring ring append overfull W ≡ answers2 1 overfull W)
    × (does2 ring ring append overfull overfull ≡ answers2 1 overfull overfull)
unfolding does2 valid entries relaid moved tabulate tally one slot_of pos_of
ring_appends = (refl, refl, refl, refl, refl, refl, refl, refl, refl, refl, refl, refl, refl)

-- append of vectors.
vector_appends :
    (does2 vector vector append U (tray 0 1 (5 ∷ 6 ∷ [])) ≡ gives2 (tray 0 4 (1 ∷ 2 ∷ 3 ∷ 5 ∷ [])) (tray 0 0 (0 ∷ 6 ∷ [])))
    × (does2 vector vector append U full_vector ≡ answers2 6 U full_vector)
    × (does2 vector vector append full_vector empty_vector ≡ gives2 full_vector empty_vector)
    × (does2 vector vector append empty_vector full_vector ≡ gives2 (tray 0 2 (5 ∷ 6 ∷ [])) (tray 0 0 (0 ∷ 0 ∷ [])))
    × (does2 vector vector append U overfull ≡ answers2 2 U overfull)
    × (does2 vector vector append overfull U ≡ answers2 1 overfull U)
unfolding does2 valid entries relaid moved tabulate tally one slot_of pos_of
vector_appends = (refl, refl, refl, refl, refl, refl)

-- split_off of rings: at n is done and at n + 1 refused; T takes exactly as many as it has slots.
ring_splits :
    (does2 ring ring (split_off 1) W empty_ring ≡ gives2 (tray 2 1 (0 ∷ 0 ∷ 9 ∷ 0 ∷ [])) (tray 0 2 (10 ∷ 11 ∷ [])))
    × (does2 ring ring (split_off 0) W empty_ring ≡ answers2 6 W empty_ring)
    × (does2 ring ring (split_off 0) W (tray 0 0 (5 ∷ 6 ∷ 7 ∷ [])) ≡ gives2 (tray 0 0 (0 ∷ 0 ∷ 0 ∷ 0 ∷ [])) (tray 0 3 (9 ∷ 10 ∷ 11 ∷ [])))
    × (does2 ring ring (split_off 1) wrapping (tray 0 0 (1 ∷ 2 ∷ 3 ∷ 4 ∷ [])) ≡ gives2 (tray 4 1 (0 ∷ 0 ∷ 7 ∷ 8 ∷ 20 ∷ 0 ∷ [])) (tray 0 3 (21 ∷ 22 ∷ 23 ∷ 4 ∷ [])))
    × (does2 ring ring (split_off 3) W empty_ring ≡ gives2 W (tray 0 0 (5 ∷ 6 ∷ [])))
    × (does2 ring ring (split_off 4) W empty_ring ≡ answers2 3 W empty_ring)
    × (does2 ring ring (split_off 18446744073709551615) W empty_ring ≡ answers2 3 W empty_ring)
    × (does2 ring ring (split_off 3) W no_slots ≡ gives2 W no_slots)
    × (does2 ring ring (split_off 2) W no_slots ≡ answers2 6 W no_slots)
unfolding does2 valid entries relaid moved tabulate tally one slot_of pos_of
ring_splits = (refl, refl, refl, refl, refl, refl, refl, refl, refl)

-- split_off, where two refusals apply: 1 before 2, 2 before 3, 3 before 5, 5 before 6.
split_order :
    (does2 ring ring (split_off 1) overfull overfull ≡ answers2 1 overfull overfull)
    × (does2 ring ring (split_off 4) W overfull ≡ answers2 2 W overfull)
    × (does2 ring ring (split_off 4) W one_entry ≡ answers2 3 W one_entry)
    × (does2 ring ring (split_off 1) W one_entry ≡ answers2 5 W one_entry)
    × (does2 ring ring (split_off 0) W one_entry ≡ answers2 5 W one_entry)
unfolding does2 valid entries relaid moved tabulate tally one slot_of pos_of
split_order = (refl, refl, refl, refl, refl)

-- split_off of vectors.
vector_splits :
    (does2 vector vector (split_off 1) U empty_vector ≡ gives2 (tray 0 1 (1 ∷ 0 ∷ 0 ∷ 9 ∷ [])) (tray 0 2 (2 ∷ 3 ∷ [])))
    × (does2 vector vector (split_off 2) U empty_vector ≡ gives2 (tray 0 2 (1 ∷ 2 ∷ 0 ∷ 9 ∷ [])) (tray 0 1 (3 ∷ 6 ∷ [])))
    × (does2 vector vector (split_off 0) U empty_vector ≡ answers2 6 U empty_vector)
    × (does2 vector vector (split_off 3) U empty_vector ≡ gives2 U empty_vector)
    × (does2 vector vector (split_off 4) U empty_vector ≡ answers2 3 U empty_vector)
    × (does2 vector vector (split_off 4) U full_vector ≡ answers2 3 U full_vector)
    × (does2 vector vector (split_off 0) U full_vector ≡ answers2 5 U full_vector)
    × (does2 vector vector (split_off 4) U overfull ≡ answers2 2 U overfull)
    × (does2 vector vector (split_off 4) overfull overfull ≡ answers2 1 overfull overfull)
unfolding does2 valid entries relaid moved tabulate tally one slot_of pos_of
vector_splits = (refl, refl, refl, refl, refl, refl, refl, refl, refl)

-- clone: the first as it was, T with head 0, its free slots kept. Into a T with one slot too few, into one that isn't empty, and both.
clones :
    (does2 ring ring clone W (tray 0 0 (5 ∷ 6 ∷ 7 ∷ [])) ≡ gives2 W (tray 0 3 (9 ∷ 10 ∷ 11 ∷ [])))
    × (does2 ring ring clone W (tray 0 0 (5 ∷ 6 ∷ 7 ∷ 8 ∷ 4 ∷ [])) ≡ gives2 W (tray 0 3 (9 ∷ 10 ∷ 11 ∷ 8 ∷ 4 ∷ [])))
    × (does2 ring ring clone W empty_ring ≡ answers2 6 W empty_ring)
    × (does2 ring ring clone one_entry two_entries ≡ answers2 5 one_entry two_entries)
    × (does2 ring ring clone W one_entry ≡ answers2 5 W one_entry)
    × (does2 ring ring clone empty_ring (tray 0 0 (3 ∷ 4 ∷ [])) ≡ gives2 empty_ring (tray 0 0 (3 ∷ 4 ∷ [])))
    × (does2 ring ring clone empty_ring no_slots ≡ gives2 empty_ring no_slots)
    × (does2 ring ring clone W overfull ≡ answers2 2 W overfull)
    × (does2 ring ring clone overfull overfull ≡ answers2 1 overfull overfull)
    × (does2 vector vector clone U (tray 0 0 (5 ∷ 6 ∷ 7 ∷ [])) ≡ gives2 U (tray 0 3 (1 ∷ 2 ∷ 3 ∷ [])))
    × (does2 vector vector clone U empty_vector ≡ answers2 6 U empty_vector)
    × (does2 vector vector clone empty_vector full_vector ≡ answers2 5 empty_vector full_vector)
    × (does2 vector vector clone U full_vector ≡ answers2 5 U full_vector)
    × (does2 vector vector clone U overfull ≡ answers2 2 U overfull)
    × (does2 vector vector clone overfull overfull ≡ answers2 1 overfull overfull)
unfolding does2 valid entries relaid moved tabulate tally one slot_of pos_of
clones = (refl, refl, refl, refl, refl, refl, refl, refl, refl, refl, refl, refl, refl, refl, refl)

-- from_iter of a ring: T, a vector, takes what remains, and the cursor's front goes to its back. An ended cursor leaves T empty.
ring_iters :
    (does2 ring vector (from_iter (cursor 1 3)) W empty_vector ≡ shows2 (cursor 3 3) W (tray 0 2 (10 ∷ 11 ∷ [])))
    × (does2 ring vector (from_iter (cursor 0 2)) W empty_vector ≡ shows2 (cursor 2 2) W (tray 0 2 (9 ∷ 10 ∷ [])))
    × (does2 ring vector (from_iter (cursor 1 2)) W empty_vector ≡ shows2 (cursor 2 2) W (tray 0 1 (10 ∷ 6 ∷ [])))
    × (does2 ring vector (from_iter (cursor 0 3)) W empty_vector ≡ stops2 6 (cursor 0 3) W empty_vector)
    × (does2 ring vector (from_iter (cursor 2 2)) W empty_vector ≡ shows2 (cursor 2 2) W empty_vector)
    × (does2 ring vector (from_iter (cursor 3 3)) W no_slots ≡ shows2 (cursor 3 3) W no_slots)
    × (does2 ring vector (from_iter (cursor 2 1)) W empty_vector ≡ stops2 3 (cursor 2 1) W empty_vector)
    × (does2 ring vector (from_iter (cursor 1 4)) W empty_vector ≡ stops2 3 (cursor 1 4) W empty_vector)
    × (does2 ring vector (from_iter (cursor 4 4)) W empty_vector ≡ stops2 3 (cursor 4 4) W empty_vector)
    × (does2 ring vector (from_iter (cursor 0 18446744073709551615)) W empty_vector ≡ stops2 3 (cursor 0 18446744073709551615) W empty_vector)
unfolding does2 valid entries relaid moved tabulate tally one slot_of pos_of
ring_iters = (refl, refl, refl, refl, refl, refl, refl, refl, refl, refl)

-- from_iter, where two refusals apply; and of a vector.
vector_iters :
    (does2 ring vector (from_iter (cursor 1 3)) overfull overfull ≡ stops2 1 (cursor 1 3) overfull overfull)
    × (does2 ring vector (from_iter (cursor 2 1)) W overfull ≡ stops2 2 (cursor 2 1) W overfull)
    × (does2 ring vector (from_iter (cursor 2 1)) W full_vector ≡ stops2 3 (cursor 2 1) W full_vector)
    × (does2 ring vector (from_iter (cursor 1 2)) W full_vector ≡ stops2 5 (cursor 1 2) W full_vector)
    × (does2 ring vector (from_iter (cursor 0 3)) W full_vector ≡ stops2 5 (cursor 0 3) W full_vector)
    × (does2 vector vector (from_iter (cursor 1 3)) U empty_vector ≡ shows2 (cursor 3 3) U (tray 0 2 (2 ∷ 3 ∷ [])))
    × (does2 vector vector (from_iter (cursor 0 3)) U empty_vector ≡ stops2 6 (cursor 0 3) U empty_vector)
    × (does2 vector vector (from_iter (cursor 0 4)) U full_vector ≡ stops2 3 (cursor 0 4) U full_vector)
    × (does2 vector vector (from_iter (cursor 0 3)) U full_vector ≡ stops2 5 (cursor 0 3) U full_vector)
    × (does2 vector vector (from_iter (cursor 0 4)) U overfull ≡ stops2 2 (cursor 0 4) U overfull)
    × (does2 vector vector (from_iter (cursor 0 4)) overfull overfull ≡ stops2 1 (cursor 0 4) overfull overfull)
unfolding does2 valid entries relaid moved tabulate tally one slot_of pos_of
vector_iters = (refl, refl, refl, refl, refl, refl, refl, refl, refl, refl, refl)
