-- Cases of sameness: rings at other heads and on other capacities, vectors, a ring with a vector; each way to differ, and the refusals. Computed from
-- the definitions.
use mathlib.Core.Path.{◌≡◌, refl}
use mathlib.Core.List.{[], ◌∷◌}
use Rattle.slots.specs.Lists.{tabulate}
use Rattle.slots.specs.Count.{one, tally}
use Rattle.slots.specs.Layout.{ring, vector, slot_of, pos_of, entries, relaid}
use Rattle.slots.specs.Moves.{moved}
use Rattle.table.specs.Tray.{valid}
use Rattle.table.specs.Calls.{same}
use Rattle.table.specs.Does.{does2}
use Rattle.table.proofs.Theorems.Trays.{tray, W, U}
use Rattle.table.proofs.Cases.Samples.{answers2, tells2, no_slots, overfull, head_out, empty_ring, one_entry, two_entries, full_ring, wrapping, to_last, into_first, from_first, from_last, empty_vector, full_vector}

-- Two rings that hold 9,10,11, or 20,21,..: at another head, on more slots or fewer, with other numbers in the free slots, wrapping in one, in both
-- at different places, or in neither.
turned :
    (does2 ring ring same W (tray 0 3 (9 ∷ 10 ∷ 11 ∷ 5 ∷ [])) ≡ tells2 1 W (tray 0 3 (9 ∷ 10 ∷ 11 ∷ 5 ∷ [])))
    × (does2 ring ring same W (tray 1 3 (0 ∷ 9 ∷ 10 ∷ 11 ∷ [])) ≡ tells2 1 W (tray 1 3 (0 ∷ 9 ∷ 10 ∷ 11 ∷ [])))
    × (does2 ring ring same W (tray 3 3 (10 ∷ 11 ∷ 77 ∷ 9 ∷ [])) ≡ tells2 1 W (tray 3 3 (10 ∷ 11 ∷ 77 ∷ 9 ∷ [])))
    × (does2 ring ring same W (tray 2 3 (11 ∷ 77 ∷ 9 ∷ 10 ∷ [])) ≡ tells2 1 W (tray 2 3 (11 ∷ 77 ∷ 9 ∷ 10 ∷ [])))
    × (does2 ring ring same W (tray 2 3 (0 ∷ 0 ∷ 9 ∷ 10 ∷ 11 ∷ [])) ≡ tells2 1 W (tray 2 3 (0 ∷ 0 ∷ 9 ∷ 10 ∷ 11 ∷ [])))
    × (does2 ring ring same W (tray 2 3 (10 ∷ 11 ∷ 9 ∷ [])) ≡ tells2 1 W (tray 2 3 (10 ∷ 11 ∷ 9 ∷ [])))
    × (does2 ring ring same (tray 4 4 (22 ∷ 23 ∷ 7 ∷ 8 ∷ 20 ∷ 21 ∷ [])) (tray 3 4 (21 ∷ 22 ∷ 23 ∷ 20 ∷ [])) ≡ tells2 1 (tray 4 4 (22 ∷ 23 ∷ 7 ∷ 8 ∷ 20 ∷ 21 ∷ [])) (tray 3 4 (21 ∷ 22 ∷ 23 ∷ 20 ∷ [])))
    × (does2 ring ring same wrapping to_last ≡ tells2 1 wrapping to_last)
    × (does2 ring ring same to_last wrapping ≡ tells2 1 to_last wrapping)
    × (does2 ring ring same into_first from_first ≡ tells2 1 into_first from_first)
    × (does2 ring ring same into_first from_last ≡ tells2 1 into_first from_last)
    × (does2 ring ring same from_last into_first ≡ tells2 1 from_last into_first)
unfolding does2 valid entries relaid moved tabulate tally one slot_of pos_of
turned = (refl, refl, refl, refl, refl, refl, refl, refl, refl, refl, refl, refl)

-- Empty rings are same, whatever their capacities and free slots, and on no slots at all; none is same as a ring that holds something.
empty_rings :
    (does2 ring ring same empty_ring (tray 0 0 (7 ∷ 8 ∷ [])) ≡ tells2 1 empty_ring (tray 0 0 (7 ∷ 8 ∷ [])))
    × (does2 ring ring same empty_ring (tray 0 0 (5 ∷ 6 ∷ 7 ∷ [])) ≡ tells2 1 empty_ring (tray 0 0 (5 ∷ 6 ∷ 7 ∷ [])))
    × (does2 ring ring same empty_ring no_slots ≡ tells2 1 empty_ring no_slots)
    × (does2 ring ring same no_slots empty_ring ≡ tells2 1 no_slots empty_ring)
    × (does2 ring ring same no_slots no_slots ≡ tells2 1 no_slots no_slots)
    × (does2 ring ring same empty_ring one_entry ≡ tells2 0 empty_ring one_entry)
    × (does2 ring ring same one_entry no_slots ≡ tells2 0 one_entry no_slots)
unfolding does2 valid entries relaid moved tabulate tally one slot_of pos_of
empty_rings = (refl, refl, refl, refl, refl, refl, refl)

-- W and a ring that differs in one thing: one entry less, one more, the first, second or last entry, two exchanged. The beginning of a list is not
-- the list, and a free slot is no entry.
differing :
    (does2 ring ring same W (tray 2 2 (11 ∷ 0 ∷ 9 ∷ 10 ∷ [])) ≡ tells2 0 W (tray 2 2 (11 ∷ 0 ∷ 9 ∷ 10 ∷ [])))
    × (does2 ring ring same W (tray 2 4 (11 ∷ 0 ∷ 9 ∷ 10 ∷ [])) ≡ tells2 0 W (tray 2 4 (11 ∷ 0 ∷ 9 ∷ 10 ∷ [])))
    × (does2 ring ring same (tray 2 2 (11 ∷ 0 ∷ 9 ∷ 10 ∷ [])) W ≡ tells2 0 (tray 2 2 (11 ∷ 0 ∷ 9 ∷ 10 ∷ [])) W)
    × (does2 ring ring same W (tray 2 3 (11 ∷ 0 ∷ 8 ∷ 10 ∷ [])) ≡ tells2 0 W (tray 2 3 (11 ∷ 0 ∷ 8 ∷ 10 ∷ [])))
    × (does2 ring ring same W (tray 2 3 (11 ∷ 0 ∷ 9 ∷ 8 ∷ [])) ≡ tells2 0 W (tray 2 3 (11 ∷ 0 ∷ 9 ∷ 8 ∷ [])))
    × (does2 ring ring same W (tray 2 3 (8 ∷ 0 ∷ 9 ∷ 10 ∷ [])) ≡ tells2 0 W (tray 2 3 (8 ∷ 0 ∷ 9 ∷ 10 ∷ [])))
    × (does2 ring ring same W (tray 0 3 (10 ∷ 9 ∷ 11 ∷ [])) ≡ tells2 0 W (tray 0 3 (10 ∷ 9 ∷ 11 ∷ [])))
    × (does2 ring ring same W (tray 0 3 (11 ∷ 0 ∷ 9 ∷ 10 ∷ [])) ≡ tells2 0 W (tray 0 3 (11 ∷ 0 ∷ 9 ∷ 10 ∷ [])))
    × (does2 ring ring same two_entries (tray 0 2 (4 ∷ 3 ∷ [])) ≡ tells2 0 two_entries (tray 0 2 (4 ∷ 3 ∷ [])))
    × (does2 ring ring same two_entries (tray 0 2 (3 ∷ 4 ∷ [])) ≡ tells2 1 two_entries (tray 0 2 (3 ∷ 4 ∷ [])))
unfolding does2 valid entries relaid moved tabulate tally one slot_of pos_of
differing = (refl, refl, refl, refl, refl, refl, refl, refl, refl, refl)

-- Two vectors: equal lengths and equal entries, whatever the capacities and the free slots.
equalities :
    (does2 vector vector same U (tray 0 3 (1 ∷ 2 ∷ 3 ∷ [])) ≡ tells2 1 U (tray 0 3 (1 ∷ 2 ∷ 3 ∷ [])))
    × (does2 vector vector same U (tray 0 3 (1 ∷ 2 ∷ 3 ∷ 8 ∷ [])) ≡ tells2 1 U (tray 0 3 (1 ∷ 2 ∷ 3 ∷ 8 ∷ [])))
    × (does2 vector vector same empty_vector no_slots ≡ tells2 1 empty_vector no_slots)
    × (does2 vector vector same U (tray 0 2 (1 ∷ 2 ∷ 3 ∷ 9 ∷ [])) ≡ tells2 0 U (tray 0 2 (1 ∷ 2 ∷ 3 ∷ 9 ∷ [])))
    × (does2 vector vector same U (tray 0 4 (1 ∷ 2 ∷ 3 ∷ 9 ∷ [])) ≡ tells2 0 U (tray 0 4 (1 ∷ 2 ∷ 3 ∷ 9 ∷ [])))
    × (does2 vector vector same U (tray 0 3 (8 ∷ 2 ∷ 3 ∷ 9 ∷ [])) ≡ tells2 0 U (tray 0 3 (8 ∷ 2 ∷ 3 ∷ 9 ∷ [])))
    × (does2 vector vector same U (tray 0 3 (1 ∷ 2 ∷ 8 ∷ 9 ∷ [])) ≡ tells2 0 U (tray 0 3 (1 ∷ 2 ∷ 8 ∷ 9 ∷ [])))
    × (does2 vector vector same empty_vector full_vector ≡ tells2 0 empty_vector full_vector)
    × (does2 vector vector same full_vector empty_vector ≡ tells2 0 full_vector empty_vector)
unfolding does2 valid entries relaid moved tabulate tally one slot_of pos_of
equalities = (refl, refl, refl, refl, refl, refl, refl, refl, refl)

-- A ring and a vector: the same of a ring that wraps, or not, on as many slots or not; and each way to differ.
across :
    (does2 ring vector same W (tray 0 3 (9 ∷ 10 ∷ 11 ∷ [])) ≡ tells2 1 W (tray 0 3 (9 ∷ 10 ∷ 11 ∷ [])))
    × (does2 ring vector same W (tray 0 3 (9 ∷ 10 ∷ 11 ∷ 8 ∷ [])) ≡ tells2 1 W (tray 0 3 (9 ∷ 10 ∷ 11 ∷ 8 ∷ [])))
    × (does2 ring vector same full_ring (tray 0 3 (10 ∷ 11 ∷ 12 ∷ 13 ∷ 14 ∷ [])) ≡ tells2 1 full_ring (tray 0 3 (10 ∷ 11 ∷ 12 ∷ 13 ∷ 14 ∷ [])))
    × (does2 ring vector same from_first (tray 0 5 (20 ∷ 21 ∷ 22 ∷ 23 ∷ 24 ∷ [])) ≡ tells2 1 from_first (tray 0 5 (20 ∷ 21 ∷ 22 ∷ 23 ∷ 24 ∷ [])))
    × (does2 ring vector same empty_ring empty_vector ≡ tells2 1 empty_ring empty_vector)
    × (does2 ring vector same no_slots empty_vector ≡ tells2 1 no_slots empty_vector)
    × (does2 ring vector same empty_ring no_slots ≡ tells2 1 empty_ring no_slots)
    × (does2 ring vector same W (tray 0 3 (11 ∷ 0 ∷ 9 ∷ 10 ∷ [])) ≡ tells2 0 W (tray 0 3 (11 ∷ 0 ∷ 9 ∷ 10 ∷ [])))
    × (does2 ring vector same W (tray 0 2 (9 ∷ 10 ∷ 11 ∷ [])) ≡ tells2 0 W (tray 0 2 (9 ∷ 10 ∷ 11 ∷ [])))
    × (does2 ring vector same W (tray 0 4 (9 ∷ 10 ∷ 11 ∷ 0 ∷ [])) ≡ tells2 0 W (tray 0 4 (9 ∷ 10 ∷ 11 ∷ 0 ∷ [])))
    × (does2 ring vector same W (tray 0 3 (9 ∷ 10 ∷ 12 ∷ [])) ≡ tells2 0 W (tray 0 3 (9 ∷ 10 ∷ 12 ∷ [])))
    × (does2 ring vector same W (tray 0 3 (8 ∷ 10 ∷ 11 ∷ [])) ≡ tells2 0 W (tray 0 3 (8 ∷ 10 ∷ 11 ∷ [])))
    × (does2 ring vector same empty_ring full_vector ≡ tells2 0 empty_ring full_vector)
    × (does2 ring vector same one_entry empty_vector ≡ tells2 0 one_entry empty_vector)
unfolding does2 valid entries relaid moved tabulate tally one slot_of pos_of
across = (refl, refl, refl, refl, refl, refl, refl, refl, refl, refl, refl, refl, refl, refl)

-- What is invalid is not compared: 1, then 2, the lower where both apply. A ring's head must be a slot, and an empty ring's 0; a vector has none.
refusals :
    (does2 ring ring same W overfull ≡ answers2 2 W overfull)
    × (does2 ring ring same overfull W ≡ answers2 1 overfull W)
    × (does2 ring ring same overfull overfull ≡ answers2 1 overfull overfull)
    × (does2 ring ring same empty_ring head_out ≡ answers2 2 empty_ring head_out)
    × (does2 ring ring same head_out empty_ring ≡ answers2 1 head_out empty_ring)
    × (does2 ring ring same head_out overfull ≡ answers2 1 head_out overfull)
    × (does2 vector vector same U overfull ≡ answers2 2 U overfull)
    × (does2 vector vector same overfull U ≡ answers2 1 overfull U)
    × (does2 vector vector same overfull overfull ≡ answers2 1 overfull overfull)
    × (does2 ring vector same W overfull ≡ answers2 2 W overfull)
    × (does2 ring vector same overfull U ≡ answers2 1 overfull U)
    × (does2 ring vector same head_out empty_vector ≡ answers2 1 head_out empty_vector)
    × (does2 ring vector same head_out overfull ≡ answers2 1 head_out overfull)
    × (does2 ring vector same overfull overfull ≡ answers2 1 overfull overfull)
unfolding does2 valid entries relaid moved tabulate tally one slot_of pos_of
refusals = (refl, refl, refl, refl, refl, refl, refl, refl, refl, refl, refl, refl, refl, refl)
