-- Cases of the slot that is reported (request 10): each call that reports one, where the ring wraps, at both ends of the slots, and on either side of an
-- insertion or removal; then calls that report none, and refusals. Computed from the definitions.
use mathlib.Core.Path.{◌≡◌, refl}
use mathlib.Core.List.{[], ◌∷◌}
use Rattle.slots.specs.Lists.{tabulate}
use Rattle.slots.specs.Count.{one, tally}
use Rattle.slots.specs.Layout.{ring, vector, slot_of, pos_of, entries, relaid}
use Rattle.slots.specs.Moves.{moved}
use Rattle.table.specs.Tray.{valid}
use Rattle.table.specs.Calls.{look, len, is_empty, read, reserve, try_reserve, try_reserve_exact, range, iter, into_iter, step_front, step_back, peek_front, peek_back}
use Rattle.table.specs.Calls.{push, push_front, pop, pop_front, insert, remove, swap_remove, write, truncate, resize, clear, extend}
use Rattle.table.specs.Does.{does}
use Rattle.table.specs.Reported.{reported}
use Rattle.table.proofs.Theorems.Trays.{tray, cursor, W, U}
use Rattle.table.proofs.Cases.Samples.{head_out, empty_turned, empty_ring, one_entry, two_entries, overfull}

-- W, list 9,10,11 in slots 2, 3, 0: what is put in stands there afterwards. At position 1 the head goes back by one slot, at 2 it stays.
puts_in :
    (reported ring (push 8) W ≡ 1)
    × (reported ring (push_front 8) W ≡ 1)
    × (reported ring (insert 0 8) W ≡ 1)
    × (reported ring (insert 1 8) W ≡ 2)
    × (reported ring (insert 2 8) W ≡ 0)
    × (reported ring (insert 3 8) W ≡ 1)
    × (reported ring (look (read 0)) W ≡ 2)
    × (reported ring (look (read 2)) W ≡ 0)
    × (reported ring (write 1 8) W ≡ 3)
    × (reported ring (write 2 8) W ≡ 0)
unfolding reported does valid entries relaid moved tabulate tally one slot_of pos_of
puts_in = (refl, refl, refl, refl, refl, refl, refl, refl, refl, refl)

-- what is taken out stood there before. At position 0 the head goes on, and the slot is still that of the old one.
takes_out :
    (reported ring pop W ≡ 0)
    × (reported ring pop_front W ≡ 2)
    × (reported ring (remove 0) W ≡ 2)
    × (reported ring (remove 1) W ≡ 3)
    × (reported ring (remove 2) W ≡ 0)
    × (reported ring (remove 1) (tray 3 4 (10 ∷ 11 ∷ 12 ∷ 9 ∷ [])) ≡ 0)
    × (reported ring (remove 1) (tray 3 4 (10 ∷ 11 ∷ 12 ∷ 9 ∷ 0 ∷ [])) ≡ 4)
unfolding reported does valid entries relaid moved tabulate tally one slot_of pos_of
takes_out = (refl, refl, refl, refl, refl, refl, refl)

-- the last entry of a ring, whose head is 0 afterwards, stood in slot 1; the first entry of an empty ring goes to slot 0, or in front to the last slot
at_the_ends :
    (reported ring pop one_entry ≡ 1)
    × (reported ring pop_front one_entry ≡ 1)
    × (reported ring (remove 0) one_entry ≡ 1)
    × (reported ring (push 8) empty_ring ≡ 0)
    × (reported ring (push_front 8) empty_ring ≡ 1)
    × (reported ring (insert 0 8) empty_ring ≡ 0)
    × (reported ring (push_front 4) (tray 0 0 (3 ∷ [])) ≡ 0)
    × (reported ring pop two_entries ≡ 0)
    × (reported ring pop_front two_entries ≡ 1)
unfolding reported does valid entries relaid moved tabulate tally one slot_of pos_of
at_the_ends = (refl, refl, refl, refl, refl, refl, refl, refl, refl)

-- U, a vector, list 1,2,3: the position itself
of_a_vector :
    (reported vector (push 8) U ≡ 3)
    × (reported vector (insert 0 8) U ≡ 0)
    × (reported vector (insert 3 8) U ≡ 3)
    × (reported vector (look (read 1)) U ≡ 1)
    × (reported vector (write 2 8) U ≡ 2)
    × (reported vector pop U ≡ 2)
    × (reported vector (remove 0) U ≡ 0)
    × (reported vector (swap_remove 0) U ≡ 0)
    × (reported vector (swap_remove 1) U ≡ 1)
    × (reported vector (swap_remove 2) U ≡ 2)
unfolding reported does valid entries relaid moved tabulate tally one slot_of pos_of
of_a_vector = (refl, refl, refl, refl, refl, refl, refl, refl, refl, refl)

-- done, and no slot: whatever enters, goes or stays
reports_none :
    (reported ring (truncate 1) W ≡ 65535)
    × (reported ring (resize 4 8) W ≡ 65535)
    × (reported ring clear W ≡ 65535)
    × (reported vector (extend (8 ∷ [])) U ≡ 65535)
    × (reported ring (look len) W ≡ 65535)
    × (reported vector (look is_empty) U ≡ 65535)
    × (reported ring (look (reserve 1)) W ≡ 65535)
    × (reported vector (look (try_reserve 1)) U ≡ 65535)
    × (reported vector (look (try_reserve_exact 1)) U ≡ 65535)
    × (reported vector (look (range 0 1)) U ≡ 65535)
    × (reported ring (look iter) W ≡ 65535)
    × (reported ring (look into_iter) W ≡ 65535)
    × (reported ring (look (step_front (cursor 0 3))) W ≡ 65535)
    × (reported ring (look (step_back (cursor 0 3))) W ≡ 65535)
    × (reported ring (look (peek_front (cursor 0 3) 0)) W ≡ 65535)
    × (reported ring (look (peek_back (cursor 0 3) 0)) W ≡ 65535)
unfolding reported does valid entries relaid moved tabulate tally one slot_of pos_of
reports_none = (refl, refl, refl, refl, refl, refl, refl, refl, refl, refl, refl, refl, refl, refl, refl, refl)

-- refused, for each of the numbers that these calls may answer
refusals_report_none :
    (reported ring (push 8) head_out ≡ 65535)
    × (reported ring (push_front 8) empty_turned ≡ 65535)
    × (reported vector (look (read 0)) overfull ≡ 65535)
    × (reported ring (look (read 3)) W ≡ 65535)
    × (reported ring (write 3 8) W ≡ 65535)
    × (reported ring (insert 4 8) W ≡ 65535)
    × (reported ring (remove 3) W ≡ 65535)
    × (reported vector (swap_remove 3) U ≡ 65535)
    × (reported ring pop empty_ring ≡ 65535)
    × (reported ring pop_front empty_ring ≡ 65535)
    × (reported ring (push 8) two_entries ≡ 65535)
    × (reported ring (push_front 8) two_entries ≡ 65535)
    × (reported ring (insert 1 8) two_entries ≡ 65535)
unfolding reported does valid entries relaid moved tabulate tally one slot_of pos_of
refusals_report_none = (refl, refl, refl, refl, refl, refl, refl, refl, refl, refl, refl, refl, refl)
