-- Cases of the total (request 04): right ones that stay right, wrong ones that stay wrong by as much, over both ends of 64 bits; refusals, makings, and what goes over between two. Computed
-- from the definitions.
use mathlib.Core.Path.{◌≡◌, refl}
use mathlib.Core.List.{[], ◌∷◌}
use Rattle.slots.specs.Lists.{tabulate}
use Rattle.slots.specs.Count.{one, tally}
use Rattle.slots.specs.Layout.{ring, vector, slot_of, pos_of, entries, relaid}
use Rattle.slots.specs.Moves.{moved}
use Rattle.slots.specs.Total.{total, changed}
use Rattle.table.specs.Tray.{valid}
use Rattle.table.specs.Calls.{look, len, read, push, push_front, pop, pop_front, insert, remove, swap_remove, write, truncate, resize, clear, extend}
use Rattle.table.specs.Calls.{append, split_off, clone, from_iter, same, new, with_capacity, from_elem}
use Rattle.table.specs.Does.{does, does2, made}
use Rattle.table.specs.Totals.{total_after, total_made, total_first, total_second}
use Rattle.table.proofs.Theorems.Trays.{tray, cursor, W, U}
use Rattle.table.proofs.Cases.Samples.{overfull}

-- W, list 9,10,11, and its sum: 30
right :
    (total_after ring (push 8) W 30 ≡ 38)
    × (total_after ring (push_front 8) W 30 ≡ 38)
    × (total_after ring pop W 30 ≡ 19)
    × (total_after ring pop_front W 30 ≡ 21)
    × (total_after ring (insert 1 8) W 30 ≡ 38)
    × (total_after ring (remove 1) W 30 ≡ 20)
    × (total_after ring (write 1 8) W 30 ≡ 28)
    × (total_after ring (truncate 1) W 30 ≡ 9)
    × (total_after ring (truncate 3) W 30 ≡ 30)
    × (total_after ring (resize 2 8) W 30 ≡ 19)
    × (total_after ring (resize 4 8) W 30 ≡ 38)
    × (total_after ring clear W 30 ≡ 0)
    × (total_after ring (look len) W 30 ≡ 30)
unfolding total_after changed total does valid entries relaid moved tabulate tally one slot_of pos_of
right = (refl, refl, refl, refl, refl, refl, refl, refl, refl, refl, refl, refl, refl)

-- U, a vector, list 1,2,3
of_a_vector :
    (total_after vector (push 8) U 6 ≡ 14)
    × (total_after vector (swap_remove 0) U 6 ≡ 5)
    × (total_after vector (extend (4 ∷ [])) U 6 ≡ 10)
    × (total_after vector clear U 6 ≡ 0)
unfolding total_after changed total does valid entries relaid moved tabulate tally one slot_of pos_of
of_a_vector = (refl, refl, refl, refl)

-- A total that is wrong by 3 stays wrong by 3: clear does not set it to 0. And over both ends of 64 bits.
wrong :
    (total_after ring (push 8) W 33 ≡ 41)
    × (total_after ring clear W 33 ≡ 3)
    × (total_after ring clear W 27 ≡ 18446744073709551613)
    × (total_after ring pop W 0 ≡ 18446744073709551605)
    × (total_after ring (push 8) W 18446744073709551615 ≡ 7)
    × (total_after ring (resize 4 4294967295) W 18446744073709551615 ≡ 4294967294)
unfolding total_after changed total does valid entries relaid moved tabulate tally one slot_of pos_of
wrong = (refl, refl, refl, refl, refl, refl)

-- A refused call gives the total back: no such position, no room, an invalid state.
refused :
    (total_after ring (remove 3) W 30 ≡ 30)
    × (total_after ring (resize 5 8) W 18446744073709551615 ≡ 18446744073709551615)
    × (total_after ring clear overfull 7 ≡ 7)
    × (total_after vector (look (read 3)) U 0 ≡ 0)
unfolding total_after changed total does valid entries relaid moved tabulate tally one slot_of pos_of
refused = (refl, refl, refl, refl)

-- A making starts it right, a refused one at 0; what the slots held is nothing to it.
makings :
    (total_made ring new (5 ∷ 6 ∷ []) ≡ 0)
    × (total_made ring (with_capacity 3) (5 ∷ 6 ∷ []) ≡ 0)
    × (total_made vector (from_elem 2 9) (5 ∷ 6 ∷ 7 ∷ []) ≡ 18)
    × (total_made vector (from_elem 4 9) (5 ∷ 6 ∷ 7 ∷ []) ≡ 0)
unfolding total_made changed total made valid entries relaid moved tabulate tally one slot_of pos_of
makings = (refl, refl, refl, refl)

-- Two: entries go over, and not T's total. An empty T comes with a total of 100, to which what it gets is added; one without room is refused.
two :
    (total_first vector vector append (tray 0 1 (7 ∷ 0 ∷ 0 ∷ 0 ∷ [])) U 7 ≡ 13)
    × (total_second vector vector append (tray 0 1 (7 ∷ 0 ∷ 0 ∷ 0 ∷ [])) U 100 ≡ 94)
    × (total_first vector vector (split_off 1) U (tray 0 0 (0 ∷ 0 ∷ [])) 6 ≡ 1)
    × (total_second vector vector (split_off 1) U (tray 0 0 (0 ∷ 0 ∷ [])) 100 ≡ 105)
    × (total_first vector vector clone U (tray 0 0 (0 ∷ 0 ∷ 0 ∷ [])) 6 ≡ 6)
    × (total_second vector vector clone U (tray 0 0 (0 ∷ 0 ∷ 0 ∷ [])) 100 ≡ 106)
    × (total_second vector vector (from_iter (cursor 1 3)) U (tray 0 0 (0 ∷ 0 ∷ [])) 100 ≡ 105)
    × (total_second vector vector clone U (tray 0 0 (0 ∷ 0 ∷ [])) 100 ≡ 100)
    × (total_second ring ring same W W 30 ≡ 30)
unfolding total_first total_second changed total does2 valid entries relaid moved tabulate tally one slot_of pos_of
two = (refl, refl, refl, refl, refl, refl, refl, refl, refl)
