-- Cases of the carrying: where each call carries the three positions of W or U, and which entry it takes out of the list. Computed from the
-- definitions.
use mathlib.Core.Path.{◌≡◌, refl}
use mathlib.Core.List.{List, [], ◌∷◌}
use Prim.Native.Nat.{ℕ}
use Rattle.slots.specs.Layout.{ring, vector}
use Rattle.slots.specs.Moves.{Carried, to, gone}
use Rattle.table.specs.Calls.{push, push_front, pop, pop_front, insert, remove, swap_remove, write, truncate, resize, clear, extend, look, read, iter}
use Rattle.table.specs.Calls.{append, split_off, clone, from_iter, same}
use Rattle.table.specs.Does.{row_of, row_of2}
use Rattle.table.proofs.Theorems.Trays.{cursor, W, U}
use Rattle.table.proofs.Cases.Samples.{empty_ring, empty_vector}

-- positions 0, 1 and 2
abbrev three : (ℕ → Carried) → List Carried
three carry = carry 0 ∷ carry 1 ∷ carry 2 ∷ []

abbrev all_stay : List Carried
all_stay = to 0 ∷ to 1 ∷ to 2 ∷ []

-- Insert carries j < i to j and j ≥ i to j + 1, push_front as insert at 0 does; a push leaves all where they are.
carried_in :
    (three (row_of ring (insert 0 8) W).carry ≡ to 1 ∷ to 2 ∷ to 3 ∷ [])
    × (three (row_of ring (insert 1 8) W).carry ≡ to 0 ∷ to 2 ∷ to 3 ∷ [])
    × (three (row_of ring (insert 3 8) W).carry ≡ all_stay)
    × (three (row_of vector (insert 2 8) U).carry ≡ to 0 ∷ to 1 ∷ to 3 ∷ [])
    × (three (row_of ring (push_front 8) W).carry ≡ to 1 ∷ to 2 ∷ to 3 ∷ [])
    × (three (row_of ring (push 8) W).carry ≡ all_stay)
    × (three (row_of vector (extend (8 ∷ [])) U).carry ≡ all_stay)
    × (three (row_of ring (resize 4 8) W).carry ≡ all_stay)
carried_in = (refl, refl, refl, refl, refl, refl, refl, refl)

-- Remove carries j < i to j and j > i to j - 1, pop_front as remove at 0 does; swap_remove carries the last, where it remains, to i.
carried_out :
    (three (row_of ring (remove 0) W).carry ≡ gone ∷ to 0 ∷ to 1 ∷ [])
    × (three (row_of ring (remove 1) W).carry ≡ to 0 ∷ gone ∷ to 1 ∷ [])
    × (three (row_of vector (remove 2) U).carry ≡ to 0 ∷ to 1 ∷ gone ∷ [])
    × (three (row_of ring pop_front W).carry ≡ gone ∷ to 0 ∷ to 1 ∷ [])
    × (three (row_of ring pop W).carry ≡ to 0 ∷ to 1 ∷ gone ∷ [])
    × (three (row_of vector (swap_remove 0) U).carry ≡ gone ∷ to 1 ∷ to 0 ∷ [])
    × (three (row_of vector (swap_remove 2) U).carry ≡ to 0 ∷ to 1 ∷ gone ∷ [])
carried_out = (refl, refl, refl, refl, refl, refl, refl)

-- All other positions stay; an entry that is handed out, dropped or split off is not one that remains.
carried_nowhere :
    (three (row_of ring (write 1 8) W).carry ≡ to 0 ∷ gone ∷ to 2 ∷ [])
    × (three (row_of ring (truncate 1) W).carry ≡ to 0 ∷ gone ∷ gone ∷ [])
    × (three (row_of ring (resize 2 8) W).carry ≡ to 0 ∷ to 1 ∷ gone ∷ [])
    × (three (row_of ring clear W).carry ≡ gone ∷ gone ∷ gone ∷ [])
    × (three (row_of ring (look (read 1)) W).carry ≡ all_stay)
    × (three (row_of vector (look iter) U).carry ≡ all_stay)
    × (three (row_of2 ring ring append W empty_ring).carry ≡ all_stay)
    × (three (row_of2 ring ring (split_off 1) W empty_ring).carry ≡ to 0 ∷ gone ∷ gone ∷ [])
    × (three (row_of2 ring ring clone W empty_ring).carry ≡ all_stay)
    × (three (row_of2 ring vector (from_iter (cursor 1 3)) W empty_vector).carry ≡ all_stay)
    × (three (row_of2 ring ring same W empty_ring).carry ≡ all_stay)
    × (three (row_of2 vector vector same U empty_vector).carry ≡ all_stay)
    × (three (row_of2 ring vector same W empty_vector).carry ≡ all_stay)
carried_nowhere = (refl, refl, refl, refl, refl, refl, refl, refl, refl, refl, refl, refl, refl)
