-- Cases of the best head: what each slot of a ring costs as the place to begin in, with one slot, with a full ring, with as many on either side and with
-- nothing left; and two layouts that are no ring, with which nothing moves. Computed from the definitions.
use mathlib.Core.Path.{◌≡◌, refl}
use mathlib.Core.Bool.{true, false}
use mathlib.Core.List.{List, [], ◌∷◌}
use Prim.Native.Nat.{ℕ}
use lib.ListN.{get_or}
use Rattle.slots.specs.Count.{one, tally}
use Rattle.slots.specs.Layout.{ring, place, slot_of}
use Rattle.slots.specs.Moves.{moved, inserted, removed}
use Rattle.table.specs.Tray.{Tray, valid}
use Rattle.table.specs.Calls.{Call, insert, remove}
use Rattle.table.proofs.Theorems.Trays.{tray, W}
use Rattle.table.proofs.Theorems.Sides.{with_head}

-- with the head in slot 0, 1, 2 and 3 of four
abbrev four : Call → Tray → List ℕ
four call t = with_head call t 0 ∷ with_head call t 1 ∷ with_head call t 2 ∷ with_head call t 3 ∷ []

-- W has its head in slot 2. It stays there, or goes to slot 1 for an insertion and to slot 3 for a removal; with another head all that remain move.
on_W :
    (four (insert 0 8) W ≡ 3 ∷ 0 ∷ 3 ∷ 3 ∷ [])
    × (four (insert 1 8) W ≡ 3 ∷ 1 ∷ 2 ∷ 3 ∷ [])
    × (four (insert 2 8) W ≡ 3 ∷ 2 ∷ 1 ∷ 3 ∷ [])
    × (four (insert 3 8) W ≡ 3 ∷ 3 ∷ 0 ∷ 3 ∷ [])
    × (four (remove 0) W ≡ 2 ∷ 2 ∷ 2 ∷ 0 ∷ [])
    × (four (remove 1) W ≡ 2 ∷ 2 ∷ 1 ∷ 1 ∷ [])
    × (four (remove 2) W ≡ 2 ∷ 2 ∷ 0 ∷ 2 ∷ [])
unfolding moved tally one slot_of
on_W = (refl, refl, refl, refl, refl, refl, refl)

-- As many on either side: two heads do as well. Nothing there yet: all do.
as_many :
    (four (insert 1 8) (tray 3 2 (6 ∷ 0 ∷ 0 ∷ 5 ∷ [])) ≡ 2 ∷ 2 ∷ 1 ∷ 1 ∷ [])
    × (four (insert 0 8) (tray 0 0 (0 ∷ 0 ∷ 0 ∷ 0 ∷ [])) ≡ 0 ∷ 0 ∷ 0 ∷ 0 ∷ [])
unfolding moved tally one slot_of
as_many = (refl, refl)

-- a full ring, from which one is taken
from_full :
    (four (remove 0) (tray 1 4 (8 ∷ 5 ∷ 6 ∷ 7 ∷ [])) ≡ 3 ∷ 3 ∷ 0 ∷ 3 ∷ [])
    × (four (remove 1) (tray 1 4 (8 ∷ 5 ∷ 6 ∷ 7 ∷ [])) ≡ 3 ∷ 2 ∷ 1 ∷ 3 ∷ [])
    × (four (remove 3) (tray 1 4 (8 ∷ 5 ∷ 6 ∷ 7 ∷ [])) ≡ 3 ∷ 0 ∷ 3 ∷ 3 ∷ [])
unfolding moved tally one slot_of
from_full = (refl, refl, refl)

-- One slot is a head for itself; and where nothing is left, head 0 alone is valid.
only_one :
    (with_head (insert 0 8) (tray 0 0 (5 ∷ [])) 0 ≡ 0)
    × (with_head (remove 0) (tray 0 1 (5 ∷ [])) 0 ≡ 0)
    × (valid ring 1 0 1 ≡ true)
    × (valid ring 1 1 1 ≡ false)
    × (valid ring 4 0 0 ≡ true)
    × (valid ring 4 1 0 ≡ false)
    × (four (remove 0) (tray 3 1 (0 ∷ 0 ∷ 0 ∷ 5 ∷ [])) ≡ 0 ∷ 0 ∷ 0 ∷ 0 ∷ [])
unfolding moved tally one slot_of valid
only_one = (refl, refl, refl, refl, refl, refl, refl)

-- Three entries in slots 0, 1 and 2 of four. No ring: a new one at position 1 stands in slot 3, and all others where they stood; the one at position 1 goes and
-- leaves its slot free, and the others stay.
no_ring :
    (moved (place ring 4 0) (λ p. get_or (0 ∷ 3 ∷ 1 ∷ 2 ∷ []) p 0) (inserted 1) 3 ≡ 0)
    × (moved (place ring 4 0) (λ p. get_or (0 ∷ 2 ∷ []) p 0) (removed 1) 3 ≡ 0)
unfolding moved tally one slot_of
no_ring = (refl, refl)
