-- Cases of the makings, and of the capacities 1, 4,096 and 4,097. Computed from the definitions; what is done on 4,096 slots, too long to
-- compute slot by slot, is read off its law.
use mathlib.Core.Path.{◌≡◌, refl, sym}
use mathlib.Core.List.{List, [], ◌∷◌}
use Prim.Native.Nat.{ℕ, ◌≤◌}
use native.Mathlib.Omega.{arith}
use lib.ListN.{length, replicate, length-replicate}
use Rattle.slots.specs.Lists.{tabulate}
use Rattle.slots.specs.Count.{one, tally}
use Rattle.slots.specs.Layout.{ring, vector, slot_of, pos_of, entries, relaid}
use Rattle.slots.specs.Moves.{moved}
use Rattle.table.specs.Tray.{valid}
use Rattle.table.specs.Calls.{push, pop, pop_front, insert, remove, resize, clear, look, len, reserve, append, new, with_capacity, from_elem}
use Rattle.table.specs.Does.{does, does2, made}
use Rattle.table.proofs.Laws.Made.{new_done, with_capacity_done}
use Rattle.table.proofs.Laws.Looks.{len_done}
use Rattle.table.proofs.Theorems.Trays.{tray, gives, answers, W}
use Rattle.table.proofs.Cases.Samples.{answers2, overfull}

-- `new` and `with_capacity` touch no slot; `with_capacity` is done up to the capacity. A refused making gives state 0, 0.
makings :
    (made ring new (7 ∷ 8 ∷ []) ≡ gives 0 0 0 0 (7 ∷ 8 ∷ []))
    × (made vector new (7 ∷ 8 ∷ []) ≡ gives 0 0 0 0 (7 ∷ 8 ∷ []))
    × (made ring new [] ≡ gives 0 0 0 0 [])
    × (made vector new [] ≡ gives 0 0 0 0 [])
    × (made ring (with_capacity 2) (7 ∷ 8 ∷ []) ≡ gives 0 0 0 0 (7 ∷ 8 ∷ []))
    × (made ring (with_capacity 3) (7 ∷ 8 ∷ []) ≡ answers 6 (tray 0 0 (7 ∷ 8 ∷ [])))
    × (made vector (with_capacity 2) (7 ∷ 8 ∷ []) ≡ gives 0 0 0 0 (7 ∷ 8 ∷ []))
    × (made vector (with_capacity 3) (7 ∷ 8 ∷ []) ≡ answers 6 (tray 0 0 (7 ∷ 8 ∷ [])))
    × (made vector (with_capacity 18446744073709551615) (7 ∷ 8 ∷ []) ≡ answers 6 (tray 0 0 (7 ∷ 8 ∷ [])))
    × (made ring (with_capacity 0) [] ≡ gives 0 0 0 0 [])
    × (made ring (with_capacity 1) [] ≡ answers 6 (tray 0 0 []))
unfolding made valid entries relaid moved tabulate tally one slot_of pos_of
makings = (refl, refl, refl, refl, refl, refl, refl, refl, refl, refl, refl)

-- from_elem fills k slots and keeps the others.
elems :
    (made vector (from_elem 0 5) (7 ∷ 8 ∷ []) ≡ gives 0 0 0 0 (7 ∷ 8 ∷ []))
    × (made vector (from_elem 1 5) (7 ∷ 8 ∷ []) ≡ gives 0 0 0 1 (5 ∷ 8 ∷ []))
    × (made vector (from_elem 2 4294967295) (7 ∷ 8 ∷ []) ≡ gives 0 0 0 2 (4294967295 ∷ 4294967295 ∷ []))
    × (made vector (from_elem 3 5) (7 ∷ 8 ∷ []) ≡ answers 6 (tray 0 0 (7 ∷ 8 ∷ [])))
    × (made vector (from_elem 18446744073709551615 5) (7 ∷ 8 ∷ []) ≡ answers 6 (tray 0 0 (7 ∷ 8 ∷ [])))
    × (made vector (from_elem 0 5) [] ≡ gives 0 0 0 0 [])
    × (made vector (from_elem 1 5) [] ≡ answers 6 (tray 0 0 []))
unfolding made valid entries relaid moved tabulate tally one slot_of pos_of
elems = (refl, refl, refl, refl, refl, refl, refl)

-- Capacity 1: the one slot is the one before and the one after itself.
ones :
    (does ring (push 4) (tray 0 0 (3 ∷ [])) ≡ gives 0 0 0 1 (4 ∷ []))
    × (does ring (insert 0 4) (tray 0 0 (3 ∷ [])) ≡ gives 0 0 0 1 (4 ∷ []))
    × (does ring (insert 1 4) (tray 0 1 (3 ∷ [])) ≡ answers 6 (tray 0 1 (3 ∷ [])))
    × (does ring pop (tray 0 1 (3 ∷ [])) ≡ gives 3 0 0 0 (0 ∷ []))
    × (does ring pop_front (tray 0 1 (3 ∷ [])) ≡ gives 3 0 0 0 (0 ∷ []))
    × (does ring (remove 0) (tray 0 1 (3 ∷ [])) ≡ gives 3 0 0 0 (0 ∷ []))
    × (does ring (resize 1 4) (tray 0 0 (3 ∷ [])) ≡ gives 0 0 0 1 (4 ∷ []))
    × (does ring clear (tray 0 1 (3 ∷ [])) ≡ gives 0 0 0 0 (0 ∷ []))
    × (does vector (push 4) (tray 0 0 (3 ∷ [])) ≡ gives 0 0 0 1 (4 ∷ []))
    × (does vector (remove 0) (tray 0 1 (3 ∷ [])) ≡ gives 3 0 0 0 (0 ∷ []))
unfolding does valid entries relaid moved tabulate tally one slot_of pos_of
ones = (refl, refl, refl, refl, refl, refl, refl, refl, refl, refl)

-- 4,096 and 4,097 slots
abbrev most : List ℕ
most = replicate 4096 7

abbrev over : List ℕ
over = replicate 4097 7

-- More than 4,096 slots: 1 before all others, of a making, a call, and on two as the first; of T it is 2.
overs :
    (made ring new over ≡ answers 1 (tray 0 0 over))
    × (made vector new over ≡ answers 1 (tray 0 0 over))
    × (made ring (with_capacity 0) over ≡ answers 1 (tray 0 0 over))
    × (made vector (with_capacity 4098) over ≡ answers 1 (tray 0 0 over))
    × (made vector (from_elem 4098 5) over ≡ answers 1 (tray 0 0 over))
    × (does ring (look len) (tray 0 0 over) ≡ answers 1 (tray 0 0 over))
    × (does vector (look len) (tray 0 0 over) ≡ answers 1 (tray 0 0 over))
    × (does ring pop (tray 0 0 over) ≡ answers 1 (tray 0 0 over))
    × (does vector pop (tray 0 0 over) ≡ answers 1 (tray 0 0 over))
    × (does2 ring ring append (tray 0 0 over) overfull ≡ answers2 1 (tray 0 0 over) overfull)
    × (does2 ring ring append W (tray 0 0 over) ≡ answers2 2 W (tray 0 0 over))
unfolding does does2 made valid entries relaid moved tabulate tally one slot_of pos_of
overs = (refl, refl, refl, refl, refl, refl, refl, refl, refl, refl, refl)

-- 4,096 slots are not too many: a full ring whose head is the last of them, a vector, and what they refuse.
mosts :
    (does ring (look (reserve 1)) (tray 4095 4096 most) ≡ answers 6 (tray 4095 4096 most))
    × (does ring (look (reserve 1)) (tray 4096 4096 most) ≡ answers 1 (tray 4096 4096 most))
    × (does vector (look (reserve 1)) (tray 0 4096 most) ≡ answers 6 (tray 0 4096 most))
    × (does vector (look (reserve 1)) (tray 0 4097 most) ≡ answers 1 (tray 0 4097 most))
    × (does vector pop (tray 0 0 most) ≡ answers 4 (tray 0 0 most))
    × (made ring (with_capacity 4097) most ≡ answers 6 (tray 0 0 most))
    × (made vector (from_elem 4097 5) most ≡ answers 6 (tray 0 0 most))
unfolding does made valid entries relaid moved tabulate tally one slot_of pos_of
mosts = (refl, refl, refl, refl, refl, refl, refl)

few : length most ≤ 4096
few = rw (length-replicate {A = ℕ} 4096 7) (omega arith)

-- and what they do
mosts_done :
    (made ring new most ≡ gives 0 0 0 0 most)
    × (made vector (with_capacity 4096) most ≡ gives 0 0 0 0 most)
    × (does ring (look len) (tray 4095 4096 most) ≡ gives 4096 0 4095 4096 most)
    × (does vector (look len) (tray 0 4096 most) ≡ gives 4096 0 0 4096 most)
unfolding valid
mosts_done = (
  sym (new_done ring most _ few refl),
  sym (with_capacity_done vector most _ few 4096 (rw (length-replicate {A = ℕ} 4096 7) (omega arith)) refl),
  sym (len_done ring (tray 4095 4096 most) _ refl refl _ 4097 refl refl refl),
  sym (len_done vector (tray 0 4096 most) _ refl refl _ 4097 refl refl refl),
)
