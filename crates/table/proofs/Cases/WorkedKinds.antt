-- Which kind has which call, as paper 01 gives them, computed from the definitions.
use mathlib.Core.Path.{◌≡◌, refl}
use mathlib.Core.Bool.{Bool, true, false}
use mathlib.Core.List.{List, [], ◌∷◌}
use Rattle.slots.specs.Layout.{Kind, ring, vector}
use Rattle.table.specs.Calls.{look, len, is_empty, read, reserve, try_reserve, try_reserve_exact, range, iter, into_iter, step_front, step_back, peek_front, peek_back}
use Rattle.table.specs.Calls.{push, push_front, pop, pop_front, insert, remove, swap_remove, write, truncate, resize, clear, extend}
use Rattle.table.specs.Calls.{append, split_off, clone, from_iter, same, new, with_capacity, from_elem, has, has2, has_making}
use Rattle.table.proofs.Theorems.Trays.{cursor}

-- whether a ring has it, and whether a vector has
abbrev kinds : (Kind → Bool) → List Bool
kinds of = of ring ∷ of vector ∷ []

abbrev both : List Bool
both = true ∷ true ∷ []

abbrev ring_only : List Bool
ring_only = true ∷ false ∷ []

abbrev vector_only : List Bool
vector_only = false ∷ true ∷ []

-- The calls and the making that are of one kind only.
one_kind :
    (kinds (has (push_front 1)) ≡ ring_only)
    × (kinds (has pop_front) ≡ ring_only)
    × (kinds (has (swap_remove 1)) ≡ vector_only)
    × (kinds (has (extend (1 ∷ []))) ≡ vector_only)
    × (kinds (has (look is_empty)) ≡ vector_only)
    × (kinds (has (look (try_reserve 1))) ≡ vector_only)
    × (kinds (has (look (try_reserve_exact 1))) ≡ vector_only)
    × (kinds (has (look (range 0 1))) ≡ vector_only)
    × (kinds (has_making (from_elem 1 1)) ≡ vector_only)
one_kind = (refl, refl, refl, refl, refl, refl, refl, refl, refl)

-- Those of both kinds.
both_kinds :
    (kinds (has (push 1)) ≡ both)
    × (kinds (has pop) ≡ both)
    × (kinds (has (insert 0 1)) ≡ both)
    × (kinds (has (remove 0)) ≡ both)
    × (kinds (has (write 0 1)) ≡ both)
    × (kinds (has (truncate 1)) ≡ both)
    × (kinds (has (resize 1 1)) ≡ both)
    × (kinds (has clear) ≡ both)
    × (kinds (has (look len)) ≡ both)
    × (kinds (has (look (read 0))) ≡ both)
    × (kinds (has (look (reserve 1))) ≡ both)
    × (kinds (has (look iter)) ≡ both)
    × (kinds (has (look into_iter)) ≡ both)
    × (kinds (has (look (step_front (cursor 0 1)))) ≡ both)
    × (kinds (has (look (step_back (cursor 0 1)))) ≡ both)
    × (kinds (has (look (peek_front (cursor 0 1) 0))) ≡ both)
    × (kinds (has (look (peek_back (cursor 0 1) 0))) ≡ both)
    × (kinds (has_making new) ≡ both)
    × (kinds (has_making (with_capacity 1)) ≡ both)
both_kinds = (refl, refl, refl, refl, refl, refl, refl, refl, refl, refl, refl, refl, refl, refl, refl, refl, refl, refl, refl)

-- T is of the same kind, in from_iter a vector; a ring is compared with either, a vector with a vector. Named first is a ring, then a vector.
two_kinds :
    (kinds (has2 append ring) ≡ ring_only)
    × (kinds (has2 append vector) ≡ vector_only)
    × (kinds (has2 (split_off 1) ring) ≡ ring_only)
    × (kinds (has2 (split_off 1) vector) ≡ vector_only)
    × (kinds (has2 clone ring) ≡ ring_only)
    × (kinds (has2 clone vector) ≡ vector_only)
    × (kinds (has2 (from_iter (cursor 0 1)) ring) ≡ vector_only)
    × (kinds (has2 (from_iter (cursor 0 1)) vector) ≡ vector_only)
    × (kinds (has2 same ring) ≡ both)
    × (kinds (has2 same vector) ≡ vector_only)
two_kinds = (refl, refl, refl, refl, refl, refl, refl, refl, refl, refl)
