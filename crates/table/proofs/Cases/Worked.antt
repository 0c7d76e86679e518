-- Cases beside the trays a to m: here of the calls that change nothing, and of the parts that a vector lends. Each test of a row is met from
-- both sides, and of two refusals that apply the lower number is answered. Computed from the definitions.
use mathlib.Core.Path.{◌≡◌, refl}
use mathlib.Core.List.{[], ◌∷◌}
use Prim.Native.Nat.{ℕ}
use Rattle.slots.specs.Lists.{tabulate}
use Rattle.slots.specs.Count.{one, tally}
use Rattle.slots.specs.Layout.{ring, vector, slot_of, pos_of, entries, relaid}
use Rattle.slots.specs.Moves.{moved}
use Rattle.table.specs.Tray.{valid}
use Rattle.table.specs.Calls.{look, len, is_empty, read, reserve, try_reserve, try_reserve_exact, range, iter, into_iter, step_front, step_back, peek_front, peek_back}
use Rattle.table.specs.Does.{does}
use Rattle.table.specs.Parts.{Part, lends, lends_all, in_part}
use Rattle.table.proofs.Theorems.Trays.{tray, cursor, answers, W, U}
use Rattle.table.proofs.Cases.Samples.{tells, shows, stops, no_slots, overfull, empty_ring, empty_vector, full_vector}

-- When a ring is valid: n ≤ c and h < c, or c = h = 0; and an empty one has h = 0.
ring_states :
    (does ring (look len) (tray 3 4 (1 ∷ 2 ∷ 3 ∷ 4 ∷ [])) ≡ tells 4 (tray 3 4 (1 ∷ 2 ∷ 3 ∷ 4 ∷ [])))
    × (does ring (look len) (tray 3 5 (1 ∷ 2 ∷ 3 ∷ 4 ∷ [])) ≡ answers 1 (tray 3 5 (1 ∷ 2 ∷ 3 ∷ 4 ∷ [])))
    × (does ring (look len) (tray 4 4 (1 ∷ 2 ∷ 3 ∷ 4 ∷ [])) ≡ answers 1 (tray 4 4 (1 ∷ 2 ∷ 3 ∷ 4 ∷ [])))
    × (does ring (look len) (tray 0 1 (1 ∷ [])) ≡ tells 1 (tray 0 1 (1 ∷ [])))
    × (does ring (look len) (tray 1 0 (1 ∷ [])) ≡ answers 1 (tray 1 0 (1 ∷ [])))
    × (does ring (look len) (tray 0 0 (1 ∷ 2 ∷ 3 ∷ 4 ∷ [])) ≡ tells 0 (tray 0 0 (1 ∷ 2 ∷ 3 ∷ 4 ∷ [])))
    × (does ring (look len) (tray 1 0 (1 ∷ 2 ∷ 3 ∷ 4 ∷ [])) ≡ answers 1 (tray 1 0 (1 ∷ 2 ∷ 3 ∷ 4 ∷ [])))
    × (does ring (look len) (tray 3 0 (1 ∷ 2 ∷ 3 ∷ 4 ∷ [])) ≡ answers 1 (tray 3 0 (1 ∷ 2 ∷ 3 ∷ 4 ∷ [])))
    × (does ring (look len) (tray 3 1 (1 ∷ 2 ∷ 3 ∷ 4 ∷ [])) ≡ tells 1 (tray 3 1 (1 ∷ 2 ∷ 3 ∷ 4 ∷ [])))
    × (does ring (look len) (tray 0 2 (1 ∷ [])) ≡ answers 1 (tray 0 2 (1 ∷ [])))
    × (does ring (look len) (tray 0 0 []) ≡ tells 0 (tray 0 0 []))
    × (does ring (look len) (tray 1 0 []) ≡ answers 1 (tray 1 0 []))
    × (does ring (look len) (tray 0 1 []) ≡ answers 1 (tray 0 1 []))
    × (does ring (look len) (tray 18446744073709551615 0 (1 ∷ [])) ≡ answers 1 (tray 18446744073709551615 0 (1 ∷ [])))
    × (does ring (look len) (tray 0 18446744073709551615 (1 ∷ [])) ≡ answers 1 (tray 0 18446744073709551615 (1 ∷ [])))
unfolding does valid entries relaid moved tabulate tally one slot_of pos_of
ring_states = (refl, refl, refl, refl, refl, refl, refl, refl, refl, refl, refl, refl, refl, refl, refl)

-- When a vector is valid: n ≤ c.
vector_states :
    (does vector (look len) (tray 0 4 (1 ∷ 2 ∷ 3 ∷ 4 ∷ [])) ≡ tells 4 (tray 0 4 (1 ∷ 2 ∷ 3 ∷ 4 ∷ [])))
    × (does vector (look len) (tray 0 5 (1 ∷ 2 ∷ 3 ∷ 4 ∷ [])) ≡ answers 1 (tray 0 5 (1 ∷ 2 ∷ 3 ∷ 4 ∷ [])))
    × (does vector (look len) (tray 0 0 []) ≡ tells 0 (tray 0 0 []))
    × (does vector (look len) (tray 0 1 []) ≡ answers 1 (tray 0 1 []))
    × (does vector (look len) (tray 0 18446744073709551615 (1 ∷ [])) ≡ answers 1 (tray 0 18446744073709551615 (1 ∷ [])))
unfolding does valid entries relaid moved tabulate tally one slot_of pos_of
vector_states = (refl, refl, refl, refl, refl)

-- `len` is the length, whatever the capacity.
lengths :
    (does ring (look len) W ≡ tells 3 W)
    × (does ring (look len) empty_ring ≡ tells 0 empty_ring)
    × (does vector (look len) U ≡ tells 3 U)
    × (does vector (look len) empty_vector ≡ tells 0 empty_vector)
unfolding does valid entries relaid moved tabulate tally one slot_of pos_of
lengths = (refl, refl, refl, refl)

-- `is_empty` is 1 or 0; an invalid state answers 1 with value 0.
empties :
    (does vector (look is_empty) empty_vector ≡ tells 1 empty_vector)
    × (does vector (look is_empty) (tray 0 1 (5 ∷ 6 ∷ [])) ≡ tells 0 (tray 0 1 (5 ∷ 6 ∷ [])))
    × (does vector (look is_empty) U ≡ tells 0 U)
    × (does vector (look is_empty) no_slots ≡ tells 1 no_slots)
    × (does vector (look is_empty) overfull ≡ answers 1 overfull)
unfolding does valid entries relaid moved tabulate tally one slot_of pos_of
empties = (refl, refl, refl, refl, refl)

-- `read` reaches the last entry and not the free slot after it, wherever the ring wraps.
reads :
    (does ring (look (read 0)) W ≡ tells 9 W)
    × (does ring (look (read 1)) W ≡ tells 10 W)
    × (does ring (look (read 2)) W ≡ tells 11 W)
    × (does ring (look (read 3)) W ≡ answers 3 W)
    × (does ring (look (read 18446744073709551615)) W ≡ answers 3 W)
    × (does ring (look (read 0)) empty_ring ≡ answers 3 empty_ring)
    × (does ring (look (read 0)) no_slots ≡ answers 3 no_slots)
    × (does ring (look (read 3)) overfull ≡ answers 1 overfull)
    × (does vector (look (read 0)) U ≡ tells 1 U)
    × (does vector (look (read 2)) U ≡ tells 3 U)
    × (does vector (look (read 3)) U ≡ answers 3 U)
    × (does vector (look (read 18446744073709551615)) U ≡ answers 3 U)
    × (does vector (look (read 3)) overfull ≡ answers 1 overfull)
unfolding does valid entries relaid moved tabulate tally one slot_of pos_of
reads = (refl, refl, refl, refl, refl, refl, refl, refl, refl, refl, refl, refl, refl)

-- `reserve` asks for as many free slots as there are. The last k is one whose sum with n is 2 to the 64th.
reserves :
    (does ring (look (reserve 0)) W ≡ tells 0 W)
    × (does ring (look (reserve 1)) W ≡ tells 0 W)
    × (does ring (look (reserve 2)) W ≡ answers 6 W)
    × (does ring (look (reserve 18446744073709551613)) W ≡ answers 6 W)
    × (does ring (look (reserve 0)) no_slots ≡ tells 0 no_slots)
    × (does ring (look (reserve 1)) no_slots ≡ answers 6 no_slots)
    × (does ring (look (reserve 1)) overfull ≡ answers 1 overfull)
    × (does vector (look (reserve 2)) empty_vector ≡ tells 0 empty_vector)
    × (does vector (look (reserve 3)) empty_vector ≡ answers 6 empty_vector)
    × (does vector (look (reserve 0)) full_vector ≡ tells 0 full_vector)
    × (does vector (look (reserve 1)) full_vector ≡ answers 6 full_vector)
    × (does vector (look (reserve 18446744073709551613)) U ≡ answers 6 U)
    × (does vector (look (reserve 1)) overfull ≡ answers 1 overfull)
unfolding does valid entries relaid moved tabulate tally one slot_of pos_of
reserves = (refl, refl, refl, refl, refl, refl, refl, refl, refl, refl, refl, refl, refl)

-- `try_reserve` and `try_reserve_exact` answer as `reserve` does.
tries :
    (does vector (look (try_reserve 1)) U ≡ tells 0 U)
    × (does vector (look (try_reserve 2)) U ≡ answers 6 U)
    × (does vector (look (try_reserve 0)) full_vector ≡ tells 0 full_vector)
    × (does vector (look (try_reserve 18446744073709551613)) U ≡ answers 6 U)
    × (does vector (look (try_reserve 1)) overfull ≡ answers 1 overfull)
    × (does vector (look (try_reserve_exact 1)) U ≡ tells 0 U)
    × (does vector (look (try_reserve_exact 2)) U ≡ answers 6 U)
    × (does vector (look (try_reserve_exact 0)) full_vector ≡ tells 0 full_vector)
    × (does vector (look (try_reserve_exact 18446744073709551613)) U ≡ answers 6 U)
    × (does vector (look (try_reserve_exact 1)) overfull ≡ answers 1 overfull)
unfolding does valid entries relaid moved tabulate tally one slot_of pos_of
tries = (refl, refl, refl, refl, refl, refl, refl, refl, refl, refl)

-- The range question: a ≤ b and b ≤ n, each at its bound and past it.
ranges :
    (does vector (look (range 0 3)) U ≡ tells 0 U)
    × (does vector (look (range 1 2)) U ≡ tells 0 U)
    × (does vector (look (range 3 3)) U ≡ tells 0 U)
    × (does vector (look (range 2 1)) U ≡ answers 3 U)
    × (does vector (look (range 0 4)) U ≡ answers 3 U)
    × (does vector (look (range 4 4)) U ≡ answers 3 U)
    × (does vector (look (range 18446744073709551615 0)) U ≡ answers 3 U)
    × (does vector (look (range 0 18446744073709551615)) U ≡ answers 3 U)
    × (does vector (look (range 0 0)) no_slots ≡ tells 0 no_slots)
    × (does vector (look (range 2 1)) overfull ≡ answers 1 overfull)
unfolding does valid entries relaid moved tabulate tally one slot_of pos_of
ranges = (refl, refl, refl, refl, refl, refl, refl, refl, refl, refl)

-- a run of slots: its first, and how many
abbrev part : (start count : ℕ) → Part
part start count = record { start = start; count = count }

-- A part: the slots of the range, or the empty part at slot 0; `as_slice` and its like lend all entries.
parts :
    (lends 0 3 U ≡ part 0 3)
    × (lends 1 3 U ≡ part 1 2)
    × (lends 1 1 U ≡ part 1 0)
    × (lends 3 3 U ≡ part 3 0)
    × (lends 2 1 U ≡ part 0 0)
    × (lends 1 4 U ≡ part 0 0)
    × (lends 4 4 U ≡ part 0 0)
    × (lends 0 18446744073709551615 U ≡ part 0 0)
    × (lends 1 2 overfull ≡ part 0 0)
    × (lends_all U ≡ part 0 3)
    × (lends_all (tray 0 0 (5 ∷ [])) ≡ part 0 0)
    × (lends_all overfull ≡ part 0 0)
    × (in_part (part 1 2) (1 ∷ 2 ∷ 3 ∷ 9 ∷ []) ≡ 2 ∷ 3 ∷ [])
    × (in_part (part 0 0) (1 ∷ 2 ∷ 3 ∷ 9 ∷ []) ≡ [])
unfolding valid
parts = (refl, refl, refl, refl, refl, refl, refl, refl, refl, refl, refl, refl, refl, refl)

-- `iter` and `into_iter` begin at 0 and n; refused, they give cursor 0, 0.
iters :
    (does ring (look iter) W ≡ shows 0 (cursor 0 3) W)
    × (does ring (look into_iter) W ≡ shows 0 (cursor 0 3) W)
    × (does ring (look iter) empty_ring ≡ shows 0 (cursor 0 0) empty_ring)
    × (does ring (look iter) overfull ≡ stops 1 (cursor 0 0) overfull)
    × (does ring (look into_iter) overfull ≡ stops 1 (cursor 0 0) overfull)
    × (does vector (look iter) U ≡ shows 0 (cursor 0 3) U)
    × (does vector (look into_iter) U ≡ shows 0 (cursor 0 3) U)
    × (does vector (look into_iter) empty_vector ≡ shows 0 (cursor 0 0) empty_vector)
    × (does vector (look iter) overfull ≡ stops 1 (cursor 0 0) overfull)
    × (does vector (look into_iter) overfull ≡ stops 1 (cursor 0 0) overfull)
unfolding does valid entries relaid moved tabulate tally one slot_of pos_of
iters = (refl, refl, refl, refl, refl, refl, refl, refl, refl, refl)

-- A step from the front, from a whole cursor to an ended one; W's list is 9, 10, 11.
front_steps :
    (does ring (look (step_front (cursor 0 3))) W ≡ shows 9 (cursor 1 3) W)
    × (does ring (look (step_front (cursor 1 3))) W ≡ shows 10 (cursor 2 3) W)
    × (does ring (look (step_front (cursor 2 3))) W ≡ shows 11 (cursor 3 3) W)
    × (does ring (look (step_front (cursor 3 3))) W ≡ stops 4 (cursor 3 3) W)
    × (does ring (look (step_front (cursor 1 1))) W ≡ stops 4 (cursor 1 1) W)
    × (does vector (look (step_front (cursor 1 2))) U ≡ shows 2 (cursor 2 2) U)
    × (does vector (look (step_front (cursor 2 2))) U ≡ stops 4 (cursor 2 2) U)
    × (does ring (look (step_front (cursor 0 0))) no_slots ≡ stops 4 (cursor 0 0) no_slots)
unfolding does valid entries relaid moved tabulate tally one slot_of pos_of
front_steps = (refl, refl, refl, refl, refl, refl, refl, refl)

-- A step from the back.
back_steps :
    (does ring (look (step_back (cursor 0 3))) W ≡ shows 11 (cursor 0 2) W)
    × (does ring (look (step_back (cursor 1 2))) W ≡ shows 10 (cursor 1 1) W)
    × (does ring (look (step_back (cursor 0 1))) W ≡ shows 9 (cursor 0 0) W)
    × (does ring (look (step_back (cursor 0 0))) W ≡ stops 4 (cursor 0 0) W)
    × (does ring (look (step_back (cursor 3 3))) W ≡ stops 4 (cursor 3 3) W)
    × (does vector (look (step_back (cursor 1 3))) U ≡ shows 3 (cursor 1 2) U)
    × (does vector (look (step_back (cursor 2 2))) U ≡ stops 4 (cursor 2 2) U)
    × (does vector (look (step_back (cursor 0 0))) no_slots ≡ stops 4 (cursor 0 0) no_slots)
unfolding does valid entries relaid moved tabulate tally one slot_of pos_of
back_steps = (refl, refl, refl, refl, refl, refl, refl, refl)

-- A damaged cursor: front past back, back past n, both at once, and ended past n, where 3 comes before 4. An invalid state comes before all.
damaged_steps :
    (does ring (look (step_front (cursor 2 1))) W ≡ stops 3 (cursor 2 1) W)
    × (does ring (look (step_front (cursor 0 4))) W ≡ stops 3 (cursor 0 4) W)
    × (does ring (look (step_front (cursor 4 4))) W ≡ stops 3 (cursor 4 4) W)
    × (does ring (look (step_front (cursor 18446744073709551615 0))) W ≡ stops 3 (cursor 18446744073709551615 0) W)
    × (does ring (look (step_front (cursor 4 4))) overfull ≡ stops 1 (cursor 4 4) overfull)
    × (does ring (look (step_back (cursor 2 1))) W ≡ stops 3 (cursor 2 1) W)
    × (does ring (look (step_back (cursor 0 4))) W ≡ stops 3 (cursor 0 4) W)
    × (does ring (look (step_back (cursor 4 4))) W ≡ stops 3 (cursor 4 4) W)
    × (does ring (look (step_back (cursor 0 18446744073709551615))) W ≡ stops 3 (cursor 0 18446744073709551615) W)
    × (does ring (look (step_back (cursor 4 4))) overfull ≡ stops 1 (cursor 4 4) overfull)
    × (does vector (look (step_front (cursor 0 4))) U ≡ stops 3 (cursor 0 4) U)
    × (does vector (look (step_back (cursor 3 2))) U ≡ stops 3 (cursor 3 2) U)
    × (does vector (look (step_front (cursor 2 1))) overfull ≡ stops 1 (cursor 2 1) overfull)
unfolding does valid entries relaid moved tabulate tally one slot_of pos_of
damaged_steps = (refl, refl, refl, refl, refl, refl, refl, refl, refl, refl, refl, refl, refl)

-- A peek from the front shows the k-th remaining, the last of them too, and not one more.
front_peeks :
    (does ring (look (peek_front (cursor 0 3) 0)) W ≡ shows 9 (cursor 0 3) W)
    × (does ring (look (peek_front (cursor 1 3) 1)) W ≡ shows 11 (cursor 1 3) W)
    × (does ring (look (peek_front (cursor 1 3) 2)) W ≡ stops 3 (cursor 1 3) W)
    × (does ring (look (peek_front (cursor 0 2) 2)) W ≡ stops 3 (cursor 0 2) W)
    × (does ring (look (peek_front (cursor 2 2) 0)) W ≡ stops 3 (cursor 2 2) W)
    × (does ring (look (peek_front (cursor 2 1) 0)) W ≡ stops 3 (cursor 2 1) W)
    × (does ring (look (peek_front (cursor 0 4) 0)) W ≡ stops 3 (cursor 0 4) W)
    × (does ring (look (peek_front (cursor 1 3) 18446744073709551615)) W ≡ stops 3 (cursor 1 3) W)
    × (does ring (look (peek_front (cursor 2 1) 5)) overfull ≡ stops 1 (cursor 2 1) overfull)
    × (does vector (look (peek_front (cursor 1 3) 0)) U ≡ shows 2 (cursor 1 3) U)
    × (does vector (look (peek_front (cursor 1 3) 2)) U ≡ stops 3 (cursor 1 3) U)
unfolding does valid entries relaid moved tabulate tally one slot_of pos_of
front_peeks = (refl, refl, refl, refl, refl, refl, refl, refl, refl, refl, refl)

-- A peek from the back.
back_peeks :
    (does ring (look (peek_back (cursor 0 3) 0)) W ≡ shows 11 (cursor 0 3) W)
    × (does ring (look (peek_back (cursor 1 3) 1)) W ≡ shows 10 (cursor 1 3) W)
    × (does ring (look (peek_back (cursor 1 3) 2)) W ≡ stops 3 (cursor 1 3) W)
    × (does ring (look (peek_back (cursor 0 2) 0)) W ≡ shows 10 (cursor 0 2) W)
    × (does ring (look (peek_back (cursor 2 2) 0)) W ≡ stops 3 (cursor 2 2) W)
    × (does ring (look (peek_back (cursor 2 1) 0)) W ≡ stops 3 (cursor 2 1) W)
    × (does ring (look (peek_back (cursor 0 4) 0)) W ≡ stops 3 (cursor 0 4) W)
    × (does ring (look (peek_back (cursor 1 3) 18446744073709551615)) W ≡ stops 3 (cursor 1 3) W)
    × (does ring (look (peek_back (cursor 2 1) 5)) overfull ≡ stops 1 (cursor 2 1) overfull)
    × (does vector (look (peek_back (cursor 1 3) 1)) U ≡ shows 2 (cursor 1 3) U)
    × (does vector (look (peek_back (cursor 1 3) 2)) U ≡ stops 3 (cursor 1 3) U)
unfolding does valid entries relaid moved tabulate tally one slot_of pos_of
back_peeks = (refl, refl, refl, refl, refl, refl, refl, refl, refl, refl, refl)
