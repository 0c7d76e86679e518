-- Cases of the ledger: what each call enters, hands out and drops, that a refused one does nothing, and the model lists after a line. Computed
-- from the definitions.
use mathlib.Core.Path.{◌≡◌, refl}
use mathlib.Core.List.{List, [], ◌∷◌}
use Prim.Native.Nat.{ℕ}
use Rattle.table.specs.Calls.{push, push_front, pop, pop_front, insert, remove, swap_remove, write, truncate, resize, clear, extend, look, len, read, step_front, peek_front}
use Rattle.table.specs.Calls.{append, split_off, clone, from_iter, same, new, with_capacity, from_elem}
use Rattle.table.specs.Calls.{Call, Call2, Making}
use Rattle.table.specs.Table.{begins}
use Rattle.table.specs.Ledger as ledger
use Rattle.table.specs.Ledger.{Flow, flow, flow2, rule, rule2, Line, Lists, lists_after, flows}
use Rattle.table.proofs.Theorems.Trays.{cursor}

-- what entered, what was handed out, what was dropped
abbrev moves : (entered handed dropped : List ℕ) → Flow
moves entered handed dropped = record { entered = entered; handed = handed; dropped = dropped }

abbrev nothing : Flow
nothing = record { entered = []; handed = []; dropped = [] }

-- the list before the call
abbrev l : List ℕ
l = 1 ∷ 2 ∷ 3 ∷ []

-- Entered: pushed, inserted, written, extended, filled. Handed out: returned by pops, removals and write.
entries_in_and_out :
    (flow (push 8) 0 l ≡ moves (8 ∷ []) [] [])
    × (flow (push_front 8) 0 l ≡ moves (8 ∷ []) [] [])
    × (flow (insert 1 8) 0 l ≡ moves (8 ∷ []) [] [])
    × (flow (extend (8 ∷ 9 ∷ [])) 0 l ≡ moves (8 ∷ 9 ∷ []) [] [])
    × (flow pop 3 l ≡ moves [] (3 ∷ []) [])
    × (flow pop_front 1 l ≡ moves [] (1 ∷ []) [])
    × (flow (remove 1) 2 l ≡ moves [] (2 ∷ []) [])
    × (flow (swap_remove 1) 2 l ≡ moves [] (2 ∷ []) [])
    × (flow (write 1 8) 2 l ≡ moves (8 ∷ []) (2 ∷ []) [])
entries_in_and_out = (refl, refl, refl, refl, refl, refl, refl, refl, refl)

-- Dropped: what truncate, a shrinking resize and clear leave out of the list; a growing resize makes copies, which enter.
drops :
    (flow (truncate 1) 0 l ≡ moves [] [] (2 ∷ 3 ∷ []))
    × (flow (truncate 3) 0 l ≡ nothing)
    × (flow (truncate 5) 0 l ≡ nothing)
    × (flow (resize 1 8) 0 l ≡ moves [] [] (2 ∷ 3 ∷ []))
    × (flow (resize 3 8) 0 l ≡ nothing)
    × (flow (resize 5 8) 0 l ≡ moves (8 ∷ 8 ∷ []) [] [])
    × (flow clear 0 l ≡ moves [] [] (1 ∷ 2 ∷ 3 ∷ []))
drops = (refl, refl, refl, refl, refl, refl, refl)

-- The copies that clone and from_iter make enter. Append, split_off, a question, read, peek and a step do none of these.
copies :
    (flow2 clone l ≡ moves (1 ∷ 2 ∷ 3 ∷ []) [] [])
    × (flow2 (from_iter (cursor 1 3)) l ≡ moves (2 ∷ 3 ∷ []) [] [])
    × (flow2 (from_iter (cursor 0 2)) l ≡ moves (1 ∷ 2 ∷ []) [] [])
    × (flow2 append l ≡ nothing)
    × (flow2 (split_off 1) l ≡ nothing)
    × (flow2 same l ≡ nothing)
    × (flow (look (read 1)) 2 l ≡ nothing)
    × (flow (look (peek_front (cursor 0 3) 1)) 2 l ≡ nothing)
    × (flow (look (step_front (cursor 0 3))) 1 l ≡ nothing)
    × (flow (look len) 3 l ≡ nothing)
copies = (refl, refl, refl, refl, refl, refl, refl, refl, refl, refl)

-- the lines of paper 01's calls
abbrev making : Making → (number : ℕ) → Line
making m = ledger.making (begins m)

abbrev call : (i : ℕ) → Call → (number value : ℕ) → Line
call i what = ledger.call i (rule what)

abbrev call_two : (i j : ℕ) → Call2 → (number : ℕ) → Line
call_two i j what number = ledger.call_two i j (rule2 what) number 0

-- three containers' lists
abbrev ls : Lists
ls = (1 ∷ 2 ∷ []) ∷ (3 ∷ []) ∷ [] ∷ []

-- A line of the ledger: the call is on the container named, over that one's list, and a refused one does nothing.
-- What from_elem fills in enters.
flowing :
    (flows ls (call 0 clear 0 0) ≡ moves [] [] (1 ∷ 2 ∷ []))
    × (flows ls (call 1 clear 0 0) ≡ moves [] [] (3 ∷ []))
    × (flows ls (call 0 pop 0 2) ≡ moves [] (2 ∷ []) [])
    × (flows ls (call 0 (push 8) 6 0) ≡ nothing)
    × (flows ls (call 0 clear 1 0) ≡ nothing)
    × (flows ls (call_two 0 2 clone 0) ≡ moves (1 ∷ 2 ∷ []) [] [])
    × (flows ls (call_two 1 2 clone 0) ≡ moves (3 ∷ []) [] [])
    × (flows ls (call_two 0 1 clone 5) ≡ nothing)
    × (flows ls (making (from_elem 2 8) 0) ≡ moves (8 ∷ 8 ∷ []) [] [])
    × (flows ls (making (from_elem 2 8) 6) ≡ nothing)
    × (flows ls (making new 0) ≡ nothing)
    × (flows ls (making (with_capacity 2) 0) ≡ nothing)
flowing = (refl, refl, refl, refl, refl, refl, refl, refl, refl, refl, refl, refl)

-- The model lists after a line. A refused making adds a container too, with nothing in it.
modelling :
    (lists_after ls (call 1 (push 8) 0 0) ≡ (1 ∷ 2 ∷ []) ∷ (3 ∷ 8 ∷ []) ∷ [] ∷ [])
    × (lists_after ls (call 1 (push 8) 6 0) ≡ ls)
    × (lists_after ls (call_two 0 1 append 0) ≡ (1 ∷ 2 ∷ 3 ∷ []) ∷ [] ∷ [] ∷ [])
    × (lists_after ls (call_two 1 0 append 0) ≡ [] ∷ (3 ∷ 1 ∷ 2 ∷ []) ∷ [] ∷ [])
    × (lists_after ls (call_two 0 1 append 6) ≡ ls)
    × (lists_after ls (call_two 0 2 (split_off 1) 0) ≡ (1 ∷ []) ∷ (3 ∷ []) ∷ (2 ∷ []) ∷ [])
    × (lists_after ls (making (from_elem 1 8) 0) ≡ (1 ∷ 2 ∷ []) ∷ (3 ∷ []) ∷ [] ∷ (8 ∷ []) ∷ [])
    × (lists_after ls (making (from_elem 1 8) 6) ≡ (1 ∷ 2 ∷ []) ∷ (3 ∷ []) ∷ [] ∷ [] ∷ [])
modelling = (refl, refl, refl, refl, refl, refl, refl, refl)
