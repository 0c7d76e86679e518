-- What entries add up to: number by number, slot by slot, and around the end of a ring; and how a total changes.
use Rattle.std.proofs.Common.{◌≡◌, ℕ, zero, suc, ◌+◌, ◌-◌, ◌*◌, ◌^◌, ◌<◌, ◌≤◌, List, [], ◌∷◌, ◌++◌, length, get_or, take, drop, replicate, sym, refl, ap, ◌∙◌, add-one, arith, length-drop, length-take, take-suc, take-take, drop_at}
use Rattle.std.specs.List.{sum as list_sum}
use Rattle.std.proofs.lemmas.List.Sums.{sum_by-cons}
use Rattle.slots.specs.Layout.{most, slot_of, itself, entries}
use Rattle.slots.specs.Total.{total, changed}
use Rattle.slots.proofs.Counts.{weigh_none, weigh_append, weigh_split}
use Rattle.slots.proofs.Placing.{length_entries}
use Rattle.slots.proofs.Lays.{from_on, entries_rest}
use Rattle.slots.proofs.Compares.{entries_first, part_parted}

pub total_none : total [] ≡ 0
unfolding total
total_none = refl

pub total_empty : (l : List ℕ) → length l ≡ 0 → total l ≡ 0
unfolding total
total_empty l none = weigh_none _ l none

pub total_one : (x : ℕ) → total (x ∷ []) ≡ x
unfolding total
total_one x = omega arith

pub total_append : (a b : List ℕ) → total (a ++ b) ≡ total a + total b
unfolding total
total_append a b = weigh_append _ a b

-- the first k and the rest
pub total_split : (k : ℕ) (l : List ℕ) → total (take k l) + total (drop k l) ≡ total l
unfolding total
total_split k l = weigh_split _ k l

-- so many times x
pub total_replicate : (n x : ℕ) → total (replicate n x) ≡ n * x
unfolding total
total_replicate zero x = omega arith
total_replicate (suc n) x = omega (arith, total_replicate n x)

-- what the library's `sum` of an iterator answers
pub total_sum : (l : List ℕ) → list_sum l ≡ total l
unfolding total
total_sum [] = refl
total_sum (x ∷ l) = sum_by-cons (λ y. y) x l ∙ ap (λ n. x + n) (total_sum l)

-- numbers of 32 bits
total_words : (l : List ℕ) → ((i : ℕ) → get_or l i 0 < 2 ^ 32) → total l ≤ 2 ^ 32 * length l
unfolding total
total_words [] small = omega arith
total_words (x ∷ l) small =
    let first : x < 2 ^ 32 = small 0 in
    let rest = total_words l (λ i. small (suc i)) in
    omega arith

pub total_few : (l : List ℕ) → ((i : ℕ) → get_or l i 0 < 2 ^ 32) → length l ≤ most → total l ≤ 2 ^ 44
total_few l small few = let all = total_words l small in omega arith

-- A loop's turn.
pub sum_more : (l : List ℕ) (i sum : ℕ) → sum ≡ total (take i l) → i < length l → sum + get_or l i 0 ≡ total (take (i + 1) l)
sum_more l i sum e h = rw (add-one, take-suc l i 0 h, total_append, total_one) (omega arith)

-- a run of slots: a vector's entries from a position on
pub run_rest : (from to : ℕ) (s : List ℕ) → from ≤ to → to ≤ length s → drop from (entries itself to s) ≡ entries itself (to - from) (from_on from s)
run_rest from to s le fits = ap (drop from) (part_parted to from s le fits) ∙ drop_at (entries itself from s) _ from (length_entries itself from s)

-- as a proof finds it
pub sum_run : (from to sum : ℕ) (s : List ℕ) → from ≤ to → to ≤ length s → sum ≡ total (take (to - from) (drop from s)) → sum ≡ total (drop from (entries itself to s))
sum_run from to sum s le fits e =
    let long : length (from_on from s) ≡ length s - from = simp (length-take, length-drop) (omega arith) in
    e ∙ ap total (sym (run_rest from to s le fits ∙ entries_first (to - from) (from_on from s) (omega arith) ∙ take-take (to - from) (length s - from) (drop from s) (omega arith)))

-- a ring's entries from a position on are those of a ring whose head is that position's slot
module _ (h from to start : ℕ) (s : List ℕ) (le : from ≤ to) (fits : to ≤ length s) (at : start ≡ slot_of (length s) h from) (inside : start < length s) where
  pub ring_from : drop from (entries (slot_of (length s) h) to s) ≡ entries (slot_of (length s) start) (to - from) s
  ring_from = rw at (entries_rest (length s) h to from s le)

-- THE TOTAL. Only the difference of what was put in and what was taken out tells.
pub same_change : (n a b c d : ℕ) → a + d ≡ c + b → changed n a b ≡ changed n c d
unfolding changed
same_change n a b c d e = omega arith

-- what is taken out and put in again leaves the total that was there, also where more is taken out than it has
pub put_back : (n taken : ℕ) → n < 2 ^ 64 → changed (changed n 0 taken) taken 0 ≡ n
unfolding changed
put_back n taken small = omega arith

pub no_change : (n a : ℕ) → n < 2 ^ 64 → n ≡ changed n a a
unfolding changed
no_change n a small = omega arith

-- to nothing
pub all_put : (n : ℕ) → n < 2 ^ 64 → n ≡ changed 0 n 0
unfolding changed
all_put n small = omega arith
