-- How a call carries positions, and the count of entries that changed their slot under this carrying.
use Rattle.std.specs.Prelude.{ℕ, ◌+◌, ◌-◌, Bool, false, cond, not, ◌==◌, nat_lt}
use Rattle.slots.specs.Count.{tally}

-- where a position is carried; the entry of one that is gone leaves the list
pub data Carried : Type 0 where
  to : ℕ → Carried
  gone : Carried

abbrev pub stay : ℕ → Carried
stay j = to j

-- insert at i carries j < i to j and j ≥ i to j + 1
abbrev pub inserted : (i j : ℕ) → Carried
inserted i j = to (cond (nat_lt j i) j (j + 1))

-- remove at i carries j < i to j and j > i to j − 1
abbrev pub removed : (i j : ℕ) → Carried
removed i j = cond (j == i) gone (to (cond (nat_lt j i) j (j - 1)))

-- swap_remove at i of n carries the last, where it remains, to i
abbrev pub swapped : (i n j : ℕ) → Carried
swapped i n j = cond (j == i) gone (to (cond (j == n - 1) i j))

-- write at i hands the entry there out, and all others stay
abbrev pub replaced : (i j : ℕ) → Carried
replaced i j = cond (j == i) gone (to j)

-- what leaves all but the first k out carries those as they stand
abbrev pub kept : (k j : ℕ) → Carried
kept k j = cond (nat_lt j k) (to j) gone

-- the entry of slot s, carried so, stands in another slot now
abbrev pub elsewhere : (now : ℕ → ℕ) (s : ℕ) → Carried → Bool
elsewhere now s (to k) = not (now k == s)
elsewhere now s gone = false

-- how many of n entries changed their slot: position j stood in slot was j, position k stands in slot now k
unfoldable pub moved : (was now : ℕ → ℕ) (carry : ℕ → Carried) (n : ℕ) → ℕ
moved was now carry n = tally n (λ j. elsewhere now (was j) (carry j))
