-- What calls enter, hand out and drop, and the model lists that this is counted over: all from the calls' rules, the numbers and the values
-- answered. No state and no slot is looked at.
use Rattle.std.specs.Prelude.{ℕ, zero, suc, ◌+◌, ◌-◌, List, [], ◌∷◌, ◌++◌, length, drop, replicate, get_or, set}
use Rattle.slots.specs.Count.{count}
use Rattle.table.specs.Calls.{Call, push, push_front, pop, pop_front, insert, remove, swap_remove, write, truncate, resize, clear, extend, look}
use Rattle.table.specs.Calls.{Call2, append, split_off, clone, from_iter, same}
use Rattle.table.specs.Table.{after, after2, remaining}

pub record Flow : Type 0 where
  pub entered : List ℕ
  pub handed : List ℕ
  pub dropped : List ℕ

abbrev pub none : Flow
none = record { entered = []; handed = []; dropped = [] }

abbrev pub enters : List ℕ → Flow
enters s = record { entered = s; handed = []; dropped = [] }

abbrev pub hands : ℕ → Flow
hands v = record { entered = []; handed = v ∷ []; dropped = [] }

abbrev pub drops : List ℕ → Flow
drops s = record { entered = []; handed = []; dropped = s }

-- a call that is done, with its value v and the list l before it
abbrev pub flow : Call → (v : ℕ) (l : List ℕ) → Flow
flow (push x) v l = enters (x ∷ [])
flow (push_front x) v l = enters (x ∷ [])
flow pop v l = hands v
flow pop_front v l = hands v
flow (insert i x) v l = enters (x ∷ [])
flow (remove i) v l = hands v
flow (swap_remove i) v l = hands v
flow (write i x) v l = record { entered = x ∷ []; handed = v ∷ []; dropped = [] }
flow (truncate k) v l = drops (drop k l)
flow (resize k x) v l = record { entered = replicate (k - length l) x; handed = []; dropped = drop k l }
flow clear v l = drops l
flow (extend s) v l = enters s
flow (look q) v l = none

-- a call on two that is done, with the first's list before it
abbrev pub flow2 : Call2 → (l : List ℕ) → Flow
flow2 append l = none
flow2 (split_off at) l = none
flow2 clone l = enters l
flow2 (from_iter u) l = enters (remaining u l)
flow2 same l = none

-- A rule of the ledger: where the call is done, the list after it, and what it enters, hands out and drops, by its value v and the list l before it.
pub record Rule : Type 0 where
  pub after : (l : List ℕ) → List ℕ
  pub flow : (v : ℕ) (l : List ℕ) → Flow

-- of a call on two, with both their lists
pub record Rule2 : Type 0 where
  pub after : (l l2 : List ℕ) → List ℕ × List ℕ
  pub flow : (v : ℕ) (l l2 : List ℕ) → Flow

-- of a call that leaves the list as it was
abbrev pub leaving : Rule
leaving = record { after = λ l. l; flow = λ v l. none }

-- the rules of paper 01's calls
abbrev pub rule : Call → Rule
rule call = record { after = after call; flow = flow call }

abbrev pub rule2 : Call2 → Rule2
rule2 call = record { after = after2 call; flow = λ v l l2. flow2 call l }

-- the first where the number answered is 0, the second where the call was refused
abbrev pub if_done : {A : Type 0} → ℕ → A → A → A
if_done zero f g = f
if_done (suc m) f g = g

-- the rule that an answer goes by: a refused call leaves the lists and does none of these
abbrev pub goes_by : (number : ℕ) → Rule → Rule
goes_by number r = if_done number r leaving

abbrev pub goes_by2 : (number : ℕ) → Rule2 → Rule2
goes_by2 number r = if_done number r (record { after = λ l l2. (l, l2); flow = λ v l l2. none })

-- A line of the ledger: the list that a making begins with, or the rule of a call and the containers that it names, with the number and value answered.
pub data Line : Type 0 where
  making : (l : List ℕ) (number : ℕ) → Line
  call : (i : ℕ) → Rule → (number value : ℕ) → Line
  call_two : (i j : ℕ) → Rule2 → (number value : ℕ) → Line

-- the model lists: one for each container, in the order of the makings
abbrev pub Lists : Type 0
Lists = List (List ℕ)

abbrev pub list_at : Lists → ℕ → List ℕ
list_at ls i = get_or ls i []

-- the lists of two after a call on them
abbrev pub set_two : Lists → (i j : ℕ) → List ℕ × List ℕ → Lists
set_two ls i j two = set (set ls i two.0) j two.1

-- the model lists after a line
abbrev pub lists_after : Lists → Line → Lists
lists_after ls (making l number) = ls ++ (if_done number l [] ∷ [])
lists_after ls (call i r number v) = set ls i ((goes_by number r).after (list_at ls i))
lists_after ls (call_two i j r number v) = set_two ls i j ((goes_by2 number r).after (list_at ls i) (list_at ls j))

-- what a line entered, handed out and dropped; what a making begins with enters
abbrev pub flows : Lists → Line → Flow
flows ls (making l number) = enters (if_done number l [])
flows ls (call i r number v) = (goes_by number r).flow v (list_at ls i)
flows ls (call_two i j r number v) = (goes_by2 number r).flow v (list_at ls i) (list_at ls j)

-- the lists after a sequence of lines
abbrev pub modelled : Lists → List Line → Lists
modelled ls [] = ls
modelled ls (e ∷ es) = modelled (lists_after ls e) es

-- how often x entered, was handed out, was dropped in it
abbrev pub entered : ℕ → Lists → List Line → ℕ
entered x ls [] = 0
entered x ls (e ∷ es) = count x (flows ls e).entered + entered x (lists_after ls e) es

abbrev pub handed : ℕ → Lists → List Line → ℕ
handed x ls [] = 0
handed x ls (e ∷ es) = count x (flows ls e).handed + handed x (lists_after ls e) es

abbrev pub dropped : ℕ → Lists → List Line → ℕ
dropped x ls [] = 0
dropped x ls (e ∷ es) = count x (flows ls e).dropped + dropped x (lists_after ls e) es
