-- Carrying is true: an entry that a done call carries from position j to p stood at j of the list before and stands at p of the list afterwards,
-- no two are carried to one position, and what is not carried is what was handed out or dropped. So the count of moves speaks of entries.
use Prim.Native.Nat.{ℕ, zero, suc, ◌+◌, ◌-◌, ◌≤◌, ◌<◌}
use mathlib.Core.Path.{◌≡◌, refl, sym, ap, ◌∙◌}
use mathlib.Core.Bool.{cond}
use mathlib.Core.List.{List, [], ◌∷◌, ◌++◌, append-nil}
use mathlib.Core.Logic.{⊎_elim}
use native.Mathlib.Numerals.{add-one}
use native.Mathlib.Omega.{arith}
use lib.Dec.{ltb, eqb, eqb-zero-suc, eqb-suc-zero, eqb-suc-suc, leb-suc-zero, leb-suc-suc}
use lib.ListN.{length, get_or, take, drop, replicate, length-append, length-take, length-drop, length-set, length-replicate, get_or-append}
use lib.Seq.{drop-nil, get_or-take, get_or-set_same, get_or-set_other}
use borrow.Author.Tests.{lt-ltb, le-ltb, eq-eqb, ne_eqb}
use Rattle.slots.specs.Lists.{insert_at, remove_at, update}
use Rattle.slots.specs.Layout.{itself}
use Rattle.slots.specs.Moves.{Carried, to, gone, stay, inserted, removed, swapped, replaced, kept}
use Rattle.slots.proofs.Words.{below?, same?, length_insert, insert_below, insert_above, length_remove, remove_below, remove_above, remove_last}
use Rattle.slots.proofs.Moves.{removed_low, removed_here, removed_high, swapped_here, swapped_last, swapped_other}
use Rattle.table.specs.Calls.{Call, push, push_front, pop, pop_front, insert, remove, swap_remove, write, truncate, resize, clear, extend, look}
use Rattle.table.specs.Calls.{Call2, append, split_off, clone, from_iter, same}
use Rattle.table.specs.Table.{Row, row, row2, after, after2}
use Rattle.table.specs.Ledger.{Flow, flow}
use Rattle.table.proofs.Laws.Refusals.{Clear, passed_tests}

-- the carrying is true of the lists before and after
pub record Carries (carry : ℕ → Carried) (before after : List ℕ) : Type 0 where
  pub inside : (j p : ℕ) → j < length before → carry j ≡ to p → p < length after
  pub entry : (j p : ℕ) → j < length before → carry j ≡ to p → get_or after p 0 ≡ get_or before j 0
  pub apart : (i j p : ℕ) → i < length before → j < length before → carry i ≡ to p → carry j ≡ to p → i ≡ j

-- What becomes of the entry at j: it stands at p afterwards, where `from` tells j back; or it is gone.
abbrev Fate : (from : ℕ → ℕ) (l l' : List ℕ) (j : ℕ) → Carried → Type 0
Fate from l l' j (to p) = (p < length l') × (get_or l' p 0 ≡ get_or l j 0) × (from p ≡ j)
Fate from l l' j gone = Unit {0}

abbrev Fates : (from : ℕ → ℕ) (carry : ℕ → Carried) (l l' : List ℕ) → Type 0
Fates from carry l l' = (j : ℕ) → j < length l → Fate from l l' j (carry j)

true_of : (from : ℕ → ℕ) (carry : ℕ → Carried) (l l' : List ℕ) → Fates from carry l l' → Carries carry l l'
true_of from carry l l' f = record {
  inside = λ j p h e. (rw e at (f j h)).0;
  entry = λ j p h e. (rw e at (f j h)).1;
  apart = λ i j p hi hj ei ej. sym (rw ei at (f i hi)).2 ∙ (rw ej at (f j hj)).2;
}

-- Each way of carrying: where the entries are the same, where more are joined to them, and where they are cut.
same_true : (l : List ℕ) → Carries stay l l
same_true l = true_of itself stay l l (λ j lt. (lt, refl, refl))

joined_true : (l s : List ℕ) → Carries stay l (l ++ s)
joined_true l s = true_of itself stay l (l ++ s) (λ j lt. (simp length-append (omega arith), get_or-append l s 0 j lt, refl))

cut_true : (l s : List ℕ) (k : ℕ) → Carries (kept k) l (take k l ++ s)
cut_true l s k =
    true_of itself (kept k) l (take k l ++ s) (λ j lt.
    ⊎_elim
    (λ (low : j < k).
    let short : j < length (take k l) = simp length-take (omega arith) in
    rw (lt-ltb j k low) (simp length-append (omega arith), get_or-append (take k l) s 0 j short ∙ get_or-take k l j 0 low, refl))
    (λ (high : k ≤ j). rw (le-ltb j k high) tt)
    (below? j k))

insert_true : (l : List ℕ) (i x : ℕ) → i ≤ length l → Carries (inserted i) l (insert_at l i x)
insert_true l i x fits =
    let long = length_insert l i x fits in
    true_of (λ p. cond (ltb p i) p (p - 1)) (inserted i) l (insert_at l i x) (λ j lt.
    ⊎_elim
    (λ (low : j < i). rw (lt-ltb j i low) (omega arith, insert_below l i j x low fits, rw (lt-ltb j i low)))
    (λ (high : i ≤ j).
    rw (le-ltb j i high, add-one) (omega arith, insert_above l i j x high fits, rw (le-ltb (suc j) i (omega arith)) (omega arith)))
    (below? j i))

remove_true : (l : List ℕ) (i : ℕ) → i < length l → Carries (removed i) l (remove_at l i)
remove_true l i fits =
    let short = length_remove l i fits in
    true_of (λ p. cond (ltb p i) p (p + 1)) (removed i) l (remove_at l i) (λ j lt.
    ⊎_elim
    (λ (low : j < i). rw (removed_low i j low) (omega arith, remove_below l i j low fits, rw (lt-ltb j i low)))
    (λ (high : i ≤ j).
    ⊎_elim
    (λ (past : i < j).
    let up : suc (j - 1) ≡ j = omega arith in
    rw (removed_high i j past) (omega arith, remove_above l i (j - 1) (omega arith) fits ∙ rw up, rw (le-ltb (j - 1) i (omega arith)) (omega arith)))
    (λ (here : j ≤ i). rw (removed_here i j (omega arith)) tt)
    (below? i j))
    (below? j i))

-- the last stands at i, and those between where they stood
swap_true : (l : List ℕ) (i : ℕ) → i < length l → Carries (swapped i (length l)) l (after (swap_remove i) l)
swap_true l i fits =
    let n : ℕ = length l in
    let m : List ℕ = update l i (get_or l (n - 1) 0) in
    let short : length (take (n - 1) m) ≡ n - 1 = simp (length-take, length-set) (omega arith) in
    true_of (λ p. cond (eqb p i) (n - 1) p) (swapped i n) l (take (n - 1) m) (λ j lt.
    ⊎_elim
    (λ (e : j ≡ i). rw (swapped_here i n j e) tt)
    (λ (ne : j ≡ i → ⊥).
    ⊎_elim
    (λ (last : j ≡ n - 1).
    rw (swapped_last i n j ne last) (omega arith, get_or-take (n - 1) m i 0 (omega arith) ∙ get_or-set_same l i _ 0 fits ∙ rw last, rw (eq-eqb i i refl) (sym last)))
    (λ (less : j ≡ n - 1 → ⊥).
    rw (swapped_other i n j ne less) (omega arith, get_or-take (n - 1) m j 0 (omega arith) ∙ get_or-set_other l i j _ 0 ne, rw (ne_eqb j i ne)))
    (same? j (n - 1)))
    (same? j i))

write_true : (l : List ℕ) (i x : ℕ) → Carries (replaced i) l (update l i x)
write_true l i x =
    true_of itself (replaced i) l (update l i x) (λ j lt.
    ⊎_elim
    (λ (e : j ≡ i). rw (eq-eqb j i e) tt)
    (λ (ne : j ≡ i → ⊥). rw (ne_eqb j i ne) (simp length-set lt, get_or-set_other l i j x 0 ne, refl))
    (same? j i))

-- the row of a call on the list l
abbrev pub on : (c h : ℕ) (l : List ℕ) → Call → Row
on c h l call = row c h (length l) l call

-- Every call on one container, and the first of every call on two.
pub carried : (c h : ℕ) (l : List ℕ) (call : Call) → Clear (on c h l call).refusals → Carries (on c h l call).carry l (after call l)
carried c h l (push x) e = joined_true l (x ∷ [])
carried c h l (push_front x) e = insert_true l 0 x (omega arith)
carried c h l pop e =
    let some : 0 < length l = omega passed_tests in
    rw (← remove_last l (length l) refl some) (remove_true l (length l - 1) (omega arith))
carried c h l pop_front e = remove_true l 0 (omega passed_tests)
carried c h l (insert i x) e = insert_true l i x (omega passed_tests)
carried c h l (remove i) e = remove_true l i (omega passed_tests)
carried c h l (swap_remove i) e = swap_true l i (omega passed_tests)
carried c h l (write i x) e = write_true l i x
carried c h l (truncate k) e = rw (← append-nil (take k l)) (cut_true l [] k)
carried c h l (resize k x) e = cut_true l (replicate (k - length l) x) k
carried c h l clear e = cut_true l [] 0
carried c h l (extend s) e = joined_true l s
carried c h l (look q) e = same_true l

pub carried2 : (c h c2 h2 : ℕ) (call : Call2) (l l2 : List ℕ) → Carries (row2 c h (length l) l c2 h2 (length l2) l2 call).carry l (after2 call l l2).0
carried2 c h c2 h2 append l l2 = joined_true l l2
carried2 c h c2 h2 (split_off at) l l2 = rw (← append-nil (take at l)) (cut_true l [] at)
carried2 c h c2 h2 clone l l2 = same_true l
carried2 c h c2 h2 (from_iter u) l l2 = same_true l
carried2 c h c2 h2 same l l2 = same_true l

-- where nothing is left, nothing was carried
pub none_carried : (carry : ℕ → Carried) (l l' : List ℕ) → Carries carry l l' → length l' ≡ 0 → (j : ℕ) → j < length l → carry j ≡ gone
none_carried carry l l' c none j h = go (carry j) refl
  where
    go : (w : Carried) → carry j ≡ w → w ≡ gone
    go (to p) e = absurd (omega (arith, c.inside j p h e))
    go gone e = refl

-- THOSE THAT ARE NOT CARRIED: the entries that a carrying leaves out, in their order.
abbrev pub unless_to : Carried → ℕ → List ℕ → List ℕ
unless_to (to p) x rest = rest
unless_to gone x rest = x ∷ rest

abbrev pub left_out : (carry : ℕ → Carried) (l : List ℕ) → List ℕ
left_out carry [] = []
left_out carry (x ∷ l) = unless_to (carry zero) x (left_out (λ j. carry (suc j)) l)

none_left : (f : ℕ → ℕ) (l : List ℕ) → left_out (λ j. to (f j)) l ≡ []
none_left f [] = refl
none_left f (x ∷ l) = none_left (λ j. f (suc j)) l

one_left : (f : ℕ → ℕ) (i : ℕ) (l : List ℕ) → i < length l → left_out (λ j. cond (eqb j i) gone (to (f j))) l ≡ get_or l i 0 ∷ []
one_left f i [] h = absurd (omega arith)
one_left f zero (x ∷ l) h = simp eqb-suc-zero (ap (λ r. x ∷ r) (none_left (λ j. f (suc j)) l))
one_left f (suc i) (x ∷ l) h = simp (eqb-zero-suc, eqb-suc-suc) (one_left (λ j. f (suc j)) i l (omega arith))

all_left : (l : List ℕ) → left_out (λ j. gone) l ≡ l
all_left [] = refl
all_left (x ∷ l) = ap (λ r. x ∷ r) (all_left l)

rest_left : (f : ℕ → ℕ) (k : ℕ) (l : List ℕ) → left_out (λ j. cond (ltb j k) (to (f j)) gone) l ≡ drop k l
rest_left f k [] = sym (drop-nil k)
rest_left f zero (x ∷ l) = simp leb-suc-zero (ap (λ r. x ∷ r) (all_left l))
rest_left f (suc k) (x ∷ l) = simp (lt-ltb 0 (suc k) (omega arith), leb-suc-suc) (rest_left (λ j. f (suc j)) k l)

-- They are what was handed out or dropped.
abbrev pub flow_on : (c h : ℕ) (l : List ℕ) → Call → Flow
flow_on c h l call = flow call (on c h l call).value l

pub left_out_law : (c h : ℕ) (l : List ℕ) (call : Call) → Clear (on c h l call).refusals
    → left_out (on c h l call).carry l ≡ (flow_on c h l call).handed ++ (flow_on c h l call).dropped
left_out_law c h l (push x) e = none_left _ l
left_out_law c h l (push_front x) e = none_left _ l
left_out_law c h l pop e = let some : 0 < length l = omega passed_tests in one_left _ (length l - 1) l (omega arith)
left_out_law c h l pop_front e = one_left _ 0 l (omega passed_tests)
left_out_law c h l (insert i x) e = none_left _ l
left_out_law c h l (remove i) e = one_left _ i l (omega passed_tests)
left_out_law c h l (swap_remove i) e = one_left _ i l (omega passed_tests)
left_out_law c h l (write i x) e = one_left _ i l (omega passed_tests)
left_out_law c h l (truncate k) e = rest_left _ k l
left_out_law c h l (resize k x) e = rest_left _ k l
left_out_law c h l clear e = rest_left _ 0 l
left_out_law c h l (extend s) e = none_left _ l
left_out_law c h l (look q) e = none_left _ l

-- So many are there as were, and entered, and are not left out.
pub counted : (c h : ℕ) (l : List ℕ) (call : Call) → Clear (on c h l call).refusals
    → length (after call l) + length (left_out (on c h l call).carry l) ≡ length l + length (flow_on c h l call).entered
counted c h l call e = rw (left_out_law c h l call e, length-append) (go call e)
  where
    go : (call : Call) → Clear (on c h l call).refusals
        → length (after call l) + (length (flow_on c h l call).handed + length (flow_on c h l call).dropped) ≡ length l + length (flow_on c h l call).entered
    go (push x) e = simp length-append (omega arith)
    go (push_front x) e = omega arith
    go pop e = simp length-take (omega passed_tests)
    go pop_front e = simp length-drop (omega passed_tests)
    go (insert i x) e = simp (length-append, length-take, length-drop) (omega passed_tests)
    go (remove i) e = simp (length-append, length-take, length-drop) (omega passed_tests)
    go (swap_remove i) e = simp (length-take, length-set) (omega passed_tests)
    go (write i x) e = simp length-set (omega arith)
    go (truncate k) e = simp (length-take, length-drop) (omega arith)
    go (resize k x) e = simp (length-append, length-take, length-drop, length-replicate) (omega arith)
    go clear e = omega arith
    go (extend s) e = simp length-append (omega arith)
    go (look q) e = omega arith

-- what a call on two takes out of the first for T
abbrev pub handed_over : Call2 → (l l2 : List ℕ) → List ℕ
handed_over append l l2 = []
handed_over (split_off at) l l2 = (after2 (split_off at) l l2).1
handed_over clone l l2 = []
handed_over (from_iter u) l l2 = []
handed_over same l l2 = []

-- Of the first of two only split_off leaves entries out, and they are T's list.
pub left_out2 : (c h c2 h2 : ℕ) (call : Call2) (l l2 : List ℕ) → left_out (row2 c h (length l) l c2 h2 (length l2) l2 call).carry l ≡ handed_over call l l2
left_out2 c h c2 h2 append l l2 = none_left _ l
left_out2 c h c2 h2 (split_off at) l l2 = rest_left _ at l
left_out2 c h c2 h2 clone l l2 = none_left _ l
left_out2 c h c2 h2 (from_iter u) l l2 = none_left _ l
left_out2 c h c2 h2 same l l2 = none_left _ l
