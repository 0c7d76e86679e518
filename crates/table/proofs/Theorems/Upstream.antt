-- Upstream's clauses, for ring and vector at once: each follows from the call's promise, `o ≡ does k call t`. Upstream's `v@` is `list k t`, its
-- `v@[i]` is `get_or (list k t) i 0`, `[..m]` and `[m..]` are `take m` and `drop m`. What upstream leaves to the caller, or without a bound, is a number
-- here, and an `-answers` says when each number is given to a call on a valid container.
use Prim.Native.Nat.{ℕ, zero, suc, ◌+◌, ◌-◌, ◌≤◌, ◌<◌}
use mathlib.Core.Path.{◌≡◌, refl, ap, ◌∙◌}
use mathlib.Core.Bool.{false, cond}
use mathlib.Core.List.{List, [], ◌∷◌, ◌++◌, append-nil}
use mathlib.Core.Logic.{◌⊎◌, inl, inr, ⊎_elim}
use native.Mathlib.Omega.{arith}
use borrow.Author.Tests.{leb-false, lt-leb, le-leb, lt-ltb, le-ltb, eq-eqb, ne_eqb}
use lib.Dec.{ltb, leb, eqb}
use lib.ListN.{length, get_or, take, drop, replicate, length-append, length-take, length-replicate, get_or-replicate, get_or-append}
use lib.Seq.{take_all, take-append_seam, get_or-append-add, get_or-set_same}
use Rattle.slots.specs.Lists.{update, insert_at, remove_at}
use Rattle.slots.specs.Layout.{Kind, vector, place}
use Rattle.slots.proofs.Words.{below?}
use Rattle.slots.proofs.Placing.{entry}
use Rattle.table.specs.Tray.{Tray, cap, list, invalid}
use Rattle.table.specs.Calls.{Look, len, is_empty, read, reserve, try_reserve, try_reserve_exact, range, Making, new, with_capacity, from_elem}
use Rattle.table.specs.Calls.{Call, push, push_front, pop, pop_front, insert, remove, swap_remove, write, truncate, resize, clear, extend, look}
use Rattle.table.specs.Table.{after, begins, makes}
use Rattle.table.specs.Does.{Outcome, row_of, does, made}
use Rattle.table.specs.Numbers.{Astray}
use Rattle.table.specs.Parts.{Part}
use Rattle.table.proofs.Laws.Refusals.{first_number}
use Rattle.table.proofs.Laws.Valid.{fit}
use Rattle.table.proofs.Laws.Done.{many}
use Rattle.table.proofs.Laws.Keeps.{bare_list}
use Rattle.table.proofs.Theorems.Parts.{Question, lent, unfit, astray, question}
use Rattle.table.proofs.Theorems.Refused.{call_settled, call_refused, call_clear, made_settled, made_refused}
use Rattle.table.proofs.Theorems.Listed.{call_listed, made_listed}

-- a position of the list is an entry: the number in its slot
pub entry_at : (k : Kind) (t : Tray) (i : ℕ) → i < length (list k t) → get_or (list k t) i 0 ≡ get_or t.slots (place k (cap t) t.head i) 0
entry_at k t i h = entry _ t.len t.slots i (omega (arith, many k t))

-- the number is m, and that is so
abbrev pub Says : (number m : ℕ) → Type 0 → Type 0
Says number m so = (number ≡ m) × so

-- 0 where that is so, else the number of what it is refused for: entry i is there; there is an entry; a slot is free; m more fit; m fit
abbrev pub IfInside : (number n i : ℕ) → Type 0
IfInside number n i = Says number 0 (i < n) ⊎ Says number 3 (n ≤ i)

abbrev pub IfSome : (number n : ℕ) → Type 0
IfSome number n = Says number 0 (0 < n) ⊎ Says number 4 (n ≡ 0)

abbrev pub IfFree : (number c n : ℕ) → Type 0
IfFree number c n = Says number 0 (n < c) ⊎ Says number 6 (c ≤ n)

abbrev pub IfRoom : (number c n m : ℕ) → Type 0
IfRoom number c n m = Says number 0 (m ≤ c - n) ⊎ Says number 6 (c - n < m)

abbrev pub IfHolds : (number c m : ℕ) → Type 0
IfHolds number c m = Says number 0 (m ≤ c) ⊎ Says number 6 (c < m)

-- the list goes up to i and a slot is free
abbrev pub IfInserts : (number c n i : ℕ) → Type 0
IfInserts number c n i = Says number 0 ((i ≤ n) × (n < c)) ⊎ (Says number 3 (n < i) ⊎ Says number 6 ((i ≤ n) × (c ≤ n)))

-- the number that a row with one test answers
module _ (number a b m : ℕ) where
  pub by_le : number ≡ cond (leb a b) m 0 → Says number 0 (b < a) ⊎ Says number m (a ≤ b)
  by_le e = ⊎_elim (λ (lt : b < a). inl (e ∙ rw (lt-leb a b lt), lt)) (λ (le : a ≤ b). inr (e ∙ rw (le-leb a b le), le)) (below? b a)

  pub by_lt : number ≡ cond (ltb a b) m 0 → Says number 0 (b ≤ a) ⊎ Says number m (a < b)
  by_lt e = ⊎_elim (λ (lt : a < b). inr (e ∙ rw (lt-ltb a b lt), lt)) (λ (le : b ≤ a). inl (e ∙ rw (le-ltb a b le), le)) (below? a b)

pub by_zero : (number n m : ℕ) → number ≡ cond (eqb n 0) m 0 → Says number 0 (0 < n) ⊎ Says number m (n ≡ 0)
by_zero number n m e =
    ⊎_elim
    (λ (some : 0 < n). inl (e ∙ rw (ne_eqb n 0 (omega arith)), some))
    (λ (less : n ≤ 0). let none : n ≡ 0 = omega arith in inr (e ∙ rw (eq-eqb n 0 none), none))
    (below? 0 n)

-- ANY CALL
module _ (k : Kind) (call : Call) (t : Tray) (o : Outcome) (promised : o ≡ does k call t) where
  pub done_list : o.number ≡ 0 → list k o.tray ≡ after call (list k t)
  done_list done = (call_listed k call t o promised done).tray.listed

  pub done_value : o.number ≡ 0 → o.value ≡ (row_of k call t).value
  done_value done = (call_listed k call t o promised done).value

  -- every `None`, and every refusal that upstream does not have
  pub refused_list : (m : ℕ) → o.number ≡ suc m → list k o.tray ≡ list k t
  refused_list m e = ap (λ o. list k o.tray) (call_refused k call t o promised m e)

  pub numbered : invalid k t ≡ false → o.number ≡ first_number (row_of k call t).refusals
  numbered ok = rw (promised, (call_settled k call t).first, ok)

-- ONE CONTAINER, of which nothing is asked
module _ (k : Kind) (t : Tray) (o : Outcome) where
  -- a look leaves the list, done or refused
  pub look_list : (q : Look) → o ≡ does k (look q) t → list k o.tray ≡ list k t
  look_list q promised = go o.number refl
    where
      go : (m : ℕ) → o.number ≡ m → list k o.tray ≡ list k t
      go zero e = done_list k (look q) t o promised e
      go (suc m) e = refused_list k (look q) t o promised m e

  pub read_value : (i : ℕ) → o ≡ does k (look (read i)) t → o.number ≡ 0 → o.value ≡ get_or (list k t) i 0
  read_value i = done_value k (look (read i)) t o

  -- write, which is index_mut with the number then stored: the old entry, the list, and the entry that stands there now
  pub write_value : (i x : ℕ) → o ≡ does k (write i x) t → o.number ≡ 0 → o.value ≡ get_or (list k t) i 0
  write_value i x = done_value k (write i x) t o

  pub write_list : (i x : ℕ) → o ≡ does k (write i x) t → o.number ≡ 0 → list k o.tray ≡ update (list k t) i x
  write_list i x = done_list k (write i x) t o

  pub write_entry : (i x : ℕ) → o ≡ does k (write i x) t → o.number ≡ 0 → get_or (list k o.tray) i 0 ≡ x
  write_entry i x promised done =
      let below : i < t.len = leb-false t.len i (call_clear k (write i x) t o promised done).1.0 in
      rw (write_list i x promised done) (get_or-set_same (list k t) i x 0 (omega (arith, many k t)))

  -- push_back, push
  pub push_list : (x : ℕ) → o ≡ does k (push x) t → o.number ≡ 0 → list k o.tray ≡ list k t ++ (x ∷ [])
  push_list x = done_list k (push x) t o

  pub push_front_list : (x : ℕ) → o ≡ does k (push_front x) t → o.number ≡ 0 → list k o.tray ≡ (x ∷ []) ++ list k t
  push_front_list x = done_list k (push_front x) t o

  -- pop_back, pop
  pub pop_value : o ≡ does k pop t → o.number ≡ 0 → o.value ≡ get_or (list k t) (length (list k t) - 1) 0
  pop_value promised done = rw (many k t) (done_value k pop t o promised done)

  pub pop_list : o ≡ does k pop t → o.number ≡ 0 → list k o.tray ≡ take (length (list k t) - 1) (list k t)
  pop_list = done_list k pop t o

  pub pop_front_value : o ≡ does k pop_front t → o.number ≡ 0 → o.value ≡ get_or (list k t) 0 0
  pop_front_value = done_value k pop_front t o

  pub pop_front_list : o ≡ does k pop_front t → o.number ≡ 0 → list k o.tray ≡ drop 1 (list k t)
  pop_front_list = done_list k pop_front t o

  pub insert_list : (i x : ℕ) → o ≡ does k (insert i x) t → o.number ≡ 0 → list k o.tray ≡ insert_at (list k t) i x
  insert_list i x = done_list k (insert i x) t o

  pub remove_value : (i : ℕ) → o ≡ does k (remove i) t → o.number ≡ 0 → o.value ≡ get_or (list k t) i 0
  remove_value i = done_value k (remove i) t o

  pub remove_list : (i : ℕ) → o ≡ does k (remove i) t → o.number ≡ 0 → list k o.tray ≡ remove_at (list k t) i
  remove_list i = done_list k (remove i) t o

  pub swap_remove_value : (i : ℕ) → o ≡ does k (swap_remove i) t → o.number ≡ 0 → o.value ≡ get_or (list k t) i 0
  swap_remove_value i = done_value k (swap_remove i) t o

  -- the last for entry i, and then without the last
  pub swap_remove_list : (i : ℕ) → o ≡ does k (swap_remove i) t → o.number ≡ 0
      → list k o.tray ≡ take (length (list k t) - 1) (update (list k t) i (get_or (list k t) (length (list k t) - 1) 0))
  swap_remove_list i = done_list k (swap_remove i) t o

  -- resize to more: how many, the first of them, and the others
  module _ (m x : ℕ) (promised : o ≡ does k (resize m x) t) (done : o.number ≡ 0) where
    pub resize_length : length (list k o.tray) ≡ m
    resize_length =
        rw (done_list k (resize m x) t o promised done)
        (length-append (take m (list k t)) _ ∙ omega (arith, length-take m (list k t), length-replicate (m - length (list k t)) x))

    grown : length (list k t) ≤ m → list k o.tray ≡ list k t ++ replicate (m - length (list k t)) x
    grown more = done_list k (resize m x) t o promised done ∙ rw (take_all m (list k t) more)

    pub resize_kept : length (list k t) < m → take (length (list k t)) (list k o.tray) ≡ list k t
    resize_kept more = rw (grown (omega arith)) (take-append_seam (list k t) _)

    pub resize_filled : (i : ℕ) → length (list k t) ≤ i → i < m → get_or (list k o.tray) i 0 ≡ x
    resize_filled i past below =
        let far : i ≡ length (list k t) + (i - length (list k t)) = omega arith in
        rw (grown (omega arith))
        (ap (λ j. get_or (list k t ++ replicate (m - length (list k t)) x) j 0) far
        ∙ get_or-append-add (list k t) _ (i - length (list k t)) 0
        ∙ get_or-replicate (m - length (list k t)) (i - length (list k t)) x 0 (omega arith))

  -- extend_from_slice: how many, the first of them, and the others
  module _ (s : List ℕ) (promised : o ≡ does k (extend s) t) (done : o.number ≡ 0) where
    pub extend_length : length (list k o.tray) ≡ length (list k t) + length s
    extend_length = rw (done_list k (extend s) t o promised done) (length-append (list k t) s)

    pub extend_kept : (i : ℕ) → i < length (list k t) → get_or (list k o.tray) i 0 ≡ get_or (list k t) i 0
    extend_kept i below = rw (done_list k (extend s) t o promised done) (get_or-append (list k t) s 0 i below)

    pub extend_added : (i : ℕ) → length (list k t) ≤ i → get_or (list k o.tray) i 0 ≡ get_or s (i - length (list k t)) 0
    extend_added i past =
        let far : i ≡ length (list k t) + (i - length (list k t)) = omega arith in
        rw (done_list k (extend s) t o promised done)
        (ap (λ j. get_or (list k t ++ s) j 0) far ∙ get_or-append-add (list k t) s (i - length (list k t)) 0)

-- A VALID CONTAINER: which number, and what is never refused
module _ (k : Kind) (t : Tray) (o : Outcome) (ok : invalid k t ≡ false) where
  pub len_answers : o ≡ does k (look len) t → o.number ≡ 0
  len_answers promised = numbered k (look len) t o promised ok

  pub len_value : o ≡ does k (look len) t → o.value ≡ length (list k t)
  len_value promised = rw (many k t) (done_value k (look len) t o promised (len_answers promised))

  pub is_empty_answers : o ≡ does k (look is_empty) t → o.number ≡ 0
  is_empty_answers promised = numbered k (look is_empty) t o promised ok

  -- no is 0, yes is 1
  pub is_empty_value : o ≡ does k (look is_empty) t → Says o.value 0 (0 < length (list k t)) ⊎ Says o.value 1 (length (list k t) ≡ 0)
  is_empty_value promised = rw (many k t) (by_zero o.value t.len 1 (done_value k (look is_empty) t o promised (is_empty_answers promised)))

  pub read_answers : (i : ℕ) → o ≡ does k (look (read i)) t → IfInside o.number (length (list k t)) i
  read_answers i promised = rw (many k t) (by_le o.number t.len i 3 (numbered k (look (read i)) t o promised ok))

  pub reserve_answers : (m : ℕ) → o ≡ does k (look (reserve m)) t → IfRoom o.number (cap t) (length (list k t)) m
  reserve_answers m promised = rw (many k t) (by_lt o.number (cap t - t.len) m 6 (numbered k (look (reserve m)) t o promised ok))

  pub try_reserve_answers : (m : ℕ) → o ≡ does k (look (try_reserve m)) t → IfRoom o.number (cap t) (length (list k t)) m
  try_reserve_answers m promised = rw (many k t) (by_lt o.number (cap t - t.len) m 6 (numbered k (look (try_reserve m)) t o promised ok))

  pub try_reserve_exact_answers : (m : ℕ) → o ≡ does k (look (try_reserve_exact m)) t → IfRoom o.number (cap t) (length (list k t)) m
  try_reserve_exact_answers m promised = rw (many k t) (by_lt o.number (cap t - t.len) m 6 (numbered k (look (try_reserve_exact m)) t o promised ok))

  pub write_answers : (i x : ℕ) → o ≡ does k (write i x) t → IfInside o.number (length (list k t)) i
  write_answers i x promised = rw (many k t) (by_le o.number t.len i 3 (numbered k (write i x) t o promised ok))

  pub push_answers : (x : ℕ) → o ≡ does k (push x) t → IfFree o.number (cap t) (length (list k t))
  push_answers x promised = rw (many k t) (by_le o.number (cap t) t.len 6 (numbered k (push x) t o promised ok))

  pub push_front_answers : (x : ℕ) → o ≡ does k (push_front x) t → IfFree o.number (cap t) (length (list k t))
  push_front_answers x promised = rw (many k t) (by_le o.number (cap t) t.len 6 (numbered k (push_front x) t o promised ok))

  pub pop_answers : o ≡ does k pop t → IfSome o.number (length (list k t))
  pop_answers promised = rw (many k t) (by_zero o.number t.len 4 (numbered k pop t o promised ok))

  -- as `vec.rs` has it: by the list, not by the answer
  pub pop_some : o ≡ does k pop t → 0 < length (list k t)
      → (o.number ≡ 0) × (o.value ≡ get_or (list k t) (length (list k t) - 1) 0) × (list k o.tray ≡ take (length (list k t) - 1) (list k t))
  pop_some promised some =
      let done : o.number ≡ 0 = ⊎_elim (λ h. h.0) (λ h. absurd (omega (arith, h.1))) (pop_answers promised) in
      (done, pop_value k t o promised done, pop_list k t o promised done)

  pub pop_none : o ≡ does k pop t → length (list k t) ≡ 0 → (o.number ≡ 4) × (list k o.tray ≡ list k t)
  pop_none promised none =
      let empty : o.number ≡ 4 = ⊎_elim (λ h. absurd (omega (arith, h.1))) (λ h. h.0) (pop_answers promised) in
      (empty, refused_list k pop t o promised 3 empty)

  pub pop_front_answers : o ≡ does k pop_front t → IfSome o.number (length (list k t))
  pop_front_answers promised = rw (many k t) (by_zero o.number t.len 4 (numbered k pop_front t o promised ok))

  pub insert_answers : (i x : ℕ) → o ≡ does k (insert i x) t → IfInserts o.number (cap t) (length (list k t)) i
  insert_answers i x promised =
      let e = numbered k (insert i x) t o promised ok in
      rw (many k t)
      (⊎_elim
      (λ (lt : t.len < i). inr (inl (e ∙ rw (lt-ltb t.len i lt), lt)))
      (λ (le : i ≤ t.len). ⊎_elim
      (λ (free : t.len < cap t). inl (e ∙ rw (le-ltb t.len i le, lt-leb (cap t) t.len free), (le, free)))
      (λ (full : cap t ≤ t.len). inr (inr (e ∙ rw (le-ltb t.len i le, le-leb (cap t) t.len full), (le, full))))
      (below? t.len (cap t)))
      (below? t.len i))

  pub remove_answers : (i : ℕ) → o ≡ does k (remove i) t → IfInside o.number (length (list k t)) i
  remove_answers i promised = rw (many k t) (by_le o.number t.len i 3 (numbered k (remove i) t o promised ok))

  pub swap_remove_answers : (i : ℕ) → o ≡ does k (swap_remove i) t → IfInside o.number (length (list k t)) i
  swap_remove_answers i promised = rw (many k t) (by_le o.number t.len i 3 (numbered k (swap_remove i) t o promised ok))

  pub extend_answers : (s : List ℕ) → o ≡ does k (extend s) t → IfRoom o.number (cap t) (length (list k t)) (length s)
  extend_answers s promised = rw (many k t) (by_lt o.number (cap t - t.len) (length s) 6 (numbered k (extend s) t o promised ok))

  -- truncate, to less or to more
  pub truncate_answers : (m : ℕ) → o ≡ does k (truncate m) t → o.number ≡ 0
  truncate_answers m promised = numbered k (truncate m) t o promised ok

  pub truncate_list : (m : ℕ) → o ≡ does k (truncate m) t → list k o.tray ≡ take m (list k t)
  truncate_list m promised = done_list k (truncate m) t o promised (truncate_answers m promised)

  pub truncate_same : (m : ℕ) → o ≡ does k (truncate m) t → length (list k t) < m → list k o.tray ≡ list k t
  truncate_same m promised more = truncate_list m promised ∙ take_all m (list k t) (omega arith)

  -- resize, where to no more is never refused
  pub resize_answers : (m x : ℕ) → o ≡ does k (resize m x) t → IfHolds o.number (cap t) m
  resize_answers m x promised = by_lt o.number (cap t) m 6 (numbered k (resize m x) t o promised ok)

  pub resize_list : (m x : ℕ) → o ≡ does k (resize m x) t → m ≤ length (list k t) → list k o.tray ≡ take m (list k t)
  resize_list m x promised less =
      let holds : m ≤ cap t = omega (arith, many k t, (fit k t ok).fits) in
      let none : m - length (list k t) ≡ 0 = omega arith in
      done_list k (resize m x) t o promised (numbered k (resize m x) t o promised ok ∙ rw (le-ltb (cap t) m holds))
      ∙ rw none (append-nil (take m (list k t)))

  pub clear_answers : o ≡ does k clear t → o.number ≡ 0
  clear_answers promised = numbered k clear t o promised ok

  pub clear_list : o ≡ does k clear t → list k o.tray ≡ []
  clear_list promised = done_list k clear t o promised (clear_answers promised)

-- MAKINGS. `new` and `with_capacity` begin with no entry, and so does a refused one.
module _ (k : Kind) (slots : List ℕ) (o : Outcome) where
  made_empty : (m : Making) → begins m ≡ [] → o ≡ made k m slots → list k o.tray ≡ []
  made_empty m none promised = go o.number refl
    where
      go : (j : ℕ) → o.number ≡ j → list k o.tray ≡ []
      go zero e = (made_listed k m slots o promised e).tray.listed ∙ none
      go (suc j) e = ap (λ o. list k o.tray) (made_refused k m slots o promised j e) ∙ bare_list k slots

  pub new_list : o ≡ made k new slots → list k o.tray ≡ []
  new_list = made_empty new refl

  pub with_capacity_list : (m : ℕ) → o ≡ made k (with_capacity m) slots → list k o.tray ≡ []
  with_capacity_list m = made_empty (with_capacity m) refl

  -- from_elem: how many, and each
  pub from_elem_length : (m x : ℕ) → o ≡ made k (from_elem m x) slots → o.number ≡ 0 → length (list k o.tray) ≡ m
  from_elem_length m x promised done = rw (made_listed k (from_elem m x) slots o promised done).tray.listed (length-replicate m x)

  pub from_elem_entry : (m x : ℕ) → o ≡ made k (from_elem m x) slots → o.number ≡ 0 → (i : ℕ) → i < m → get_or (list k o.tray) i 0 ≡ x
  from_elem_entry m x promised done i below = rw (made_listed k (from_elem m x) slots o promised done).tray.listed (get_or-replicate m i x 0 below)

  -- on at most 4,096 slots
  module _ (few : length slots ≤ 4096) where
    made_numbered : (m : Making) → o ≡ made k m slots → o.number ≡ first_number (makes (length slots) m).refusals
    made_numbered m promised = rw (promised, (made_settled k m slots).first, le-ltb 4096 (length slots) few)

    pub new_answers : o ≡ made k new slots → o.number ≡ 0
    new_answers = made_numbered new

    pub with_capacity_answers : (m : ℕ) → o ≡ made k (with_capacity m) slots → IfHolds o.number (length slots) m
    with_capacity_answers m promised = by_lt o.number (length slots) m 6 (made_numbered (with_capacity m) promised)

    pub from_elem_answers : (m x : ℕ) → o ≡ made k (from_elem m x) slots → IfHolds o.number (length slots) m
    from_elem_answers m x promised = by_lt o.number (length slots) m 6 (made_numbered (from_elem m x) promised)

-- A VECTOR'S RANGE, which is asked in a call of its own
pub range_answers : (t : Tray) (o : Outcome) → invalid vector t ≡ false → (a b : ℕ) → o ≡ does vector (look (range a b)) t
    → Says o.number 0 ((a ≤ b) × (b ≤ length (list vector t))) ⊎ Says o.number 3 (Astray a b (length (list vector t)))
range_answers t o ok a b promised = rw (promised, many vector t) (go (question t a b))
  where
    go : {m : ℕ} {p : Part} → Question t a b m p → Says m 0 ((a ≤ b) × (b ≤ t.len)) ⊎ Says m 3 (Astray a b t.len)
    go (lent ok le fits) = inl (refl, (le, fits))
    go (unfit bad) = let z : ◌≡◌ {A = ℕ} 0 1 = cc (bad, ok) in absurd (omega arith)
    go (astray ok out) = inr (refl, out)
