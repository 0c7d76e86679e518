-- How many entries a call moves, and which. A ring moves those of the shorter side: the count of the definition comes to min(i, n − i) on insert
-- and min(i, n − 1 − i) on remove. Then every call, done or refused.
use mathlib.Core.Path.{◌≡◌, refl, sym, ap, ◌∙◌}
use mathlib.Core.Bool.{Bool, true, false, cond}
use mathlib.Core.Logic.{⊎_elim}
use mathlib.Core.List.{List}
use Prim.Native.Nat.{ℕ, ◌+◌, ◌-◌, min, ◌≤◌, ◌<◌}
use native.Mathlib.Omega.{arith}
use borrow.Author.Tests.{lt-leb, lt-ltb, le-ltb, eq-eqb, ne_eqb}
use lib.Dec.{ltb, leb, eqb}
use lib.ListN.{length}
use Rattle.slots.specs.Count.{tally}
use Rattle.slots.specs.Layout.{Kind, ring, vector, place, slot_of}
use Rattle.slots.specs.Moves.{moved, inserted, removed, swapped, elsewhere}
use Rattle.slots.proofs.Words.{below?, same?}
use Rattle.slots.proofs.Placing.{placing, one_slot, slot_inside, slot_back, slot_on}
use Rattle.slots.proofs.Moves.{moved_each, tally_before, tally_from, tally_past, insert_low_each, insert_high_each, remove_low_each, remove_high_each}
use Rattle.slots.proofs.Moves.{moved_stay, moved_kept, moved_none, moved_replaced, swap_moves_none, swap_moves_one, removed_here}
use Rattle.table.specs.Tray.{Tray, cap, list, valid, invalid, nowhere}
use Rattle.table.specs.Calls.{Call, push, push_front, pop, pop_front, insert, remove, swap_remove, write, truncate, resize, clear, extend, look, has}
use Rattle.table.specs.Calls.{Call2, append, split_off, clone, from_iter, same, Making}
use Rattle.table.specs.Table.{head_back, head_on, after, after2, begins, makes}
use Rattle.table.specs.Does.{Outcome, Outcome2, refused, refused2, head_after, row_of, row_of2, refusals_of, refusals_of2, refusals_made, done, done2, does, does2, bare, made}
use Rattle.table.specs.Ledger.{if_done}
use Rattle.table.proofs.Laws.Refusals.{Clear, either, if_refused, passed_tests}
use Rattle.table.proofs.Laws.Valid.{fit, ring_facts, vector_facts, ring_inside}
use Rattle.table.proofs.Laws.Done.{done_is, done_plainly, shifted_plainly, row_carries, row_carries2, head_kept, longer, shorter}

-- where the head stays, the entries from i on, or those after i, take other slots
module _ (k : Kind) (t : Tray) (ok : invalid k t ≡ false) where
  insert_each_high : (i : ℕ) → t.len < cap t → (j : ℕ) → j < t.len
      → elsewhere (place k (cap t) t.head) (place k (cap t) t.head j) (inserted i j) ≡ leb i j
  insert_each_high i room =
      let f = fit k t ok in
      insert_high_each _ _ t.len i (λ j l. refl) (λ j l u e. let q = one_slot f.placed (j + 1) j (omega arith) (omega arith) e in omega arith)

  remove_each_high : (i : ℕ) → (j : ℕ) → j < t.len
      → elsewhere (place k (cap t) t.head) (place k (cap t) t.head j) (removed i j) ≡ ltb i j
  remove_each_high i =
      let f = fit k t ok in
      remove_high_each _ _ t.len i (λ j l. refl) (λ j l u e. let q = one_slot f.placed (j - 1) j (omega arith) (omega arith) e in omega arith)

  pub insert_high : (i : ℕ) → i ≤ t.len → t.len < cap t
      → moved (place k (cap t) t.head) (place k (cap t) t.head) (inserted i) t.len ≡ t.len - i
  insert_high i h room = moved_each _ _ _ t.len _ (insert_each_high i room) ∙ tally_from t.len i h

  pub remove_high : (i : ℕ) → i < t.len → moved (place k (cap t) t.head) (place k (cap t) t.head) (removed i) t.len ≡ t.len - 1 - i
  remove_high i h = moved_each _ _ _ t.len _ (remove_each_high i) ∙ tally_past t.len i h

-- where a ring's head goes one back, or one on, those before i do
module _ (t : Tray) (ok : invalid ring t ≡ false) where
  insert_each_low : (i : ℕ) → i ≤ t.len → t.len < cap t → (j : ℕ) → j < t.len
      → elsewhere (slot_of (cap t) (head_back (cap t) t.head)) (slot_of (cap t) t.head j) (inserted i j) ≡ ltb j i
  insert_each_low i h room =
      let lt = ring_inside t ok (omega arith) in
      let p = placing ring (cap t) (head_back (cap t) t.head) (omega (arith, slot_inside (cap t) t.head (cap t - 1) lt)) in
      insert_low_each _ _ t.len i
      (λ j l e. let q = one_slot p (j + 1) j (omega arith) (omega arith) (slot_back (cap t) t.head j lt ∙ sym e) in omega arith)
      (λ j l u. slot_back (cap t) t.head j lt)

  remove_each_low : (i : ℕ) → i < t.len → (j : ℕ) → j < t.len
      → elsewhere (slot_of (cap t) (head_on (cap t) t.head)) (slot_of (cap t) t.head j) (removed i j) ≡ ltb j i
  remove_each_low i h =
      let f = fit ring t ok in
      remove_low_each _ _ t.len i
      (λ j l e. let q = one_slot f.placed (j + 1) j (omega arith) (omega arith) (sym (slot_on (cap t) t.head j) ∙ e) in omega arith)
      (λ j l u. slot_on (cap t) t.head (j - 1) ∙ ap (slot_of (cap t) t.head) (omega arith))

  pub insert_low : (i : ℕ) → i ≤ t.len → t.len < cap t
      → moved (slot_of (cap t) t.head) (slot_of (cap t) (head_back (cap t) t.head)) (inserted i) t.len ≡ i
  insert_low i h room = moved_each _ _ _ t.len _ (insert_each_low i h room) ∙ tally_before t.len i h

  pub remove_low : (i : ℕ) → i < t.len → moved (slot_of (cap t) t.head) (slot_of (cap t) (head_on (cap t) t.head)) (removed i) t.len ≡ i
  remove_low i h = moved_each _ _ _ t.len _ (remove_each_low i h) ∙ tally_before t.len i (omega arith)

  -- from the row's head, on whichever side it is
  insert_moved : (i x : ℕ) → i ≤ t.len → t.len < cap t
      → moved (slot_of (cap t) t.head) (slot_of (cap t) (row_of ring (insert i x) t).head) (inserted i) t.len ≡ min i (t.len - i)
  insert_moved i x fits room =
      ⊎_elim
      (λ (near : i < t.len - i). rw (lt-ltb _ _ near) (insert_low i fits room ∙ omega arith))
      (λ (far : t.len - i ≤ i). rw (le-ltb _ _ far) (insert_high ring t ok i fits room ∙ omega arith))
      (below? i (t.len - i))

  remove_moved : (i : ℕ) → i < t.len
      → moved (slot_of (cap t) t.head) (slot_of (cap t) (row_of ring (remove i) t).head) (removed i) t.len ≡ min i (t.len - 1 - i)
  remove_moved i fits =
      ⊎_elim
      (λ (near : i < t.len - 1 - i). rw (lt-ltb _ _ near) (remove_low i fits ∙ omega arith))
      (λ (far : t.len - 1 - i ≤ i). rw (le-ltb _ _ far) (remove_high ring t ok i fits ∙ omega arith))
      (below? i (t.len - 1 - i))

  pub insert_moves : (i x : ℕ) → i ≤ t.len → t.len < cap t → (does ring (insert i x) t).moves ≡ min i (t.len - i)
  insert_moves i x fits room = ap (λ o. o.moves) (done_plainly ring t (insert i x) ok (le-ltb _ _ fits, (lt-leb _ _ room, tt))) ∙ insert_moved i x fits room

  pub remove_moves : (i : ℕ) → i < t.len → (does ring (remove i) t).moves ≡ min i (t.len - 1 - i)
  remove_moves i fits = ap (λ o. o.moves) (done_plainly ring t (remove i) ok (lt-leb _ _ fits, tt)) ∙ remove_moved i fits

-- WHICH SIDE. The entry at position j stands in another slot after the call, by its carrying.
abbrev pub shifts : (k : Kind) (call : Call) (t : Tray) (j : ℕ) → Bool
shifts k call t j = elsewhere (place k (cap t) (does k call t).tray.head) (place k (cap t) t.head j) ((row_of k call t).carry j)

-- these are the entries that are counted
pub moves_are : (k : Kind) (call : Call) (t : Tray) → invalid k t ≡ false → Clear (row_of k call t).refusals
    → (does k call t).moves ≡ tally t.len (shifts k call t)
unfolding moved
moves_are k call t ok none =
    let is = done_is k t call ok none in
    ap (λ o. o.moves) is
    ∙ ap (λ o. tally t.len (λ j. elsewhere (place k (cap t) o.tray.head) (place k (cap t) t.head j) ((row_of k call t).carry j))) (sym is)

-- A ring's side: the front where it is shorter, and the head goes with it; else the back, also where they are alike, and the head stays, unless nothing is
-- left.
module _ (t : Tray) (ok : invalid ring t ≡ false) where
  pub insert_near : (i x : ℕ) → i ≤ t.len → t.len < cap t → i < t.len - i
      → ((does ring (insert i x) t).tray.head ≡ head_back (cap t) t.head) × ((j : ℕ) → j < t.len → shifts ring (insert i x) t j ≡ ltb j i)
  insert_near i x fits room near =
      let is = done_is ring t (insert i x) ok (le-ltb _ _ fits, (lt-leb _ _ room, tt)) in
      let head : (does ring (insert i x) t).tray.head ≡ head_back (cap t) t.head = rw (is, lt-ltb _ _ near, longer ring t i x fits) (head_kept (t.len + 1) _ (λ e. omega arith)) in
      (head, λ j h. rw head (insert_each_low t ok i fits room j h))

  pub insert_far : (i x : ℕ) → i ≤ t.len → t.len < cap t → t.len - i ≤ i
      → ((does ring (insert i x) t).tray.head ≡ t.head) × ((j : ℕ) → j < t.len → shifts ring (insert i x) t j ≡ leb i j)
  insert_far i x fits room far =
      let is = done_is ring t (insert i x) ok (le-ltb _ _ fits, (lt-leb _ _ room, tt)) in
      let head : (does ring (insert i x) t).tray.head ≡ t.head = rw (is, le-ltb _ _ far, longer ring t i x fits) (head_kept (t.len + 1) _ (λ e. omega arith)) in
      (head, λ j h. rw head (insert_each_high ring t ok i room j h))

  pub remove_near : (i : ℕ) → i < t.len → i < t.len - 1 - i
      → ((does ring (remove i) t).tray.head ≡ head_on (cap t) t.head) × ((j : ℕ) → j < t.len → shifts ring (remove i) t j ≡ ltb j i)
  remove_near i fits near =
      let is = done_is ring t (remove i) ok (lt-leb _ _ fits, tt) in
      let head : (does ring (remove i) t).tray.head ≡ head_on (cap t) t.head = rw (is, lt-ltb _ _ near, shorter ring t i fits) (head_kept (t.len - 1) _ (λ e. omega arith)) in
      (head, λ j h. rw head (remove_each_low t ok i fits j h))

  pub remove_far : (i : ℕ) → i < t.len → t.len - 1 - i ≤ i
      → ((does ring (remove i) t).tray.head ≡ head_after ring (t.len - 1) t.head) × ((j : ℕ) → j < t.len → shifts ring (remove i) t j ≡ ltb i j)
  remove_far i fits far =
      let is = done_is ring t (remove i) ok (lt-leb _ _ fits, tt) in
      let head : (does ring (remove i) t).tray.head ≡ head_after ring (t.len - 1) t.head = rw (is, le-ltb _ _ far, shorter ring t i fits) in (
        head,
        λ j h.
            ⊎_elim
            (λ (none : t.len - 1 ≡ 0). rw (removed_here i j (omega arith)) (sym (le-ltb i j (omega arith))))
            (λ (some : t.len - 1 ≡ 0 → ⊥). rw (head, head_kept (t.len - 1) t.head some) (remove_each_high ring t ok i j h))
            (same? (t.len - 1) 0),
      )

-- A vector has no head to move: always the back.
pub vector_insert_shifts : (t : Tray) → invalid vector t ≡ false → (i x : ℕ) → t.len < cap t → (j : ℕ) → j < t.len → shifts vector (insert i x) t j ≡ leb i j
vector_insert_shifts t ok i x room j h = insert_each_high vector t ok i room j h

pub vector_remove_shifts : (t : Tray) → invalid vector t ≡ false → (i j : ℕ) → j < t.len → shifts vector (remove i) t j ≡ ltb i j
vector_remove_shifts t ok i j h = remove_each_high vector t ok i j h

-- EVERY CALL: the moves of one that is done, on n entries.
abbrev pub each_kind : Kind → (rings vectors : ℕ) → ℕ
each_kind ring a b = a
each_kind vector a b = b

abbrev pub moves_in : Kind → (n : ℕ) → Call → ℕ
moves_in k n (push x) = 0
moves_in k n (push_front x) = 0
moves_in k n pop = 0
moves_in k n pop_front = 0
moves_in k n (insert i x) = each_kind k (min i (n - i)) (n - i)
moves_in k n (remove i) = each_kind k (min i (n - 1 - i)) (n - 1 - i)
moves_in k n (swap_remove i) = cond (eqb i (n - 1)) 0 1
moves_in k n (write i x) = 0
moves_in k n (truncate m) = 0
moves_in k n (resize m x) = 0
moves_in k n clear = 0
moves_in k n (extend s) = 0
moves_in k n (look q) = 0

swap_moves : (k : Kind) (t : Tray) → invalid k t ≡ false → (i : ℕ) → i < t.len
    → moved (place k (cap t) t.head) (place k (cap t) t.head) (swapped i t.len) t.len ≡ cond (eqb i (t.len - 1)) 0 1
swap_moves k t ok i h =
    let f = fit k t ok in
    ⊎_elim
    (λ (e : i ≡ t.len - 1). rw (eq-eqb _ _ e) (swap_moves_none _ t.len i e))
    (λ (ne : i ≡ t.len - 1 → ⊥). rw (ne_eqb _ _ ne) (swap_moves_one _ t.len i h ne (λ e. ne (one_slot f.placed i (t.len - 1) (omega arith) (omega arith) e))))
    (same? i (t.len - 1))

row_moved : (k : Kind) (t : Tray) (call : Call) → has call k ≡ true → (all : Clear (refusals_of k call t))
    → moved (place k (cap t) t.head) (place k (cap t) (row_of k call t).head) (row_of k call t).carry t.len ≡ moves_in k t.len call
row_moved k t (push x) of e = moved_stay _ t.len
row_moved ring t (push_front x) of e = insert_low t e.0 0 (omega arith) (omega passed_tests)
row_moved vector t (push_front x) of e = let z : ◌≡◌ {A = ℕ} 0 1 = cc in absurd (omega arith)
row_moved k t pop of e = remove_high k t e.0 (t.len - 1) (omega passed_tests) ∙ omega arith
row_moved ring t pop_front of e = remove_low t e.0 0 (omega passed_tests)
row_moved vector t pop_front of e = let z : ◌≡◌ {A = ℕ} 0 1 = cc in absurd (omega arith)
row_moved ring t (insert i x) of e = insert_moved t e.0 i x (omega passed_tests) (omega passed_tests)
row_moved vector t (insert i x) of e = insert_high vector t e.0 i (omega passed_tests) (omega passed_tests)
row_moved ring t (remove i) of e = remove_moved t e.0 i (omega passed_tests)
row_moved vector t (remove i) of e = remove_high vector t e.0 i (omega passed_tests)
row_moved k t (swap_remove i) of e = swap_moves k t e.0 i (omega passed_tests)
row_moved k t (write i x) of e = moved_replaced _ i t.len
row_moved k t (truncate m) of e = moved_kept _ m t.len
row_moved k t (resize m x) of e = moved_kept _ m t.len
row_moved k t clear of e = moved_none _ _ t.len
row_moved k t (extend s) of e = moved_stay _ t.len
row_moved k t (look q) of e = moved_stay _ t.len

-- where a ring is emptied too
row_moves : (k : Kind) (t : Tray) (call : Call) → has call k ≡ true → (all : Clear (refusals_of k call t))
    → (done k t (after call (list k t)) (row_of k call t)).moves ≡ moves_in k t.len call
row_moves k t call of e =
    shifted_plainly k t (after call (list k t)) (row_of k call t).head (row_of k call t).carry (row_carries k t call e.1) ∙ row_moved k t call of e

-- A call that its kind has, on any container.
pub moves_of : (k : Kind) (call : Call) (t : Tray) → has call k ≡ true → (does k call t).moves ≡ if_done (does k call t).number (moves_in k t.len call) 0
unfolding does
moves_of k call t of =
    either (λ (o : Outcome). o.moves ≡ if_done o.number (moves_in k t.len call) 0) (refused t (row_of k call t).given) (refusals_of k call t)
    (done k t (after call (list k t)) (row_of k call t))
    (λ r. sym (if_refused r (moves_in k t.len call) 0))
    (row_moves k t call of)

fits_most : (k : Kind) (t : Tray) → invalid k t ≡ false → (cap t ≤ 4096) × (t.len ≤ cap t)
unfolding valid
fits_most ring t ok = let v = ring_facts (cap t) t.head t.len ok in (v.small, v.fits)
fits_most vector t ok = let v = vector_facts (cap t) t.len ok in (v.small, v.fits)

at_most_one : (b : Bool) → cond b 0 1 < 4096
at_most_one true = omega arith
at_most_one false = omega arith

-- So no call moves as many as 4,096: an insertion needs a free slot, and a removal leaves one out.
few : (k : Kind) (t : Tray) (call : Call) → Clear (refusals_of k call t) → moves_in k t.len call < 4096
few k t (push x) e = omega arith
few k t (push_front x) e = omega arith
few k t pop e = omega arith
few k t pop_front e = omega arith
few ring t (insert i x) e = omega (passed_tests, fits_most ring t e.0)
few vector t (insert i x) e = omega (passed_tests, fits_most vector t e.0)
few ring t (remove i) e = omega (passed_tests, fits_most ring t e.0)
few vector t (remove i) e = omega (passed_tests, fits_most vector t e.0)
few k t (swap_remove i) e = at_most_one (eqb i (t.len - 1))
few k t (write i x) e = omega arith
few k t (truncate m) e = omega arith
few k t (resize m x) e = omega arith
few k t clear e = omega arith
few k t (extend s) e = omega arith
few k t (look q) e = omega arith

pub few_moves : (k : Kind) (call : Call) (t : Tray) → has call k ≡ true → (does k call t).moves < 4096
unfolding does
few_moves k call t of =
    either (λ (o : Outcome). o.moves < 4096) (refused t (row_of k call t).given) (refusals_of k call t) (done k t (after call (list k t)) (row_of k call t))
    (λ r. omega arith)
    (λ clear. omega (arith, row_moves k t call of clear, few k t call clear))

-- A call on two moves nothing in the first, and a making nothing at all.
pub moves_of2 : (k k2 : Kind) (call : Call2) (t t2 : Tray) → (does2 k k2 call t t2).moves ≡ 0
unfolding does2
moves_of2 k k2 call t t2 =
    either (λ (o : Outcome2). o.moves ≡ 0) (refused2 t t2 (row_of2 k k2 call t t2).given) (refusals_of2 k k2 call t t2)
    (done2 k k2 t t2 (after2 call (list k t) (list k2 t2)) (row_of2 k k2 call t t2))
    (λ r. refl)
    (λ none. shifted_plainly k t (after2 call (list k t) (list k2 t2)).0 t.head (row_of2 k k2 call t t2).carry (row_carries2 k k2 t t2 call) ∙ go call)
  where
    go : (call : Call2) → moved (place k (cap t) t.head) (place k (cap t) t.head) (row_of2 k k2 call t t2).carry t.len ≡ 0
    go append = moved_stay _ t.len
    go (split_off at) = moved_kept _ at t.len
    go clone = moved_stay _ t.len
    go (from_iter u) = moved_stay _ t.len
    go same = moved_stay _ t.len

pub moves_made : (k : Kind) (m : Making) (slots : List ℕ) → (made k m slots).moves ≡ 0
unfolding made moved tally
moves_made k m slots =
    either (λ (o : Outcome). o.moves ≡ 0) (refused (bare slots) nowhere) (refusals_made m slots) (done k (bare slots) (begins m) (makes (length slots) m))
    (λ r. refl)
    (λ none. refl)
