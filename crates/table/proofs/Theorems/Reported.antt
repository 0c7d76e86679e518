-- The slot that a call reports (request 10): it is one of the container's and holds exactly the entry that the call put in, read or wrote; or it held the one
-- that the call took out. Any other call, and every refused one, reports 65,535, which is the number of no slot.
use Prim.Native.Nat.{ℕ, ◌-◌, ◌≤◌, ◌<◌}
use mathlib.Core.Path.{◌≡◌, refl, sym, ap, ◌∙◌}
use mathlib.Core.Bool.{false}
use mathlib.Core.List.{List}
use mathlib.Core.Logic.{◌⊎◌, inl, inr, ⊎_elim}
use native.Mathlib.Omega.{arith}
use borrow.Author.Tests.{eq-eqb, ne_eqb}
use lib.ListN.{length, get_or, length-set}
use lib.Seq.{get_or-set_same}
use Rattle.slots.specs.Layout.{most, Kind, ring, vector, place, slot_of}
use Rattle.slots.specs.Lists.{insert_at}
use Rattle.slots.proofs.Words.{same?, length_insert, insert_at_law, insert_last}
use Rattle.slots.proofs.Placing.{one_slot, entry}
use Rattle.slots.proofs.Relaid.{length_relaid}
use Rattle.table.specs.Tray.{Tray, cap, list, valid, invalid}
use Rattle.table.specs.Calls.{Look, len, is_empty, read, reserve, try_reserve, try_reserve_exact, range, iter, into_iter, step_front, step_back, peek_front, peek_back}
use Rattle.table.specs.Calls.{Call, push, push_front, pop, pop_front, insert, remove, swap_remove, write, truncate, resize, clear, extend, look}
use Rattle.table.specs.Table.{row, look_row, after}
use Rattle.table.specs.Does.{Outcome, does, refusals_of}
use Rattle.table.specs.Reported.{Concerned, stands_at, stood_at, no_entry, concerned, concerned_look, no_slot, slot_for, told_slot, reported}
use Rattle.table.proofs.Laws.Refusals.{Clear, passed_tests}
use Rattle.table.proofs.Laws.Valid.{fit}
use Rattle.table.proofs.Laws.Done.{many}
use Rattle.table.proofs.Theorems.Refused.{call_settled, call_clear}
use Rattle.table.proofs.Theorems.Listed.{call_listed}
use Rattle.table.proofs.Theorems.StaysValid.{stays_valid}

-- the entry that a call is about: the one that it puts in, else the one that it answers
abbrev pub entry_of : Call → (value : ℕ) → ℕ
entry_of (push x) v = x
entry_of (push_front x) v = x
entry_of (insert i x) v = x
entry_of (write i x) v = x
entry_of pop v = v
entry_of pop_front v = v
entry_of (remove i) v = v
entry_of (swap_remove i) v = v
entry_of (truncate k) v = v
entry_of (resize k x) v = v
entry_of clear v = v
entry_of (extend s) v = v
entry_of (look q) v = v

-- THE COLUMN IS TRUE OF THE LISTS: the position that it names is one of the list's, afterwards or before, and there the entry y stands.
abbrev Found : Concerned → (before after : List ℕ) (y : ℕ) → Type 0
Found (stands_at p) before after y = (p < length after) × (get_or after p 0 ≡ y)
Found (stood_at p) before after y = (p < length before) × (get_or before p 0 ≡ y)
Found no_entry before after y = Unit {0}

put_in : (l : List ℕ) (i x : ℕ) → i ≤ length l → (i < length (insert_at l i x)) × (get_or (insert_at l i x) i 0 ≡ x)
put_in l i x reached = (omega (arith, length_insert l i x reached), insert_at_law l i x reached)

found_look : (c : ℕ) (l : List ℕ) (q : Look) → Clear (look_row c (length l) l q).refusals → Found (concerned_look q) l l (look_row c (length l) l q).value
found_look c l (read i) free = (omega passed_tests, refl)
found_look c l len free = tt
found_look c l is_empty free = tt
found_look c l (reserve k) free = tt
found_look c l (try_reserve k) free = tt
found_look c l (try_reserve_exact k) free = tt
found_look c l (range a b) free = tt
found_look c l iter free = tt
found_look c l into_iter free = tt
found_look c l (step_front u) free = tt
found_look c l (step_back u) free = tt
found_look c l (peek_front u k) free = tt
found_look c l (peek_back u k) free = tt

found : (c h : ℕ) (call : Call) (l : List ℕ) → Clear (row c h (length l) l call).refusals
    → Found (concerned (length l) call) l (after call l) (entry_of call (row c h (length l) l call).value)
found c h (push x) l free = rw (sym (insert_last l (length l) x refl)) (put_in l (length l) x (omega arith))
found c h (push_front x) l free = (omega arith, refl)
found c h (insert i x) l free = put_in l i x (omega passed_tests)
found c h (write i x) l free =
    let inside : i < length l = omega passed_tests in
    (simp length-set inside, get_or-set_same l i x 0 inside)
found c h pop l free = (omega passed_tests, refl)
found c h pop_front l free = (omega passed_tests, refl)
found c h (remove i) l free = (omega passed_tests, refl)
found c h (swap_remove i) l free = (omega passed_tests, refl)
found c h (truncate k) l free = tt
found c h (resize k x) l free = tt
found c h clear l free = tt
found c h (extend s) l free = tt
found c h (look q) l free = found_look c l q free

-- THE SLOT holds the entry y, or held it, at the position that the column names and at no other.
pub record HoldsAt (k : Kind) (t : Tray) (p y s : ℕ) : Type 0 where
  pub within : p < t.len
  pub placed : s ≡ place k (cap t) t.head p
  pub below : s < cap t
  pub holds : get_or t.slots s 0 ≡ y
  pub alone : (j : ℕ) → j < t.len → place k (cap t) t.head j ≡ s → j ≡ p

abbrev pub Holds : Kind → Concerned → (was now : Tray) (y s : ℕ) → Type 0
Holds k (stands_at p) was now y s = HoldsAt k now p y s
Holds k (stood_at p) was now y s = HoldsAt k was p y s
Holds k no_entry was now y s = s ≡ no_slot

holds_at : (k : Kind) (t : Tray) → invalid k t ≡ false → (p y : ℕ) → p < length (list k t) → get_or (list k t) p 0 ≡ y
    → HoldsAt k t p y (place k (cap t) t.head p)
holds_at k t ok p y in_list is =
    let f = fit k t ok in
    let n_is = many k t in
    let inside : p < t.len = omega arith in
    let room : p < cap t = omega (arith, f.fits) in
    record {
      within = inside;
      placed = refl;
      below = f.placed.inside p room;
      holds = sym (entry (place k (cap t) t.head) t.len t.slots p inside) ∙ is;
      alone = λ j less e. one_slot f.placed j p (omega (arith, f.fits)) room e;
    }

slot_holds : (k : Kind) (e : Concerned) (was now : Tray) (y : ℕ) → invalid k was ≡ false → invalid k now ≡ false → cap now ≡ cap was
    → Found e (list k was) (list k now) y → Holds k e was now y (slot_for k (cap was) was.head now.head e)
slot_holds k (stands_at p) was now y ok ok' same f = rw (sym same) (holds_at k now ok' p y f.0 f.1)
slot_holds k (stood_at p) was now y ok ok' same f = holds_at k was ok p y f.0 f.1
slot_holds k no_entry was now y ok ok' same f = refl

-- A CALL. Here and below o is what is seen of it, as its promise says.
module _ (k : Kind) (call : Call) (t : Tray) (o : Outcome) (promised : o ≡ does k call t) where
  told : reported k call t ≡ told_slot k call t o
  unfolding reported
  told = ap (told_slot k call t) (sym promised)

  pub refused_reports : (o.number ≡ 0 → ⊥) → reported k call t ≡ no_slot
  refused_reports some = told ∙ rw (ne_eqb o.number 0 some)

  pub done_reports : o.number ≡ 0 → reported k call t ≡ slot_for k (cap t) t.head o.tray.head (concerned t.len call)
  done_reports zero = told ∙ rw (eq-eqb o.number 0 zero)

  same_cap : o.number ≡ 0 → cap o.tray ≡ cap t
  same_cap zero =
      ap (λ o. cap o.tray) (promised ∙ (call_settled k call t).otherwise (call_clear k call t o promised zero)) ∙ length_relaid _ _ _ _ _

  -- a call that is done reports the slot of the entry that it is about, where it is about one
  pub done_holds : o.number ≡ 0 → Holds k (concerned t.len call) t o.tray (entry_of call o.value) (reported k call t)
  done_holds zero =
      let free = call_clear k call t o promised zero in
      let l = call_listed k call t o promised zero in
      let on : Clear (row (cap t) t.head (length (list k t)) (list k t) call).refusals = rw (many k t) free.1 in
      let there : Found (concerned t.len call) (list k t) (list k o.tray) (entry_of call o.value) =
      rw (l.tray.listed, l.value) (rw (many k t) at (found (cap t) t.head call (list k t) on)) in
      rw (done_reports zero) (slot_holds k (concerned t.len call) t o.tray _ free.0 (stays_valid k call t o promised free.0) (same_cap zero) there)

  -- what it reports is a slot of the container, or 65,535
  pub slot_or_none : (reported k call t < cap t) ⊎ (reported k call t ≡ no_slot)
  slot_or_none =
      ⊎_elim
      (λ (zero : o.number ≡ 0). of_done (concerned t.len call) (done_holds zero) (same_cap zero))
      (λ (some : o.number ≡ 0 → ⊥). inr (refused_reports some))
      (same? o.number 0)
    where
      of_done : (e : Concerned) → Holds k e t o.tray (entry_of call o.value) (reported k call t) → cap o.tray ≡ cap t
          → (reported k call t < cap t) ⊎ (reported k call t ≡ no_slot)
      of_done (stands_at p) h same = inl (omega (arith, h.below))
      of_done (stood_at p) h same = inl h.below
      of_done no_entry h same = inr h

  -- A number below 65,535 is a slot: below the capacity.
  pub below_capacity : reported k call t < no_slot → reported k call t < cap t
  below_capacity below =
      ⊎_elim (λ (lt : reported k call t < cap t). lt) (λ (e : reported k call t ≡ no_slot). absurd (omega arith)) slot_or_none

  -- so it takes 16 bits
  pub fits_16 : reported k call t < 65536
  fits_16 =
      ⊎_elim
      (λ (lt : reported k call t < cap t). ⊎_elim (λ (zero : o.number ≡ 0). omega (arith, (fit k t (call_clear k call t o promised zero).0).small))
      (λ (some : o.number ≡ 0 → ⊥). omega (arith, refused_reports some)) (same? o.number 0))
      (λ (e : reported k call t ≡ no_slot). omega arith)
      slot_or_none

-- EXACTLY BY THESE CALLS, as request 10 names them: push at either end, insert, read and write; pops, remove and swap_remove.
pub data Reports : Call → Type 0 where
  a_push : (x : ℕ) → Reports (push x)
  a_push_front : (x : ℕ) → Reports (push_front x)
  an_insert : (i x : ℕ) → Reports (insert i x)
  a_read : (i : ℕ) → Reports (look (read i))
  a_write : (i x : ℕ) → Reports (write i x)
  a_pop : Reports pop
  a_pop_front : Reports pop_front
  a_remove : (i : ℕ) → Reports (remove i)
  a_swap_remove : (i : ℕ) → Reports (swap_remove i)

-- of these the column names an entry, of no other
names : (n : ℕ) (call : Call) → Reports call ⊎ (concerned n call ≡ no_entry)
names n (push x) = inl (a_push x)
names n (push_front x) = inl (a_push_front x)
names n (insert i x) = inl (an_insert i x)
names n (write i x) = inl (a_write i x)
names n pop = inl a_pop
names n pop_front = inl a_pop_front
names n (remove i) = inl (a_remove i)
names n (swap_remove i) = inl (a_swap_remove i)
names n (truncate k) = inr refl
names n (resize k x) = inr refl
names n clear = inr refl
names n (extend s) = inr refl
names n (look (read i)) = inl (a_read i)
names n (look len) = inr refl
names n (look is_empty) = inr refl
names n (look (reserve k)) = inr refl
names n (look (try_reserve k)) = inr refl
names n (look (try_reserve_exact k)) = inr refl
names n (look (range a b)) = inr refl
names n (look iter) = inr refl
names n (look into_iter) = inr refl
names n (look (step_front u)) = inr refl
names n (look (step_back u)) = inr refl
names n (look (peek_front u k)) = inr refl
names n (look (peek_back u k)) = inr refl

-- so of these a call that is done reports a slot
of_these : (k : Kind) (call : Call) (t now : Tray) (y s : ℕ) → Reports call → Holds k (concerned t.len call) t now y s → cap now ≡ cap t → s < cap t
of_these k call t now y s (a_push x) h same = omega (arith, h.below)
of_these k call t now y s (a_push_front x) h same = omega (arith, h.below)
of_these k call t now y s (an_insert i x) h same = omega (arith, h.below)
of_these k call t now y s (a_read i) h same = omega (arith, h.below)
of_these k call t now y s (a_write i x) h same = omega (arith, h.below)
of_these k call t now y s a_pop h same = h.below
of_these k call t now y s a_pop_front h same = h.below
of_these k call t now y s (a_remove i) h same = h.below
of_these k call t now y s (a_swap_remove i) h same = h.below

module _ (k : Kind) (call : Call) (t : Tray) (o : Outcome) (promised : o ≡ does k call t) where
  -- done, and one of these: a slot of the container, and no container has so many that its number could be taken for none
  pub reports_slot : o.number ≡ 0 → Reports call → (reported k call t < cap t) × (reported k call t < no_slot)
  reports_slot zero these =
      let below = of_these k call t o.tray _ _ these (done_holds k call t o promised zero) (same_cap k call t o promised zero) in
      (below, omega (arith, (fit k t (call_clear k call t o promised zero).0).small))

  -- where the column names no entry, none
  pub reports_none : concerned t.len call ≡ no_entry → reported k call t ≡ no_slot
  reports_none none =
      ⊎_elim
      (λ (zero : o.number ≡ 0). done_reports k call t o promised zero ∙ ap (slot_for k (cap t) t.head o.tray.head) none)
      (λ (some : o.number ≡ 0 → ⊥). refused_reports k call t o promised some)
      (same? o.number 0)

  -- a slot reported: done, and one of these
  pub reports_only : reported k call t < no_slot → (o.number ≡ 0) × Reports call
  reports_only below = (
    ⊎_elim (λ (zero : o.number ≡ 0). zero) (λ (some : o.number ≡ 0 → ⊥). absurd (omega (arith, refused_reports k call t o promised some))) (same? o.number 0),
    ⊎_elim (λ (these : Reports call). these) (λ (none : concerned t.len call ≡ no_entry). absurd (omega (arith, reports_none none))) (names t.len call),
  )

-- ALL OF IT, of an answer whose outcome is o and whose slot is n, as a promise has them
pub record Lit (k : Kind) (call : Call) (t : Tray) (o : Outcome) (n : ℕ) : Type 0 where
  pub below : n < no_slot → n < cap t
  pub holds : o.number ≡ 0 → Holds k (concerned t.len call) t o.tray (entry_of call o.value) n
  pub reports : o.number ≡ 0 → Reports call → (n < cap t) × (n < no_slot)
  pub only : n < no_slot → (o.number ≡ 0) × Reports call

pub lit_as_promised : (k : Kind) (call : Call) (t : Tray) (o : Outcome) (n : ℕ) → o ≡ does k call t → n ≡ reported k call t → Lit k call t o n
lit_as_promised k call t o n promised is =
    rw is (record {
      below = below_capacity k call t o promised;
      holds = done_holds k call t o promised;
      reports = reports_slot k call t o promised;
      only = reports_only k call t o promised;
    })

-- FULL AT 4,096, the last entry stands in slot 4,095, and that is what is reported of it.
last_of_most : (k : Kind) (t : Tray) → invalid k t ≡ false → t.len ≡ most → reported k pop t ≡ place k (cap t) t.head (most - 1)
last_of_most k t ok many_are =
    let free : Clear (refusals_of k pop t) = (ok, (rw many_are refl, tt)) in
    let zero : (does k pop t).number ≡ 0 = ap (λ o. o.number) ((call_settled k pop t).otherwise free) in
    done_reports k pop t (does k pop t) refl zero ∙ ap (λ n. place k (cap t) t.head (n - 1)) many_are

pub full_at_most : (k : Kind) (t : Tray) → cap t ≡ most → t.len ≡ most → t.head ≡ 0 → reported k pop t ≡ most - 1
unfolding valid slot_of
full_at_most ring t c n h = last_of_most ring t (rw (c, n, h) refl) n ∙ rw (c, h) refl
full_at_most vector t c n h = last_of_most vector t (rw (c, n) refl) n
