-- An answer about two containers is an outcome of its row: the laws that the proofs of all calls cite, for any two kinds.
use mathlib.Core.Path.{◌≡◌, refl, sym, ap, ap₂, ◌∙◌}
use mathlib.Core.Bool.{Bool, true, false, cond}
use mathlib.Core.List.{List, [], ◌∷◌, ◌++◌}
use Prim.Native.Nat.{ℕ, ◌^◌, ◌<◌, ◌≤◌}
use native.Mathlib.Omega.{arith}
use mir.Val.{bool_byte}
use lib.ListN.{length, get_or}
use Rattle.std.proofs.Common.{ext_get_or}
use Rattle.slots.proofs.Placing.{length_entries, entry}
use borrow.Author.Tests.{eq-eqb, ne_eqb}
use Rattle.std.specs.Prelude.{Ok, Err}
use Rattle.slots.specs.Layout.{Kind, ring, vector, place, slot_of, itself, entries}
use Rattle.slots.specs.Compare.{Tells}
use Rattle.slots.proofs.Lays.{slot_near}
use Rattle.table.specs.Tray.{Tray, list, invalid, nowhere}
use Rattle.table.specs.Table.{number_of, holding, after2, Refusal as Named}
use Rattle.table.specs.Calls.{Call2}
use Rattle.table.specs.Does.{Outcome2, first_refusal, refused2, done2, row_of2, does2}
use Rattle.table.specs.Answers.{number_in, told, numbered}
use Rattle.table.specs.declared.answers.Answer.{Answer}
use Rattle.table.specs.declared.answers.Both.{Both}
use Rattle.table.specs.declared.answers.Refusal.{Refusal}
use Rattle.table.specs.declared.answers.Refusal.TheVariants.{Invalid, SecondInvalid}
use Rattle.table.proofs.Laws.Done.{home_of_none}
use Rattle.table.proofs.Laws.Done2.{gives2}
use Rattle.table.proofs.Laws.Refusals.{Clear}
use Rattle.table.proofs.Laws.Totalling.{Changes2, first_is, second_is, first_same, second_same}
use Rattle.containers.specs.Reading.{Reading, tray_by, head_of}
use Rattle.containers.proofs.Homes.{home}
use Rattle.pairs.specs.Seen.{both, seen2, Meets}

-- what T's length tells of the test that it holds an entry
pub holds : (n : ℕ) → (n ≡ 0 → ⊥) → holding n ≡ true
holds n some = rw (ne_eqb n 0 some)

pub free : (n : ℕ) → n ≡ 0 → holding n ≡ false
free n none = rw (eq-eqb n 0 none)

-- an empty T has head 0
pub bare : (k : Kind) (t : Tray) → head_of k t.head ≡ t.head → invalid k t ≡ false → t.len ≡ 0 → t.head ≡ 0
bare k t headed ok none = sym (home k t headed ok) ∙ home_of_none k t.len t.head none

-- a vector's entries are those of a ring with head 0
pub ringed : (k : Kind) (h n : ℕ) (s : List ℕ) → head_of k h ≡ h → n ≤ length s → entries (place k (length s) h) n s ≡ entries (slot_of (length s) h) n s
ringed ring h n s headed fits = refl
ringed vector h n s headed fits =
    ext_get_or 0 _ _ (length_entries _ n s ∙ sym (length_entries _ n s))
    (λ j g.
    let lt : j < n = (rw (length_entries itself n s) at g) in
    entry itself n s j lt ∙ sym (entry _ n s j lt ∙ ap (λ i. get_or s i 0) (slot_near (length s) h j (omega (arith, headed)) ∙ omega (arith, headed))))

pub alike_of : (k k2 : Kind) (h h2 n : ℕ) (s z : List ℕ) (b : Bool) → head_of k h ≡ h → head_of k2 h2 ≡ h2 → n ≤ length s → n ≤ length z
    → Tells b (entries (slot_of (length s) h) n s) (entries (slot_of (length z) h2) n z)
    → Tells b (entries (place k (length s) h) n s) (entries (place k2 (length z) h2) n z)
alike_of k k2 h h2 n s z b headed headed2 fits fits2 m = rw (ringed k h n s headed fits, ringed k2 h2 n z headed2 fits2) m

pub yes_is_1 : (b : Bool) → bool_byte b ≡ cond b 1 0
yes_is_1 true = refl
yes_is_1 false = refl

-- the first test that holds, behind those that don't
hits : {A : Type 0} (refuse : ℕ → A) (before : List (Bool × Named)) (a : Bool) (named : Named) (rest : List (Bool × Named)) (done : A)
    → Clear before → a ≡ true → first_refusal refuse (before ++ (a, named) ∷ rest) done ≡ refuse (number_of named)
hits refuse [] a named rest done clear holds = rw holds refl
hits refuse (r ∷ before) a named rest done clear holds = rw clear.0 (hits refuse before a named rest done clear.1 holds)

-- A call on two, refused or done.
module _ {A B : Type 0} (of : Reading A) (of2 : Reading B) (call : Call2) (first : A) (second : B) (s z : List ℕ)
    (given : (row_of2 of.kind of2.kind call (tray_by of first s) (tray_by of2 second z)).given ≡ nowhere) (small : of.sum first < 2 ^ 64) (small2 : of2.sum second < 2 ^ 64) where
  refusing : (e : Refusal)
      → refused2 (tray_by of first s) (tray_by of2 second z) nowhere (number_in e) ≡ does2 of.kind of2.kind call (tray_by of first s) (tray_by of2 second z)
      → Meets of of2 call first s second z (Err e) s z
  refusing e is = record {
    row = is;
    slot = refl;
    total = first_same _ _ call _ _ _ (of.sum first) (of2.sum second) is refl small;
    total2 = second_same _ _ call _ _ _ (of.sum first) (of2.sum second) is refl small2;
  }

  pub is_invalid : invalid of.kind (tray_by of first s) ≡ true → Meets of of2 call first s second z (Err Invalid) s z
  unfolding does2
  is_invalid bad = refusing Invalid (rw (bad, given) refl)

  pub second_is_invalid : invalid of.kind (tray_by of first s) ≡ false → invalid of2.kind (tray_by of2 second z) ≡ true
      → Meets of of2 call first s second z (Err SecondInvalid) s z
  unfolding does2
  second_is_invalid ok bad = refusing SecondInvalid (rw (ok, bad, given) refl)

  past : invalid of.kind (tray_by of first s) ≡ false → invalid of2.kind (tray_by of2 second z) ≡ false
      → first_refusal (refused2 (tray_by of first s) (tray_by of2 second z) (row_of2 of.kind of2.kind call (tray_by of first s) (tray_by of2 second z)).given)
      (row_of2 of.kind of2.kind call (tray_by of first s) (tray_by of2 second z)).refusals
      (done2 of.kind of2.kind (tray_by of first s) (tray_by of2 second z) (after2 call (list of.kind (tray_by of first s)) (list of2.kind (tray_by of2 second z)))
      (row_of2 of.kind of2.kind call (tray_by of first s) (tray_by of2 second z)))
      ≡ does2 of.kind of2.kind call (tray_by of first s) (tray_by of2 second z)
  unfolding does2
  past ok ok2 = rw (ok, ok2) refl

  pub stopped : (e : Refusal) (before : List (Bool × Named)) (a : Bool) (named : Named) (rest : List (Bool × Named))
      → (row_of2 of.kind of2.kind call (tray_by of first s) (tray_by of2 second z)).refusals ≡ before ++ (a, named) ∷ rest → number_of named ≡ number_in e
      → invalid of.kind (tray_by of first s) ≡ false → invalid of2.kind (tray_by of2 second z) ≡ false → Clear before → a ≡ true
      → Meets of of2 call first s second z (Err e) s z
  stopped e before a named rest refusals number ok ok2 clear holds =
      let refuse : ℕ → Outcome2 = refused2 (tray_by of first s) (tray_by of2 second z) (row_of2 of.kind of2.kind call (tray_by of first s) (tray_by of2 second z)).given in
      let done : Outcome2 = done2 of.kind of2.kind (tray_by of first s) (tray_by of2 second z) (after2 call (list of.kind (tray_by of first s)) (list of2.kind (tray_by of2 second z)))
      (row_of2 of.kind of2.kind call (tray_by of first s) (tray_by of2 second z)) in
      refusing e (
      ap₂ (refused2 (tray_by of first s) (tray_by of2 second z)) (sym given) (sym number)
      ∙ sym (hits refuse before a named rest done clear holds)
      ∙ ap (λ rs. first_refusal refuse rs done) (sym refusals)
      ∙ past ok ok2
      )

  -- done, and both states are as they were
  pub kept : (a : Answer (Both A B)) (value : ℕ) → a ≡ told value 0 (both first second)
      → ((o : Outcome2) → o ≡ gives2 value (of.head first) (of.size first) s (of2.head second) (of2.size second) z
      → o ≡ does2 of.kind of2.kind call (tray_by of first s) (tray_by of2 second z))
      → Meets of of2 call first s second z (Ok a) s z
  kept a value is law =
      let e = law (gives2 value (of.head first) (of.size first) s (of2.head second) (of2.size second) z) refl in
      record {
        row = law _ (ap (λ a. seen2 of of2 (numbered (both first second) (Ok a)) s z) is);
        slot = ap (λ a. a.slot) is;
        total = ap (λ a. of.sum a.state.first) is ∙ first_same _ _ call _ _ _ (of.sum first) (of2.sum second) e refl small;
        total2 = ap (λ a. of2.sum a.state.second) is ∙ second_same _ _ call _ _ _ (of.sum first) (of2.sum second) e refl small2;
      }

  -- done, with the states f and g afterwards
  pub changed_to : (s' z' : List ℕ) (a : Answer (Both A B)) (value : ℕ) (f : A) (g : B) → a ≡ told value 0 (both f g)
      → ((o : Outcome2) → o ≡ gives2 value (of.head f) (of.size f) s' (of2.head g) (of2.size g) z'
      → o ≡ does2 of.kind of2.kind call (tray_by of first s) (tray_by of2 second z))
      → Changes2 call (list of.kind (tray_by of first s)) (list of2.kind (tray_by of2 second z)) (of.sum first) (of2.sum second) (of.sum f) (of2.sum g)
      → Meets of of2 call first s second z (Ok a) s' z'
  changed_to s' z' a value f g is law c =
      let e = law (gives2 value (of.head f) (of.size f) s' (of2.head g) (of2.size g) z') refl in
      record {
        row = law _ (ap (λ a. seen2 of of2 (numbered (both first second) (Ok a)) s' z') is);
        slot = ap (λ a. a.slot) is;
        total = ap (λ a. of.sum a.state.first) is ∙ first_is _ _ call _ _ _ (of.sum first) (of2.sum second) e _ _ refl c;
        total2 = ap (λ a. of2.sum a.state.second) is ∙ second_is _ _ call _ _ _ (of.sum first) (of2.sum second) e _ _ refl c;
      }
