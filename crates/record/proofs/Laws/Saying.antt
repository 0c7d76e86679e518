-- What the answers say is what is promised: the early refusals stop before the text is looked at, the late ones behind it, and what is laid into the
-- slots is what the table's own layout of the new lists holds.
use mathlib.Core.Path.{◌≡◌, refl, sym, ap, ◌∙◌}
use mathlib.Core.Bool.{Bool, true, false, not}
use mathlib.Core.List.{List, [], ◌∷◌, ◌++◌}
use Prim.Native.Nat.{ℕ, suc, ◌+◌, ◌-◌, ◌^◌, ◌≤◌, ◌<◌}
use native.Mathlib.Omega.{arith}
use borrow.Author.Tests.{eq-eqb, eqb-true, ne_eqb, lt-ltb, le-ltb, ltb-false}
use lib.Dec.{eqb, ltb}
use lib.ListN.{length, get_or, take, drop, get_or-append}
use lib.Seq.{sets, sets-eq, length-sets, get_or-append-add, get_or-drop}
use Rattle.slots.specs.Layout.{most, vector, itself, relaid}
use Rattle.slots.proofs.Placing.{placing}
use Rattle.slots.proofs.Relaid.{laid}
use Rattle.table.specs.Tray.{nowhere}
use Rattle.table.specs.Table.{holding}
use Rattle.table.specs.Does.{Outcome2, refused2}
use Rattle.table.proofs.Laws.Refusals
use Rattle.table.proofs.Laws.Valid.{vector_facts}
use Rattle.vector.specs.declared.Vector.{Vector}
use Rattle.vector.specs.Seen.{tray}
use Rattle.std.specs.Prelude.{Result, Ok, Err, IsErrAnd}
use Rattle.std.proofs.lemmas.Result.{err_from_is_err_and}
use Rattle.table.specs.declared.answers.Answer.{Answer}
use Rattle.table.specs.declared.answers.Both.{Both}
use Rattle.table.specs.declared.answers.Refusal.{Refusal}
use Rattle.table.specs.declared.answers.Refusal.TheVariants.{Full}
use Rattle.table.specs.Answers.{number_in}
use Rattle.table.proofs.Laws.Numbered.{some_number}
use Rattle.record.specs.declared.Fault.{Fault}
use Rattle.record.specs.declared.kept.Kept.{Kept}
use Rattle.record.specs.Scan.{Ending, done, bad, unclosed, scanned}
use Rattle.record.specs.Places.{firsts, lasts}
use Rattle.record.specs.Steps.{number_of, place_of, outcome, refusal_of, Judged}
use Rattle.record.proofs.Laws.Order.{Above, stopped, passed, None, none_holds}
use Rattle.record.proofs.Laws.Summing.{refused_whole, reads_to, grown}
use Rattle.record.specs.Recorded.{longest, told, judged, judges, first_of, early_tests, early, late_tests, places, records, Records}

-- `judge`: what a reading comes to is told by its number and its place
pub told_outcome : (x : Ending) → judged (outcome x) ≡ told (number_of x) (place_of x)
told_outcome (done next) = refl
told_outcome (bad at) = refl
told_outcome (unclosed at) = refl

pub judged_long : (text : List ℕ) → longest < length text → told 11 0 ≡ judges text
unfolding judges
judged_long text h = rw (lt-ltb _ _ h) refl

pub judged_short : (text : List ℕ) (r : Result ℕ Fault) → length text ≤ longest → r ≡ outcome (scanned text).ending → judged r ≡ judges text
unfolding judges
judged_short text r h is = rw (le-ltb _ _ h) (ap judged is ∙ told_outcome (scanned text).ending)

-- the tests before the text is looked at
pub ruleset tests = Refusals.refusals

pub not_held : (n : ℕ) → holding n ≡ false → n ≡ 0
not_held n e = eqb-true n 0 (go (eqb n 0) e)
  where
    go : (b : Bool) → not b ≡ false → b ≡ true
    go true e = refl
    go false e = sym e

-- Numbers set one after another into the slots of an empty vector are that vector's layout of them.
set_there : (l s : List ℕ) (j : ℕ) → length l ≤ length s → j < length l → get_or (sets s 0 l) j 0 ≡ get_or l j 0
set_there l s j fits h = rw (sets-eq l s 0 (omega arith)) (get_or-append l (drop (0 + length l) s) 0 j h)

set_after : (l s : List ℕ) (j : ℕ) → length l ≤ length s → length l ≤ j → get_or (sets s 0 l) j 0 ≡ get_or s j 0
set_after l s j fits h =
    let at : length l + (j - length l) ≡ j = omega arith in
    let place : 0 + length l + (j - length l) ≡ j = omega arith in
    ap (λ (x : List ℕ). get_or x j 0) (sets-eq l s 0 (omega arith))
    ∙ ap (λ k. get_or (l ++ drop (0 + length l) s) k 0) (sym at)
    ∙ get_or-append-add l (drop (0 + length l) s) (j - length l) 0
    ∙ get_or-drop (0 + length l) s (j - length l) 0
    ∙ ap (λ k. get_or s k 0) place

pub set_laid : (l s : List ℕ) (n : ℕ) → n ≡ 0 → length l ≤ length s → sets s 0 l ≡ relaid itself itself n l s
set_laid l s n none fits =
    laid itself itself itself n l s (sets s 0 l) (placing vector (length s) 0 (omega arith)) (length-sets s 0 l)
    (λ j h low. set_there l s j fits low)
    (λ j h high was. absurd (omega arith))
    (λ j h high was. set_after l s j fits high)

pub length_firsts : (fields : List (ℕ × ℕ)) → length (firsts fields) ≡ length fields
unfolding firsts
length_firsts [] = refl
length_firsts (f ∷ fields) = ap suc (length_firsts fields)

pub length_lasts : (fields : List (ℕ × ℕ)) → length (lasts fields) ≡ length fields
unfolding lasts
length_lasts [] = refl
length_lasts (f ∷ fields) = ap suc (length_lasts fields)

-- laid into the slots
module _ (text : List ℕ) (kept : Kept) (j : Judged text kept) (few : kept.count ≤ 16) where
  pub starts_well : (s s' : List ℕ) → s' ≡ sets s 0 (firsts (take kept.count kept.places)) → s' ≡ sets s 0 (firsts (scanned text).fields)
  starts_well s s' e = e ∙ ap (λ l. sets s 0 (firsts l)) (j.kept_well few)

  pub ends_well : (s s' : List ℕ) → s' ≡ sets s 0 (lasts (take kept.count kept.places)) → s' ≡ sets s 0 (lasts (scanned text).fields)
  ends_well s s' e = e ∙ ap (λ l. sets s 0 (lasts l)) (j.kept_well few)

-- what a reading is refused for, or where the next record starts
pub refused_as : (x : Ending) (f : Fault) → outcome x ≡ Err f → number_in (refusal_of f) ≡ number_of x
refused_as (done next) f e = absurd (let z : ◌≡◌ {A = ℕ} 0 1 = cc in omega arith)
refused_as (bad at) f e = ap number_in (ap (λ (r : Result ℕ Fault). of r) (sym e))
  where
    of : Result ℕ Fault → Refusal
    of (Ok n) = refusal_of f
    of (Err g) = refusal_of g
refused_as (unclosed at) f e = ap number_in (ap (λ (r : Result ℕ Fault). of r) (sym e))
  where
    of : Result ℕ Fault → Refusal
    of (Ok n) = refusal_of f
    of (Err g) = refusal_of g

no_done : (x : Ending) (f : Fault) → outcome x ≡ Err f → number_of x ≡ 0 → ⊥
no_done (done next) f e z = let z : ◌≡◌ {A = ℕ} 0 1 = cc in omega arith
no_done (bad at) f e z = omega arith
no_done (unclosed at) f e z = omega arith

read_as : (x : Ending) (n : ℕ) → outcome x ≡ Ok n → (number_of x ≡ 0) × (place_of x ≡ n)
read_as (done next) n e = (refl, cc)
read_as (bad at) n e = absurd (let z : ◌≡◌ {A = ℕ} 0 1 = cc in omega arith)
read_as (unclosed at) n e = absurd (let z : ◌≡◌ {A = ℕ} 0 1 = cc in omega arith)

-- `read`: what is refused, and what is done
module _ (text : List ℕ) (first second : Vector) (s z : List ℕ) where
  abbrev Refuses : ℕ → Outcome2
  Refuses = refused2 (tray first s) (tray second z) nowhere

  abbrev Done : Outcome2
  Done = places text (tray first s) (tray second z)

  -- a refusal that is passed on
  pub passed_on : {a : Result (Answer (Both Vector Vector)) Refusal} {e : Refusal} → IsErrAnd a (λ y. y ≡ e) → Records text first s second z (Err e) s z
      → Records text first s second z a s z
  passed_on {a = a} is m = let p = err_from_is_err_and a is in rw (p.1, p.2) m

  module _ (m : ℕ) (is : m ≡ early (length s) first.len (length z) second.len (length text)) where
    early_refused : (m ≡ 0 → ⊥) → records text (tray first s) (tray second z) ≡ Refuses m
    unfolding records early
    early_refused no_zero =
        stopped Refuses (early_tests (length s) first.len (length z) second.len (length text)) (late_tests text (length s) (length z)) Done m is no_zero

    pub early_err : (e : Refusal) → number_in e ≡ m → first.total.sum < 2 ^ 64 → second.total.sum < 2 ^ 64 → Records text first s second z (Err e) s z
    early_err e number =
        refused_whole text first second s z e (early_refused (λ zero. omega (arith, some_number e, number ∙ zero)) ∙ ap Refuses (sym number))

    module _ (zero : m ≡ 0) where
      above : Above (early_tests (length s) first.len (length z) second.len (length text))
      above = (λ e. absurd (omega arith), (λ e. absurd (omega arith), (λ e. absurd (omega arith), (λ e. absurd (omega arith), (λ e. absurd (omega arith), tt)))))

      none : None (early_tests (length s) first.len (length z) second.len (length text))
      unfolding early
      none = none_holds (early_tests (length s) first.len (length z) second.len (length text)) m is zero above

      pub short : length text ≤ longest
      short = ltb-false longest (length text) none.1.1.1.1.0

      -- a valid vector has few slots
      pub few_slots_law : length s ≤ most
      few_slots_law = (vector_facts (length s) first.len none.0).small

      pub few_slots_too : length z ≤ most
      few_slots_too = (vector_facts (length z) second.len none.1.0).small

      past : (d : Outcome2) → first_of Refuses (early_tests (length s) first.len (length z) second.len (length text) ++ late_tests text (length s) (length z)) d
          ≡ first_of Refuses (late_tests text (length s) (length z)) d
      unfolding early
      past d =
          passed Refuses (early_tests (length s) first.len (length z) second.len (length text)) (late_tests text (length s) (length z)) d m is zero above

      module _ (o : Result ℕ Fault) (is_o : o ≡ outcome (scanned text).ending) where
        late : (f : Fault) → o ≡ Err f → records text (tray first s) (tray second z) ≡ Refuses (number_in (refusal_of f))
        unfolding records
        late f e =
            let number_is : number_in (refusal_of f) ≡ number_of (scanned text).ending = refused_as (scanned text).ending f (sym is_o ∙ e) in
            let holds : eqb (number_of (scanned text).ending) 0 ≡ false = ne_eqb _ 0 (no_done (scanned text).ending f (sym is_o ∙ e)) in
            past Done ∙ rw (holds, number_is) refl

        pub late_refused : (f : Fault) → o ≡ Err f → first.total.sum < 2 ^ 64 → second.total.sum < 2 ^ 64 → Records text first s second z (Err (refusal_of f)) s z
        late_refused f found = refused_whole text first second s z (refusal_of f) (late f found)

        module _ (at : ℕ) (read : o ≡ Ok at) where
          pub reads_well : number_of (scanned text).ending ≡ 0
          reads_well = (read_as (scanned text).ending at (sym is_o ∙ read)).0

          clear : eqb (number_of (scanned text).ending) 0 ≡ true
          clear = eq-eqb _ 0 reads_well

          module _ (kept : Kept) (j : Judged text kept) where
            pub few_starts : length s < kept.count → first.total.sum < 2 ^ 64 → second.total.sum < 2 ^ 64 → Records text first s second z (Err Full) s z
            unfolding records
            few_starts short =
                let holds : ltb (length s) (length (scanned text).fields) ≡ true = lt-ltb (length s) (length (scanned text).fields) (omega (arith, j.counted)) in
                refused_whole text first second s z Full (past Done ∙ rw (clear, holds) refl)

            module _ (room : kept.count ≤ length s) where
              enough : ltb (length s) (length (scanned text).fields) ≡ false
              enough = le-ltb (length s) (length (scanned text).fields) (omega (arith, j.counted))

              pub few_ends : length z < kept.count → first.total.sum < 2 ^ 64 → second.total.sum < 2 ^ 64 → Records text first s second z (Err Full) s z
              unfolding records
              few_ends short =
                  let holds : ltb (length z) (length (scanned text).fields) ≡ true = lt-ltb (length z) (length (scanned text).fields) (omega (arith, j.counted)) in
                  refused_whole text first second s z Full (past Done ∙ rw (clear, enough, holds) refl)

              pub placed : (a : Answer (Both Vector Vector)) (s' z' : List ℕ) → kept.count ≤ length z → s' ≡ sets s 0 (firsts (scanned text).fields)
                  → z' ≡ sets z 0 (lasts (scanned text).fields) → a ≡ reads_to first second s' z' at kept.count → Records text first s second z (Ok a) s' z'
              unfolding records
              placed a s' z' room_too starts_are ends_are e =
                  let enough_too : ltb (length z) (length (scanned text).fields) ≡ false = le-ltb (length z) (length (scanned text).fields) (omega (arith, j.counted)) in
                  let many = length_firsts (scanned text).fields in
                  let many_too = length_lasts (scanned text).fields in
                  let none_held : first.len ≡ 0 = not_held first.len none.1.1.0 in
                  let none_held_too : second.len ≡ 0 = not_held second.len none.1.1.1.0 in
                  let laid_first : s' ≡ relaid itself itself first.len (firsts (scanned text).fields) s =
                  starts_are ∙ set_laid (firsts (scanned text).fields) s first.len none_held (omega (arith, j.counted)) in
                  let laid_second : z' ≡ relaid itself itself second.len (lasts (scanned text).fields) z =
                  ends_are ∙ set_laid (lasts (scanned text).fields) z second.len none_held_too (omega (arith, j.counted)) in
                  let place_is : at ≡ place_of (scanned text).ending = sym (read_as (scanned text).ending at (sym is_o ∙ read)).1 in
                  let answer : a ≡ reads_to first second s' z' (place_of (scanned text).ending) (length (scanned text).fields) = e ∙ rw (place_is, j.counted) refl in
                  grown text first second s z s' z' a (place_of (scanned text).ending) (length (scanned text).fields) answer
                  (sym (past Done ∙ rw (clear, enough, enough_too, many, many_too, ← laid_first, ← laid_second) refl))
                  none_held none_held_too
