-- The first refusal that applies: `skip` passes a test that fails, `hit` ends at one that holds. And every refusal has a number above 0, so
-- the number tells a refused call from one that is done.
use mathlib.Core.Path.{◌≡◌, refl, sym, ap, ◌∙◌}
use Prim.Native.Nat.{ℕ, suc, ◌≤◌, ◌<◌}
use mathlib.Core.Bool.{Bool, true, false, not, cond, ◌&&◌}
use mathlib.Core.List.{List, [], ◌∷◌}
use native.Mathlib.Omega.{arith}
use borrow.Author.Tests.{eq-eqb, ne_eqb, le-leb, lt-leb, lt-ltb, le-ltb, leb-false, ltb-false, eqb-false}
use Rattle.table.specs.Tray.{within}
use Rattle.table.specs.Table.{Refusal, first_invalid, second_invalid, beyond, empty, taken, full, number_of}
use Rattle.table.specs.Does.{first_refusal}
use Rattle.table.specs.Ledger.{if_done}

module _ {A : Type 0} where
  pub hit : (x r o : A) (p : Bool) → p ≡ true → x ≡ r → x ≡ cond p r o
  hit x r o p e q = rw e q

  pub skip : (x r o : A) (p : Bool) → p ≡ false → x ≡ o → x ≡ cond p r o
  skip x r o p e q = rw e q

-- a test that the code made by a flag b of its own
pub flag : (b p v : Bool) → b ≡ p → b ≡ v → p ≡ v
flag b p v e f = sym e ∙ f

pub not_holds : (b : Bool) → b ≡ false → not b ≡ true
not_holds b e = rw e

pub not_fails : (b : Bool) → b ≡ true → not b ≡ false
not_fails b e = rw e

-- a test of two halves, as `within`, that the code makes in two steps
pub both_hold : (a b : Bool) → a ≡ true → b ≡ true → a && b ≡ true
both_hold a b p q = rw (p, q)

pub left_fails : (a b : Bool) → a ≡ false → a && b ≡ false
left_fails a b p = rw p

pub right_fails : (a b : Bool) → b ≡ false → a && b ≡ false
right_fails true b p = p
right_fails false b p = refl

-- what the code's tests tell of the tests that a promise names
pub ruleset tests = (flag, not_holds, not_fails, both_hold, left_fails, right_fails, eq-eqb, ne_eqb, le-leb, lt-leb, lt-ltb, le-ltb)

pub ruleset refusals = (hit, skip, tests)

-- what the refusals that do not apply tell `omega`
pub ruleset passed_tests = (arith, leb-false, ltb-false, eqb-false)

-- a ≤ b ≤ n
pub inside : (a b n : ℕ) → a ≤ b → b ≤ n → not (within a b n) ≡ false
inside a b n le fits = rw (le-leb _ _ le, le-leb _ _ fits)

-- no refusal of the list applies
abbrev pub Clear : List (Bool × Refusal) → Type 0
Clear [] = Unit {0}
Clear (r ∷ rest) = (r.0 ≡ false) × Clear rest

-- where none does, the call is done
pub clear_of : {A : Type 0} (refuse : ℕ → A) (rs : List (Bool × Refusal)) (done : A) → Clear rs → first_refusal refuse rs done ≡ done
clear_of refuse [] done c = refl
clear_of refuse (r ∷ rest) done c = rw c.0 (clear_of refuse rest done c.1)

-- What holds of each refusal, and of what is done where none applies, holds.
pub either : {A : Type 0} (P : A → Type 0) (refuse : ℕ → A) (rs : List (Bool × Refusal)) (done : A)
    → ((r : Refusal) → P (refuse (number_of r))) → (Clear rs → P done) → P (first_refusal refuse rs done)
either P refuse [] done bad good = good tt
either P refuse (r ∷ rest) done bad good = go r.0 refl (λ e. either P refuse rest done bad (λ clear. good (e, clear)))
  where
    go : (t : Bool) → r.0 ≡ t → (r.0 ≡ false → P (first_refusal refuse rest done)) → P (cond t (refuse (number_of r.1)) (first_refusal refuse rest done))
    go true e more = bad r.1
    go false e more = more e

pub if_refused : {A : Type 0} (r : Refusal) (f g : A) → if_done (number_of r) f g ≡ g
if_refused first_invalid f g = refl
if_refused second_invalid f g = refl
if_refused beyond f g = refl
if_refused empty f g = refl
if_refused taken f g = refl
if_refused full f g = refl

pub above_zero : (r : Refusal) → 0 < number_of r
above_zero first_invalid = omega arith
above_zero second_invalid = omega arith
above_zero beyond = omega arith
above_zero empty = omega arith
above_zero taken = omega arith
above_zero full = omega arith

pub below_16 : (r : Refusal) → number_of r < 16
below_16 first_invalid = omega arith
below_16 second_invalid = omega arith
below_16 beyond = omega arith
below_16 empty = omega arith
below_16 taken = omega arith
below_16 full = omega arith

-- the number of the first refusal that applies; 0 where none does
abbrev pub first_number : List (Bool × Refusal) → ℕ
first_number rs = first_refusal (λ m. m) rs 0

-- Where a refusal shows its number, and what is done 0, the number that is seen tells which of the two it is.
pub record Settled {A : Type 0} (number : A → ℕ) (refuse : ℕ → A) (rs : List (Bool × Refusal)) (done o : A) : Type 0 where
  pub first : number o ≡ first_number rs
  pub refused : (m : ℕ) → number o ≡ suc m → o ≡ refuse (suc m)
  pub clear : number o ≡ 0 → Clear rs
  pub otherwise : Clear rs → o ≡ done

module _ {A : Type 0} (number : A → ℕ) (refuse : ℕ → A) (done : A) (told : (m : ℕ) → number (refuse m) ≡ m) (nought : number done ≡ 0) where
  number_of_law : (rs : List (Bool × Refusal)) → number (first_refusal refuse rs done) ≡ first_number rs
  number_of_law [] = nought
  number_of_law (r ∷ rest) = go r.0 (number_of_law rest)
    where
      go : (b : Bool) → number (first_refusal refuse rest done) ≡ first_number rest
          → number (cond b (refuse (number_of r.1)) (first_refusal refuse rest done)) ≡ cond b (number_of r.1) (first_number rest)
      go true e = told (number_of r.1)
      go false e = e

  pub settled : (rs : List (Bool × Refusal)) → Settled number refuse rs done (first_refusal refuse rs done)
  settled rs = record {
    first = number_of_law rs;
    refused = λ m.
        either (λ o. number o ≡ suc m → o ≡ refuse (suc m)) refuse rs done
        (λ r e. ap refuse (sym (told (number_of r)) ∙ e))
        (λ clear e. absurd (omega (arith, nought)));
    clear =
        either (λ o. number o ≡ 0 → Clear rs) refuse rs done
        (λ r e. absurd (omega (arith, told (number_of r), above_zero r)))
        (λ clear e. clear);
    otherwise = clear_of refuse rs done;
  }
