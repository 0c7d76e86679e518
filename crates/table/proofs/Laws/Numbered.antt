-- The papers' numbers tell what a call answered: no refusal has the number 0 or one beyond 15, and no two have the same.
use mathlib.Core.Path.{◌≡◌, refl, sym, ap, ◌∙◌}
use mathlib.Core.Bool.{cond}
use Prim.Native.Nat.{ℕ, ◌<◌}
use native.Mathlib.Omega.{arith}
use borrow.Author.Tests.{ne_eqb}
use lib.Dec.{eqb}
use Rattle.std.specs.Prelude.{Result, Ok, Err}
use Rattle.table.specs.Answers.{number_in, numbered}
use Rattle.table.specs.Reported.{no_slot}
use Rattle.table.specs.declared.answers.Refusal.{Refusal}
use Rattle.table.specs.declared.answers.Refusal.TheVariants.{Invalid, SecondInvalid, Beyond, Empty, Taken, Full, Stray, Unclosed, Long, Moves, Unacceptable}
use Rattle.table.specs.declared.answers.Answer.{Answer}
use Rattle.table.specs.declared.answers.Numbered.{Numbered}

bounds : (e : Refusal) → (0 < number_in e) × (number_in e < 16)
bounds Invalid = (omega arith, omega arith)
bounds SecondInvalid = (omega arith, omega arith)
bounds Beyond = (omega arith, omega arith)
bounds Empty = (omega arith, omega arith)
bounds Taken = (omega arith, omega arith)
bounds Full = (omega arith, omega arith)
bounds Stray = (omega arith, omega arith)
bounds Unclosed = (omega arith, omega arith)
bounds Long = (omega arith, omega arith)
bounds Moves = (omega arith, omega arith)
bounds Unacceptable = (omega arith, omega arith)

pub some_number : (e : Refusal) → 0 < number_in e
some_number e = (bounds e).0

pub small_number : (e : Refusal) → number_in e < 16
small_number e = (bounds e).1

-- a refusal has no entry's slot
pub refused_slot : (e : Refusal) (at : ℕ) → no_slot ≡ cond (eqb (number_in e) 0) at no_slot
refused_slot e at = rw (ne_eqb (number_in e) 0 (λ zero. absurd (omega (arith, some_number e)))) refl

-- the refusal that has this number
unfoldable pub refusal_of : ℕ → Refusal
refusal_of n =
    cond (eqb n 1) Invalid
    (cond (eqb n 2) SecondInvalid
    (cond (eqb n 3) Beyond
    (cond (eqb n 4) Empty
    (cond (eqb n 5) Taken
    (cond (eqb n 6) Full
    (cond (eqb n 9) Stray
    (cond (eqb n 10) Unclosed
    (cond (eqb n 11) Long
    (cond (eqb n 12) Moves Unacceptable)))))))))

pub told_again : (e : Refusal) → refusal_of (number_in e) ≡ e
unfolding refusal_of
told_again Invalid = refl
told_again SecondInvalid = refl
told_again Beyond = refl
told_again Empty = refl
told_again Taken = refl
told_again Full = refl
told_again Stray = refl
told_again Unclosed = refl
told_again Long = refl
told_again Moves = refl
told_again Unacceptable = refl

pub same_refusal : (e e' : Refusal) → number_in e ≡ number_in e' → e ≡ e'
same_refusal e e' same = sym (told_again e) ∙ ap refusal_of same ∙ told_again e'

-- two that are numbered alike, of the same state, are the same
pub same_answer : {S : Type 0} (given : S) (a a' : Result (Answer S) Refusal) → numbered given a ≡ numbered given a' → a ≡ a'
same_answer {S = S} given (Ok a) (Ok a') same =
    ap (λ (n : Numbered S). Ok (record { value = n.value; moves = n.moves; slot = n.slot; state = n.state })) same
same_answer {S = S} given (Ok a) (Err e) same = absurd (omega (arith, some_number e, ap (λ (n : Numbered S). n.number) same))
same_answer {S = S} given (Err e) (Ok a) same = absurd (omega (arith, some_number e, ap (λ (n : Numbered S). n.number) same))
same_answer {S = S} given (Err e) (Err e') same = ap Err (same_refusal e e' (ap (λ (n : Numbered S). n.number) same))
