-- The number and the value that an answer is told by lead back to it.
use mathlib.Core.Path.{◌≡◌, refl, sym, ap, ◌∙◌}
use mathlib.Core.Bool.{cond}
use Prim.Native.Nat.{ℕ}
use native.Mathlib.Omega.{arith}
use lib.Dec.{eqb}
use Rattle.std.specs.Prelude.{Result, Ok, Err}
use Rattle.table.specs.declared.answers.Refusal.{Refusal}
use Rattle.table.proofs.Laws.Numbered.{some_number, same_refusal}
use Rattle.record.specs.declared.Fault.{Fault}
use Rattle.record.specs.declared.Fault.TheVariants.{Stray, Unclosed, Long}
use Rattle.record.specs.Recorded.{Told, judged}
use Rattle.record.specs.Unquoted.{numbered}

abbrev judged_from : Told → Result ℕ Fault
judged_from t =
    cond (eqb t.number 0) (Ok t.value) (cond (eqb t.number 9) (Err (Stray t.value)) (cond (eqb t.number 10) (Err (Unclosed t.value)) (Err Long)))

judged_is : (r : Result ℕ Fault) → judged_from (judged r) ≡ r
judged_is (Ok next) = refl
judged_is (Err (Stray at)) = refl
judged_is (Err (Unclosed at)) = refl
judged_is (Err Long) = refl

pub judged_back : (r r' : Result ℕ Fault) → judged r ≡ judged r' → r ≡ r'
judged_back r r' e = sym (judged_is r) ∙ ap judged_from e ∙ judged_is r'

pub numbered_back : (r r' : Result ℕ Refusal) → numbered r ≡ numbered r' → r ≡ r'
numbered_back (Ok size) (Ok size') same = ap (λ (t : Told). Ok t.value) same
numbered_back (Ok size) (Err e) same = absurd (omega (arith, some_number e, ap (λ (t : Told). t.number) same))
numbered_back (Err e) (Ok size) same = absurd (omega (arith, some_number e, ap (λ (t : Told). t.number) same))
numbered_back (Err e) (Err e') same = ap Err (same_refusal e e' (ap (λ (t : Told). t.number) same))
