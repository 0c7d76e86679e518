-- Every answer is small: no number is above 11, and reading a record moves nothing.
use mathlib.Core.Path.{◌≡◌, refl}
use mathlib.Core.Bool.{Bool, true, false, cond}
use mathlib.Core.List.{List, ◌++◌}
use Prim.Native.Nat.{ℕ, ◌≤◌}
use native.Mathlib.Omega.{arith}
use lib.Dec.{ltb}
use lib.ListN.{length}
use Rattle.table.specs.Tray.{Tray, cap, nowhere}
use Rattle.table.specs.Does.{Outcome2, refused2}
use Rattle.record.specs.Scan.{Ending, done, bad, unclosed, scanned}
use Rattle.record.specs.Steps.{number_of, place_of}
use Rattle.record.specs.Undone.{undone, part}
use Rattle.record.specs.Recorded.{longest, told, judges, early_tests, late_tests, places, records}
use Rattle.record.specs.Unquoted.{Unquoted, unquoted, text_tests, before, unquotes}
use Rattle.record.proofs.Laws.Order.{by_tests}

few : (x : Ending) → number_of x ≤ 11
few (done next) = omega arith
few (bad p) = omega arith
few (unclosed p) = omega arith

pub few_numbers : (text : List ℕ) (t t2 : Tray) → (records text t t2).number ≤ 11
unfolding records
few_numbers text t t2 =
    by_tests (λ (o : Outcome2). o.number ≤ 11) (refused2 t t2 nowhere)
    (early_tests (cap t) t.len (cap t2) t2.len (length text) ++ late_tests text (cap t) (cap t2)) (places text t t2)
    (λ _. omega arith, (λ _. omega arith, (λ _. omega arith, (λ _. omega arith, (λ _. omega arith, (λ _. few (scanned text).ending, (λ _. omega arith, (λ _. omega arith, tt))))))))
    (λ none. omega arith)

pub no_moves : (text : List ℕ) (t t2 : Tray) → (records text t t2).moves ≡ 0
unfolding records
no_moves text t t2 =
    by_tests (λ (o : Outcome2). o.moves ≡ 0) (refused2 t t2 nowhere)
    (early_tests (cap t) t.len (cap t2) t2.len (length text) ++ late_tests text (cap t) (cap t2)) (places text t t2)
    (λ _. refl, (λ _. refl, (λ _. refl, (λ _. refl, (λ _. refl, (λ _. refl, (λ _. refl, (λ _. refl, tt))))))))
    (λ none. refl)

pub judged_few : (text : List ℕ) → (judges text).number ≤ 11
unfolding judges
judged_few text = go (ltb longest (length text))
  where
    go : (c : Bool) → (cond c (told 11 0) (told (number_of (scanned text).ending) (place_of (scanned text).ending))).number ≤ 11
    go true = omega arith
    go false = few (scanned text).ending

pub unquoted_few : (text : List ℕ) (start end : ℕ) (out : List ℕ) → (unquotes text start end out).answer.number ≤ 11
unfolding unquotes
unquoted_few text start end out =
    by_tests (λ (u : Unquoted). u.answer.number ≤ 11) (λ m. unquoted (told m 0) out) (text_tests text start end out)
    (unquoted (told 0 (length (undone (part text start end)))) (before (undone (part text start end)) out))
    (λ _. omega arith, (λ _. omega arith, (λ _. omega arith, tt)))
    (λ none. omega arith)
