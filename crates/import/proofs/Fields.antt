-- A field's text lies within the lent bytes, and is the field's own bytes; what is seen of a text lies in it, and a record has bytes.
use mathlib.Core.Path.{◌≡◌, refl, sym, ap, ◌∙◌}
use mathlib.Core.Bool.{Bool, true, false, not, cond}
use mathlib.Core.List.{List, ◌++◌}
use Prim.Native.Nat.{ℕ, ◌≤◌, ◌<◌}
use native.Mathlib.Omega.{arith}
use borrow.Author.Tests.{le-ltb, le-leb}
use lib.Dec.{ltb}
use lib.ListN.{length, take, drop, length-append}
use lib.Seq.{take-append_seam}
use Rattle.table.specs.Tray.{within}
use Rattle.std.specs.Prelude.{Result, Ok, Err, IsErrAnd, MatchResult}
use Rattle.std.proofs.lemmas.Result.{err_from_is_err_and}
use Rattle.std.specs.Result.{result_unwrap_or}
use Rattle.table.specs.declared.answers.Refusal.{Refusal}
use Rattle.record.specs.declared.Fault.{Fault}
use Rattle.record.specs.declared.Fault.TheVariants.{Stray, Unclosed, Long}
use Rattle.record.specs.Scan.{Ending, done, bad, unclosed, up_to, scanned}
use Rattle.record.specs.Steps.{number_of, place_of, place_told}
use Rattle.import.specs.Settled.{seen}
use Rattle.record.specs.Undone.{undone, part}
use Rattle.record.specs.Unquoted.{Unquoted, unquoted, Unquotes, unquotes, numbered}
use Rattle.record.specs.Recorded.{longest, Told, told, judged, judges}
use Rattle.record.proofs.Laws.Inside.{place_inside}
use Rattle.record.proofs.Theorems.Sound.{sound}
use Rattle.record.proofs.Theorems.Decided.{used, Ended, by_line, by_text, ended}

-- no more bytes than there are
Sized : Unquoted → Type 0
Sized u = u.answer.value ≤ length u.out

-- how many bytes were written, and none by a call that is refused
value_is : (r : Result ℕ Refusal) → (numbered r).value ≡ result_unwrap_or r 0
value_is (Ok size) = refl
value_is (Err e) = refl

pub text_sized : (text : List ℕ) (start end : ℕ) (field : List ℕ) (r : Result ℕ Refusal) (field' : List ℕ) → Unquotes text start end field r field'
    → result_unwrap_or r 0 ≤ length field'
unfolding Sized unquotes
text_sized text start end field r field' u =
    let all : Sized (unquotes text start end field) = go (ltb longest (length text)) (not (within start end (length text))) (ltb (length field) (length own)) in
    rw (← value_is r) (rw (← u.row) at all)
  where
    own : List ℕ
    own = undone (part text start end)

    go : (long apart short : Bool) → Sized (cond long (unquoted (told 11 0) field) (cond apart (unquoted (told 3 0) field) (cond short (unquoted (told 6 0) field)
        (unquoted (told 0 (length own)) (own ++ drop (length own) field)))))
    go true apart short = omega arith
    go false true short = omega arith
    go false false true = omega arith
    go false false false = omega (arith, length-append own (drop (length own) field))

pub own_bytes_law : (text : List ℕ) (start end : ℕ) (field : List ℕ) (r : Result ℕ Refusal) (field' : List ℕ) → Unquotes text start end field r field'
    → length text ≤ 65535 → start ≤ end → end ≤ length text → length (undone (part text start end)) ≤ length field → take (result_unwrap_or r 0) field' ≡ undone (part text start end)
unfolding unquotes
own_bytes_law text start end field r field' u fit ordered inside room =
    let own : List ℕ = undone (part text start end) in
    let is : unquoted (numbered r) field' ≡ unquoted (told 0 (length own)) (own ++ drop (length own) field) =
    u.row ∙ rw (le-ltb longest (length text) fit, le-leb start end ordered, le-leb end (length text) inside, le-ltb (length field) (length own) room) in
    ap (λ n. take n field') (sym (value_is r)) ∙ ap (λ (x : Unquoted). take x.answer.value x.out) is ∙ take-append_seam own (drop (length own) field)

-- what is seen is what the library judges
pub seen_is : (r : Result ℕ Fault) → seen (judged r) ≡ r
seen_is (Ok next) = refl
seen_is (Err (Stray at)) = refl
seen_is (Err (Unclosed at)) = refl
seen_is (Err Long) = refl

-- what is seen of a text that is not too long: a place in it, and behind some bytes where the next record starts
judged_as : (text : List ℕ) (r : Result ℕ Fault) → judged r ≡ judges text → length text ≤ 65535 → judged r ≡ told (number_of (scanned text).ending) (place_of (scanned text).ending)
unfolding judges
judged_as text r e fit = e ∙ rw (le-ltb longest (length text) fit)

place_is : (f : Fault) → (judged (Err f)).value ≡ place_told f
place_is (Stray at) = refl
place_is (Unclosed at) = refl
place_is Long = refl

pub fault_inside : (text : List ℕ) (f : Fault) → judged (Err f) ≡ judges text → length text ≤ 65535 → place_told f ≤ length text
fault_inside text f e fit = omega (arith, ap (λ (t : Told). t.value) (judged_as text (Err f) e fit), place_is f, place_inside text)

pub refused_inside : (r : Result ℕ Fault) (f : Fault) (n : ℕ) → IsErrAnd r (λ y. y ≡ f) → place_told f ≤ n
    → MatchResult r (λ next. (0 < next) × (next ≤ n)) (λ fault. place_told fault ≤ n)
refused_inside r f n is m = let p = err_from_is_err_and r is in rw (p.1, p.2) m

pub next_inside : (text : List ℕ) (next : ℕ) → judged (Ok next) ≡ judges text → length text ≤ 65535 → next ≤ length text
next_inside text next e fit = omega (arith, ap (λ (t : Told). t.value) (judged_as text (Ok next) e fit), place_inside text)

pub next_some : (text : List ℕ) (next : ℕ) → judged (Ok next) ≡ judges text → length text ≤ 65535 → 0 < length text → 0 < next
next_some text n e fit some = go (scanned text).ending refl
  where
    is : told 0 n ≡ told (number_of (scanned text).ending) (place_of (scanned text).ending)
    is = judged_as text (Ok n) e fit

    taken : (next : ℕ) → Ended text (scanned text).fields next → 0 < next
    taken next (by_line l) = (used l).some
    taken next (by_text all h) = omega arith

    go : (ending : Ending) → (scanned text).ending ≡ ending → 0 < n
    go (done next) q =
        let place : n ≡ next = ap (λ (t : Told). t.value) is ∙ ap place_of q in
        omega (arith, taken next (ended (sound text (scanned text).fields next (ap (up_to (scanned text).fields) q))))
    go (bad at) q = absurd (let m : ◌≡◌ {A = ℕ} 0 9 = ap (λ (t : Told). t.number) is ∙ ap number_of q in omega arith)
    go (unclosed at) q = absurd (let m : ◌≡◌ {A = ℕ} 0 10 = ap (λ (t : Told). t.number) is ∙ ap number_of q in omega arith)
