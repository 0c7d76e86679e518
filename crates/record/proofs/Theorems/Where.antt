-- Where a text that is no record goes wrong, by the grammar alone: 9 at the byte at fault, by the cuts before and behind it; 10 at the quote that
-- opens the last field.
use mathlib.Core.Path.{◌≡◌, refl, sym, ap, subst, ◌∙◌}
use mathlib.Core.Bool.{Bool, true, false, cond}
use mathlib.Core.List.{List, [], ◌∷◌, ◌++◌, append_assoc}
use mathlib.Core.Logic.{◌↔◌}
use Prim.Native.Nat.{ℕ, zero, suc, ◌+◌, ◌-◌, ◌≤◌, ◌<◌}
use native.Mathlib.Omega.{arith}
use borrow.Author.Tests.{ltb-true, ltb-false}
use lib.Dec.{ltb}
use lib.ListN.{length, take, drop, length-append, length-take, take-append-drop}
use lib.Seq.{take_at, take-append-add}
use Rattle.record.specs.Grammar.{Fits}
use Rattle.record.specs.Scan.{Reading, Ending, up_to, scan, scanned, done, bad, unclosed}
use Rattle.record.specs.Where.{Bad, Unclosed, BadAt, OpenedAt}
use Rattle.record.proofs.Laws.Tests.{by_test}
use Rattle.record.proofs.Theorems.Refused.{fits_done, ending_bad, ending_unclosed, bad_ending}
use Rattle.record.proofs.Laws.Opens.{opened_at, opened_ending}
use Rattle.record.proofs.Laws.Wrong.{line_end, wrong_at, lone_last, lone_cut, stays_wrong, grows, inside}

endings : {r : Reading} {fields : List (ℕ × ℕ)} {ending : Ending} → r ≡ up_to fields ending → r.ending ≡ ending
endings e = ap (λ (r : Reading). r.ending) e

-- a text cut before a byte, and behind it
cut_before : (before : List ℕ) (b : ℕ) (behind : List ℕ) (p : ℕ) → p ≡ length before → take p (before ++ (b ∷ behind)) ≡ before
cut_before before b behind p e = take_at before (b ∷ behind) p (sym e)

cut_behind : (before : List ℕ) (b : ℕ) (behind : List ℕ) (p : ℕ) → p ≡ length before → take (p + 1) (before ++ (b ∷ behind)) ≡ before ++ (b ∷ [])
cut_behind before b behind p e =
    ap (take (p + 1)) (sym (append_assoc before (b ∷ []) behind))
    ∙ take_at (before ++ (b ∷ [])) behind (p + 1) (omega (arith, length-append before (b ∷ [])))

-- a choice between done and bad that came to bad
of_two : (c : Bool) (fields : List (ℕ × ℕ)) (p p' next : ℕ) → bad p ≡ (cond c (up_to fields (done next)) (up_to fields (bad p'))).ending → p ≡ p'
of_two true fields p p' next e = cc
of_two false fields p p' next e = cc

-- the byte at fault: the text fits before it, and not with it
pub bad_at : (text : List ℕ) (p : ℕ) → (scanned text).ending ≡ bad p → BadAt text p
bad_at text p e =
    let w = wrong_at text p e in
    let place : p ≡ 0 + length w.before = w.place in
    let here : p ≡ length w.before = omega arith in
    record {
      before =
          subst Fits (sym (ap (take p) w.whole ∙ cut_before w.before w.byte w.behind p here))
          ((fits_done w.before).1 (p, endings w.cut));
      behind =
          subst Bad (sym (ap (take (p + 1)) w.whole ∙ cut_behind w.before w.byte w.behind p here))
          (ending_bad (w.before ++ (w.byte ∷ [])) p (endings (stays_wrong w [] (lone_last w.byte))));
    }

-- Cut to more than p bytes, a text that goes wrong at p does so still.
cut_later : (text : List ℕ) (p k : ℕ) → (scanned text).ending ≡ bad p → (scanned (take (p + suc k) text)).ending ≡ bad p
cut_later text p k e =
    let w = wrong_at text p e in
    let place : p ≡ 0 + length w.before = w.place in
    let here : p + suc k ≡ length w.before + suc k = omega arith in
    let part : take (p + suc k) text ≡ w.before ++ (w.byte ∷ take k w.behind) =
    ap (take (p + suc k)) w.whole
    ∙ (ap (λ n. take n (w.before ++ (w.byte ∷ w.behind))) here ∙ take-append-add w.before (w.byte ∷ w.behind) (suc k)) in
    endings (ap scanned part ∙ stays_wrong w (take k w.behind) (lone_cut w.byte k w.behind w.lone))

-- A text that goes wrong, and whose first p + 1 bytes do, does so at p or before.
cut_sooner : (text : List ℕ) (p p₀ : ℕ) → (scanned text).ending ≡ bad p₀ → Bad (take (p + 1) text) → p₀ ≤ p
cut_sooner text p p₀ e h =
    let x = bad_ending (take (p + 1) text) h in
    let w = wrong_at (take (p + 1) text) x.0 x.1 in
    let fields = (scanned (take (p + 1) text)).fields in
    let c = line_end w.byte (w.behind ++ drop (p + 1) text) in
    let all : scanned text ≡ cond c (up_to fields (done (x.0 + 2))) (up_to fields (bad x.0)) =
    ap scanned (sym (take-append-drop (p + 1) text)) ∙ grows w (drop (p + 1) text) in
    let same : p₀ ≡ x.0 = of_two c fields p₀ x.0 (x.0 + 2) (sym e ∙ ap (λ (r : Reading). r.ending) all) in
    omega (arith, inside w, length-take (p + 1) text)

-- so no other byte is at fault
pub bad_only : (text : List ℕ) (p : ℕ) → Bad text → BadAt text p → (scanned text).ending ≡ bad p
bad_only text p h at =
    let p₀ = (bad_ending text h).0 in
    let e = (bad_ending text h).1 in
    by_test (ltb p₀ p)
    (λ sooner.
    let before : p₀ < p = ltb-true p₀ p sooner in
    let all : p₀ + suc (p - suc p₀) ≡ p = omega arith in
    let still : (scanned (take p text)).ending ≡ bad p₀ = rw all at (cut_later text p₀ (p - suc p₀) e) in
    absurd ((ending_bad (take p text) p₀ still).no_fit at.before))
    (λ later.
    let same : p₀ ≡ p = omega (arith, ltb-false p₀ p later, cut_sooner text p p₀ e at.behind) in
    e ∙ ap bad same)

-- the cuts that go wrong are those behind it, and no others: it is the first byte with which no record can go on
first_cut : (text : List ℕ) (p q : ℕ) → (scanned text).ending ≡ bad p → Bad (take q text) → p < q
unfolding scan
first_cut text p zero e h = absurd (h.no_fit ((fits_done []).1 (0, refl)))
first_cut text p (suc q) e h =
    let one : suc q ≡ q + 1 = omega arith in
    omega (arith, cut_sooner text q p e (subst (λ n. Bad (take n text)) one h))

pub bad_cuts : (text : List ℕ) (p : ℕ) → (scanned text).ending ≡ bad p → (q : ℕ) → Bad (take q text) ↔ (p < q)
bad_cuts text p e q = (
  first_cut text p q e,
  λ behind.
      let all : p + suc (q - suc p) ≡ q = omega arith in
      ending_bad (take q text) p (rw all at (cut_later text p (q - suc p) e)),
)

-- 9 at p: exactly
pub bad_at_iff : (text : List ℕ) (p : ℕ) → ((scanned text).ending ≡ bad p) ↔ (Bad text × BadAt text p)
bad_at_iff text p = (λ e. (ending_bad text p e, bad_at text p e), λ x. bad_only text p x.0 x.1)

pub one_fault : (text : List ℕ) (p p' : ℕ) → Bad text → BadAt text p → BadAt text p' → p ≡ p'
one_fault text p p' h at at' = let e = bad_only text p h at in let e' = bad_only text p' h at' in cc

-- 10 at p: exactly
pub unclosed_at_iff : (text : List ℕ) (p : ℕ) → ((scanned text).ending ≡ unclosed p) ↔ OpenedAt text p
unclosed_at_iff text p = (opened_at text p, opened_ending text p)

pub opened_unclosed : (text : List ℕ) (p : ℕ) → OpenedAt text p → Unclosed text
opened_unclosed text p at = ending_unclosed text p (opened_ending text p at)

pub one_opening : (text : List ℕ) (p p' : ℕ) → OpenedAt text p → OpenedAt text p' → p ≡ p'
one_opening text p p' at at' = let e = opened_ending text p at in let e' = opened_ending text p' at' in cc
