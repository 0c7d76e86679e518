-- The scan goes field by field: it reads on behind the field that the code finds, quoted or not.
use mathlib.Core.Path.{◌≡◌, refl, sym, ap, ◌∙◌}
use mathlib.Core.Bool.{Bool, true, false, cond}
use mathlib.Core.List.{List, [], ◌∷◌}
use Prim.Native.Nat.{ℕ, suc, ◌+◌, ◌≤◌, ◌<◌}
use native.Mathlib.Numerals.{add-one}
use native.Mathlib.Omega.{arith}
use borrow.Author.Tests.{ltb-true, ltb-false, lt-ltb, le-ltb}
use lib.Dec.{eqb, ltb}
use lib.ListN.{length, get_or, drop, length-drop}
use lib.Seq.{drop-drop}
use Rattle.record.specs.declared.Found.{Found}
use Rattle.std.specs.Prelude.{Option, Some, None}
use Rattle.record.specs.Grammar.{quote}
use Rattle.record.specs.Scan.{Reading, up_to, unclosed, special, starts, fresh, plain, quoted, scan}
use Rattle.record.specs.Steps.{run, body_run, found, quoted_at, plain_at, field_at}
use Rattle.record.proofs.Theorems.Complete.{stops}
use Rattle.record.proofs.Laws.Runs.{left, stands_at, inside, run_short}

-- a field that is not quoted: k bytes of it, and what stands behind
abbrev behind_plain : (s : List ℕ) (a at k : ℕ) → Reading
behind_plain s a at k = stops (drop k s) (a, at + k) (at + k)

plain_one : (b : ℕ) (s : List ℕ) (a at k : ℕ) → behind_plain s a (at + 1) k ≡ behind_plain (b ∷ s) a at (k + 1)
plain_one b s a at k = let e : at + 1 + k ≡ at + (k + 1) = omega arith in rw (e, add-one k) refl

plain_zero : (s : List ℕ) (a at : ℕ) → stops s (a, at) at ≡ behind_plain s a at 0
plain_zero s a at = let e : at + 0 ≡ at = omega arith in rw e refl

Plain : (s : List ℕ) (a at : ℕ) → Type 0
Plain s a at = scan s (plain a) at ≡ behind_plain s a at (run special s)

plain_next : (b : ℕ) (s : List ℕ) (a at : ℕ) (x : Bool) → special b ≡ x → Plain s a (at + 1) → Plain (b ∷ s) a at
unfolding Plain scan run
plain_next b s a at true e one = rw e (plain_zero (b ∷ s) a at)
plain_next b s a at false e one = rw e (one ∙ plain_one b s a at (run special s))

plain_scan : (s : List ℕ) (a at : ℕ) → Plain s a at
unfolding Plain scan run
plain_scan [] a at = plain_zero [] a at
plain_scan (b ∷ s) a at = plain_next b s a at (special b) refl (plain_scan s a (at + 1))

-- a quoted one: k bytes before the quote that closes it, if one does
abbrev behind_quoted : (s : List ℕ) (q at k : ℕ) → Reading
behind_quoted s q at k = cond (ltb k (length s)) (stops (drop (k + 1) s) (q + 1, at + k) (at + k + 1)) (up_to [] (unclosed q))

ltb_suc : (k n : ℕ) → ltb k n ≡ ltb (k + 1) (suc n)
ltb_suc k n = go (ltb k n) refl
  where
    go : (c : Bool) → ltb k n ≡ c → c ≡ ltb (k + 1) (suc n)
    go true e = let h = ltb-true k n e in sym (lt-ltb (k + 1) (suc n) (omega arith))
    go false e = let h = ltb-false k n e in sym (le-ltb (k + 1) (suc n) (omega arith))

quoted_one : (b : ℕ) (s : List ℕ) (q at k : ℕ) → behind_quoted s q (at + 1) k ≡ behind_quoted (b ∷ s) q at (k + 1)
quoted_one b s q at k =
    let e : at + 1 + k ≡ at + (k + 1) = omega arith in
    rw (ltb_suc k (length s), e, add-one (k + 1)) refl

quoted_zero : (b : ℕ) (s : List ℕ) (q at : ℕ) → stops s (q + 1, at) (at + 1) ≡ behind_quoted (b ∷ s) q at 0
quoted_zero b s q at =
    let e : at + 0 ≡ at = omega arith in
    let some : ltb 0 (length (b ∷ s)) ≡ true = lt-ltb 0 (length (b ∷ s)) (omega arith) in
    rw (some, e) refl

Quoted : (s : List ℕ) (q at : ℕ) → Type 0
Quoted s q at = scan s (quoted q) at ≡ behind_quoted s q at (body_run s)

quoted_last : (b q at : ℕ) (c : Bool) → eqb b quote ≡ c → Quoted (b ∷ []) q at
unfolding Quoted scan body_run
quoted_last b q at true e = rw e (quoted_zero b [] q at)
quoted_last b q at false e = rw e refl

quoted_next : (b c : ℕ) (s : List ℕ) (q at : ℕ) (x y : Bool) → eqb b quote ≡ x → eqb c quote ≡ y → Quoted (c ∷ s) q (at + 1) → Quoted s q (at + 1 + 1)
    → Quoted (b ∷ c ∷ s) q at
unfolding Quoted scan body_run
quoted_next b c s q at false y e f one two = rw e (one ∙ quoted_one b (c ∷ s) q at (body_run (c ∷ s)))
quoted_next b c s q at true false e f one two = rw (e, f) (quoted_zero b (c ∷ s) q at)
quoted_next b c s q at true true e f one two =
    rw (e, f) (two ∙ quoted_one c s q (at + 1) (body_run s) ∙ quoted_one b (c ∷ s) q at (body_run s + 1) ∙ ap (behind_quoted (b ∷ c ∷ s) q at) (omega arith))

quoted_scan : (s : List ℕ) (q at : ℕ) → Quoted s q at
unfolding Quoted scan body_run
quoted_scan [] q at = refl
quoted_scan (b ∷ []) q at = quoted_last b q at (eqb b quote) refl
quoted_scan (b ∷ c ∷ s) q at = quoted_next b c s q at (eqb b quote) (eqb c quote) refl refl (quoted_scan (c ∷ s) q (at + 1)) (quoted_scan s q (at + 1 + 1))

-- what is read behind the field that was found at a place
abbrev pub after_field : (text : List ℕ) (at : ℕ) → Option Found → Reading
after_field text at (Some f) = stops (drop f.next text) (f.start, f.end) f.next
after_field text at None = up_to [] (unclosed at)

after_pick : (text : List ℕ) (at : ℕ) (c : Bool) (x y : Option Found) → cond c (after_field text at x) (after_field text at y) ≡ after_field text at (cond c x y)
after_pick text at true x y = refl
after_pick text at false x y = refl

quoted_after : (text : List ℕ) (q : ℕ) → scan (drop (q + 1) text) (quoted q) (q + 1) ≡ after_field text q (quoted_at (q + 1) (drop (q + 1) text))
unfolding Quoted
quoted_after text q =
    let further : q + 1 + (body_run (drop (q + 1) text) + 1) ≡ q + 1 + body_run (drop (q + 1) text) + 1 = omega arith in
    quoted_scan (drop (q + 1) text) q (q + 1)
    ∙ ap (λ r. cond (ltb (body_run (drop (q + 1) text)) (length (drop (q + 1) text)))
    (stops r (q + 1, q + 1 + body_run (drop (q + 1) text)) (q + 1 + body_run (drop (q + 1) text) + 1)) (up_to [] (unclosed q)))
    (drop-drop (body_run (drop (q + 1) text) + 1) (q + 1) text ∙ ap (λ m. drop m text) further)
    ∙ after_pick text q (ltb (body_run (drop (q + 1) text)) (length (drop (q + 1) text)))
    (Some (found (q + 1) (q + 1 + body_run (drop (q + 1) text)) (q + 1 + body_run (drop (q + 1) text) + 1))) None

plain_after : (text : List ℕ) (at : ℕ) → scan (drop at text) (plain at) at ≡ after_field text at (plain_at at (drop at text))
unfolding Plain
plain_after text at =
    plain_scan (drop at text) at at
    ∙ ap (λ r. stops r (at, at + run special (drop at text)) (at + run special (drop at text))) (drop-drop (run special (drop at text)) at text)

fresh_plain : (s : List ℕ) (at : ℕ) → starts quote s ≡ false → scan s fresh at ≡ scan s (plain at) at
unfolding scan
fresh_plain [] at e = refl
fresh_plain (b ∷ s) at e = rw e refl

fresh_quoted : (s : List ℕ) (at b : ℕ) → eqb b quote ≡ true → scan (b ∷ s) fresh at ≡ scan s (quoted at) (at + 1)
unfolding scan
fresh_quoted s at b e = rw e refl

pub field_scan : (text : List ℕ) (at : ℕ) → scan (drop at text) fresh at ≡ after_field text at (field_at text at)
field_scan text at = go (starts quote (drop at text)) refl
  where
    go : (c : Bool) → starts quote (drop at text) ≡ c → scan (drop at text) fresh at ≡ after_field text at (field_at text at)
    go true e =
        let h : at < length text = inside text at quote e in
        rw e
        (ap (λ s. scan s fresh at) (left text at h) ∙ fresh_quoted (drop (at + 1) text) at (get_or text at 0) (stands_at text at quote h ∙ e)
        ∙ quoted_after text at)
    go false e = rw e (fresh_plain (drop at text) at e ∙ plain_after text at)

-- a field lies inside the text, behind where it was looked for
abbrev pub Within : (text : List ℕ) (at : ℕ) → Option Found → Type 0
Within text at (Some f) = (at ≤ f.start) × (f.start ≤ f.end) × (f.end ≤ f.next) × (f.next ≤ length text)
Within text at None = Unit {0}

within_quoted : (text : List ℕ) (at : ℕ) → at < length text → Within text at (quoted_at (at + 1) (drop (at + 1) text))
within_quoted text at h = go (ltb (body_run (drop (at + 1) text)) (length (drop (at + 1) text))) refl
  where
    go : (c : Bool) → ltb (body_run (drop (at + 1) text)) (length (drop (at + 1) text)) ≡ c
        → Within text at (cond c (Some (found (at + 1) (at + 1 + body_run (drop (at + 1) text)) (at + 1 + body_run (drop (at + 1) text) + 1))) None)
    go true e =
        let lt = ltb-true (body_run (drop (at + 1) text)) (length (drop (at + 1) text)) e in let len = length-drop (at + 1) text in
        (omega arith, omega arith, omega arith, omega arith)
    go false e = tt

pub within : (text : List ℕ) (at : ℕ) → at ≤ length text → Within text at (field_at text at)
within text at h = go (starts quote (drop at text)) refl
  where
    go : (c : Bool) → starts quote (drop at text) ≡ c → Within text at (cond c (quoted_at (at + 1) (drop (at + 1) text)) (plain_at at (drop at text)))
    go true e = within_quoted text at (inside text at quote e)
    go false e =
        let short = run_short special (drop at text) in let len = length-drop at text in
        (omega arith, omega arith, omega arith, omega arith)

-- what the code finds
pub found_quoted : (text : List ℕ) (at e : ℕ) (d : Bool) → d ≡ starts quote (drop at text) → d ≡ true → e ≡ at + 1 + body_run (drop (at + 1) text) → e < length text
    → Some (found (at + 1) e (e + 1)) ≡ field_at text at
found_quoted text at e d is yes_quote end h =
    let len = length-drop (at + 1) text in
    let closes : ltb (body_run (drop (at + 1) text)) (length (drop (at + 1) text)) ≡ true = lt-ltb (body_run (drop (at + 1) text)) (length (drop (at + 1) text)) (omega arith) in
    rw (sym is ∙ yes_quote, closes, end) refl

pub found_unclosed : (text : List ℕ) (at e : ℕ) (d : Bool) → at ≤ length text → d ≡ starts quote (drop at text) → d ≡ true → e ≡ at + 1 + body_run (drop (at + 1) text)
    → length text ≤ e → None ≡ field_at text at
found_unclosed text at e d in_text is yes_quote end h =
    let len = length-drop (at + 1) text in
    let stays : ltb (body_run (drop (at + 1) text)) (length (drop (at + 1) text)) ≡ false = le-ltb (body_run (drop (at + 1) text)) (length (drop (at + 1) text)) (omega arith) in
    rw (sym is ∙ yes_quote, stays) refl

pub found_plain : (text : List ℕ) (at e : ℕ) (d : Bool) → d ≡ starts quote (drop at text) → d ≡ false → e ≡ at + run special (drop at text)
    → Some (found at e e) ≡ field_at text at
found_plain text at e d is no_quote end = rw (sym is ∙ no_quote, end) refl

pub quote_inside : (text : List ℕ) (at : ℕ) (d : Bool) → d ≡ starts quote (drop at text) → d ≡ true → at + 1 ≤ length text
quote_inside text at d is yes_quote = omega (arith, inside text at quote (sym is ∙ yes_quote))
