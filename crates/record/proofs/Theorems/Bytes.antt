-- Every byte in every place of the grammar, by the scan of the place: which bytes are taken, and at which the text goes wrong.
use mathlib.Core.Path.{◌≡◌, refl, ap, ◌∙◌}
use mathlib.Core.Bool.{false}
use mathlib.Core.List.{List, [], ◌∷◌}
use Prim.Native.Nat.{ℕ, ◌+◌, ◌<◌}
use native.Mathlib.Omega.{arith}
use borrow.Author.Tests.{eqb-true, ne_eqb}
use lib.Dec.{eqb}
use Rattle.record.specs.Grammar.{comma, quote, cr, lf, Textdata, NonEscaped, Body}
use Rattle.record.specs.Scan.{Reading, up_to, starts, fresh, plain, closed, scan, scanned, bad}
use Rattle.record.specs.Where.{Begins}
use Rattle.record.proofs.Laws.Tests.{by_test}
use Rattle.record.proofs.Theorems.Complete.{text_not_special, plain_runs, body_runs}
use Rattle.record.proofs.Theorems.Sound.{not_special_text}
use Rattle.record.proofs.Laws.Wrong.{ahead}
use Rattle.record.proofs.Laws.Opens.{begins_ahead}

-- what a byte can be to the grammar
pub data Sort (b : ℕ) : Type 0 where
  is_comma : b ≡ comma → Sort b
  is_quote : b ≡ quote → Sort b
  is_cr : b ≡ cr → Sort b
  is_lf : b ≡ lf → Sort b
  is_text : Textdata b → Sort b

pub sort : (b : ℕ) → Sort b
sort b =
    by_test (eqb b comma) (λ e. is_comma (eqb-true b comma e))
    (λ no_comma. by_test (eqb b quote) (λ e. is_quote (eqb-true b quote e))
    (λ no_quote. by_test (eqb b cr) (λ e. is_cr (eqb-true b cr e))
    (λ no_cr. by_test (eqb b lf) (λ e. is_lf (eqb-true b lf e))
    (λ no_lf. is_text (not_special_text b (rw (no_comma, no_quote, no_cr, no_lf) refl))))))

-- in a field that is not quoted, every byte of text is taken; in a body, every byte but a quote
pub plain_taken : {at to b : ℕ} {s t : List ℕ} → Textdata b → NonEscaped at s to (b ∷ t) → NonEscaped at s (to + 1) t
plain_taken x NonEscaped.none = NonEscaped.textdata x NonEscaped.none
plain_taken x (NonEscaped.textdata y r) = NonEscaped.textdata y (plain_taken x r)

pub body_taken : {at to b : ℕ} {s t : List ℕ} → (b ≡ quote → ⊥) → Body at s to (b ∷ t) → Body at s (to + 1) t
body_taken x Body.none = Body.byte x Body.none
body_taken x (Body.byte y r) = Body.byte y (body_taken x r)
body_taken x (Body.two_quotes r) = Body.two_quotes (body_taken x r)

-- how the scan comes to a byte behind others of a field that is not quoted, and to one behind a closing quote
to_plain : {at to : ℕ} {s t : List ℕ} → NonEscaped at s to t → at < to → scan s fresh at ≡ scan t (plain at) to
unfolding scan
to_plain NonEscaped.none h = absurd (omega arith)
to_plain {at} {to} {t = t} (NonEscaped.textdata {b = b} {s = s} x r) h =
    rw (text_not_special b x, ne_eqb b quote x.no_quote) (plain_runs (at + 1) to at s t r)

to_closed : (p q : ℕ) (s t : List ℕ) → Body (p + 1) s q (quote ∷ t) → scan (quote ∷ s) fresh p ≡ scan t (closed p q) (q + 1)
unfolding scan
to_closed p q s t r = body_runs (p + 1) q p s (quote ∷ t) r

-- what the scan makes of it there
plain_quote : (a at : ℕ) (t : List ℕ) → scan (quote ∷ t) (plain a) at ≡ up_to ((a, at) ∷ []) (bad at)
unfolding scan
plain_quote a at t = refl

plain_cr : (a at : ℕ) (t : List ℕ) → starts lf t ≡ false → scan (cr ∷ t) (plain a) at ≡ up_to ((a, at) ∷ []) (bad at)
unfolding scan
plain_cr a at t e = rw e refl

fresh_cr : (at : ℕ) (t : List ℕ) → starts lf t ≡ false → scan (cr ∷ t) fresh at ≡ up_to ((at, at) ∷ []) (bad at)
unfolding scan
fresh_cr at t e = rw e refl

closed_cr : (p q at : ℕ) (t : List ℕ) → starts lf t ≡ false → scan (cr ∷ t) (closed p q) at ≡ up_to ((p + 1, q) ∷ []) (bad at)
unfolding scan
closed_cr p q at t e = rw e refl

closed_text : (p q at b : ℕ) (t : List ℕ) → Textdata b → scan (b ∷ t) (closed p q) at ≡ up_to ((p + 1, q) ∷ []) (bad at)
unfolding scan
closed_text p q at b t x = rw (ne_eqb b comma x.no_comma, ne_eqb b quote x.no_quote, ne_eqb b cr x.no_cr, ne_eqb b lf x.no_lf) refl

-- In a text: from where a field begins.
ends_bad : {text s : List ℕ} {p q : ℕ} {fields : List (ℕ × ℕ)} → Begins text p s → scan s fresh p ≡ up_to fields (bad q) → (scanned text).ending ≡ bad q
ends_bad {s = s} {p = p} begins e = let x = begins_ahead s p begins in ap (λ (r : Reading). r.ending) (x.1 ∙ ap (ahead x.0) e)

-- a quote in a field that is not quoted, and not at its start, where it would open one
pub quote_in_plain : {text s t : List ℕ} {p q : ℕ} → Begins text p s → NonEscaped p s q (quote ∷ t) → p < q → (scanned text).ending ≡ bad q
quote_in_plain {t = t} {p = p} {q = q} begins r h = ends_bad begins (to_plain r h ∙ plain_quote p q t)

-- a byte of text behind a closing quote
pub text_behind_quote : {text s t : List ℕ} {p q b : ℕ} → Begins text p (quote ∷ s) → Body (p + 1) s q (quote ∷ b ∷ t) → Textdata b
    → (scanned text).ending ≡ bad (q + 1)
text_behind_quote {s = s} {t = t} {p = p} {q = q} {b = b} begins r x = ends_bad begins (to_closed p q s (b ∷ t) r ∙ closed_text p q (q + 1) b t x)

-- a CR with no LF behind it: before a field, in one that is not quoted, behind a closing quote
pub cr_before_field : {text t : List ℕ} {p : ℕ} → Begins text p (cr ∷ t) → starts lf t ≡ false → (scanned text).ending ≡ bad p
cr_before_field {t = t} {p = p} begins e = ends_bad begins (fresh_cr p t e)

pub cr_in_plain : {text s t : List ℕ} {p q : ℕ} → Begins text p s → NonEscaped p s q (cr ∷ t) → p < q → starts lf t ≡ false → (scanned text).ending ≡ bad q
cr_in_plain {t = t} {p = p} {q = q} begins r h e = ends_bad begins (to_plain r h ∙ plain_cr p q t e)

pub cr_behind_quote : {text s t : List ℕ} {p q : ℕ} → Begins text p (quote ∷ s) → Body (p + 1) s q (quote ∷ cr ∷ t) → starts lf t ≡ false
    → (scanned text).ending ≡ bad (q + 1)
cr_behind_quote {s = s} {t = t} {p = p} {q = q} begins r e = ends_bad begins (to_closed p q s (cr ∷ t) r ∙ closed_cr p q (q + 1) t e)
