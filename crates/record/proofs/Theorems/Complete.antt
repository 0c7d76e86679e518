-- Whatever the grammar reads, the scan reads so, rule by rule. Hence a text has one reading.
use mathlib.Core.Path.{◌≡◌, refl, sym, ap, ◌∙◌}
use mathlib.Core.Bool.{false}
use mathlib.Core.List.{List, [], ◌∷◌}
use Prim.Native.Nat.{ℕ, ◌+◌}
use native.Mathlib.Omega.{arith}
use borrow.Author.Tests.{ne_eqb}
use Rattle.record.specs.Grammar.{comma, quote, cr, lf, Textdata, NonEscaped, Body, Field, Fields, Ends, From, Reads}
use Rattle.record.specs.Grammar.NonEscaped.{none, textdata}
use Rattle.record.specs.Scan.{Reading, up_to, more, special, stop, fresh, plain, quoted, closed, scan, scanned, done}

-- what is read where a field has ended
abbrev pub stops : (s : List ℕ) (f : ℕ × ℕ) (at : ℕ) → Reading
stops [] f at = up_to (f ∷ []) (done at)
stops (b ∷ s) f at = stop f at b s (scan s fresh (at + 1))

pub text_not_special : (b : ℕ) → Textdata b → special b ≡ false
text_not_special b t = simp (ne_eqb b comma t.no_comma, ne_eqb b quote t.no_quote, ne_eqb b cr t.no_cr, ne_eqb b lf t.no_lf)

pub plain_runs : (at to a : ℕ) (s t : List ℕ) → NonEscaped at s to t → scan s (plain a) at ≡ scan t (plain a) to
unfolding scan
plain_runs at to a s t none = refl
plain_runs at to a s t (textdata {b} {s = s'} x r) = rw (text_not_special b x) (plain_runs (at + 1) to a s' t r)

pub body_runs : (at to q : ℕ) (s t : List ℕ) → Body at s to t → scan s (quoted q) at ≡ scan t (quoted q) to
unfolding scan
body_runs at to q s t Body.none = refl
body_runs at to q s t (Body.byte {b} {s = s'} x r) = rw (ne_eqb b quote x) (body_runs (at + 1) to q s' t r)
body_runs at to q s t (Body.two_quotes {s = s'} r) = ap (λ k. scan s' (quoted q) k) (omega arith) ∙ body_runs (at + 2) to q s' t r

-- where a field may end
pub data Stop : List ℕ → Type 0 where
  of_text : Stop []
  at_comma : {s : List ℕ} → Stop (comma ∷ s)
  bare_lf : {s : List ℕ} → Stop (lf ∷ s)
  crlf : {s : List ℕ} → Stop (cr ∷ lf ∷ s)

plain_stops : (a at : ℕ) (s : List ℕ) → Stop s → scan s (plain a) at ≡ stops s (a, at) at
unfolding scan
plain_stops a at s of_text = refl
plain_stops a at s at_comma = refl
plain_stops a at s bare_lf = refl
plain_stops a at s crlf = refl

closed_stops : (q e at : ℕ) (s : List ℕ) → Stop s → scan s (closed q e) at ≡ stops s (q + 1, e) at
unfolding scan
closed_stops q e at s of_text = refl
closed_stops q e at s at_comma = refl
closed_stops q e at s bare_lf = refl
closed_stops q e at s crlf = refl

fresh_stops : (at : ℕ) (s : List ℕ) → Stop s → scan s fresh at ≡ stops s (at, at) at
unfolding scan
fresh_stops at s of_text = refl
fresh_stops at s at_comma = refl
fresh_stops at s bare_lf = refl
fresh_stops at s crlf = refl

pub field_read : (at a e to : ℕ) (s t : List ℕ) → Field at s a e to t → Stop t → scan s fresh at ≡ stops t (a, e) to
unfolding scan
field_read at a e to s t (Field.escaped {s = s'} r) at_stop = body_runs (at + 1) e at s' (quote ∷ t) r ∙ closed_stops at e (e + 1) t at_stop
field_read at a e to s t (Field.non_escaped none) at_stop = fresh_stops at s at_stop
field_read at a e to s t (Field.non_escaped (textdata {b} {s = s'} x r)) at_stop =
    rw (text_not_special b x, ne_eqb b quote x.no_quote) (plain_runs (at + 1) to at s' t r ∙ plain_stops at to t at_stop)

end_stops : (at next : ℕ) (s : List ℕ) (f : ℕ × ℕ) → Ends at s next → Stop s × (stops s f at ≡ up_to (f ∷ []) (done next))
end_stops at next s f Ends.crlf = (crlf, refl)
end_stops at next s f Ends.bare_lf = (bare_lf, refl)
end_stops at next s f Ends.of_text = (of_text, refl)

fields_read : (at to next : ℕ) (s t : List ℕ) (fields : List (ℕ × ℕ)) → Fields at s fields to t → Ends to t next → scan s fresh at ≡ up_to fields (done next)
fields_read at to next s t fields (Fields.last {a = a} {e = e} r) ends =
    let x = end_stops to next t (a, e) ends in field_read at a e to s t r x.0 ∙ x.1
fields_read at to next s t fields (Fields.and_more {a = a} {e = e} {mid = mid} {m = m} {fields = fs} r rs) ends =
    field_read at a e mid s (comma ∷ m) r at_comma ∙ ap (more (a, e)) (fields_read (mid + 1) to next m t fs rs ends)

pub from_read : (at next : ℕ) (s : List ℕ) (fields : List (ℕ × ℕ)) → From at s fields next → scan s fresh at ≡ up_to fields (done next)
from_read at next s fields (From.from {to = to} {t = t} r e) = fields_read at to next s t fields r e

-- the scan reads what the grammar reads
pub complete : (text : List ℕ) (fields : List (ℕ × ℕ)) (next : ℕ) → Reads text fields next → scanned text ≡ up_to fields (done next)
complete text fields next r = from_read 0 next text fields r

-- a text has one reading
pub only_one : (text : List ℕ) (fields fields' : List (ℕ × ℕ)) (next next' : ℕ) → Reads text fields next → Reads text fields' next'
    → (fields ≡ fields') × (next ≡ next')
only_one text fields fields' next next' r r' =
    let same : up_to fields (done next) ≡ up_to fields' (done next') = sym (complete text fields next r) ∙ complete text fields' next' r' in
    let ends : done next ≡ done next' = ap (λ (r : Reading). r.ending) same in
    (ap (λ (r : Reading). r.fields) same, cc)
