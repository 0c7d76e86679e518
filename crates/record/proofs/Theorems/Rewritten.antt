-- Back and there: a field's own bytes, with their quotes doubled, are the bytes that stood in the text. So no byte is lost, and none is made up. Along
-- the rules of the grammar.
use mathlib.Core.Path.{◌≡◌, refl, sym, ap, ◌∙◌}
use mathlib.Core.List.{List, [], ◌∷◌, ◌++◌, map, append_assoc}
use Prim.Native.Nat.{ℕ, ◌+◌}
use native.Mathlib.Omega.{arith}
use borrow.Author.Tests.{ne_eqb}
use lib.ListN.{length, length-append}
use Rattle.record.specs.Grammar.{comma, quote, NonEscaped, Body, Field, Fields, From, Reads}
use Rattle.record.specs.Undone.{undone, part, own_bytes}
use Rattle.record.specs.Written.{doubled}
use Rattle.record.proofs.Laws.Local.{field_local}
use Rattle.record.proofs.Theorems.RoundTrip.{undone_doubled, part_at}

-- the bytes from a place to another are some field's, with its quotes doubled
record Doubled (at : ℕ) (s : List ℕ) (to : ℕ) (t : List ℕ) : Type 0 where
  own : List ℕ
  whole : s ≡ doubled own ++ t
  place : to ≡ at + length (doubled own)

none_doubled : (at : ℕ) (s : List ℕ) → Doubled at s at s
unfolding doubled
none_doubled at s = record { own = []; whole = refl; place = omega arith }

byte_doubled : {at to b : ℕ} {s t : List ℕ} → (b ≡ quote → ⊥) → Doubled (at + 1) s to t → Doubled at (b ∷ s) to t
unfolding doubled
byte_doubled {at} {to} {b} {s} {t} x d =
    let place : to ≡ at + 1 + length (doubled d.own) = d.place in
    record {
      own = b ∷ d.own;
      whole = rw (ne_eqb b quote x) (ap (λ (u : List ℕ). b ∷ u) d.whole);
      place = rw (ne_eqb b quote x) (omega arith);
    }

plain_doubled : {at to : ℕ} {s t : List ℕ} → NonEscaped at s to t → Doubled at s to t
plain_doubled NonEscaped.none = none_doubled _ _
plain_doubled (NonEscaped.textdata x r) = byte_doubled x.no_quote (plain_doubled r)

body_doubled : {at to : ℕ} {s t : List ℕ} → Body at s to t → Doubled at s to t
unfolding doubled
body_doubled Body.none = none_doubled _ _
body_doubled (Body.byte x r) = byte_doubled x (body_doubled r)
body_doubled {at} {to} (Body.two_quotes r) =
    let d = body_doubled r in
    let place : to ≡ at + 2 + length (doubled d.own) = d.place in
    record { own = quote ∷ d.own; whole = ap (λ (u : List ℕ). quote ∷ quote ∷ u) d.whole; place = omega arith }

-- a field of a text, behind other bytes
field_doubled : {at a e to : ℕ} {s t : List ℕ} (before : List ℕ) → length before ≡ at → Field at s a e to t
    → (own : List ℕ) × (part (before ++ s) a e ≡ doubled own)
field_doubled {at} {e = e} before size (Field.escaped {s = s} {t = t} r) =
    let d = body_doubled r in
    let start : length (before ++ (quote ∷ [])) ≡ at + 1 = omega (arith, length-append before (quote ∷ [])) in
    let all : before ++ (quote ∷ s) ≡ (before ++ (quote ∷ [])) ++ (doubled d.own ++ (quote ∷ t)) =
    ap (λ (u : List ℕ). before ++ (quote ∷ u)) d.whole ∙ sym (append_assoc before (quote ∷ []) (doubled d.own ++ (quote ∷ t))) in (
      d.own,
      ap (λ (u : List ℕ). part u (at + 1) e) all ∙ part_at (before ++ (quote ∷ [])) (doubled d.own) (quote ∷ t) (at + 1) e start d.place,
    )
field_doubled {at} {e = e} {t = t} before size (Field.non_escaped r) =
    let d = plain_doubled r in (
      d.own,
      ap (λ (u : List ℕ). part (before ++ u) at e) d.whole ∙ part_at before (doubled d.own) t at e size d.place,
    )

-- so undone and doubled again it is the same
field_again : {at a e to : ℕ} {s t : List ℕ} (before : List ℕ) → length before ≡ at → Field at s a e to t
    → doubled (undone (part (before ++ s) a e)) ≡ part (before ++ s) a e
field_again before size r =
    let x = field_doubled before size r in
    ap (λ (u : List ℕ). doubled (undone u)) x.1 ∙ (ap doubled (undone_doubled x.0) ∙ sym x.1)

text_again : {at a e to : ℕ} {s t : List ℕ} (text before : List ℕ) → text ≡ before ++ s → length before ≡ at → Field at s a e to t
    → doubled (undone (part text a e)) ≡ part text a e
text_again text before whole size r = rw whole (field_again before size r)

fields_again : {at to : ℕ} {s t : List ℕ} {fields : List (ℕ × ℕ)} (text before : List ℕ) → text ≡ before ++ s → length before ≡ at
    → Fields at s fields to t → map doubled (own_bytes text fields) ≡ map (λ (f : ℕ × ℕ). part text f.0 f.1) fields
unfolding own_bytes
fields_again text before whole size (Fields.last r) = ap (λ (u : List ℕ). u ∷ []) (text_again text before whole size r)
fields_again {at} text before whole size (Fields.and_more {mid = mid} {m = m} r rs) =
    let w = (field_local r).passed in
    let place : mid ≡ at + length w.bytes = w.place in
    let before' = before ++ (w.bytes ++ (comma ∷ [])) in
    let whole' : text ≡ before' ++ m =
    whole
    ∙ (ap (λ (u : List ℕ). before ++ u) (w.whole ∙ sym (append_assoc w.bytes (comma ∷ []) m)) ∙ sym (append_assoc before (w.bytes ++ (comma ∷ [])) m)) in
    let size' : length before' ≡ mid + 1 = omega (arith, length-append before (w.bytes ++ (comma ∷ [])), length-append w.bytes (comma ∷ [])) in
    let first = text_again text before whole size r in
    let later = fields_again text before' whole' size' rs in
    cc

-- every field of every reading
pub read_again : (text : List ℕ) (fields : List (ℕ × ℕ)) (next : ℕ) → Reads text fields next
    → map doubled (own_bytes text fields) ≡ map (λ (f : ℕ × ℕ). part text f.0 f.1) fields
read_again text fields next (From.from r e) = fields_again text [] refl refl r
