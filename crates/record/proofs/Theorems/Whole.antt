-- A name stays whole: what stands between two quotes, with no quote in it, is one field and exactly those bytes, whatever commas and line breaks it
-- holds. By what the scan makes of a body.
use mathlib.Core.Path.{◌≡◌, refl, sym, ap, subst, ◌∙◌}
use mathlib.Core.List.{List, [], ◌∷◌, ◌++◌, append_assoc}
use Prim.Native.Nat.{ℕ, suc, ◌+◌, ◌<◌}
use native.Mathlib.Omega.{arith}
use borrow.Author.Tests.{ne_eqb}
use lib.ListN.{length, get_or, length-append}
use Rattle.record.specs.Grammar.{comma, quote, Body, Field, Fields, Reads}
use Rattle.record.specs.Scan.{Reading, fresh, scan, scanned}
use Rattle.record.specs.Undone.{undone, part}
use Rattle.record.specs.Where.{Begins}
use Rattle.record.proofs.Theorems.Complete.{Stop, stops, field_read, complete}
use Rattle.record.proofs.Laws.Wrong.{ahead}
use Rattle.record.proofs.Laws.Opens.{fields_ahead, begins_ahead}
use Rattle.record.proofs.Laws.Local.{fields_local}
use Rattle.record.proofs.Theorems.RoundTrip.{part_at, undone_byte}

-- no byte of a name is a quote
abbrev pub NoQuote : (name : List ℕ) → Type 0
NoQuote name = (i : ℕ) → i < length name → get_or name i 0 ≡ quote → ⊥

head_unquoted : (b : ℕ) (s : List ℕ) → NoQuote (b ∷ s) → b ≡ quote → ⊥
head_unquoted b s h e = h 0 (omega arith) e

tail_unquoted : (b : ℕ) (s : List ℕ) → NoQuote (b ∷ s) → NoQuote s
tail_unquoted b s h i inside e = h (suc i) (omega arith) e

-- then nothing of it is doubled
pub undone_unquoted : (name : List ℕ) → NoQuote name → undone name ≡ name
unfolding undone
undone_unquoted [] h = refl
undone_unquoted (b ∷ s) h =
    undone_byte b s (ne_eqb b quote (head_unquoted b s h)) ∙ ap (λ (t : List ℕ). b ∷ t) (undone_unquoted s (tail_unquoted b s h))

name_body : (name : List ℕ) (at : ℕ) (rest : List ℕ) → NoQuote name → Body at (name ++ rest) (at + length name) rest
name_body [] at rest h =
    let none : at ≡ at + length {A = ℕ} [] = omega arith in
    subst (λ k. Body at rest k rest) none Body.none
name_body (b ∷ s) at rest h =
    let one : at + 1 + length s ≡ at + suc (length s) = omega arith in
    subst (λ k. Body at (b ∷ (s ++ rest)) k rest) one (Body.byte (head_unquoted b s h) (name_body s (at + 1) rest (tail_unquoted b s h)))

-- where a field begins, so many bytes stand before it
begins_behind : {text s : List ℕ} {p : ℕ} → Begins text p s → (before : List ℕ) × (text ≡ before ++ s) × (length before ≡ p)
begins_behind Begins.first = ([], refl, refl)
begins_behind (Begins.later {at = at} {s = s} r) =
    let w = (fields_local r).passed in
    let place : at ≡ 0 + length w.bytes = w.place in
    (w.bytes ++ (comma ∷ []), w.whole ∙ sym (append_assoc w.bytes (comma ∷ []) s), omega (arith, length-append w.bytes (comma ∷ [])))

-- a field that has ended is the first of what is read from there
stops_first : {rest : List ℕ} (f : ℕ × ℕ) (at : ℕ) → Stop rest → (later : List (ℕ × ℕ)) × ((stops rest f at).fields ≡ f ∷ later)
stops_first f at Stop.of_text = ([], refl)
stops_first f at (Stop.at_comma {s}) = ((scan s fresh (at + 1)).fields, refl)
stops_first f at Stop.bare_lf = ([], refl)
stops_first f at Stop.crlf = ([], refl)

-- The name in quotes, and what may follow a field.
module _ (name rest : List ℕ) (unquoted : NoQuote name) (ends : Stop rest) where
  name_field : (at : ℕ) → Field at (quote ∷ (name ++ (quote ∷ rest))) (at + 1) (at + 1 + length name) (at + 1 + length name + 1) rest
  name_field at = Field.escaped (name_body name (at + 1) (quote ∷ rest) unquoted)

  name_read : (at : ℕ) → scan (quote ∷ (name ++ (quote ∷ rest))) fresh at ≡ stops rest (at + 1, at + 1 + length name) (at + 1 + length name + 1)
  name_read at = field_read at (at + 1) (at + 1 + length name) (at + 1 + length name + 1) _ rest (name_field at) ends

  -- wherever a field begins with it, it is a field, and its bytes are the name
  pub name_scanned : (text : List ℕ) (p : ℕ) → Begins text p (quote ∷ (name ++ (quote ∷ rest)))
      → (before : List (ℕ × ℕ)) × (later : List (ℕ × ℕ)) × ((scanned text).fields ≡ before ++ ((p + 1, p + 1 + length name) ∷ later))
  name_scanned text p begins =
      let x = begins_ahead _ p begins in
      let y = stops_first (p + 1, p + 1 + length name) (p + 1 + length name + 1) ends in
      (x.0, y.0, ap (λ (r : Reading). r.fields) (x.1 ∙ ap (ahead x.0) (name_read p)) ∙ ap (λ (l : List (ℕ × ℕ)). x.0 ++ l) y.1)

  pub name_bytes : (text : List ℕ) (p : ℕ) → Begins text p (quote ∷ (name ++ (quote ∷ rest))) → part text (p + 1) (p + 1 + length name) ≡ name
  name_bytes text p begins =
      let x = begins_behind begins in
      let size : length (x.0 ++ (quote ∷ [])) ≡ p + 1 = omega (arith, x.2, length-append x.0 (quote ∷ [])) in
      let all : text ≡ (x.0 ++ (quote ∷ [])) ++ (name ++ (quote ∷ rest)) = x.1 ∙ sym (append_assoc x.0 (quote ∷ []) (name ++ (quote ∷ rest))) in
      ap (λ (t : List ℕ). part t (p + 1) (p + 1 + length name)) all
      ∙ part_at (x.0 ++ (quote ∷ [])) name (quote ∷ rest) (p + 1) (p + 1 + length name) size refl

  pub name_reads : (text : List ℕ) (p : ℕ) (fields : List (ℕ × ℕ)) (next : ℕ) → Begins text p (quote ∷ (name ++ (quote ∷ rest))) → Reads text fields next
      → (before : List (ℕ × ℕ)) × (later : List (ℕ × ℕ)) × (fields ≡ before ++ ((p + 1, p + 1 + length name) ∷ later))
  name_reads text p fields next begins r =
      let x = name_scanned text p begins in
      (x.0, x.1, sym (ap (λ (r : Reading). r.fields) (complete text fields next r)) ∙ x.2)

  -- at the start of the text it is the first field
  pub name_first : (fields : List (ℕ × ℕ)) (next : ℕ) → Reads (quote ∷ (name ++ (quote ∷ rest))) fields next
      → (later : List (ℕ × ℕ)) × (fields ≡ (1, 1 + length name) ∷ later) × (part (quote ∷ (name ++ (quote ∷ rest))) 1 (1 + length name) ≡ name)
  name_first fields next r =
      let y = stops_first (1, 1 + length name) (1 + length name + 1) ends in
      (y.0, ap (λ (r : Reading). r.fields) (sym (complete _ fields next r) ∙ name_read 0) ∙ y.1, name_bytes _ 0 Begins.first)

  -- behind other fields and a comma it is the field after those
  pub name_behind : (text : List ℕ) (at : ℕ) (before : List (ℕ × ℕ)) → Fields 0 text before at (comma ∷ quote ∷ (name ++ (quote ∷ rest)))
      → (fields : List (ℕ × ℕ)) (next : ℕ) → Reads text fields next
      → (later : List (ℕ × ℕ)) × (fields ≡ before ++ ((at + 1 + 1, at + 1 + 1 + length name) ∷ later))
      × (part text (at + 1 + 1) (at + 1 + 1 + length name) ≡ name)
  name_behind text at before rs fields next r =
      let y = stops_first (at + 1 + 1, at + 1 + 1 + length name) (at + 1 + 1 + length name + 1) ends in
      let same : fields ≡ (scanned text).fields = sym (ap (λ (r : Reading). r.fields) (complete text fields next r)) in (
        y.0,
        same
            ∙ (ap (λ (r : Reading). r.fields) (fields_ahead 0 at text _ before rs ∙ ap (ahead before) (name_read (at + 1)))
            ∙ ap (λ (l : List (ℕ × ℕ)). before ++ l) y.1),
        name_bytes text (at + 1) (Begins.later rs),
      )
