-- What a record of comma-separated text is: RFC 4180, section 2, rule by rule as its grammar has it. A place of the text is a position with the
-- bytes from there on; a rule leads from a place, at and s, to a later one, to and t.
use Rattle.std.specs.Prelude.{ℕ, ◌+◌, ◌≡◌, List, [], ◌∷◌}

abbrev pub comma : ℕ
comma = 44

abbrev pub quote : ℕ
quote = 34

abbrev pub cr : ℕ
cr = 13

abbrev pub lf : ℕ
lf = 10

-- TEXTDATA, widened to every byte that the rules below do not use themselves
pub record Textdata (b : ℕ) : Type 0 where
  pub no_comma : b ≡ comma → ⊥
  pub no_quote : b ≡ quote → ⊥
  pub no_cr : b ≡ cr → ⊥
  pub no_lf : b ≡ lf → ⊥

-- non-escaped = *TEXTDATA
pub data NonEscaped : (at : ℕ) (s : List ℕ) (to : ℕ) (t : List ℕ) → Type 0 where
  none : {at : ℕ} {s : List ℕ} → NonEscaped at s at s
  textdata : {at to b : ℕ} {s t : List ℕ} → Textdata b → NonEscaped (at + 1) s to t → NonEscaped at (b ∷ s) to t

-- *(TEXTDATA / COMMA / CR / LF / 2DQUOTE): what stands between two quotes
pub data Body : (at : ℕ) (s : List ℕ) (to : ℕ) (t : List ℕ) → Type 0 where
  none : {at : ℕ} {s : List ℕ} → Body at s at s
  byte : {at to b : ℕ} {s t : List ℕ} → (b ≡ quote → ⊥) → Body (at + 1) s to t → Body at (b ∷ s) to t
  two_quotes : {at to : ℕ} {s t : List ℕ} → Body (at + 2) s to t → Body at (quote ∷ quote ∷ s) to t

-- field = DQUOTE body DQUOTE / non-escaped; a and e are where its bytes start and end, inside the quotes
pub data Field : (at : ℕ) (s : List ℕ) (a e : ℕ) (to : ℕ) (t : List ℕ) → Type 0 where
  escaped : {at e : ℕ} {s t : List ℕ} → Body (at + 1) s e (quote ∷ t) → Field at (quote ∷ s) (at + 1) e (e + 1) t
  non_escaped : {at e : ℕ} {s t : List ℕ} → NonEscaped at s e t → Field at s at e e t

-- record = field *(COMMA field), with where each field starts and ends
pub data Fields : (at : ℕ) (s : List ℕ) (fields : List (ℕ × ℕ)) (to : ℕ) (t : List ℕ) → Type 0 where
  last : {at a e to : ℕ} {s t : List ℕ} → Field at s a e to t → Fields at s ((a, e) ∷ []) to t
  and_more : {at a e mid to : ℕ} {s m t : List ℕ} {fields : List (ℕ × ℕ)}
      → Field at s a e mid (comma ∷ m) → Fields (mid + 1) m fields to t → Fields at s ((a, e) ∷ fields) to t

-- a record ends with CRLF, LF or the text; next is where the next one starts
pub data Ends : (at : ℕ) (s : List ℕ) (next : ℕ) → Type 0 where
  crlf : {at : ℕ} {s : List ℕ} → Ends at (cr ∷ lf ∷ s) (at + 2)
  bare_lf : {at : ℕ} {s : List ℕ} → Ends at (lf ∷ s) (at + 1)
  of_text : {at : ℕ} → Ends at [] at

-- from a place on, a record of these fields, and where the next one starts
pub data From : (at : ℕ) (s : List ℕ) (fields : List (ℕ × ℕ)) (next : ℕ) → Type 0 where
  from : {at to next : ℕ} {s t : List ℕ} {fields : List (ℕ × ℕ)} → Fields at s fields to t → Ends to t next → From at s fields next

-- the text starts with a record of these fields; and whether it starts with any
abbrev pub Reads : (text : List ℕ) (fields : List (ℕ × ℕ)) (next : ℕ) → Type 0
Reads text fields next = From 0 text fields next

abbrev pub Fits : (text : List ℕ) → Type 0
Fits text = (fields : List (ℕ × ℕ)) × (next : ℕ) × Reads text fields next
