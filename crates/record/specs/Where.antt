-- Where a text that is no record goes wrong, by the grammar alone.
use Rattle.std.specs.Prelude.{ℕ, ◌+◌, List, [], ◌∷◌, ◌++◌, take}
use Rattle.record.specs.Grammar.{comma, quote, Body, Fields, Fits}

-- no record starts the text, not even with a quote at its end (9); or none does, but one would with a quote at its end (10)
pub record Bad (text : List ℕ) : Type 0 where
  pub no_fit : Fits text → ⊥
  pub not_with_quote : Fits (text ++ (quote ∷ [])) → ⊥

pub record Unclosed (text : List ℕ) : Type 0 where
  pub no_fit : Fits text → ⊥
  pub with_quote : Fits (text ++ (quote ∷ []))

-- Of a text that is bad, the byte at p is at fault: cut before it the text fits, cut behind it it does not, and would not with a quote at its end. (Of a
-- text that fits, a CR with its LF behind it is such a byte too.)
pub record BadAt (text : List ℕ) (p : ℕ) : Type 0 where
  pub before : Fits (take p text)
  pub behind : Bad (take (p + 1) text)

-- a field begins at p: the text does, or a comma stands before it
pub data Begins (text : List ℕ) : (p : ℕ) (s : List ℕ) → Type 0 where
  first : Begins text 0 text
  later : {at : ℕ} {s : List ℕ} {fields : List (ℕ × ℕ)} → Fields 0 text fields at (comma ∷ s) → Begins text (at + 1) s

-- The quote at p is never closed: it opens a field, and all that follows is that field's body
pub data OpenedAt (text : List ℕ) (p : ℕ) : Type 0 where
  opened : {e : ℕ} {s : List ℕ} → Begins text p (quote ∷ s) → Body (p + 1) s e [] → OpenedAt text p
