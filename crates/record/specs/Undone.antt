-- A field's own bytes: what stands between its start and its end, with doubled quotes undone.
use Rattle.std.specs.Prelude.{ℕ, ◌-◌, cond, ◌&&◌, List, [], ◌∷◌, eqb, take, drop}
use Rattle.record.specs.Grammar.{quote}

-- of two quotes, one behind the other, one stays; every other byte stays
unfoldable pub undone : List ℕ → List ℕ
undone [] = []
undone (b ∷ []) = b ∷ []
undone (b ∷ c ∷ s) = cond (eqb b quote && eqb c quote) (quote ∷ undone s) (b ∷ undone (c ∷ s))

-- the bytes of a text from a start to an end
abbrev pub part : (text : List ℕ) (start end : ℕ) → List ℕ
part text start end = take (end - start) (drop start text)

-- the fields' own bytes
unfoldable pub own_bytes : (text : List ℕ) (fields : List (ℕ × ℕ)) → List (List ℕ)
own_bytes text [] = []
own_bytes text (f ∷ fields) = undone (part text f.0 f.1) ∷ own_bytes text fields
