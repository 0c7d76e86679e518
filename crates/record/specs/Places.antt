-- Where the fields of a record start, and where they end: what goes on the two vectors.
use Rattle.std.specs.Prelude.{ℕ, List, [], ◌∷◌}

unfoldable pub firsts : List (ℕ × ℕ) → List ℕ
firsts [] = []
firsts (f ∷ fields) = f.0 ∷ firsts fields

unfoldable pub lasts : List (ℕ × ℕ) → List ℕ
lasts [] = []
lasts (f ∷ fields) = f.1 ∷ lasts fields
