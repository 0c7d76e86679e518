-- A list of fields as a writer would write it: each between quotes, its own quotes doubled, with commas between.
use Rattle.std.specs.Prelude.{ℕ, cond, List, [], ◌∷◌, ◌++◌, eqb}
use Rattle.record.specs.Grammar.{comma, quote}

unfoldable pub doubled : List ℕ → List ℕ
doubled [] = []
doubled (b ∷ s) = cond (eqb b quote) (quote ∷ quote ∷ doubled s) (b ∷ doubled s)

abbrev pub quoted_field : List ℕ → List ℕ
quoted_field f = quote ∷ (doubled f ++ (quote ∷ []))

unfoldable pub written : List (List ℕ) → List ℕ
written [] = []
written (f ∷ []) = quoted_field f
written (f ∷ g ∷ fs) = quoted_field f ++ (comma ∷ written (g ∷ fs))
