-- What stands under a number that was read, in a table of rows.
use Rattle.std.specs.Prelude.{ℕ, cond, List, [], ◌∷◌, eqb}

-- what the row of the number bears, or what stands for none
unfoldable pub under : {A : Type 0} → (n : ℕ) → List (ℕ × A) → (none : A) → A
under n [] none = none
under n (row ∷ rest) none = cond (eqb n row.0) row.1 (under n rest none)
