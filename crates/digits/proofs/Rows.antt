-- What is found under a number that no row bears: what stands for none, since each row was tried.
use mathlib.Core.Path.{◌≡◌, refl, ◌∙◌}
use mathlib.Core.List.{List, [], ◌∷◌}
use Prim.Native.Nat.{ℕ}
use borrow.Author.Tests.{ne_eqb}
use Rattle.digits.specs.Rows.{under}

-- a number that stands in no row, as the code has it once every row was tried: the first row innermost
abbrev pub Apart : {A : Type 0} → (n : ℕ) → List (ℕ × A) → (before : Type 0) → Type 0
Apart n [] before = before
Apart n (row ∷ rest) before = Apart n rest (before × (n ≡ row.0 → ⊥))

missed : {A : Type 0} (n : ℕ) (rows : List (ℕ × A)) (none : A) (before : Type 0) → Apart n rows before → before × (none ≡ under n rows none)
unfolding under
missed n [] none before apart = (apart, refl)
missed n (row ∷ rest) none before apart =
    let later = missed n rest none (before × (n ≡ row.0 → ⊥)) apart in
    (later.0.0, rw (ne_eqb n row.0 later.0.1) later.1)

pub no_row : {A : Type 0} (n : ℕ) (rows : List (ℕ × A)) (none o : A) (before : Type 0) → Apart n rows before → o ≡ none → o ≡ under n rows none
no_row n rows none o before apart e = e ∙ (missed n rows none before apart).1
