-- The list words of paper 01, all zero-based; [..k], [k..] and + are the library's `take`, `drop` and `++`.
use Rattle.std.specs.Prelude.{ℕ, zero, suc, List, [], ◌∷◌, ◌++◌, take, drop, slice_set}

-- x at position i
abbrev pub update : List ℕ → ℕ → ℕ → List ℕ
update xs i x = slice_set xs i x

-- the first i, then x, then the rest
abbrev pub insert_at : List ℕ → ℕ → ℕ → List ℕ
insert_at xs i x = take i xs ++ (x ∷ drop i xs)

-- the list without position i
abbrev pub remove_at : List ℕ → ℕ → List ℕ
remove_at xs i = take i xs ++ drop (suc i) xs

-- f k, f (k + 1), .., n of them
abbrev pub tabulate_from : (ℕ → ℕ) → ℕ → ℕ → List ℕ
tabulate_from f k zero = []
tabulate_from f k (suc n) = f k ∷ tabulate_from f (suc k) n

-- the list of n numbers whose number at j is f j
unfoldable pub tabulate : ℕ → (ℕ → ℕ) → List ℕ
tabulate n f = tabulate_from f 0 n
