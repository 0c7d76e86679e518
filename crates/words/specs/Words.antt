-- Words as bytes, so that a line can be written as it is printed; and a number's decimal digits.
use Rattle.std.specs.Prelude.{ℕ, zero, suc, ◌+◌, ◌/◌, ◌%◌, cond, List, [], ◌∷◌, ◌++◌, ltb, eqb}
use Prim.Native.Char.{code}
use Prim.Native.String.{String, [] as none, ◌∷◌ as ◌then◌}

abbrev pub bytes : String → List ℕ
bytes none = []
bytes (c then s) = code c ∷ bytes s

-- A digit below 10 alone; of other numbers the last digit, after those of a tenth. A number has fewer digits than it counts, but for 0.
unfoldable pub decimal_in : (most n : ℕ) → List ℕ
decimal_in zero n = (48 + n) ∷ []
decimal_in (suc most) n = cond (ltb n 10) ((48 + n) ∷ []) (decimal_in most (n / 10) ++ ((48 + n % 10) ∷ []))

unfoldable pub decimal : (n : ℕ) → List ℕ
decimal n = decimal_in n n

-- a number, and words right behind it
unfoldable pub numbered : (n : ℕ) (words : List ℕ) → List ℕ
numbered n words = decimal n ++ words

-- so many of something
unfoldable pub several : (n : ℕ) (what : List ℕ) → List ℕ
several n what = decimal n ++ (bytes " " ++ (what ++ cond (eqb n 1) [] (bytes "s")))
