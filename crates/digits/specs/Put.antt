-- Bytes put into a text one after another, from a place on. All other bytes are as they were, before them and after.
use Rattle.std.specs.Prelude.{ℕ, ◌+◌, cond, List, [], ◌∷◌, leb, length, set}

unfoldable pub put : (text : List ℕ) (at : ℕ) (s : List ℕ) → List ℕ
put text at [] = text
put text at (b ∷ s) = put (set text at b) (at + 1) s

-- the run whole where the text has room for it from there on; else the text as it was
unfoldable pub put_whole : (text : List ℕ) (at : ℕ) (s : List ℕ) → List ℕ
put_whole text at s = cond (leb (at + length s) (length text)) (put text at s) text
