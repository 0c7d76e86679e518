-- A record read byte by byte: what the code is held against. It need not be believed: that this is the grammar is proved (proofs/Theorems/Sound, Complete).
use Rattle.std.specs.Prelude.{ℕ, ◌+◌, Bool, false, cond, ◌&&◌, ◌||◌, List, [], ◌∷◌, eqb}
use Rattle.record.specs.Grammar.{comma, quote, cr, lf}

-- how a reading comes to its end: with the record, and where the next one starts; at a byte that may not stand there; inside a quote, opened there,
-- that is never closed
pub data Ending : Type 0 where
  done : (next : ℕ) → Ending
  bad : (at : ℕ) → Ending
  unclosed : (at : ℕ) → Ending

-- the fields up to there, where each starts and ends
pub record Reading : Type 0 where
  pub fields : List (ℕ × ℕ)
  pub ending : Ending

abbrev pub up_to : (fields : List (ℕ × ℕ)) → Ending → Reading
up_to fields ending = record { fields = fields; ending = ending }

-- one more field before the others
abbrev pub more : (field : ℕ × ℕ) → Reading → Reading
more f r = up_to (f ∷ r.fields) r.ending

-- no byte of a field that is not quoted
abbrev pub special : (b : ℕ) → Bool
special b = eqb b comma || (eqb b quote || (eqb b cr || eqb b lf))

abbrev pub starts : (b : ℕ) (s : List ℕ) → Bool
starts b [] = false
starts b (c ∷ s) = eqb c b

-- The byte b stands right after the field f, at a position; the bytes s follow. After a comma comes what is read later.
abbrev pub stop : (f : ℕ × ℕ) (at b : ℕ) (s : List ℕ) (later : Reading) → Reading
stop f at b s later =
    cond (eqb b comma) (more f later)
    (cond (eqb b lf) (up_to (f ∷ []) (done (at + 1)))
    (cond (eqb b cr && starts lf s) (up_to (f ∷ []) (done (at + 2))) (up_to (f ∷ []) (bad at))))

-- before a field; in a field that is not quoted; behind a quote that opened one; behind a quote that may close it
pub data State : Type 0 where
  fresh : State
  plain : (start : ℕ) → State
  quoted : (opening : ℕ) → State
  closed : (opening end : ℕ) → State

unfoldable pub scan : List ℕ → State → (at : ℕ) → Reading
scan [] fresh at = up_to ((at, at) ∷ []) (done at)
scan [] (plain a) at = up_to ((a, at) ∷ []) (done at)
scan [] (quoted q) at = up_to [] (unclosed q)
scan [] (closed q e) at = up_to ((q + 1, e) ∷ []) (done at)
scan (b ∷ s) fresh at =
    cond (eqb b quote) (scan s (quoted at) (at + 1))
    (cond (special b) (stop (at, at) at b s (scan s fresh (at + 1))) (scan s (plain at) (at + 1)))
scan (b ∷ s) (plain a) at = cond (special b) (stop (a, at) at b s (scan s fresh (at + 1))) (scan s (plain a) (at + 1))
scan (b ∷ s) (quoted q) at = cond (eqb b quote) (scan s (closed q at) (at + 1)) (scan s (quoted q) (at + 1))
scan (b ∷ s) (closed q e) at = cond (eqb b quote) (scan s (quoted q) (at + 1)) (stop (q + 1, e) at b s (scan s fresh (at + 1)))

abbrev pub scanned : (text : List ℕ) → Reading
scanned text = scan text fresh 0
