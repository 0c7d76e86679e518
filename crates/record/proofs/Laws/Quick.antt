-- The scan once more, so that a worked case computes: what a byte does not lead to waits, and is not read. Equation by equation.
use mathlib.Core.Path.{◌≡◌, refl, ◌∙◌}
use mathlib.Core.Bool.{cond}
use mathlib.Core.List.{List, [], ◌∷◌}
use Prim.Native.Nat.{ℕ, ◌+◌}
use lib.Dec.{eqb}
use Rattle.record.specs.Grammar.{quote}
use Rattle.record.specs.Scan.{Reading, up_to, special, stop, State, fresh, plain, quoted, closed, scan, scanned, done, unclosed}

unfoldable pub quick : List ℕ → State → (at : ℕ) → Reading
quick [] fresh at = up_to ((at, at) ∷ []) (done at)
quick [] (plain a) at = up_to ((a, at) ∷ []) (done at)
quick [] (quoted q) at = up_to [] (unclosed q)
quick [] (closed q e) at = up_to ((q + 1, e) ∷ []) (done at)
quick (b ∷ s) fresh at =
    let opens = quick s (quoted at) (at + 1) in
    let goes_on = quick s (plain at) (at + 1) in
    let behind = quick s fresh (at + 1) in
    let stops = stop (at, at) at b s behind in
    let other = cond (special b) stops goes_on in
    cond (eqb b quote) opens other
quick (b ∷ s) (plain a) at =
    let goes_on = quick s (plain a) (at + 1) in
    let behind = quick s fresh (at + 1) in
    let stops = stop (a, at) at b s behind in
    cond (special b) stops goes_on
quick (b ∷ s) (quoted q) at =
    let closes = quick s (closed q at) (at + 1) in
    let goes_on = quick s (quoted q) (at + 1) in
    cond (eqb b quote) closes goes_on
quick (b ∷ s) (closed q e) at =
    let goes_on = quick s (quoted q) (at + 1) in
    let behind = quick s fresh (at + 1) in
    let stops = stop (q + 1, e) at b s behind in
    cond (eqb b quote) goes_on stops

same : (s : List ℕ) (st : State) (at : ℕ) → scan s st at ≡ quick s st at
unfolding scan quick
same [] fresh at = refl
same [] (plain a) at = refl
same [] (quoted q) at = refl
same [] (closed q e) at = refl
same (b ∷ s) fresh at = rw (same s (quoted at) (at + 1), same s (plain at) (at + 1), same s fresh (at + 1)) refl
same (b ∷ s) (plain a) at = rw (same s (plain a) (at + 1), same s fresh (at + 1)) refl
same (b ∷ s) (quoted q) at = rw (same s (closed q at) (at + 1), same s (quoted q) (at + 1)) refl
same (b ∷ s) (closed q e) at = rw (same s (quoted q) (at + 1), same s fresh (at + 1)) refl

-- a text worked out
pub worked : (text : List ℕ) (r : Reading) → quick text fresh 0 ≡ r → scanned text ≡ r
worked text r e = same text fresh 0 ∙ e
