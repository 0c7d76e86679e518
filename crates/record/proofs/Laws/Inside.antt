-- What a reading tells of a place lies in the text: where the next record starts, and where this one goes wrong. By the scan, byte by byte.
use mathlib.Core.Path.{◌≡◌, refl}
use mathlib.Core.Bool.{Bool, true, false, cond, ◌&&◌}
use mathlib.Core.List.{List, [], ◌∷◌}
use Prim.Native.Nat.{ℕ, suc, ◌+◌, ◌≤◌}
use native.Mathlib.Omega.{arith}
use lib.Dec.{eqb}
use lib.ListN.{length}
use Rattle.record.specs.Grammar.{comma, quote, cr, lf}
use Rattle.record.specs.Scan.{Reading, special, starts, stop, State, fresh, plain, quoted, closed, scan, scanned}
use Rattle.record.specs.Steps.{place_of}

Low : (n : ℕ) → Reading → Type 0
Low n r = place_of r.ending ≤ n

either : (n : ℕ) (c : Bool) (x y : Reading) → (c ≡ true → Low n x) → Low n y → Low n (cond c x y)
either n true x y p q = p refl
either n false x y p q = q

two_left : (is : Bool) (s : List ℕ) → is && starts lf s ≡ true → 1 ≤ length s
two_left false s e = absurd (let z : ◌≡◌ {A = ℕ} 0 1 = cc in omega arith)
two_left true [] e = absurd (let z : ◌≡◌ {A = ℕ} 0 1 = cc in omega arith)
two_left true (b ∷ s) e = omega arith

stop_low : (n : ℕ) (f : ℕ × ℕ) (at b : ℕ) (s : List ℕ) (later : Reading) → at + suc (length s) ≡ n → Low n later → Low n (stop f at b s later)
unfolding Low
stop_low n f at b s later size low =
    either n (eqb b comma) _ _ (λ _. low)
    (either n (eqb b lf) _ _ (λ _. omega arith)
    (either n (eqb b cr && starts lf s) _ _ (λ e. let two = two_left (eqb b cr) s e in omega arith) (omega arith)))

-- an opening quote lies behind the place
Behind : State → (at : ℕ) → Type 0
Behind fresh at = Unit {0}
Behind (plain a) at = Unit {0}
Behind (quoted q) at = q ≤ at
Behind (closed q e) at = q ≤ at

scan_low : (n : ℕ) (s : List ℕ) (st : State) (at : ℕ) → at + length s ≡ n → Behind st at → Low n (scan s st at)
unfolding Low Behind scan
scan_low n [] fresh at size b = omega arith
scan_low n [] (plain a) at size b = omega arith
scan_low n [] (quoted q) at size b = omega arith
scan_low n [] (closed q e) at size b = omega arith
scan_low n (b ∷ s) fresh at size h =
    either n (eqb b quote) _ _ (λ _. scan_low n s (quoted at) (at + 1) (omega arith) (omega arith))
    (either n (special b) _ _ (λ _. stop_low n (at, at) at b s _ size (scan_low n s fresh (at + 1) (omega arith) tt)) (scan_low n s (plain at) (at + 1) (omega arith) tt))
scan_low n (b ∷ s) (plain a) at size h =
    either n (special b) _ _ (λ _. stop_low n (a, at) at b s _ size (scan_low n s fresh (at + 1) (omega arith) tt)) (scan_low n s (plain a) (at + 1) (omega arith) tt)
scan_low n (b ∷ s) (quoted q) at size h =
    either n (eqb b quote) _ _ (λ _. scan_low n s (closed q at) (at + 1) (omega arith) (omega arith)) (scan_low n s (quoted q) (at + 1) (omega arith) (omega arith))
scan_low n (b ∷ s) (closed q e) at size h =
    either n (eqb b quote) _ _ (λ _. scan_low n s (quoted q) (at + 1) (omega arith) (omega arith))
    (stop_low n (q + 1, e) at b s _ size (scan_low n s fresh (at + 1) (omega arith) tt))

pub place_inside : (text : List ℕ) → place_of (scanned text).ending ≤ length text
unfolding Low Behind
place_inside text = scan_low (length text) text fresh 0 (omega arith) tt
