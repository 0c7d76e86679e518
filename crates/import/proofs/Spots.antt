-- The spot behind one byte more.
use mathlib.Core.Path.{◌≡◌, refl, sym, ap, ◌∙◌}
use mathlib.Core.Bool.{Bool, true, false, cond}
use mathlib.Core.List.{List, [], ◌∷◌, ◌++◌}
use Prim.Native.Nat.{ℕ, ◌+◌, ◌≤◌, ◌<◌}
use native.Mathlib.Numerals.{add-one}
use native.Mathlib.Omega.{arith}
use lib.Dec.{eqb}
use lib.ListN.{length, get_or, take, length-append}
use lib.Seq.{take-suc}
use Rattle.import.specs.declared.counts.Spot.{Spot}
use Rattle.import.specs.Spots.{line_on, byte_on, line_after, byte_after, Behind}

line_after-append : (line : ℕ) (a b : List ℕ) → line_after line (a ++ b) ≡ line_after (line_after line a) b
unfolding line_after
line_after-append line [] b = refl
line_after-append line (x ∷ a) b = line_after-append (line_on line x) a b

byte_after-append : (byte : ℕ) (a b : List ℕ) → byte_after byte (a ++ b) ≡ byte_after (byte_after byte a) b
unfolding byte_after
byte_after-append byte [] b = refl
byte_after-append byte (x ∷ a) b = byte_after-append (byte_on byte x) a b

-- no byte leads further on than one
line_near : (x y b : ℕ) → y ≡ line_on x b → y ≤ x + 1
line_near x y b = step (eqb b 10)
  where
    step : (lf : Bool) → y ≡ cond lf (x + 1) x → y ≤ x + 1
    step true e = omega arith
    step false e = omega arith

byte_near : (x y b : ℕ) → y ≡ byte_on x b → y ≤ x + 1
byte_near x y b = step (eqb b 10)
  where
    step : (lf : Bool) → y ≡ cond lf 1 (x + 1) → y ≤ x + 1
    step true e = omega arith
    step false e = omega arith

pub behind_more : (first s r : Spot) (part : List ℕ) (i : ℕ) → Behind first (take i part) s → i < length part → r.line ≡ line_on s.line (get_or part i 0)
    → r.byte ≡ byte_on s.byte (get_or part i 0) → Behind first (take (i + 1) part) r
unfolding line_after byte_after
behind_more first s r part i h inside e e2 =
    let b : ℕ = get_or part i 0 in
    let cut : take (i + 1) part ≡ take i part ++ (b ∷ []) = rw add-one (take-suc part i 0 inside) in
    let size : length (take (i + 1) part) ≡ length (take i part) + 1 = ap length cut ∙ length-append (take i part) (b ∷ []) in
    record {
      line = e ∙ ap (λ (n : ℕ). line_on n b) h.line ∙ sym (ap (line_after first.line) cut ∙ line_after-append first.line (take i part) (b ∷ []));
      byte = e2 ∙ ap (λ (n : ℕ). byte_on n b) h.byte ∙ sym (ap (byte_after first.byte) cut ∙ byte_after-append first.byte (take i part) (b ∷ []));
      line_near = omega (arith, size, h.line_near, line_near s.line r.line b e);
      byte_near = omega (arith, size, h.byte_near, byte_near s.byte r.byte b e2);
    }

pub behind_none : (s : Spot) → Behind s [] s
unfolding line_after byte_after
behind_none s = record { line = refl; byte = refl; line_near = omega arith; byte_near = omega arith }
