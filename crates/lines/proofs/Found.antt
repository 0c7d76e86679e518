-- The line at a place, as the code finds it: each test that fails says that none is there, and where all hold it is the one that is asked for.
use mathlib.Core.Path.{◌≡◌, refl, sym, ap, ◌∙◌}
use mathlib.Core.Bool.{Bool, true, false, ◌&&◌}
use mathlib.Core.List.{List}
use Prim.Native.Nat.{ℕ, ◌+◌, ◌-◌, ◌≤◌, ◌<◌}
use native.Mathlib.Omega.{arith}
use borrow.Author.Tests.{lt-ltb, le-ltb, le-leb, lt-leb, eq-eqb, ne_eqb}
use lib.Dec.{ltb, leb, eqb}
use lib.ListN.{length, get_or, take, drop, length-take, length-drop}
use lib.Seq.{get_or-drop}
use Rattle.digits.specs.Hex.{are_digits, says, lf}
use Rattle.digits.specs.Low.{low_in}
use Rattle.digits.proofs.Digits.{low_says}
use Rattle.lines.specs.Line.{is_line, field, found_at, none_at, line_at}

-- a part, as the code cuts it
pub cut : (text : List ℕ) (at n : ℕ) → take (at + n - at) (drop at text) ≡ take n (drop at text)
cut text at n = let e : at + n - at ≡ n = omega arith in rw e

both_false : (a b : Bool) → b ≡ false → a && b ≡ false
both_false true b e = e
both_false false b e = refl

-- more than sixteen digits are no number of 64 bits
pub too_many : (text : List ℕ) (at n : ℕ) → 16 < n → none_at at ≡ line_at text at n
unfolding line_at
too_many text at n h = rw (lt-leb _ _ h)

no_line : (text : List ℕ) (at n : ℕ) → is_line n (drop at text) ≡ false → none_at at ≡ line_at text at n
unfolding line_at
no_line text at n e = rw (both_false (leb n 16) _ e)

-- the text ends before the line does
pub too_short : (text : List ℕ) (at n : ℕ) → length text - at ≤ n → none_at at ≡ line_at text at n
unfolding is_line
too_short text at n h =
    let u : length (drop at text) ≤ n = simp length-drop (omega arith) in
    no_line text at n (rw (le-ltb n (length (drop at text)) u))

pub at_its_end : (text : List ℕ) (at n : ℕ) → length text ≤ at → none_at at ≡ line_at text at n
at_its_end text at n h = too_short text at n (omega arith)

-- no line feed is behind the digits
pub unended : (text : List ℕ) (at n : ℕ) → (get_or text (at + n) 0 ≡ 10 → ⊥) → none_at at ≡ line_at text at n
unfolding is_line
unended text at n ne =
    let no : eqb (get_or (drop at text) n 0) lf ≡ false = ne_eqb _ _ (λ q. ne (sym (get_or-drop at text n 0) ∙ q)) in
    no_line text at n (both_false (ltb n (length (drop at text))) _ (both_false (are_digits (take n (drop at text))) _ no))

-- one of them is no digit
pub no_digits : (text : List ℕ) (at n : ℕ) (d : Bool) → d ≡ are_digits (take (at + n - at) (drop at text)) → d ≡ false → none_at at ≡ line_at text at n
unfolding is_line
no_digits text at n d e f =
    let other : are_digits (take n (drop at text)) ≡ false = sym (e ∙ ap are_digits (cut text at n)) ∙ f in
    no_line text at n (both_false (ltb n (length (drop at text))) _ (rw other))

-- it is there, and the low bits of its digits say its number
pub found : (text : List ℕ) (at n x : ℕ) (d : Bool) → n ≤ 16 → n < length text - at → get_or text (at + n) 0 ≡ 10
    → d ≡ are_digits (take (at + n - at) (drop at text)) → d ≡ true → x ≡ low_in (take (at + n - at) (drop at text)) → found_at at n x ≡ line_at text at n
unfolding line_at is_line field
found text at n x d few long ends e t ex =
    let u : n < length (drop at text) = simp length-drop (omega arith) in
    let all : are_digits (take n (drop at text)) ≡ true = sym (e ∙ ap are_digits (cut text at n)) ∙ t in
    let short : length (take n (drop at text)) ≤ 16 = simp length-take (omega arith) in
    let lfed : eqb (get_or (drop at text) n 0) lf ≡ true = eq-eqb _ _ (get_or-drop at text n 0 ∙ ends) in
    let is : x ≡ says (take n (drop at text)) = ex ∙ ap low_in (cut text at n) ∙ low_says (take n (drop at text)) all short in
    rw (le-leb _ _ few, lt-ltb _ _ u, all, lfed, is)

-- all the ways that the code goes
pub ruleset ways = (too_many, at_its_end, too_short, unended, no_digits, found)
