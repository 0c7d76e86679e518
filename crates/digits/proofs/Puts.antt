-- Bytes put into a text: runs that meet are one run, a byte past a run may be put first, and digits may be put from the last one on.
use mathlib.Core.Path.{◌≡◌, refl, sym, ap, ◌∙◌}
use mathlib.Core.List.{List, [], ◌∷◌, ◌++◌}
use Prim.Native.Nat.{ℕ, zero, suc, ◌+◌, ◌-◌, ◌/◌, ◌%◌, ◌≤◌, ◌<◌}
use native.Mathlib.Nat.{not-suc-le-zero, le_of_suc-le-suc}
use native.Mathlib.Numerals.{add-one}
use native.Mathlib.Omega.{arith}
use borrow.Author.Tests.{le-leb, lt-leb}
use lib.ListN.{length, set, take, drop, length-set, length-append}
use lib.Seq.{take-append_seam}
use Rattle.digits.specs.Hex.{digit, hex}
use Rattle.digits.specs.Put.{put, put_whole}

pub length_put : (text : List ℕ) (at : ℕ) (s : List ℕ) → length (put text at s) ≡ length text
unfolding put
length_put text at [] = refl
length_put text at (b ∷ s) = length_put (set text at b) (at + 1) s ∙ length-set text at b

-- one byte is a run
pub put_one : (text : List ℕ) (at b : ℕ) → put text at (b ∷ []) ≡ set text at b
unfolding put
put_one text at b = refl

-- two runs that meet are one
pub put_join : (text : List ℕ) (at : ℕ) (s s2 : List ℕ) → put (put text at s) (at + length s) s2 ≡ put text at (s ++ s2)
unfolding put
put_join text at [] s2 = ap (λ k. put text k s2) (omega arith)
put_join text at (b ∷ s) s2 = ap (λ k. put (put (set text at b) (at + 1) s) k s2) (omega arith) ∙ put_join (set text at b) (at + 1) s s2

-- stores at two places may change their order
set_swap : (text : List ℕ) (i j b c : ℕ) → i < j → set (set text j c) i b ≡ set (set text i b) j c
set_swap [] i j b c h = refl
set_swap (a ∷ text) zero zero b c h = absurd (not-suc-le-zero h)
set_swap (a ∷ text) zero (suc j) b c h = refl
set_swap (a ∷ text) (suc i) zero b c h = absurd (not-suc-le-zero h)
set_swap (a ∷ text) (suc i) (suc j) b c h = ap (λ (l : List ℕ). a ∷ l) (set_swap text i j b c (le_of_suc-le-suc h))

-- a byte past a run may be put before the run
pub put_past : (text : List ℕ) (at : ℕ) (s : List ℕ) (i b : ℕ) → at + length s ≤ i → put (set text i b) at s ≡ set (put text at s) i b
unfolding put
put_past text at [] i b h = refl
put_past text at (c ∷ s) i b h = ap (λ t. put t (at + 1) s) (set_swap text at i c b (omega arith)) ∙ put_past (set text at c) (at + 1) s i b (omega arith)

pub put_last : (text : List ℕ) (at : ℕ) (s : List ℕ) (b : ℕ) → put (set text (at + length s) b) at s ≡ put text at (s ++ (b ∷ []))
unfolding put
put_last text at s b = put_past text at s (at + length s) b (omega arith) ∙ put_join text at s (b ∷ [])

pub length_hex : (n x : ℕ) → length (hex n x) ≡ n
unfolding hex
length_hex zero x = refl
length_hex (suc n) x = length-append (hex n (x / 16)) _ ∙ omega (arith, length_hex n (x / 16))

-- digits that the text has room for are put, and those that it has none for leave it
pub put_fits : (text : List ℕ) (at n x : ℕ) → at + n ≤ length text → put text at (hex n x) ≡ put_whole text at (hex n x)
unfolding put_whole
put_fits text at n x h = rw (length_hex, le-leb _ _ h)

pub put_stays : (text : List ℕ) (at n x : ℕ) → length text < at + n → text ≡ put_whole text at (hex n x)
unfolding put_whole
put_stays text at n x h = rw (length_hex, lt-leb _ _ h)

-- digits put into a text that is known to have so many bytes: it has as many afterwards
pub put_within : (m : ℕ) (text a : List ℕ) (at n x : ℕ) → m ≤ length text → a ≡ put_whole text at (hex n x) → at + n ≤ m → (a ≡ put text at (hex n x)) × (m ≤ length a)
put_within m text a at n x long e h =
    let is : a ≡ put text at (hex n x) = e ∙ sym (put_fits text at n x (omega arith)) in
    (is, omega (arith, ap length is, length_put text at (hex n x)))

-- what is put right after a run of n bytes, or after n digits
pub put_after : (text s s2 : List ℕ) (at n k : ℕ) → length s ≡ n → at + n ≡ k → put (put text at s) k s2 ≡ put text at (s ++ s2)
put_after text s s2 at n k en ek = ap (λ k. put (put text at s) k s2) (sym (ap (λ m. at + m) en ∙ ek)) ∙ put_join text at s s2

pub after_hex : (text : List ℕ) (at n x k : ℕ) (s : List ℕ) → at + n ≡ k → put (put text at (hex n x)) k s ≡ put text at (hex n x ++ s)
after_hex text at n x k s e = put_after text (hex n x) s at n k (length_hex n x) e

-- a number's digits, and the byte that ends them
pub put_ended : (text mid : List ℕ) (at n x end : ℕ) → mid ≡ put text at (hex n x) → set mid (at + n) end ≡ put text at (hex n x ++ (end ∷ []))
put_ended text mid at n x end em =
    ap (λ t. set t (at + n) end) em ∙ sym (put_one (put text at (hex n x)) (at + n) end) ∙ after_hex text at n x (at + n) (end ∷ []) refl

-- the last of the digits that are left is put, and the others are left
put_digit' : (text : List ℕ) (at n x : ℕ) → put (set text (at + n) (digit (x % 16))) at (hex n (x / 16)) ≡ put text at (hex (suc n) x)
unfolding put hex
put_digit' text at n x = ap (λ k. put (set text (at + k) (digit (x % 16))) at (hex n (x / 16))) (sym (length_hex n (x / 16))) ∙ put_last text at (hex n (x / 16)) _

pub put_digit : (text all : List ℕ) (at n x d : ℕ) → 0 < n → d ≡ digit (x % 16) → put text at (hex n x) ≡ all → put (set text (at + (n - 1)) d) at (hex (n - 1) (x / 16)) ≡ all
put_digit text all at zero x d some e is = absurd (not-suc-le-zero some)
put_digit text all at (suc n) x d some e is = let one : suc n - 1 ≡ n = omega arith in rw (e, one) (put_digit' text at n x) ∙ is

pub put_none : (text all : List ℕ) (at n x : ℕ) → n ≤ 0 → put text at (hex n x) ≡ all → text ≡ all
unfolding put hex
put_none text all at zero x none is = is
put_none text all at (suc n) x none is = absurd (not-suc-le-zero none)

-- a run put at the start is that run, with the bytes after it as they were
put_cons : (a : ℕ) (text : List ℕ) (at : ℕ) (s : List ℕ) → put (a ∷ text) (at + 1) s ≡ a ∷ put text at s
unfolding put
put_cons a text at [] = refl
put_cons a text at (b ∷ s) = rw (add-one at) (rw (← add-one at) (put_cons a (set text at b) (at + 1) s))

pub put_start : (text s : List ℕ) → length s ≤ length text → put text 0 s ≡ s ++ drop (length s) text
unfolding put
put_start text [] h = refl
put_start [] (b ∷ s) h = absurd (not-suc-le-zero h)
put_start (a ∷ text) (b ∷ s) h = put_cons b text 0 s ∙ ap (λ (l : List ℕ). b ∷ l) (put_start text s (le_of_suc-le-suc h))

-- at any place: the bytes before it as they were too
pub put_at : (text : List ℕ) (at : ℕ) (s : List ℕ) → at + length s ≤ length text → put text at s ≡ take at text ++ (s ++ drop (at + length s) text)
put_at text zero s h = let e : 0 + length s ≡ length s = omega arith in rw e (put_start text s (omega arith))
put_at [] (suc at) s h = absurd (let none : suc at + length s ≤ 0 = h in omega arith)
put_at (a ∷ text) (suc at) s h =
    let e : suc at + length s ≡ suc (at + length s) = omega arith in
    rw e (ap (λ k. put (a ∷ text) k s) (sym (add-one at)) ∙ put_cons a text at s ∙ ap (λ (l : List ℕ). a ∷ l) (put_at text at s (le_of_suc-le-suc (rw e at h))))

-- and is there to be read
pub put_read : (text s : List ℕ) → length s ≤ length text → take (length s) (put text 0 s) ≡ s
put_read text s h = ap (take (length s)) (put_start text s h) ∙ take-append_seam s _

-- what `put_hex` needs
pub ruleset putting = (put_stays, put_fits, put_digit)
