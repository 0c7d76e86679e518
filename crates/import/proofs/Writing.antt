-- Bytes as they are shown, written one behind another: each behind those before it.
use mathlib.Core.Path.{◌≡◌, refl, sym, ap, ◌∙◌}
use mathlib.Core.Bool.{true, false, ◌||◌}
use mathlib.Core.List.{List, [], ◌∷◌, ◌++◌}
use Prim.Native.Nat.{ℕ, ◌+◌, ◌≤◌, ◌<◌}
use Rattle.std.proofs.Common.{append_assoc}
use Rattle.std.proofs.lemmas.List.{append-nil}
use native.Mathlib.Numerals.{add-one}
use native.Mathlib.Omega.{arith}
use lib.Dec.{eqb, ltb}
use lib.ListN.{length, get_or, set, take}
use lib.Seq.{take-suc}
use Rattle.digits.specs.Hex.{hex}
use Rattle.digits.specs.Put.{put, put_whole}
use Rattle.digits.proofs.Puts.{length_put, put_fits, length_hex}
use Rattle.words.specs.Words.{bytes}
use Rattle.words.specs.Wrote.{Wrote}
use Rattle.words.proofs.Writing.{wrote_none, wrote_one, wrote_then}
use Rattle.import.specs.Lines.{shown, all_shown}

all_shown-append : (s t : List ℕ) → all_shown (s ++ t) ≡ all_shown s ++ all_shown t
unfolding all_shown
all_shown-append [] t = refl
all_shown-append (b ∷ s) t = ap (λ (u : List ℕ). shown b ++ u) (all_shown-append s t) ∙ sym (append_assoc (shown b) (all_shown s) (all_shown t))

-- of a loop that writes each byte of a text as it is shown
pub shown_first : {a : List ℕ} {at : ℕ} → Wrote a at (all_shown []) at a
unfolding all_shown
shown_first = wrote_none

pub shown_more : {a b c : List ℕ} {at end e : ℕ} (text : List ℕ) (i : ℕ) → Wrote a at (all_shown (take i text)) end b → i < length text → Wrote b end (shown (get_or text i 0)) e c
    → Wrote a at (all_shown (take (i + 1) text)) e c
unfolding all_shown
shown_more text i p h q =
    let cut : take (i + 1) text ≡ take i text ++ (get_or text i 0 ∷ []) = rw add-one (take-suc text i 0 h) in
    rw (cut, all_shown-append, append-nil) (wrote_then p q)

-- a byte that is shown by its digits, and one as it is
pub shown_hex : {a mid : List ℕ} {at m : ℕ} (b : List ℕ) (x : ℕ) → ltb x 32 || (eqb x 127 || eqb x 92) ≡ true → Wrote a at (bytes "\\x") m mid → at + 4 ≤ length a
    → b ≡ put_whole mid m (hex 2 x) → Wrote a at (shown x) (m + 2) b
unfolding shown
shown_hex {a} {mid} {at} {m} b x test two room e =
    let is : b ≡ put mid m (hex 2 x) = e ∙ sym (put_fits mid m 2 x (omega (arith, two.behind, two.long))) in
    let digits : Wrote mid m (hex 2 x) (m + 2) b = record {
      bytes = is;
      behind = omega (arith, length_hex 2 x);
      long = ap length is ∙ length_put mid m (hex 2 x);
    } in
    rw test (wrote_then two digits)

pub shown_plain : (a : List ℕ) (at x : ℕ) → ltb x 32 || (eqb x 127 || eqb x 92) ≡ false → Wrote a at (shown x) (at + 1) (set a at x)
unfolding shown
shown_plain a at x test = rw test (wrote_one a at x)
