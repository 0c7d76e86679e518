-- The fields of a line: a part of a run of digits is digits, and one of sixteen at most says its number.
use mathlib.Core.Path.{◌≡◌, refl, sym, ◌∙◌}
use mathlib.Core.Bool.{true}
use mathlib.Core.List.{List, [], ◌∷◌}
use Prim.Native.Nat.{ℕ, zero, suc, ◌≤◌}
use native.Mathlib.Omega.{arith}
use lib.ListN.{length, take, drop, length-take}
use Rattle.digits.specs.Hex.{is_digit, are_digits, says, number_in}
use Rattle.digits.proofs.Digits.{and_left, and_right, number_says}

digits_take : (k : ℕ) (s : List ℕ) → are_digits s ≡ true → are_digits (take k s) ≡ true
digits_take zero s e = refl
digits_take (suc k) [] e = refl
digits_take (suc k) (b ∷ s) e = rw (and_left (is_digit b) _ e) (digits_take k s (and_right (is_digit b) _ e))

digits_drop : (k : ℕ) (s : List ℕ) → are_digits s ≡ true → are_digits (drop k s) ≡ true
digits_drop zero s e = e
digits_drop (suc k) [] e = refl
digits_drop (suc k) (b ∷ s) e = digits_drop k s (and_right (is_digit b) _ e)

-- a field of a line that is digits
pub field_says : (from k : ℕ) (l : List ℕ) → are_digits l ≡ true → k ≤ 16 → (x : ℕ) → x ≡ number_in (take k (drop from l)) → x ≡ says (take k (drop from l))
field_says from k l all h x e =
    let short : length (take k (drop from l)) ≤ 16 = simp length-take (omega arith) in
    e ∙ sym (number_says (take k (drop from l)) _ short (sym (digits_take k (drop from l) (digits_drop from l all))) refl)
