-- A line taken apart: its digits, its end and what is behind it; and a field of its digits, which says a number that is written as that field.
use mathlib.Core.Path.{◌≡◌, sym, ap, ◌∙◌}
use mathlib.Core.Bool.{Bool, true, ◌&&◌}
use mathlib.Core.List.{List, ◌∷◌, ◌++◌}
use Prim.Native.Nat.{ℕ, suc, ◌+◌, ◌-◌, ◌*◌, ◌^◌, ◌≤◌, ◌<◌}
use native.Mathlib.Omega.{arith}
use borrow.Author.Tests.{lt-ltb, eq-eqb, ltb-true, eqb-true}
use lib.Dec.{ltb}
use lib.ListN.{length, get_or, take, drop, length-append, length-take, length-drop}
use lib.Seq.{take_at, get_or_at, take-add, drop-drop, split_at}
use Rattle.digits.specs.Hex.{hex, are_digits, says, lf}
use Rattle.digits.proofs.Digits.{and_left, and_right}
use Rattle.digits.proofs.Says.{hex_says, digits_append, says_under, says_append}
use Rattle.lines.specs.Line.{is_line, field}

both : (a b : Bool) → a ≡ true → b ≡ true → a && b ≡ true
both a b p q = rw (p, q)

-- digits and a line feed are a line, whatever comes behind
pub line_of : (n : ℕ) (s rest : List ℕ) → are_digits s ≡ true → length s ≡ n → is_line n (s ++ (lf ∷ rest)) ≡ true
unfolding is_line
line_of n s rest e en =
    let long : n < length (s ++ (lf ∷ rest)) = simp length-append (omega arith) in
    both _ _ (lt-ltb _ _ long) (both _ _ (ap are_digits (take_at s (lf ∷ rest) n en) ∙ e) (eq-eqb _ _ (get_or_at s lf rest 0 n en)))

-- and a line is that
pub record Parts (n : ℕ) (s : List ℕ) : Type 0 where
  pub long : n < length s
  pub digits : are_digits (take n s) ≡ true
  pub parts : s ≡ take n s ++ (lf ∷ drop (suc n) s)

pub line_parts : (n : ℕ) (s : List ℕ) → is_line n s ≡ true → Parts n s
unfolding is_line
line_parts n s e =
    let long = ltb-true n (length s) (and_left _ _ e) in
    let rest = and_right (ltb n (length s)) _ e in
    let ends : get_or s n 0 ≡ lf = eqb-true _ _ (and_right (are_digits (take n s)) _ rest) in
    record { long = long; digits = and_left _ _ rest; parts = split_at s n 0 long ∙ ap (λ b. take n s ++ (b ∷ drop (suc n) s)) ends }

-- a part of the first N digits is digits
pub part_digits : (N at n : ℕ) (s : List ℕ) → at + n ≤ N → are_digits (take N s) ≡ true → are_digits (take n (drop at s)) ≡ true
part_digits N at n s h e =
    let r : ℕ = N - (at + n) in
    let split : N ≡ at + (n + r) = omega arith in
    let whole : take N s ≡ take at s ++ (take n (drop at s) ++ take r (drop n (drop at s))) =
    ap (λ m. take m s) split ∙ take-add at (n + r) s ∙ ap (λ l. take at s ++ l) (take-add n r (drop at s)) in
    let all : are_digits (take at s) && (are_digits (take n (drop at s)) && are_digits (take r (drop n (drop at s)))) ≡ true =
    ap (λ b. are_digits (take at s) && b) (sym (digits_append (take n (drop at s)) (take r (drop n (drop at s)))))
    ∙ sym (digits_append (take at s) (take n (drop at s) ++ take r (drop n (drop at s))))
    ∙ sym (ap are_digits whole) ∙ e in
    and_left _ _ (and_right (are_digits (take at s)) _ all)

module _ (N : ℕ) (text : List ℕ) (l : Parts N text) where
  part_long : (at n : ℕ) → at + n ≤ N → length (take n (drop at text)) ≡ n
  part_long at n h = simp (length-take, length-drop) (omega (arith, l.long))

  -- a field is written as it was read, and says less than its digits can
  pub field_back : (at n : ℕ) → at + n ≤ N → hex n (field at n text) ≡ take n (drop at text)
  unfolding field
  field_back at n h = hex_says n (take n (drop at text)) (part_digits N at n text h l.digits) (part_long at n h)

  pub field_under : (at n : ℕ) → at + n ≤ N → field at n text < 16 ^ n
  unfolding field
  field_under at n h = says_under n (take n (drop at text)) (part_digits N at n text h l.digits) (part_long at n h)

  -- a field, and what is left of the line
  pub field_next : (at n m : ℕ) → at + n ≤ N → take (n + m) (drop at text) ≡ hex n (field at n text) ++ take m (drop (at + n) text)
  field_next at n m h = take-add n m (drop at text) ∙ rw (field_back at n h, drop-drop n at text)

  -- two fields that meet are one
  pub field_join : (at n m : ℕ) → at + n + m ≤ N → field at (n + m) text ≡ field at n text * 16 ^ m + field (at + n) m text
  unfolding field
  field_join at n m h =
      let e : length (take m (drop (at + n) text)) ≡ m = part_long (at + n) m h in
      ap says (take-add n m (drop at text))
      ∙ rw (drop-drop n at text) (says_append (take n (drop at text)) (take m (drop (at + n) text)))
      ∙ ap (λ k. says (take n (drop at text)) * 16 ^ k + says (take m (drop (at + n) text))) e
