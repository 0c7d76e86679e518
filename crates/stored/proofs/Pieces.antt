-- A stored text and its pieces: the numbers of the first line and the slots' lines, found where they were put, and put back as they were found.
use mathlib.Core.Path.{◌≡◌, refl, sym, ap, ◌∙◌}
use mathlib.Core.Bool.{Bool, true, ◌&&◌}
use mathlib.Core.List.{List, [], ◌∷◌, ◌++◌, append_assoc}
use Prim.Native.Nat.{ℕ, zero, suc, ◌+◌, ◌*◌, ◌^◌, ◌<◌}
use native.Mathlib.Omega.{arith}
use lib.ListN.{length, take, drop, length-append, length-take, length-drop}
use lib.Seq.{take_at, drop-append-add}
use Rattle.table.proofs.Laws.Valid.{and_left, and_right}
use Rattle.digits.specs.Hex.{hex, are_digits, says, lf}
use Rattle.digits.proofs.Puts.{length_hex}
use Rattle.digits.proofs.Says.{hex_says, says_hex, digits_hex, digits_append, says_under}
use Rattle.lines.specs.Line.{is_line, field}
use Rattle.lines.proofs.Parts.{Parts, line_of, line_parts, field_next}
use Rattle.stored.specs.Form.{state_digits, first_line, slot_line, slot_lines}
use Rattle.stored.specs.Acceptable.{Words}
use Rattle.stored.specs.Judge.{are_lines, numbers}

-- past a piece of n bytes
past : (p q : List ℕ) (n m : ℕ) → length p ≡ n → drop (n + m) (p ++ q) ≡ drop m q
past p q n m e = rw (← e) (drop-append-add p q m)

both : (a b : Bool) → a ≡ true → b ≡ true → a && b ≡ true
both a b p q = rw (p, q)

-- SLOT LINES
slot_first : (x : ℕ) (rest : List ℕ) → slot_line x ++ rest ≡ hex 8 x ++ (lf ∷ rest)
unfolding slot_line
slot_first x rest = append_assoc (hex 8 x) (lf ∷ []) rest

pub lines_are : (slots : List ℕ) → are_lines (length slots) (slot_lines slots) ≡ true
unfolding are_lines slot_lines
lines_are [] = refl
lines_are (x ∷ slots) =
    let S = slot_lines slots in
    let e = slot_first x S in
    both _ _ (ap (is_line 8) e ∙ line_of 8 (hex 8 x) S (digits_hex 8 x) (length_hex 8 x))
    (ap (λ s. are_lines (length slots) (drop 9 s)) e ∙ ap (are_lines (length slots)) (past (hex 8 x) (lf ∷ S) 8 1 (length_hex 8 x)) ∙ lines_are slots)

pub lines_say : (slots : List ℕ) → Words slots → numbers (length slots) (slot_lines slots) ≡ slots
unfolding numbers slot_lines
lines_say [] w = refl
lines_say (x ∷ slots) w =
    let S = slot_lines slots in
    let e = slot_first x S in
    let one : says (take 8 (slot_line x ++ S)) ≡ x = ap (λ s. says (take 8 s)) e ∙ ap says (take_at (hex 8 x) (lf ∷ S) 8 (length_hex 8 x)) ∙ says_hex 8 x (w 0) in
    let others : drop 9 (slot_line x ++ S) ≡ S = ap (drop 9) e ∙ past (hex 8 x) (lf ∷ S) 8 1 (length_hex 8 x) in
    rw (one, others, lines_say slots (λ i. w (suc i)))

pub length_numbers : (n : ℕ) (s : List ℕ) → length (numbers n s) ≡ n
unfolding numbers
length_numbers zero s = refl
length_numbers (suc n) s = ap suc (length_numbers n (drop 9 s))

pub lines_back : (n : ℕ) (s : List ℕ) → length s ≡ 9 * n → are_lines n s ≡ true → slot_lines (numbers n s) ≡ s
unfolding numbers slot_lines are_lines
lines_back zero [] en e = refl
lines_back zero (x ∷ s) en e = absurd (omega arith)
lines_back (suc n) s en e =
    let l = line_parts 8 s (and_left _ _ e) in
    let eight : length (take 8 s) ≡ 8 = simp length-take (omega (arith, l.long)) in
    let short : length (drop 9 s) ≡ 9 * n = simp length-drop (omega arith) in
    slot_first (says (take 8 s)) (slot_lines (numbers n (drop 9 s)))
    ∙ ap (λ d. d ++ (lf ∷ slot_lines (numbers n (drop 9 s)))) (hex_says 8 (take 8 s) l.digits eight)
    ∙ ap (λ r. take 8 s ++ (lf ∷ r)) (lines_back n (drop 9 s) short (and_right (is_line 8 s) _ e))
    ∙ sym l.parts

pub lines_small : (n : ℕ) (s : List ℕ) → are_lines n s ≡ true → Words (numbers n s)
unfolding numbers are_lines
lines_small zero s e i = omega arith
lines_small (suc n) s e zero =
    let l = line_parts 8 s (and_left _ _ e) in
    let eight : length (take 8 s) ≡ 8 = simp length-take (omega (arith, l.long)) in
    says_under 8 (take 8 s) l.digits eight
lines_small (suc n) s e (suc i) = lines_small n (drop 9 s) (and_right (is_line 8 s) _ e) i

-- THE FIRST LINE IS WRITTEN AS IT WAS READ
module _ (text : List ℕ) (l : Parts 16 text) where
  fields : take 16 text ≡ hex 2 (field 0 2 text) ++ (hex 2 (field 2 2 text) ++ (hex 4 (field 4 4 text) ++ (hex 4 (field 8 4 text) ++ (hex 4 (field 12 4 text) ++ []))))
  fields =
      field_next 16 text l 0 2 14 (omega arith)
      ∙ ap (λ s. hex 2 (field 0 2 text) ++ s) (field_next 16 text l 2 2 12 (omega arith)
      ∙ ap (λ s. hex 2 (field 2 2 text) ++ s) (field_next 16 text l 4 4 8 (omega arith)
      ∙ ap (λ s. hex 4 (field 4 4 text) ++ s) (field_next 16 text l 8 4 4 (omega arith)
      ∙ ap (λ s. hex 4 (field 8 4 text) ++ s) (field_next 16 text l 12 4 0 (omega arith)))))

  pub first_back : field 2 2 text ≡ 0 → first_line (field 0 2 text) (field 4 4 text) (field 8 4 text) (field 12 4 text) ++ drop 17 text ≡ text
  unfolding first_line state_digits
  first_back none =
      let f = rw none at fields in
      simp append_assoc (sym (l.parts ∙ ap (λ s. s ++ (lf ∷ drop 17 text)) f ∙ simp append_assoc))

-- THE FIRST LINE, AS IT WAS WRITTEN
module _ (kind c h n : ℕ) (rest : List ℕ) where
  abbrev pub whole : List ℕ
  whole = first_line kind c h n ++ rest

  abbrev l4 : List ℕ
  l4 = hex 4 n ++ (lf ∷ rest)

  abbrev l3 : List ℕ
  l3 = hex 4 h ++ l4

  abbrev l2 : List ℕ
  l2 = hex 4 c ++ l3

  abbrev l1 : List ℕ
  l1 = hex 2 0 ++ l2

  nested : whole ≡ hex 2 kind ++ l1
  unfolding first_line state_digits
  nested = simp append_assoc

  d2 : drop 2 whole ≡ l1
  d2 = ap (drop 2) nested ∙ past (hex 2 kind) l1 2 0 (length_hex 2 kind)

  more : (m : ℕ) → drop (2 + m) whole ≡ drop m l1
  more m = ap (drop (2 + m)) nested ∙ past (hex 2 kind) l1 2 m (length_hex 2 kind)

  d4 : (m : ℕ) → drop (2 + m) l1 ≡ drop m l2
  d4 m = past (hex 2 0) l2 2 m (length_hex 2 0)

  d8 : (m : ℕ) → drop (4 + m) l2 ≡ drop m l3
  d8 m = past (hex 4 c) l3 4 m (length_hex 4 c)

  d12 : (m : ℕ) → drop (4 + m) l3 ≡ drop m l4
  d12 m = past (hex 4 h) l4 4 m (length_hex 4 h)

  d16 : (m : ℕ) → drop (4 + m) l4 ≡ drop m (lf ∷ rest)
  d16 m = past (hex 4 n) (lf ∷ rest) 4 m (length_hex 4 n)

  pub rest_found : drop 17 whole ≡ rest
  rest_found = more 15 ∙ d4 13 ∙ d8 9 ∙ d12 5 ∙ d16 1

  says_at : (k x at : ℕ) (q : List ℕ) → drop at whole ≡ hex k x ++ q → x < 16 ^ k → field at k whole ≡ x
  unfolding field
  says_at k x at q e small = ap (λ s. says (take k s)) e ∙ ap says (take_at (hex k x) q k (length_hex k x)) ∙ says_hex k x small

  pub kind_found : kind < 256 → field 0 2 whole ≡ kind
  kind_found u = says_at 2 kind 0 l1 nested u

  pub zero_found : field 2 2 whole ≡ 0
  zero_found = says_at 2 0 2 l2 d2 (omega arith)

  pub cap_found : c < 65536 → field 4 4 whole ≡ c
  cap_found u = says_at 4 c 4 l3 (more 2 ∙ d4 0) u

  pub head_found : h < 65536 → field 8 4 whole ≡ h
  head_found u = says_at 4 h 8 l4 (more 6 ∙ d4 4 ∙ d8 0) u

  pub len_found : n < 65536 → field 12 4 whole ≡ n
  len_found u = says_at 4 n 12 (lf ∷ rest) (more 10 ∙ d4 8 ∙ d8 4 ∙ d12 0) u

  abbrev digits : List ℕ
  digits = hex 2 kind ++ (hex 2 0 ++ (hex 4 c ++ (hex 4 h ++ hex 4 n)))

  digits_are : are_digits digits ≡ true
  digits_are = simp (digits_append, digits_hex)

  digits_long : length digits ≡ 16
  digits_long = simp (length-append, length_hex)

  grouped : whole ≡ digits ++ (lf ∷ rest)
  unfolding first_line state_digits
  grouped = simp append_assoc

  pub first_is : is_line 16 whole ≡ true
  first_is = ap (is_line 16) grouped ∙ line_of 16 digits rest digits_are digits_long
