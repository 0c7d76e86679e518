-- The lines of a stored text, put one after another, are the whole text; and how long it is.
use mathlib.Core.Path.{◌≡◌, refl, sym, ap, ◌∙◌}
use mathlib.Core.List.{List, [], ◌∷◌, ◌++◌}
use Prim.Native.Nat.{ℕ, ◌+◌, ◌*◌, ◌≤◌, ◌<◌}
use native.Mathlib.Numerals.{add-one}
use native.Mathlib.Omega.{arith}
use lib.ListN.{length, get_or, set, drop, length-append, drop_of_length-le}
use lib.Seq.{drop-cons}
use Rattle.slots.specs.Layout.{Kind}
use Rattle.table.specs.Tray.{Tray, cap}
use Rattle.digits.specs.Hex.{hex, lf}
use Rattle.digits.specs.Put.{put, put_whole}
use Rattle.digits.proofs.Puts.{put_after, put_within, after_hex, put_ended, length_hex}
use Rattle.stored.specs.Form.{head_in, kind_byte, state_digits, first_line, slot_line, slot_lines, form, size}

-- the numbers of the first line, each where the one before it ends
pub state_put : (text a b e : List ℕ) (cap head len : ℕ) → 17 ≤ length text → a ≡ put_whole text 4 (hex 4 cap) → b ≡ put_whole a 8 (hex 4 head)
    → e ≡ put_whole b 12 (hex 4 len) → set e 16 10 ≡ put text 4 (state_digits cap head len)
unfolding state_digits
state_put text a b e cap head len long ea eb ee =
    let s2 : List ℕ = hex 4 len ++ (lf ∷ []) in
    let s1 : List ℕ = hex 4 head ++ s2 in
    let pa = put_within 17 text a 4 4 cap long ea (omega arith) in
    let pb = put_within 17 a b 8 4 head pa.1 eb (omega arith) in
    let pe = put_within 17 b e 12 4 len pb.1 ee (omega arith) in
    put_ended b e 12 4 len lf pe.0
    ∙ ap (λ t. put t 12 s2) pb.0
    ∙ after_hex a 8 4 head 12 s2 refl
    ∙ ap (λ t. put t 8 s1) pa.0
    ∙ after_hex text 4 4 cap 8 s1 refl

pub first_put : (text a b e : List ℕ) (kind cap head len : ℕ) → 17 ≤ length text → a ≡ put_whole text 0 (hex 2 kind) → b ≡ put_whole a 2 (hex 2 0)
    → e ≡ put b 4 (state_digits cap head len) → e ≡ put text 0 (first_line kind cap head len)
unfolding first_line
first_put text a b e kind cap head len long ea eb ee =
    let pa = put_within 17 text a 0 2 kind long ea (omega arith) in
    let pb = put_within 17 a b 2 2 0 pa.1 eb (omega arith) in
    ee
    ∙ ap (λ t. put t 4 (state_digits cap head len)) pb.0
    ∙ after_hex a 2 2 0 4 (state_digits cap head len) refl
    ∙ ap (λ t. put t 2 (hex 2 0 ++ state_digits cap head len)) pa.0
    ∙ after_hex text 0 2 kind 2 (hex 2 0 ++ state_digits cap head len) refl

length_slot_line : (x : ℕ) → length (slot_line x) ≡ 9
unfolding slot_line
length_slot_line x = length-append (hex 8 x) (lf ∷ []) ∙ omega (arith, length_hex 8 x)

-- a slot's digits and their end are its line
pub line_put : (text mid : List ℕ) (at x : ℕ) → at + 9 ≤ length text → mid ≡ put_whole text at (hex 8 x) → set mid (at + 8) 10 ≡ put text at (slot_line x)
unfolding slot_line
line_put text mid at x long em = put_ended text mid at 8 x lf (put_within (at + 9) text mid at 8 x long em (omega arith)).0

-- slot after slot: the lines that are put, with those that are left put behind them, are always all
pub slots_start : (slots text : List ℕ) (from : ℕ) → put text (from + 9 * 0) (slot_lines (drop 0 slots)) ≡ put text from (slot_lines slots)
slots_start slots text from = let e : from + 9 * 0 ≡ from = omega arith in rw e

pub slots_turn : (slots text mid all : List ℕ) (i from : ℕ) → put text (from + 9 * i) (slot_lines (drop i slots)) ≡ all → i < length slots
    → mid ≡ put text (from + 9 * i) (slot_line (get_or slots i 0)) → put mid (from + 9 * (i + 1)) (slot_lines (drop (i + 1) slots)) ≡ all
unfolding slot_lines
slots_turn slots text mid all i from is lt em =
    let x : ℕ = get_or slots i 0 in
    let at : ℕ = from + 9 * i in
    let left : drop i slots ≡ x ∷ drop (i + 1) slots = rw (add-one, drop-cons slots i 0) in
    let rest : List ℕ = slot_lines (drop (i + 1) slots) in
    ap (λ t. put t (from + 9 * (i + 1)) rest) em
    ∙ put_after text (slot_line x) rest at 9 (from + 9 * (i + 1)) (length_slot_line x) (omega arith)
    ∙ sym (ap (λ s. put text at (slot_lines s)) left)
    ∙ is

pub slots_end : (slots text all : List ℕ) (i at : ℕ) → put text at (slot_lines (drop i slots)) ≡ all → length slots ≤ i → text ≡ all
unfolding put slot_lines
slots_end slots text all i at is le = sym (ap (λ s. put text at (slot_lines s)) (drop_of_length-le slots {i = i} le)) ∙ is

-- how long the lines are
pub length_first : (kind c h n : ℕ) → length (first_line kind c h n) ≡ 17
unfolding first_line state_digits
length_first kind c h n =
    simp length-append (omega (arith, length_hex 2 kind, length_hex 2 0, length_hex 4 c, length_hex 4 h, length_hex 4 n))

pub length_slots : (slots : List ℕ) → length (slot_lines slots) ≡ 9 * length slots
unfolding slot_lines
length_slots [] = refl
length_slots (x ∷ slots) = length-append (slot_line x) (slot_lines slots) ∙ omega (arith, length_slot_line x, length_slots slots)

-- THE TEXT TAKES 17 + 9c BYTES.
pub length_form : (k : Kind) (t : Tray) → length (form k t) ≡ size (cap t)
unfolding form
length_form k t =
    length-append (first_line (kind_byte k) (cap t) (head_in k t.head) t.len) (slot_lines t.slots)
    ∙ omega (arith, length_first (kind_byte k) (cap t) (head_in k t.head) t.len, length_slots t.slots)

-- the first line and the slots' lines, put one after the other, are the form at the start of the text
pub form_put : (k : Kind) (t : Tray) (text mid : List ℕ)
    → mid ≡ put text 0 (first_line (kind_byte k) (cap t) (head_in k t.head) t.len) → put mid 17 (slot_lines t.slots) ≡ put text 0 (form k t)
unfolding form
form_put k t text mid em =
    let first : List ℕ = first_line (kind_byte k) (cap t) (head_in k t.head) t.len in
    ap (λ t'. put t' 17 (slot_lines t.slots)) em
    ∙ put_after text first (slot_lines t.slots) 0 17 17 (length_first (kind_byte k) (cap t) (head_in k t.head) t.len) refl
