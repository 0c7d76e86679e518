-- The code that looks for the first fault, each of its tests against what a fault is.
use mathlib.Core.Path.{◌≡◌, refl, sym, ap, ◌∙◌}
use mathlib.Core.Bool.{Bool, true, false, not, cond}
use mathlib.Core.List.{List}
use Prim.Native.Nat.{ℕ, zero, suc, ◌+◌, ◌-◌, ◌^◌, ◌≤◌, ◌<◌, min}
use native.Mathlib.Omega.{arith}
use borrow.Author.Tests.{lt-ltb, le-ltb, le-leb}
use lib.Dec.{ltb}
use lib.ListN.{length, get_or, take, drop, length-take, length-drop, drop_of_length-le}
use lib.Seq.{drop-cons}
use Rattle.std.proofs.lemmas.List.{get_or-take, take_all}
use Rattle.std.specs.Prelude.{Ok, Err, is_some}
use Rattle.digits.specs.Hex.{is_digit, number_in}
use Rattle.lines.specs.declared.Step.{Step}
use Rattle.lines.specs.Line.{is_line, field, line_at}
use Rattle.lines.proofs.Found.{cut}
use Rattle.lines.proofs.Parts.{line_parts, part_digits}
use Rattle.stored.proofs.Judging.{is_line_law}
use Rattle.show.specs.declared.faults.Expected.TheVariants.{ADigit, LineEnd, TextEnd}
use Rattle.show.specs.declared.faults.Fault.{Fault}
use Rattle.show.specs.Faults.{Judged, fault_at, sound, leading, line_fault, slots_fault, fault}

-- DIGITS THAT COME FIRST: those found, with those that are left, are always all
none_left : (rest : List ℕ) (i n : ℕ) → length rest ≤ i → leading n (drop i rest) ≡ 0
unfolding leading
none_left rest i zero h = refl
none_left rest i (suc n) h = rw (drop_of_length-le rest {i = i} h)

not_not : (b : Bool) → not (not b) ≡ b
not_not true = refl
not_not false = refl

module _ (rest : List ℕ) (n i v : ℕ) (is : i + leading (n - i) (drop i rest) ≡ v) where
  leading_end : min n (length rest) ≤ i → i ≡ v
  unfolding leading
  leading_end h = go (n - i) refl
    where
      go : (k : ℕ) → n - i ≡ k → i ≡ v
      go zero e = let z = rw e at is in omega arith
      go (suc k) e = let z = none_left rest i (n - i) (omega arith) in omega arith

  -- m is how many are looked at
  module _ (m : ℕ) (em : m ≡ min n (length rest)) (some : i < length (take m rest)) (d : Bool) (ed : d ≡ not (is_digit (get_or (take m rest) i 0))) where
    within : (i < n) × (i < length rest)
    within = let long = length-take m rest in (omega arith, omega arith)

    here : leading (n - i) (drop i rest) ≡ cond (not d) (suc (leading (n - (i + 1)) (drop (i + 1) rest))) 0
    unfolding leading
    here =
        let one : n - i ≡ suc (n - (i + 1)) = omega (arith, within.0) in
        let next : i + 1 ≡ suc i = omega arith in
        let there : i < length rest = within.1 in
        let seen : get_or (take m rest) i 0 ≡ get_or rest i 0 = get_or-take m rest i 0 (omega (arith, within.0)) in
        let is_one : is_digit (get_or rest i 0) ≡ not d = sym (rw (ed, seen) (not_not _)) in
        rw (one, next, drop-cons rest i 0, ← is_one) refl

    pub leading_stop : d ≡ true → i ≡ v
    leading_stop bad = let z = rw bad at here in omega arith

    pub leading_turn : d ≡ false → (i + 1) + leading (n - (i + 1)) (drop (i + 1) rest) ≡ v
    leading_turn good = let z = rw good at here in omega arith

  pub leading_all : (m : ℕ) → m ≡ min n (length rest) → length (take m rest) ≤ i → i ≤ length (take m rest) → m ≡ v
  leading_all m em end few = let long = length-take m rest in let z = leading_end (omega arith) in omega arith

-- A LINE
module _ (rest : List ℕ) (n line : ℕ) (s : Step) (few : n ≤ 16) (es : s ≡ line_at rest 0 n) (b : Bool) (eb : b ≡ is_some s.line) where
  found_line : b ≡ is_line n rest
  found_line = eb ∙ ap (λ (s : Step). is_some s.line) es ∙ is_line_law rest 0 n few

  pub line_sound : (r : Judged) → b ≡ true → r ≡ sound → r ≡ line_fault line n rest
  unfolding line_fault
  line_sound r t e = rw (sym found_line ∙ t) e

  pub line_digit : (r : Judged) (k : ℕ) → b ≡ false → k ≡ leading n rest → k < n → r ≡ fault_at line (k + 1) ADigit → r ≡ line_fault line n rest
  unfolding line_fault
  line_digit r k other ek lt e = rw (sym found_line ∙ other, ← ek, lt-ltb k n lt) e

  pub line_end_law : (r : Judged) (k : ℕ) → b ≡ false → k ≡ leading n rest → n ≤ k → r ≡ fault_at line (n + 1) LineEnd → r ≡ line_fault line n rest
  unfolding line_fault
  line_end_law r k other ek le e = rw (sym found_line ∙ other, ← ek, le-ltb k n le) e

-- a line without a fault, and one with a fault
module _ (line n : ℕ) (rest : List ℕ) (r : Judged) (e : r ≡ line_fault line n rest) where
  pub line_was : {u : Unit {0}} → r ≡ Ok u → is_line n rest ≡ true
  unfolding line_fault
  line_was {u} z = go (is_line n rest) refl
    where
      bad : (b : Bool) (f g : Fault) → r ≡ cond b (Err f) (Err g) → ⊥
      bad true f g e = cc
      bad false f g e = cc

      go : (b : Bool) → is_line n rest ≡ b → is_line n rest ≡ true
      go true is = is
      go false not_one = absurd (bad (ltb (leading n rest) n) _ _ (rw not_one at e))

  pub line_long : {u : Unit {0}} → r ≡ Ok u → n < length rest
  line_long z = (line_parts n rest (line_was z)).long

  pub line_bad : {f : Fault} → r ≡ Err f → is_line n rest ≡ false
  unfolding line_fault
  line_bad {f} z = go (is_line n rest) refl
    where
      go : (b : Bool) → is_line n rest ≡ b → is_line n rest ≡ false
      go true is = let y : r ≡ sound = rw is at e in cc
      go false is = is

-- ITS NUMBERS
pub field_says : (text : List ℕ) (at n r : ℕ) → is_line 16 text ≡ true → at + n ≤ 16 → r ≡ number_in (take (at + n - at) (drop at text)) → r < 16 ^ length (take (at + n - at) (drop at text)) → (r ≡ field at n text) × (r < 16 ^ n)
unfolding field number_in
field_says text at n r line few e small =
    let l = line_parts 16 text line in
    let long : length (take n (drop at text)) ≡ n = simp (length-take, length-drop) (omega (arith, l.long)) in
    let short : length (take n (drop at text)) ≤ 16 = omega arith in
    (e ∙ rw (cut text at n, le-leb _ 16 short, part_digits 16 at n text few l.digits), rw (cut text at n, long) at small)

-- LINE AFTER LINE: the fault of those that are left is always that of all
module _ (rest : List ℕ) (line left : ℕ) (v : Judged) (is : slots_fault line left rest ≡ v) where
  pub slots_turn : (r : Judged) (fewer : ℕ) {u : Unit {0}} → r ≡ line_fault line 8 rest → r ≡ Ok u → left ≡ suc fewer
      → slots_fault (line + 1) fewer (take (length rest - 9) (drop 9 rest)) ≡ v
  unfolding slots_fault
  slots_turn r fewer e z el =
      let all : take (length rest - 9) (drop 9 rest) ≡ drop 9 rest = take_all _ _ (omega (arith, length-drop 9 rest)) in
      rw all (rw (el, line_was line 8 rest r e z) at is)

  pub slots_stop : (r : Judged) (f : Fault) → 0 < left → r ≡ line_fault line 8 rest → r ≡ Err f → Err f ≡ v
  unfolding slots_fault
  slots_stop r f some e z = go left is some
    where
      go : (left : ℕ) → slots_fault line left rest ≡ v → 0 < left → Err f ≡ v
      go zero is some = absurd (omega arith)
      go (suc left) is some = sym z ∙ e ∙ rw (line_bad line 8 rest r e z) at is

  module _ (r : Judged) (none : left ≡ 0) where
    pub slots_more : 0 < length rest → r ≡ fault_at line 1 TextEnd → r ≡ v
    unfolding slots_fault
    slots_more more e = e ∙ rw (none, lt-ltb 0 _ more) at is

    pub slots_end : length rest ≤ 0 → r ≡ sound → r ≡ v
    unfolding slots_fault
    slots_end end e = e ∙ rw (none, le-ltb 0 _ end) at is
