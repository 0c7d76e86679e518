-- The tests of the code that judges a text, each against what is judged: the numbers of the first line, the state, and line after line.
use mathlib.Core.Path.{◌≡◌, refl, sym, ap, ◌∙◌}
use mathlib.Core.Bool.{Bool, true, false, not, ◌||◌}
use mathlib.Core.List.{List}
use Prim.Native.Nat.{ℕ, suc, ◌+◌, ◌-◌, ◌*◌, ◌/◌, ◌%◌, ◌≤◌, ◌<◌}
use native.Mathlib.Omega.{arith}
use borrow.Author.Tests.{ne_eqb, le-leb}
use lib.Dec.{eqb}
use lib.ListN.{length, drop}
use lib.Seq.{drop-drop}
use Rattle.slots.specs.Layout.{Kind, ring, vector}
use Rattle.table.specs.Tray.{valid}
use Rattle.table.proofs.Laws.Valid.{and_left}
use Rattle.std.specs.Prelude.{Some, None, is_some, option_map, cond, ◌&&◌}
use Rattle.lines.specs.declared.Step.{Step}
use Rattle.lines.specs.Line.{is_line, field, found_at, none_at, line_at}
use Rattle.lines.proofs.Parts.{line_parts, field_under, field_join}
use Rattle.stored.specs.declared.judges.First.{First}
use Rattle.stored.specs.Form.{kind_byte}
use Rattle.stored.specs.Judge.{are_lines, is_older, stands, opens, judge, judge_by}
use Rattle.stored.specs.First.{parted, first_of, begins, judged}

-- WHAT THE LINE READER FINDS at a place: a line, or none
pub line_there : (text : List ℕ) (at n : ℕ) → n ≤ 16 → is_line n (drop at text) ≡ true → line_at text at n ≡ found_at at n (field at n text)
unfolding line_at
line_there text at n few e = rw (le-leb n 16 few, e)

pub none_there : (text : List ℕ) (at n : ℕ) → n ≤ 16 → is_line n (drop at text) ≡ false → line_at text at n ≡ none_at at
unfolding line_at
none_there text at n few e = rw (le-leb n 16 few, e)

pub is_line_law : (text : List ℕ) (at n : ℕ) → n ≤ 16 → is_some (line_at text at n).line ≡ is_line n (drop at text)
is_line_law text at n few = go (is_line n (drop at text)) refl
  where
    go : (b : Bool) → is_line n (drop at text) ≡ b → is_some (line_at text at n).line ≡ b
    go true e = ap (λ (s : Step). is_some s.line) (line_there text at n few e)
    go false e = ap (λ (s : Step). is_some s.line) (none_there text at n few e)

-- THE FIRST LINE: its number is taken apart
pub first_made : (text : List ℕ) (s : Step) (x : ℕ) → s ≡ line_at text 0 16 → s.line ≡ Some x → Some (parted x) ≡ first_of text
unfolding first_of
first_made text s x es ex = sym (ap (option_map parted) (sym (ap (λ (s : Step). s.line) es) ∙ ex))

pub first_missed : (text : List ℕ) (s : Step) → s ≡ line_at text 0 16 → s.line ≡ None → None ≡ first_of text
unfolding first_of
first_missed text s es ex = sym (ap (option_map parted) (sym (ap (λ (s : Step). s.line) es) ∙ ex))

abbrev fielded : List ℕ → First
fielded text = record { kind = field 0 2 text; form = field 2 2 text; cap = field 4 4 text; head = field 8 4 text; len = field 12 4 text }

pub first_is : (text : List ℕ) → is_line 16 text ≡ true → first_of text ≡ Some (fielded text)
unfolding first_of
first_is text e =
    let p = line_parts 16 text e in
    let x : ℕ = field 0 16 text in
    let e1 : x ≡ field 0 2 text * 72057594037927936 + field 2 14 text = field_join 16 text p 0 2 14 (omega arith) in
    let e2 : field 2 14 text ≡ field 2 2 text * 281474976710656 + field 4 12 text = field_join 16 text p 2 2 12 (omega arith) in
    let e3 : field 4 12 text ≡ field 4 4 text * 4294967296 + field 8 8 text = field_join 16 text p 4 4 8 (omega arith) in
    let e4 : field 8 8 text ≡ field 8 4 text * 65536 + field 12 4 text = field_join 16 text p 8 4 4 (omega arith) in
    let u0 : field 0 2 text < 256 = field_under 16 text p 0 2 (omega arith) in
    let u1 : field 2 2 text < 256 = field_under 16 text p 2 2 (omega arith) in
    let u2 : field 4 4 text < 65536 = field_under 16 text p 4 4 (omega arith) in
    let u3 : field 8 4 text < 65536 = field_under 16 text p 8 4 (omega arith) in
    let u4 : field 12 4 text < 65536 = field_under 16 text p 12 4 (omega arith) in
    let kind : x / 72057594037927936 ≡ field 0 2 text = omega arith in
    let form : x / 281474976710656 % 256 ≡ field 2 2 text = omega arith in
    let cap : x / 4294967296 % 65536 ≡ field 4 4 text = omega arith in
    let head : x / 65536 % 65536 ≡ field 8 4 text = omega arith in
    let len : x % 65536 ≡ field 12 4 text = omega arith in
    ap (λ (s : Step). option_map parted s.line) (line_there text 0 16 (omega arith) e) ∙ rw (kind, form, cap, head, len)

first_none : (text : List ℕ) → is_line 16 text ≡ false → first_of text ≡ None
unfolding first_of
first_none text e = ap (λ (s : Step). option_map parted s.line) (none_there text 0 16 (omega arith) e)

-- THE STATE
twice_not : (b : Bool) → not (not b) ≡ b
twice_not true = refl
twice_not false = refl

pub ring_stood : (c h n : ℕ) (w o : Bool) → w ≡ not (valid ring c h n) → o ≡ is_older c h n → not w || o ≡ stands ring c h n
unfolding stands
ring_stood c h n w o e eo = rw (e, eo, twice_not (valid ring c h n))

pub vector_stood : (c h n : ℕ) (w : Bool) → w ≡ not (valid vector c 0 n) → eqb h 0 && not w ≡ stands vector c h n
unfolding stands
vector_stood c h n w e = rw (e, twice_not (valid vector c 0 n))

-- LINE AFTER LINE: whether those that are left are lines is always whether all are
pub lines_none : (text : List ℕ) (at n : ℕ) → are_lines (n - 0) (drop at text) ≡ are_lines n (drop at text)
lines_none text at n = let all : n - 0 ≡ n = omega arith in rw all

module _ (text : List ℕ) (at i n : ℕ) (v : Bool) (is : are_lines (n - i) (drop at text) ≡ v) (some : i < n) where
  left : n - i ≡ suc (n - (i + 1))
  left = omega arith

  pub lines_turn : is_some (line_at text at 8).line ≡ true → are_lines (n - (i + 1)) (drop (line_at text at 8).next text) ≡ v
  unfolding are_lines
  lines_turn t =
      let yes : is_line 8 (drop at text) ≡ true = sym (is_line_law text at 8 (omega arith)) ∙ t in
      let next : (line_at text at 8).next ≡ at + 9 = ap (λ (s : Step). s.next) (line_there text at 8 (omega arith) yes) ∙ omega arith in
      rw (next, ← drop-drop 9 at text) (rw (left, yes) at is)

  pub lines_stop : is_some (line_at text at 8).line ≡ false → false ≡ v
  unfolding are_lines
  lines_stop f = let no : is_line 8 (drop at text) ≡ false = sym (is_line_law text at 8 (omega arith)) ∙ f in rw (left, no) at is

pub lines_end : (text : List ℕ) (at i n : ℕ) (v : Bool) → are_lines (n - i) (drop at text) ≡ v → n ≤ i → true ≡ v
unfolding are_lines
lines_end text at i n v is none = let over : n - i ≡ 0 = omega arith in rw over at is

-- THE JUDGEMENT, its tests in their order
pub opens_line : (kind : ℕ) (text : List ℕ) → opens kind text ≡ true → is_line 16 text ≡ true
unfolding opens
opens_line kind text e = and_left _ _ e

module _ (k : Kind) (text : List ℕ) where
  pub judged_missed : first_of text ≡ None → None ≡ judged k text
  unfolding judged
  judged_missed e = go (judge k text)
    where
      go : (b : Bool) → None ≡ cond b (first_of text) None
      go true = sym e
      go false = refl

  module _ (f : First) (ef : first_of text ≡ Some f) where
    is_one : is_line 16 text ≡ true
    is_one = go (is_line 16 text) refl
      where
        go : (b : Bool) → is_line 16 text ≡ b → b ≡ true
        go true e = refl
        go false e = let none : first_of text ≡ None = first_none text e in cc

    fielding : f ≡ fielded text
    fielding = let made : first_of text ≡ Some (fielded text) = first_is text is_one in cc

    judge_is : judge k text ≡ begins f k (length text) && (stands k f.cap f.head f.len && are_lines f.cap (drop 17 text))
    unfolding judge opens
    judge_is = rw (is_one, fielding)

    judged_is : (b : Bool) → judge k text ≡ b → cond b (Some f) None ≡ judged k text
    unfolding judged
    judged_is b e = rw (e, ef)

    -- each test, where it fails and where it holds
    module _ (b : Bool) (eb : b ≡ begins f k (length text)) where
      pub judged_not : b ≡ false → None ≡ judged k text
      judged_not e = judged_is false (judge_is ∙ rw (← eb, e))

      module _ (t : b ≡ true) (s : Bool) (es : s ≡ stands k f.cap f.head f.len) where
        pub judged_state : s ≡ false → None ≡ judged k text
        judged_state e = judged_is false (judge_is ∙ rw (← eb, t, ← es, e))

        module _ (u : s ≡ true) (r : Bool) (er : r ≡ are_lines f.cap (drop 17 text)) where
          pub judged_lines : r ≡ false → None ≡ judged k text
          judged_lines e = judged_is false (judge_is ∙ rw (← eb, t, ← es, u, ← er, e))

          pub judged_all : r ≡ true → Some f ≡ judged k text
          judged_all e = judged_is true (judge_is ∙ rw (← eb, t, ← es, u, ← er, e))

-- whether there is a first line then is the judgement
pub judged_some : (k : Kind) (text : List ℕ) → is_some (judged k text) ≡ judge k text
unfolding judged judge
judged_some k text = go (judge k text) refl
  where
    go : (b : Bool) → judge k text ≡ b → is_some (cond b (first_of text) None) ≡ b
    go false e = refl
    go true e = ap is_some (first_is text (opens_line (kind_byte k) text (and_left _ _ e)))

-- BY A KIND NUMBER
pub by_kind : (text : List ℕ) (number : ℕ) (k : Kind) → kind_byte k ≡ number → judge k text ≡ judge_by number text
unfolding judge_by
by_kind text number ring e = rw (← e)
by_kind text number vector e = rw (← e)

pub by_none : (text : List ℕ) (number : ℕ) → 1 < number → false ≡ judge_by number text
unfolding judge_by
by_none text number more =
    let zero : eqb number 0 ≡ false = ne_eqb number 0 (λ e. omega arith) in
    let one : eqb number 1 ≡ false = ne_eqb number 1 (λ e. omega arith) in
    rw (zero, one)

-- what the functions need
pub ruleset first_ways = (first_made, first_missed)

pub ruleset stood = (ring_stood, vector_stood)

pub ruleset judging = (judged_missed, judged_not, judged_state, judged_lines, judged_all)

pub ruleset by_number = (by_kind, by_none, judged_some)
