-- The reading, as the code does it: slot after slot from its line, the total of what was read, and each answer in the order of the refusals.
use mathlib.Core.Path.{◌≡◌, refl, sym, ap, ◌∙◌}
use mathlib.Core.Bool.{true}
use mathlib.Core.List.{List, [], ◌∷◌, ◌++◌, append_assoc, append-nil}
use Prim.Native.Nat.{ℕ, suc, ◌+◌, ◌-◌, ◌*◌, ◌≤◌, ◌<◌}
use native.Mathlib.Numerals.{add-one}
use native.Mathlib.Omega.{arith}
use borrow.Author.Tests.{eq-eqb, ne_eqb}
use lib.ListN.{length, take, drop, set, length-take}
use lib.Seq.{drop-drop, take-suc-set, take_all}
use Rattle.slots.specs.Layout.{most, Kind, ring, vector, slot_of, itself, place, entries}
use Rattle.slots.specs.Total.{total}
use Rattle.slots.proofs.Placing.{length_entries}
use Rattle.slots.proofs.Totals.{total_empty}
use Rattle.runs.specs.declared.total.Total.{Total}
use Rattle.table.specs.Tray.{cap, list, nowhere}
use Rattle.table.specs.Does.{Outcome, refused, gives, bare, head_after}
use Rattle.table.proofs.Laws.Valid.{Valid, and_left, and_right}
use Rattle.digits.specs.Hex.{says}
use Rattle.digits.specs.Low.{low_in}
use Rattle.digits.proofs.Digits.{low_says}
use Rattle.lines.specs.Line.{is_line, field}
use Rattle.lines.proofs.Found.{cut}
use Rattle.lines.proofs.Parts.{line_parts}
use Rattle.ring.specs.declared.Ring.{Ring}
use Rattle.ring.specs.Seen as rings
use Rattle.vector.specs.declared.Vector.{Vector}
use Rattle.vector.specs.Seen as vectors
use Rattle.std.specs.Prelude.{Some, None, is_some, Result, Ok, Err, IsErrAnd}
use Rattle.std.proofs.lemmas.Result.{err_from_is_err_and}
use Rattle.stored.specs.declared.judges.First.{First}
use Rattle.stored.specs.Form.{kind_byte}
use Rattle.stored.specs.Judge.{are_lines, numbers, cap_in, told, judge}
use Rattle.stored.specs.Reads.{reads, total_read, RingRead, VectorRead}
use Rattle.stored.specs.First.{first_of, judged, Took, Turned}
use Rattle.table.specs.declared.answers.Refusal.{Refusal}
use Rattle.table.specs.declared.answers.Refusal.TheVariants.{Invalid, Full, Unacceptable}
use Rattle.table.specs.Answers.{number_in, numbered}
use Rattle.table.specs.Answers as answers
use Rattle.table.specs.declared.answers.Answer.{Answer}
use Rattle.stored.proofs.Exactly.{start, lines, many, opened, stands_told, standing_valid}
use Rattle.stored.proofs.Given.{reads_over, reads_other, reads_room, reads_done}
use Rattle.stored.proofs.Judging.{first_is, opens_line, judged_some}

-- SLOT AFTER SLOT: those that are written, with what the lines left say, are always what all lines say
module _ (text : List ℕ) (from n : ℕ) where
  at_first : from + 9 * 0 ≡ from
  at_first = omega arith

  all_left : n - 0 ≡ n
  all_left = omega arith

  pub none_off : are_lines n (drop from text) ≡ true → are_lines (n - 0) (drop (from + 9 * 0) text) ≡ true
  none_off e = rw (all_left, at_first) e

  pub none_read : numbers (n - 0) (drop (from + 9 * 0) text) ≡ numbers n (drop from text)
  none_read = rw (all_left, at_first)

word_is : (text : List ℕ) (at x : ℕ) → is_line 8 (drop at text) ≡ true → x ≡ low_in (take (at + 8 - at) (drop at text)) → x ≡ says (take 8 (drop at text))
word_is text at x there ex =
    let l = line_parts 8 (drop at text) there in
    let eight : length (take 8 (drop at text)) ≤ 16 = simp length-take (omega arith) in
    ex ∙ ap low_in (cut text at 8) ∙ low_says (take 8 (drop at text)) l.digits eight

module _ (text slots : List ℕ) (i n from : ℕ) (left : are_lines (n - i) (drop (from + 9 * i) text) ≡ true) (lt : i < n) where
  some : n - i ≡ suc (n - (i + 1))
  some = omega arith

  next : drop (from + 9 * (i + 1)) text ≡ drop 9 (drop (from + 9 * i) text)
  next = let e : from + 9 * (i + 1) ≡ from + 9 * i + 9 = omega arith in rw (e, ← drop-drop 9 (from + 9 * i) text)

  pub slots_left : are_lines (n - (i + 1)) (drop (from + 9 * (i + 1)) text) ≡ true
  unfolding are_lines
  slots_left = rw next (and_right (is_line 8 (drop (from + 9 * i) text)) _ (rw some at left))

  here : is_line 8 (drop (from + 9 * i) text) ≡ true
  unfolding are_lines
  here = and_left _ _ (rw some at left)

  pub slots_turn : (all : List ℕ) (x : ℕ) → take i slots ++ numbers (n - i) (drop (from + 9 * i) text) ≡ all → length slots ≡ n
      → x ≡ low_in (take (from + 9 * i + 8 - (from + 9 * i)) (drop (from + 9 * i) text))
      → take (i + 1) (set slots i x) ++ numbers (n - (i + 1)) (drop (from + 9 * (i + 1)) text) ≡ all
  unfolding numbers
  slots_turn all x is en ex =
      let within : i < length slots = omega arith in
      let was : take i slots ++ (says (take 8 (drop (from + 9 * i) text)) ∷ numbers (n - (i + 1)) (drop 9 (drop (from + 9 * i) text))) ≡ all = rw some at is in
      rw (next, add-one i, take-suc-set slots i x within, append_assoc, word_is text (from + 9 * i) x here ex) (rw add-one at was)

pub slots_end : (text slots all : List ℕ) (i n at : ℕ) → take i slots ++ numbers (n - i) (drop at text) ≡ all → length slots ≤ i → length slots ≡ n → slots ≡ all
unfolding numbers
slots_end text slots all i n at is le en =
    let none : n - i ≡ 0 = omega arith in
    sym (append-nil slots) ∙ sym (ap (λ s. s ++ []) (take_all i slots le)) ∙ (rw none at is)

-- THE HEAD that is told, and the total
pub home_none : (head len : ℕ) → len ≡ 0 → 0 ≡ head_after ring len head
home_none head len e = rw (eq-eqb len 0 e)

pub home_some : (head len : ℕ) → (len ≡ 0 → ⊥) → head ≡ head_after ring len head
home_some head len ne = rw (ne_eqb len 0 ne)

pub ruleset homes = (home_none, home_some)

pub none_total : (slots : List ℕ) (head len : ℕ) (t : Total) → len ≡ 0 → t.sum ≡ 0 → t.sum ≡ total (entries (slot_of (length slots) head) len slots)
none_total slots head len t e et = et ∙ sym (total_empty (entries (slot_of (length slots) head) len slots) (length_entries (slot_of (length slots) head) len slots ∙ e))

-- WHAT A JUDGED TEXT GIVES: its first line's numbers are the container's
module _ (k : Kind) (text : List ℕ) (f : First) (ef : Some f ≡ judged k text) where
  ok : judge k text ≡ true
  ok = sym (ap is_some ef ∙ judged_some k text)

  first : f ≡ record { kind = field 0 2 text; form = field 2 2 text; cap = field 4 4 text; head = field 8 4 text; len = field 12 4 text }
  unfolding judged
  first =
      let made : Some f ≡ first_of text = rw ok at ef in
      let is = first_is text (opens_line (kind_byte k) text (start k text ok)) in
      cc

  pub cap_read : f.cap ≡ cap (told k text)
  cap_read = ap (λ (f : First). f.cap) first ∙ sym (many k text ok)

  pub len_read : f.len ≡ (told k text).len
  unfolding told
  len_read = ap (λ (f : First). f.len) first

  pub head_read : head_after k f.len f.head ≡ (told k text).head
  unfolding told
  head_read = ap (λ (f : First). head_after k f.len f.head) first

  pub slots_read : numbers f.cap (drop 17 text) ≡ (told k text).slots
  unfolding told
  slots_read = ap (λ (f : First). numbers f.cap (drop 17 text)) first

  -- what `take_slots` asks
  cap_in_law : (n : ℕ) → f.cap ≡ n → cap_in text ≡ n
  cap_in_law n e = sym (ap (λ (f : First). f.cap) first) ∙ e

  pub lines_read : (n : ℕ) → f.cap ≡ n → are_lines n (drop 17 text) ≡ true
  lines_read n e = ap (λ c. are_lines c (drop 17 text)) (sym (cap_in_law n e)) ∙ lines k text ok

  pub lines_long : (n : ℕ) → f.cap ≡ n → 17 + 9 * n ≤ length text
  lines_long n e = omega (arith, (opened (kind_byte k) text (start k text ok)).long, cap_in_law n e)

  -- and what the adding up does
  told_valid : Valid (cap (told k text)) (told k text).head (told k text).len
  told_valid = standing_valid k text (told k text) (stands_told k text ok)

-- THE ANSWERS
module _ (k : Kind) (text slots : List ℕ) where
  -- a refused reading leaves nothing to add up
  none_read_total : (m n : ℕ) → reads k text slots ≡ refused (bare slots) nowhere m → n ≡ 0 → n ≡ total_read k text slots
  unfolding total_read
  none_read_total m n e z =
      z ∙ sym (ap (λ (o : Outcome). total (list k o.tray)) e ∙ total_empty (list k (bare slots)) (length_entries (place k (length slots) 0) 0 slots))

-- a reading with this number, and the slots as they are
abbrev refused_on : (m : ℕ) → List ℕ → Outcome
refused_on m slots = refused (bare slots) nowhere m

-- a text taken or refused, with the numbers that the code has
module _ (k : Kind) (text slots : List ℕ) where
  pub turned_over : most < length slots → Turned k text slots Invalid slots
  turned_over h = record { row = reads_over k text slots h; stay = refl }

  module _ (few : length slots ≤ most) where
    pub turned_other : None ≡ judged k text → Turned k text slots Unacceptable slots
    turned_other e = record { row = reads_other k text slots few (sym (ap is_some e ∙ judged_some k text)); stay = refl }

    module _ (f : First) (ef : Some f ≡ judged k text) where
      pub turned_room : (f.cap ≡ length slots → ⊥) → Turned k text slots Full slots
      turned_room ne = record { row = reads_room k text slots few (ok k text f ef) (λ q. ne (cap_read k text f ef ∙ q)); stay = refl }

      pub took : f.cap ≡ length slots → (out : List ℕ) → out ≡ numbers (length slots) (drop 17 text) → Took k text slots f out
      took same out eo = record { first = ef; few = few; same = same; slots = eo }

pub ruleset taking = (turned_over, turned_other, turned_room, took)

-- a refused reading's promise, a ring's and a vector's
module _ (text slots out : List ℕ) (e : Refusal) where
  pub ring_turned : Turned ring text slots e out → RingRead text slots (Err e) out
  ring_turned t = record {
    row = ap (refused_on (number_in e)) t.stay ∙ sym t.row;
    slot = refl;
    total = none_read_total ring text slots (number_in e) 0 t.row refl;
  }

  pub vector_turned : Turned vector text slots e out → VectorRead text slots (Err e) out
  vector_turned t = record {
    row = ap (refused_on (number_in e)) t.stay ∙ sym t.row;
    slot = refl;
    total = none_read_total vector text slots (number_in e) 0 t.row refl;
  }

-- a refusal of `take` is passed on
pub passed_on : {S : Type 0} (P : Result (Answer S) Refusal → Type 0) {a : Result (Answer S) Refusal} {e : Refusal} → IsErrAnd a (λ y. y ≡ e) → P (Err e) → P a
passed_on P {a = a} is p = let was = err_from_is_err_and a is in rw (was.1, was.2) p

-- what is written are the slots of the container that is told, which is valid
module _ (k : Kind) (text slots : List ℕ) (f : First) (out : List ℕ) (t : Took k text slots f out) where
  out_is : out ≡ (told k text).slots
  out_is = t.slots ∙ ap (λ n. numbers n (drop 17 text)) (sym t.same) ∙ slots_read k text f t.first

  out_long : length out ≡ cap (told k text)
  out_long = ap length out_is

  done_is : reads k text slots ≡ gives 0 0 (told k text).head (told k text).len (told k text).slots
  done_is = reads_done k text slots t.few (ok k text f t.first) (sym (cap_read k text f t.first) ∙ t.same)

  pub len_fits : f.len ≤ length out
  len_fits = omega (arith, told_valid k text f t.first, out_long, len_read k text f t.first)

  pub out_few : length out ≤ most
  out_few = omega (arith, told_valid k text f t.first, out_long)

  head_fits : head_after k f.len f.head ≤ length out - 1
  head_fits = omega (arith, told_valid k text f t.first, out_long, head_read k text f t.first)

  total_is : (n h : ℕ) → h ≡ head_after k f.len f.head → n ≡ total (entries (place k (length out) h) f.len out) → n ≡ total_read k text slots
  unfolding total_read
  total_is n h eh en =
      en
      ∙ ap (λ s. total (entries (place k (length s) h) f.len s)) out_is
      ∙ ap (λ h. total (entries (place k (cap (told k text)) h) f.len (told k text).slots)) (eh ∙ head_read k text f t.first)
      ∙ ap (λ n. total (entries (place k (cap (told k text)) (told k text).head) n (told k text).slots)) (len_read k text f t.first)
      ∙ sym (ap (λ (o : Outcome). total (list k o.tray)) done_is)

module _ (text slots : List ℕ) (f : First) (out : List ℕ) (t : Took ring text slots f out) (h : ℕ) (eh : h ≡ head_after ring f.len f.head) where
  pub ring_head_fits : h ≤ length out - 1
  ring_head_fits = rw eh (head_fits ring text slots f out t)

  pub ring_done : (w : Total) (a : Answer Ring) → w.sum ≡ total (entries (slot_of (length out) h) f.len out)
      → a ≡ answers.told 0 0 (rings.state h f.len w) → RingRead text slots (Ok a) out
  ring_done w a ew ea = record {
    row = ap (λ a. rings.seen (numbered rings.bare_ring (Ok a)) out) ea ∙ (rw (eh, head_read ring text f t.first, len_read ring text f t.first, out_is ring text slots f out t)) ∙ sym (done_is ring text slots f out t);
    slot = ap (λ a. a.slot) ea;
    total = total_is ring text slots f out t _ h eh (ap (λ a. a.state.total.sum) ea ∙ ew);
  }

module _ (text slots : List ℕ) (f : First) (out : List ℕ) (t : Took vector text slots f out) where
  pub vector_done : (w : Total) (a : Answer Vector) → w.sum ≡ total (drop 0 (entries itself f.len out))
      → a ≡ answers.told 0 0 (vectors.state f.len w) → VectorRead text slots (Ok a) out
  vector_done w a ew ea = record {
    row = ap (λ a. vectors.seen (numbered vectors.none (Ok a)) out) ea ∙ (rw (head_read vector text f t.first, len_read vector text f t.first, out_is vector text slots f out t)) ∙ sym (done_is vector text slots f out t);
    slot = ap (λ a. a.slot) ea;
    total = total_is vector text slots f out t _ 0 refl (ap (λ a. a.state.total.sum) ea ∙ ew);
  }
