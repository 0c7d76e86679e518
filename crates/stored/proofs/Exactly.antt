-- THE JUDGEMENT IS RIGHT (request 08): it accepts exactly the acceptable texts, and what is told is the one container that a text stands for. A text that stands for a container
-- is its form, so every field is found where the writer put it; and an accepted text is written again as it was read.
use mathlib.Core.Path.{◌≡◌, refl, sym, ap, ◌∙◌}
use mathlib.Core.Bool.{Bool, true, false, not, cond, ◌||◌}
use mathlib.Core.List.{List, ◌++◌}
use Prim.Native.Nat.{ℕ, zero, suc, ◌*◌, ◌≤◌, ◌<◌}
use native.Mathlib.Omega.{arith}
use Rattle.std.proofs.lemmas.Bool.Decides.{nat_tests}
use borrow.Author.Tests.{eq-eqb, eqb-true, le-leb, leb-true, lt-ltb, ltb-true}
use lib.Dec.{ltb, eqb}
use lib.ListN.{length, drop, length-drop}
use Rattle.slots.specs.Layout.{most, Kind, ring, vector}
use Rattle.table.specs.Tray.{Tray, cap, valid}
use Rattle.table.specs.Does.{head_after, bare}
use Rattle.table.proofs.Laws.Valid.{Valid, ring_facts, vector_facts, and_left, and_right}
use Rattle.lines.specs.Line.{is_line, field}
use Rattle.lines.proofs.Parts.{Parts, line_parts}
use Rattle.stored.specs.Form.{head_in, kind_byte, first_line, slot_lines, form, size}
use Rattle.stored.specs.Acceptable.{Words, Sound, Older, StandsFor, written, older, Acceptable, Exact}
use Rattle.stored.specs.Judge.{are_lines, numbers, cap_in, head_of, len_in, told, is_older, stands, opens, judge}
use Rattle.stored.proofs.Lines.{length_form}
use Rattle.stored.proofs.Pieces as pieces
use Rattle.stored.proofs.Pieces.{lines_are, lines_say, lines_back, lines_small, length_numbers, first_back}

-- a container whose numbers fit their digits
pub record Shaped (k : Kind) (t : Tray) : Type 0 where
  pub many : cap t < 65536
  pub at : t.head < 65536
  pub held : t.len < 65536
  pub headed : t.head ≡ head_in k t.head
  pub words : Words t.slots

pub bounds : (k : Kind) (t : Tray) → Sound k t → Valid (cap t) t.head t.len
unfolding valid
bounds ring t s = ring_facts (cap t) t.head t.len (ap not s.fine)
bounds vector t s =
    let v = vector_facts (cap t) t.len (ap not s.fine) in
    record { small = v.small; fits = v.fits; inside = omega (arith, s.headed); home = λ none. s.headed }

sound_shaped : (k : Kind) (t : Tray) → Sound k t → Shaped k t
sound_shaped k t s = let v = bounds k t s in record { many = omega (arith, v); at = omega (arith, v); held = omega (arith, v); headed = s.headed; words = s.words }

abbrev pub emptied : (h : ℕ) (slots : List ℕ) → Tray
emptied h slots = record { head = h; len = 0; slots = slots }

older_shaped : (h : ℕ) (slots : List ℕ) → Older h slots → Shaped ring (emptied h slots)
older_shaped h slots o =
    record { many = omega (arith, o.few); at = omega (arith, o.few, o.below); held = omega arith; headed = refl; words = o.words }

kind_small : (k : Kind) → kind_byte k < 256
kind_small ring = omega arith
kind_small vector = omega arith

-- ITS FORM, FIELD BY FIELD
module _ (k : Kind) (t : Tray) (s : Shaped k t) where
  text_is : form k t ≡ pieces.whole (kind_byte k) (cap t) t.head t.len (slot_lines t.slots)
  unfolding form
  text_is = ap (λ h. first_line (kind_byte k) (cap t) h t.len ++ slot_lines t.slots) (sym s.headed)

  pub cap_is : field 4 4 (form k t) ≡ cap t
  cap_is = ap (field 4 4) text_is ∙ pieces.cap_found (kind_byte k) (cap t) t.head t.len (slot_lines t.slots) s.many

  head_is : field 8 4 (form k t) ≡ t.head
  head_is = ap (field 8 4) text_is ∙ pieces.head_found (kind_byte k) (cap t) t.head t.len (slot_lines t.slots) s.at

  len_is : field 12 4 (form k t) ≡ t.len
  len_is = ap (field 12 4) text_is ∙ pieces.len_found (kind_byte k) (cap t) t.head t.len (slot_lines t.slots) s.held

  rest_is : drop 17 (form k t) ≡ slot_lines t.slots
  rest_is = ap (drop 17) text_is ∙ pieces.rest_found (kind_byte k) (cap t) t.head t.len (slot_lines t.slots)

  pub kind_is : field 0 2 (form k t) ≡ kind_byte k
  kind_is = ap (field 0 2) text_is ∙ pieces.kind_found (kind_byte k) (cap t) t.head t.len (slot_lines t.slots) (kind_small k)

  told_form : told k (form k t) ≡ record { head = head_after k t.len t.head; len = t.len; slots = t.slots }
  unfolding told
  told_form = rw (cap_is, head_is, len_is, rest_is, lines_say t.slots s.words)

  opens_form : opens (kind_byte k) (form k t) ≡ true
  unfolding opens
  opens_form =
      let line : is_line 16 (form k t) ≡ true = ap (is_line 16) text_is ∙ pieces.first_is (kind_byte k) (cap t) t.head t.len (slot_lines t.slots) in
      let none : field 2 2 (form k t) ≡ 0 = ap (field 2 2) text_is ∙ pieces.zero_found (kind_byte k) (cap t) t.head t.len (slot_lines t.slots) in
      let long : length (form k t) ≡ size (field 4 4 (form k t)) = length_form k t ∙ ap size (sym cap_is) in
      rw (line, eq-eqb _ _ kind_is, none, eq-eqb _ _ long)

  judge_form : stands k (cap t) t.head t.len ≡ true → judge k (form k t) ≡ true
  unfolding judge
  judge_form ok = rw (opens_form, cap_is, head_is, len_is, rest_is, ok, lines_are t.slots)

-- a valid state, and an older text's, may stand in a text
or_left : (a b : Bool) → a ≡ true → a || b ≡ true
or_left a b e = rw e

or_right : (a b : Bool) → b ≡ true → a || b ≡ true
or_right true b e = refl
or_right false b e = e

sound_stands : (k : Kind) (t : Tray) → Sound k t → stands k (cap t) t.head t.len ≡ true
unfolding stands valid
sound_stands ring t s = or_left _ _ s.fine
sound_stands vector t s = rw (eq-eqb t.head 0 s.headed) s.fine

older_stands : (h : ℕ) (slots : List ℕ) → Older h slots → stands ring (length slots) h 0 ≡ true
unfolding stands
older_stands h slots o = or_right (valid ring (length slots) h 0) _ (rw (lt-ltb h _ o.below, le-leb (length slots) most o.few))

-- a sound container has the head that is told
head_told : (k : Kind) (t : Tray) → Sound k t → head_after k t.len t.head ≡ t.head
head_told vector t s = sym s.headed
head_told ring t s = go (eqb t.len 0) refl
  where
    go : (b : Bool) → eqb t.len 0 ≡ b → cond (eqb t.len 0) 0 t.head ≡ t.head
    go true e = rw e (sym ((bounds ring t s).home (eqb-true _ _ e)))
    go false e = rw e

-- ACCEPTABLE TEXTS ARE ACCEPTED, and what is told is the container that the text stands for
pub accepts : (k : Kind) (text : List ℕ) (t : Tray) → StandsFor text k t → judge k text ≡ true
accepts k text t (written s e) = ap (judge k) e ∙ judge_form k t (sound_shaped k t s) (sound_stands k t s)
accepts ring text t (older h slots o e) = ap (judge ring) e ∙ judge_form ring (emptied h slots) (older_shaped h slots o) (older_stands h slots o)

pub tells : (k : Kind) (text : List ℕ) (t : Tray) → StandsFor text k t → told k text ≡ t
tells k text t (written s e) =
    ap (told k) e ∙ told_form k t (sound_shaped k t s) ∙ ap (λ h. record { head = h; len = t.len; slots = t.slots }) (head_told k t s)
tells ring text t (older h slots o e) = ap (told ring) e ∙ told_form ring (emptied h slots) (older_shaped h slots o)

-- a container that a text stands for is valid
pub standing_valid : (k : Kind) (text : List ℕ) (t : Tray) → StandsFor text k t → Valid (cap t) t.head t.len
standing_valid k text t (written s e) = bounds k t s
standing_valid ring text t (older h slots o e) = record { small = o.few; fits = omega arith; inside = omega arith; home = λ none. refl }

-- ONE CONTAINER AT MOST: a text stands for one, and for none of the other kind
pub only_one : (k : Kind) (text : List ℕ) (t t2 : Tray) → StandsFor text k t → StandsFor text k t2 → t ≡ t2
only_one k text t t2 s s2 = sym (tells k text t s) ∙ tells k text t2 s2

first_byte : (k : Kind) (text : List ℕ) (t : Tray) → StandsFor text k t → field 0 2 text ≡ kind_byte k
first_byte k text t (written s e) = ap (field 0 2) e ∙ kind_is k t (sound_shaped k t s)
first_byte ring text t (older h slots o e) = ap (field 0 2) e ∙ kind_is ring (emptied h slots) (older_shaped h slots o)

pub one_kind : (text : List ℕ) → Acceptable ring text → Acceptable vector text → ⊥
one_kind text a b =
    let same : ◌≡◌ {A = ℕ} 0 1 = sym (first_byte ring text a.tray a.stands) ∙ first_byte vector text b.tray b.stands in
    omega arith

-- WHAT AN ACCEPTED TEXT TELLS
pub record Opened (kind : ℕ) (text : List ℕ) : Type 0 where
  pub line : Parts 16 text
  pub kinded : field 0 2 text ≡ kind
  pub none : field 2 2 text ≡ 0
  pub long : length text ≡ size (cap_in text)

pub opened : (kind : ℕ) (text : List ℕ) → opens kind text ≡ true → Opened kind text
unfolding opens
opened kind text e =
    let a = and_right (is_line 16 text) _ e in
    let b = and_right (eqb (field 0 2 text) kind) _ a in
    record {
      line = line_parts 16 text (and_left _ _ e);
      kinded = eqb-true _ _ (and_left _ _ a);
      none = grind (arith, nat_tests);
      long = grind (arith, nat_tests);
    }

module _ (k : Kind) (text : List ℕ) (ok : judge k text ≡ true) where
  pub start : opens (kind_byte k) text ≡ true
  unfolding judge
  start = and_left _ _ ok

  pub state : stands k (cap_in text) (head_of text) (len_in text) ≡ true
  unfolding judge
  state = and_left _ _ (and_right (opens (kind_byte k) text) _ ok)

  pub lines : are_lines (cap_in text) (drop 17 text) ≡ true
  unfolding judge
  lines = and_right (stands k (cap_in text) (head_of text) (len_in text)) _ (and_right (opens (kind_byte k) text) _ ok)

  pub many : cap (told k text) ≡ cap_in text
  unfolding told
  many = length_numbers (cap_in text) (drop 17 text)

  -- what the lines say, with any head that the text has, is written as the text
  abbrev slots_in : List ℕ
  slots_in = numbers (cap_in text) (drop 17 text)

  form_back : head_in k (head_of text) ≡ head_of text → form k (record { head = head_of text; len = len_in text; slots = slots_in }) ≡ text
  unfolding form
  form_back head =
      let o = opened (kind_byte k) text start in
      let body : length (drop 17 text) ≡ 9 * cap_in text = simp length-drop (omega (arith, o.long)) in
      rw (length_numbers (cap_in text) (drop 17 text), head, lines_back (cap_in text) (drop 17 text) body lines, ← o.kinded) (first_back text o.line o.none)

  -- a state that is valid: the text is the form of what is told
  sound_told : valid k (cap_in text) (head_after k (len_in text) (head_of text)) (len_in text) ≡ true → head_after k (len_in text) (head_of text) ≡ head_in k (head_of text)
      → head_in k (head_of text) ≡ head_of text → StandsFor text k (told k text)
  unfolding told
  sound_told fine after headed =
      let h : head_after k (len_in text) (head_of text) ≡ head_of text = after ∙ headed in
      written {k = k} {t = told k text}
      (record { fine = rw many fine; headed = h ∙ sym headed ∙ sym (ap (head_in k) h); words = lines_small (cap_in text) (drop 17 text) lines })
      (sym (ap (λ h. form k (record { head = h; len = len_in text; slots = slots_in })) h ∙ form_back headed))

-- a ring's head where it is valid, and where it is not
at_home : (c h n : ℕ) → valid ring c h n ≡ true → head_after ring n h ≡ h
at_home c h n ok = go (eqb n 0) refl
  where
    go : (b : Bool) → eqb n 0 ≡ b → cond (eqb n 0) 0 h ≡ h
    go true e = rw e (sym ((ring_facts c h n (ap not ok)).home (eqb-true _ _ e)))
    go false e = rw e

pub home_valid : (c : ℕ) → 0 < c → c ≤ most → valid ring c 0 0 ≡ true
unfolding valid
home_valid c some few = let z : 0 ≤ c = omega arith in rw (le-leb c most few, le-leb 0 c z, lt-ltb 0 c some)

some_head : (c h : ℕ) → h < c → c ≤ most → valid ring c h 0 ≡ false → 0 < h
some_head c zero lt few bad = absurd (let e : true ≡ false = sym (home_valid c lt few) ∙ bad in let z : ◌≡◌ {A = ℕ} 0 1 = cc in omega arith)
some_head c (suc h) lt few bad = omega arith

bared : (text : List ℕ) → len_in text ≡ 0 → told ring text ≡ bare (numbers (cap_in text) (drop 17 text))
unfolding told
bared text none = rw none

-- ACCEPTED TEXTS ARE ACCEPTABLE
pub stands_told : (k : Kind) (text : List ℕ) → judge k text ≡ true → StandsFor text k (told k text)
unfolding stands valid
stands_told vector text ok =
    let s = state vector text ok in
    let zero : head_of text ≡ 0 = eqb-true _ _ (and_left _ _ s) in
    sound_told vector text ok (and_right (eqb (head_of text) 0) _ s) refl (sym zero)
stands_told ring text ok = go (valid ring (cap_in text) (head_of text) (len_in text)) refl (state ring text ok)
  where
    go : (b : Bool) → valid ring (cap_in text) (head_of text) (len_in text) ≡ b → b || is_older (cap_in text) (head_of text) (len_in text) ≡ true → StandsFor text ring (told ring text)
    go true fine s =
        let h = at_home (cap_in text) (head_of text) (len_in text) fine in
        sound_told ring text ok (ap (λ h. valid ring (cap_in text) h (len_in text)) h ∙ fine) h refl
    go false bad s = old
      where
        none : len_in text ≡ 0
        none = eqb-true _ _ (and_left _ _ s)

        lt : head_of text < cap_in text
        lt = ltb-true _ _ (and_left _ _ (and_right (eqb (len_in text) 0) _ s))

        few : cap_in text ≤ most
        few = leb-true _ _ (and_right (ltb (head_of text) (cap_in text)) _ (and_right (eqb (len_in text) 0) _ s))

        slots : List ℕ
        slots = numbers (cap_in text) (drop 17 text)

        long : length slots ≡ cap_in text
        long = length_numbers (cap_in text) (drop 17 text)

        was : Older (head_of text) slots
        was = record {
          few = omega (arith, few, long);
          other = some_head (cap_in text) (head_of text) lt few (ap (valid ring (cap_in text) (head_of text)) (sym none) ∙ bad);
          below = omega (arith, lt, long);
          words = lines_small (cap_in text) (drop 17 text) (lines ring text ok);
        }

        is : text ≡ form ring (emptied (head_of text) slots)
        is = sym (form_back ring text ok refl) ∙ ap (λ n. form ring (record { head = head_of text; len = n; slots = slots })) none

        old : StandsFor text ring (told ring text)
        old = rw (bared text none) (older (head_of text) slots was is)

-- ACCEPTED EXACTLY WHEN ACCEPTABLE
pub judge_exact : (k : Kind) (text : List ℕ) → Exact (judge k text) k text
judge_exact k text = record {
  yes = λ ok. record { tray = told k text; stands = stands_told k text ok };
  no = λ bad a. let e : true ≡ false = sym (accepts k text a.tray a.stands) ∙ bad in let z : ◌≡◌ {A = ℕ} 0 1 = cc in omega arith;
}
