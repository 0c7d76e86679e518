-- NO FAULT IS FOUND EXACTLY WHEN THE TEXT IS ACCEPTABLE: each test for a fault is one of the judgement's, in another order.
use mathlib.Core.Path.{◌≡◌, refl, sym, ap, ◌∙◌}
use mathlib.Core.Bool.{Bool, true, false, not, cond, ◌&&◌, ◌||◌}
use mathlib.Core.List.{List}
use Prim.Native.Nat.{ℕ, zero, suc, ◌+◌, ◌*◌, ◌≤◌, ◌<◌}
use native.Mathlib.Omega.{arith}
use borrow.Author.Tests.{eq-eqb, ne_eqb, eqb-true, eqb-false, le-leb, lt-leb, leb-true, leb-false, lt-ltb, le-ltb, ltb-true, ltb-false}
use lib.Dec.{ltb, leb, eqb}
use lib.ListN.{length, drop, length-drop}
use Rattle.slots.specs.Layout.{most, Kind, ring, vector}
use Rattle.table.specs.Tray.{valid}
use Rattle.table.proofs.Laws.Valid.{ring_facts, vector_facts, and_left, and_right}
use Rattle.lines.specs.Line.{is_line, field}
use Rattle.lines.proofs.Parts.{line_parts}
use Rattle.stored.specs.Form.{kind_byte, size}
use Rattle.stored.specs.Acceptable.{Acceptable, Exact}
use Rattle.stored.specs.Judge.{are_lines, cap_in, head_of, len_in, is_older, stands, opens, judge, judge_by}
use Rattle.stored.proofs.Judging.{opens_line}
use Rattle.stored.proofs.Exactly.{accepts, opened, start, state, lines, judge_exact}
use Rattle.std.specs.Prelude.{Option, Some, None, Ok, Err, is_ok}
use Rattle.show.specs.declared.faults.Expected.{Expected}
use Rattle.show.specs.declared.faults.Expected.TheVariants.{AHead, NoHead, NoSlots}
use Rattle.show.specs.declared.faults.Fault.{Fault}
use Rattle.show.specs.Faults.{Judged, sound, line_fault, head_what, head_or, state_fault, first_fault, slots_fault, or_else, fault}
use Rattle.show.proofs.Finding.{line_was}

-- two tests that imply each other
both_ways : (a b : Bool) → (a ≡ true → b ≡ true) → (b ≡ true → a ≡ true) → a ≡ b
both_ways true b there back = sym (there refl)
both_ways false true there back = back refl
both_ways false false there back = refl

-- past a test for a fault
past : (b : Bool) (f : Fault) (r : Judged) → cond b (Err f) r ≡ sound → (b ≡ false) × (r ≡ sound)
past true f r e = cc
past false f r e = (refl, e)

first_none : (f g : Judged) → or_else f g ≡ sound → f ≡ sound
first_none (Ok _) g e = refl
first_none (Err f) g e = cc

second_none : (f g : Judged) → or_else f g ≡ sound → g ≡ sound
second_none (Ok _) g e = e
second_none (Err f) g e = cc

both_none : (f g : Judged) → f ≡ sound → g ≡ sound → or_else f g ≡ sound
both_none f g ef eg = rw ef eg

ok_sound : (r : Judged) → is_ok r ≡ true → r ≡ sound
ok_sound (Ok _) e = refl
ok_sound (Err f) e = cc

not_ok : (r : Judged) → (r ≡ sound → ⊥) → is_ok r ≡ false
not_ok (Ok _) bad = absurd (bad refl)
not_ok (Err f) bad = refl

-- A LINE
line_yes : (line n : ℕ) (s : List ℕ) → line_fault line n s ≡ sound → is_line n s ≡ true
line_yes line n s e = line_was line n s (line_fault line n s) refl e

line_none : (line n : ℕ) (s : List ℕ) → is_line n s ≡ true → line_fault line n s ≡ sound
unfolding line_fault
line_none line n s is = rw is refl

-- THE SLOTS' LINES, and nothing behind them
slots_yes : (line n : ℕ) (s : List ℕ) → slots_fault line n s ≡ sound → (are_lines n s ≡ true) × (length s ≡ 9 * n)
unfolding slots_fault are_lines
slots_yes line zero s e = let none = (past (ltb 0 (length s)) _ sound e).0 in (refl, omega (arith, ltb-false 0 (length s) none))
slots_yes line (suc n) s e = go (is_line 8 s) refl (slots_yes (line + 1) n (drop 9 s))
  where
    go : (b : Bool) → is_line 8 s ≡ b → (slots_fault (line + 1) n (drop 9 s) ≡ sound → (are_lines n (drop 9 s) ≡ true) × (length (drop 9 s) ≡ 9 * n))
        → (is_line 8 s && are_lines n (drop 9 s) ≡ true) × (length s ≡ 9 * suc n)
    go true is others =
        let rest = others (rw is at e) in
        let l = line_parts 8 s is in
        (rw is rest.0, omega (arith, l.long, simp length-drop at rest.1))
    go false is others = absurd (let one = line_yes line 8 s (rw is at e) in let z : true ≡ false = sym one ∙ is in cc)

slots_none : (line n : ℕ) (s : List ℕ) → are_lines n s ≡ true → length s ≡ 9 * n → slots_fault line n s ≡ sound
unfolding slots_fault are_lines
slots_none line zero s all long = let none : length s ≤ 0 = omega arith in rw (le-ltb 0 (length s) none) refl
slots_none line (suc n) s all long =
    let is = and_left (is_line 8 s) _ all in
    rw is (slots_none (line + 1) n (drop 9 s) (and_right (is_line 8 s) _ all) (simp length-drop (omega arith)))

-- THE STATE
pub record Fine (kind form c h n : ℕ) : Type 0 where
  pub kinded : kind ≤ 1
  pub formed : form ≡ 0
  pub small : c ≤ most
  pub unheaded : kind ≡ 1 → h ≡ 0
  pub below : 0 < h → h < c
  pub fits : n ≤ c

pass : (b : Bool) (x : Expected) (y : Option Expected) → cond b (Some x) y ≡ None → (b ≡ false) × (y ≡ None)
pass true x y e = cc
pass false x y e = (refl, e)

head_yes : (kind c h : ℕ) → head_what kind c h ≡ None → 0 < h → (kind ≡ 1 → ⊥) × (h < c)
unfolding head_what
head_yes kind c h e some =
    let other : (h ≡ 0 → ⊥) = λ z. omega arith in
    let a = pass (eqb kind 1) NoHead _ (rw (ne_eqb h 0 other) at e) in
    let b = pass (eqb c 0) NoSlots _ a.1 in
    let d = pass (leb c h) AHead None b.1 in
    (eqb-false _ _ a.0, leb-false _ _ d.0)

head_none : (kind c h : ℕ) → (kind ≡ 1 → h ≡ 0) → (0 < h → h < c) → head_what kind c h ≡ None
unfolding head_what
head_none kind c zero v b = refl
head_none kind c (suc h) v b =
    let lt : suc h < c = b (omega arith) in
    let k : (kind ≡ 1 → ⊥) = λ e. let z : suc h ≡ 0 = v e in omega arith in
    let some : (c ≡ 0 → ⊥) = λ e. omega arith in
    let head : (suc h ≡ 0 → ⊥) = λ e. omega arith in
    rw (ne_eqb (suc h) 0 head, ne_eqb kind 1 k, ne_eqb c 0 some, lt-leb c (suc h) lt) refl

-- past a head at fault
past_head : (w : Option Expected) (r : Judged) → head_or w r ≡ sound → (w ≡ None) × (r ≡ sound)
past_head None r e = (refl, e)
past_head (Some what) r e = cc

state_yes : (kind form c h n : ℕ) → state_fault kind form c h n ≡ sound → Fine kind form c h n
unfolding state_fault
state_yes kind form c h n e =
    let a = past (ltb 1 kind) _ _ e in
    let b = past (ltb 0 form) _ _ a.1 in
    let d = past (ltb most c) _ _ b.1 in
    let g = past_head (head_what kind c h) _ d.1 in
    let i = past (ltb c n) _ sound g.1 in
    record {
      kinded = omega (arith, ltb-false 1 kind a.0);
      formed = omega (arith, ltb-false 0 form b.0);
      small = omega (arith, ltb-false most c d.0);
      unheaded = λ v. headless v g.0;
      below = λ some. (head_yes kind c h g.0 some).1;
      fits = omega (arith, ltb-false c n i.0);
    }
  where
    headless : kind ≡ 1 → head_what kind c h ≡ None → h ≡ 0
    headless v e = go (ltb 0 h) refl
      where
        go : (b : Bool) → ltb 0 h ≡ b → h ≡ 0
        go true is = absurd ((head_yes kind c h e (ltb-true _ _ is)).0 v)
        go false is = omega (arith, ltb-false 0 h is)

state_none : (kind form c h n : ℕ) → Fine kind form c h n → state_fault kind form c h n ≡ sound
unfolding state_fault
state_none kind form c h n f =
    let z : form ≤ 0 = omega (arith, f.formed) in
    rw (le-ltb 1 kind f.kinded, le-ltb 0 form z, le-ltb most c f.small, head_none kind c h f.unheaded f.below, le-ltb c n f.fits) refl

or_true : (b : Bool) → b || true ≡ true
or_true true = refl
or_true false = refl

some_or_none : (c : ℕ) → ltb 0 c || (eqb c 0 && true) ≡ true
some_or_none c = go (ltb 0 c) refl
  where
    go : (b : Bool) → ltb 0 c ≡ b → ltb 0 c || (eqb c 0 && true) ≡ true
    go true is = rw is
    go false is = let none : c ≡ 0 = omega (arith, ltb-false 0 c is) in rw (is, eq-eqb c 0 none)

-- a state without a fault is one that a text of this kind may have, and the other way round
fine_stands : (k : Kind) (form c h n : ℕ) → Fine (kind_byte k) form c h n → stands k c h n ≡ true
unfolding stands valid
fine_stands vector form c h n f = let z : h ≡ 0 = f.unheaded refl in rw (eq-eqb h 0 z, le-leb n c f.fits, le-leb c most f.small)
fine_stands ring form c zero n f = rw (le-leb c most f.small, le-leb n c f.fits, some_or_none c, or_true (ltb 0 n))
fine_stands ring form c (suc h) zero f =
    let lt : suc h < c = f.below (omega arith) in
    let old : is_older c (suc h) 0 ≡ true = rw (lt-ltb (suc h) c lt, le-leb c most f.small) in
    rw old (or_true (valid ring c (suc h) 0))
fine_stands ring form c (suc h) (suc n) f =
    let lt : suc h < c = f.below (omega arith) in
    let some : 0 < suc n = omega arith in
    rw (le-leb c most f.small, le-leb (suc n) c f.fits, lt-ltb (suc h) c lt, lt-ltb 0 (suc n) some)

stands_fine : (k : Kind) (form c h n : ℕ) → form ≡ 0 → stands k c h n ≡ true → Fine (kind_byte k) form c h n
unfolding stands valid
stands_fine vector form c h n z e =
    let head : h ≡ 0 = eqb-true _ _ (and_left _ _ e) in
    let v = vector_facts c n (ap not (and_right (eqb h 0) _ e)) in
    record { kinded = omega arith; formed = z; small = v.small; unheaded = λ k. head; below = λ some. omega arith; fits = v.fits }
stands_fine ring form c h n z e = go (valid ring c h n) refl e
  where
    go : (b : Bool) → valid ring c h n ≡ b → b || is_older c h n ≡ true → Fine 0 form c h n
    go true is e =
        let v = ring_facts c h n (ap not is) in
        record { kinded = omega arith; formed = z; small = v.small; unheaded = λ k. omega arith; below = λ some. omega (arith, v.inside); fits = v.fits }
    go false is e =
        let none : n ≡ 0 = eqb-true _ _ (and_left _ _ e) in
        let rest = and_right (eqb n 0) _ e in
        let lt : h < c = ltb-true _ _ (and_left _ _ rest) in
        let few : c ≤ most = leb-true _ _ (and_right (ltb h c) _ rest) in
        record { kinded = omega arith; formed = z; small = few; unheaded = λ k. omega arith; below = λ some. lt; fits = omega arith }

-- THE WHOLE TEXT
module _ (text : List ℕ) where
  abbrev kind : ℕ
  kind = field 0 2 text

  -- the three parts of a text without a fault
  pub record Parts : Type 0 where
    pub line : is_line 16 text ≡ true
    pub fine : Fine kind (field 2 2 text) (cap_in text) (head_of text) (len_in text)
    pub slots : are_lines (cap_in text) (drop 17 text) ≡ true
    pub long : length (drop 17 text) ≡ 9 * cap_in text

  pub parts : fault text ≡ sound → Parts
  unfolding fault first_fault
  parts e =
      let F = first_fault text in
      let S = slots_fault 2 (field 4 4 text) (drop 17 text) in
      let rest = second_none (line_fault 1 16 text) (or_else F S) e in
      let all = slots_yes 2 (cap_in text) (drop 17 text) (second_none F S rest) in
      record { line = line_yes 1 16 text (first_none (line_fault 1 16 text) (or_else F S) e); fine = state_yes _ _ _ _ _ (first_none F S rest); slots = all.0; long = all.1 }

  -- no fault, and the kind is k: the text is judged acceptable as a k
  pub none_judged : (k : Kind) → kind ≡ kind_byte k → fault text ≡ sound → judge k text ≡ true
  unfolding judge opens
  none_judged k ek e =
      let p = parts e in
      let long : length text ≡ size (cap_in text) = omega (arith, (line_parts 16 text p.line).long, simp length-drop at p.long) in
      rw (p.line, eq-eqb _ _ ek, eq-eqb _ _ p.fine.formed, eq-eqb _ _ long, fine_stands k (field 2 2 text) (cap_in text) (head_of text) (len_in text) (rw ek at p.fine), p.slots)

  pub judged_none : (k : Kind) → judge k text ≡ true → fault text ≡ sound
  unfolding fault first_fault
  judged_none k ok =
      let o = opened (kind_byte k) text (start k text ok) in
      let body : length (drop 17 text) ≡ 9 * cap_in text = simp length-drop (omega (arith, o.long)) in
      let fine = stands_fine k (field 2 2 text) (cap_in text) (head_of text) (len_in text) o.none (state k text ok) in
      both_none (line_fault 1 16 text) _ (line_none 1 16 text (opens_line (kind_byte k) text (start k text ok)))
      (both_none (first_fault text) _ (state_none _ _ _ _ _ (rw (← o.kinded) at fine)) (slots_none 2 (cap_in text) (drop 17 text) (lines k text ok) body))

  -- a kind without a fault is a ring's or a vector's
  pub some_kind : fault text ≡ sound → (kind ≡ 0 → ⊥) → kind ≡ 1
  some_kind e other = go kind (parts e).fine.kinded other
    where
      go : (k : ℕ) → k ≤ 1 → (k ≡ 0 → ⊥) → k ≡ 1
      go zero few other = absurd (other refl)
      go (suc k) few other = omega arith

  -- no fault exactly when the text is judged acceptable, as a k or by the kind that its first two digits say
  pub same : (k : Kind) → kind ≡ kind_byte k → is_ok (fault text) ≡ judge k text
  same k ek = both_ways _ _ (λ t. none_judged k ek (ok_sound _ t)) (λ t. ap is_ok (judged_none k t))

  pub fault_judged : is_ok (fault text) ≡ judge_by kind text
  unfolding judge_by
  fault_judged = go (eqb kind 0) refl (eqb kind 1) refl
    where
      go : (a : Bool) → eqb kind 0 ≡ a → (b : Bool) → eqb kind 1 ≡ b → is_ok (fault text) ≡ cond (eqb kind 0) (judge ring text) (cond (eqb kind 1) (judge vector text) false)
      go true ea b eb = rw ea (same ring (eqb-true _ _ ea))
      go false ea true eb = rw (ea, eb) (same vector (eqb-true _ _ eb))
      go false ea false eb = rw (ea, eb) (not_ok (fault text) (λ ok. eqb-false kind 1 eb (some_kind ok (eqb-false kind 0 ea))))

  -- NO FAULT, EXACTLY WHEN ACCEPTABLE for the kind that the first two digits say; and none in a text that is acceptable for either
  pub fault_exact : (k : Kind) → kind ≡ kind_byte k → Exact (is_ok (fault text)) k text
  fault_exact k ek = rw (same k ek) (judge_exact k text)

  pub acceptable_none : (k : Kind) → Acceptable k text → fault text ≡ sound
  acceptable_none k a = judged_none k (accepts k text a.tray a.stands)
