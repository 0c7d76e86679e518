-- Doubled quotes are undone byte by byte: what was counted or written, with what is left of the field, is always the whole.
use mathlib.Core.Path.{◌≡◌, refl, sym, ap, ◌∙◌}
use mathlib.Core.Bool.{Bool, true, false, cond, ◌&&◌}
use mathlib.Core.List.{List, [], ◌∷◌, ◌++◌}
use Prim.Native.Nat.{ℕ, zero, suc, ◌+◌, ◌-◌, ◌≤◌, ◌<◌}
use native.Mathlib.Numerals.{add-one}
use native.Mathlib.Omega.{arith}
use borrow.Author.Tests.{eqb-true, lt-ltb, le-ltb, lt-leb, le-leb}
use lib.Dec.{eqb}
use lib.ListN.{length, get_or, drop, set, length-set, length-take, length-drop}
use lib.Seq.{sets, sets-eq, drop-drop}
use Rattle.record.specs.Grammar.{quote}
use Rattle.record.specs.Scan.{starts}
use Rattle.record.specs.Steps.{past}
use Rattle.record.specs.Undone.{undone, part}
use Rattle.std.specs.Prelude.{Ok, Err}
use Rattle.table.specs.declared.answers.Refusal.TheVariants.{Long, Beyond, Full}
use Rattle.record.specs.Recorded.{longest, told}
use Rattle.record.specs.Unquoted.{unquoted, unquotes, Unquotes}
use Rattle.record.proofs.Laws.Runs.{left, none_left, inside}

undone_alone : (b : ℕ) (s : List ℕ) → eqb b quote && starts quote s ≡ false → undone (b ∷ s) ≡ b ∷ undone s
unfolding undone
undone_alone b [] e = refl
undone_alone b (c ∷ s) e = rw e refl

and_true : (a b : Bool) → a && b ≡ true → (a ≡ true) × (b ≡ true)
and_true true b e = (refl, e)
and_true false b e = absurd (let z : ◌≡◌ {A = ℕ} 0 1 = cc in omega arith)

undone_pair : (b : ℕ) (s : List ℕ) → eqb b quote && starts quote s ≡ true → undone (b ∷ s) ≡ b ∷ undone (drop 1 s)
unfolding undone
undone_pair b [] e = absurd (let z : ◌≡◌ {A = ℕ} 0 1 = cc ((and_true (eqb b quote) false e).1) in omega arith)
undone_pair b (c ∷ s) e = rw e (ap (λ x. x ∷ undone s) (sym (eqb-true b quote (and_true (eqb b quote) (eqb c quote) e).0)))

-- one byte of the field, and the field behind it
pub undone_step : (s : List ℕ) (at : ℕ) → at < length s → undone (drop at s) ≡ get_or s at 0 ∷ undone (drop (past s at) s)
undone_step s at h = go (eqb (get_or s at 0) quote && starts quote (drop (at + 1) s)) refl
  where
    go : (c : Bool) → eqb (get_or s at 0) quote && starts quote (drop (at + 1) s) ≡ c → undone (drop at s) ≡ get_or s at 0 ∷ undone (drop (past s at) s)
    go true e =
        let sum : at + 1 + 1 ≡ at + 2 = omega arith in
        let two : drop 1 (drop (at + 1) s) ≡ drop (at + 2) s = drop-drop 1 (at + 1) s ∙ rw sum refl in
        ap undone (left s at h) ∙ undone_pair (get_or s at 0) (drop (at + 1) s) e ∙ rw (e, two) refl
    go false e = ap undone (left s at h) ∙ undone_alone (get_or s at 0) (drop (at + 1) s) e ∙ rw e refl

pub past_inside : (s : List ℕ) (at : ℕ) → at < length s → (at < past s at) × (past s at ≤ length s)
past_inside s at h = go (eqb (get_or s at 0) quote && starts quote (drop (at + 1) s)) refl
  where
    go : (c : Bool) → eqb (get_or s at 0) quote && starts quote (drop (at + 1) s) ≡ c → (at < cond c (at + 2) (at + 1)) × (cond c (at + 2) (at + 1) ≤ length s)
    go true e = let second = inside s (at + 1) quote (and_true (eqb (get_or s at 0) quote) (starts quote (drop (at + 1) s)) e).1 in (omega arith, omega arith)
    go false e = (omega arith, omega arith)

-- `count` bytes were counted, and what is left has the others
pub record Counted (s : List ℕ) (at count : ℕ) : Type 0 where
  pub inside : at ≤ length s
  pub few : count ≤ at
  pub whole : count + length (undone (drop at s)) ≡ length (undone s)

pub none_counted : (s : List ℕ) → Counted s 0 0
none_counted s = record { inside = omega arith; few = omega arith; whole = omega arith }

pub one_counted : (s : List ℕ) (at next count : ℕ) → Counted s at count → at < length s → next ≡ past s at → Counted s next (count + 1)
one_counted s at next count c h e =
    let p = past_inside s at h in
    let size : length (undone (drop at s)) ≡ suc (length (undone (drop next s))) = ap length (undone_step s at h) ∙ rw e refl in
    record { inside = omega (arith, p.1); few = omega (arith, p.0, c.few); whole = omega (arith, c.whole) }

pub less_left : (s : List ℕ) (at next : ℕ) → at < length s → next ≡ past s at → length s - next < length s - at
less_left s at next h e = let p = past_inside s at h in omega arith

nothing_left : (s : List ℕ) (at : ℕ) → length s ≤ at → undone (drop at s) ≡ []
unfolding undone
nothing_left s at h = ap undone (none_left s at h)

pub all_counted : (s : List ℕ) (at count : ℕ) → Counted s at count → length s ≤ at → count ≡ length (undone s)
all_counted s at count c h = omega (arith, c.whole, ap length (nothing_left s at h))

-- and were written
pub record Undoing (s out₀ out : List ℕ) (at count : ℕ) : Type 0 where
  pub counted : Counted s at count
  pub same : length out ≡ length out₀
  pub written : sets out count (undone (drop at s)) ≡ sets out₀ 0 (undone s)

pub none_undone : (s out : List ℕ) → Undoing s out out 0 0
none_undone s out = record { counted = none_counted s; same = refl; written = refl }

module _ (s out₀ out : List ℕ) (at count : ℕ) (u : Undoing s out₀ out at count) (h : at < length s) where
  pub one_undone : (next : ℕ) (out' : List ℕ) → out' ≡ set out count (get_or s at 0) → next ≡ past s at → Undoing s out₀ out' next (count + 1)
  one_undone next out' set_there e = record {
    counted = one_counted s at next count u.counted h e;
    same = ap length set_there ∙ length-set out count (get_or s at 0) ∙ u.same;
    written = rw (set_there, add-one count, e) (sym (ap (sets out count) (undone_step s at h)) ∙ u.written);
  }

  pub room_left : length (undone s) ≤ length out₀ → count < length out
  room_left fits =
      let size : length (undone (drop at s)) ≡ suc (length (undone (drop (past s at) s))) = ap length (undone_step s at h) in
      omega (arith, u.counted.whole, u.same)

pub all_undone : (s out₀ out : List ℕ) (at count : ℕ) → Undoing s out₀ out at count → length s ≤ at → out ≡ sets out₀ 0 (undone s)
all_undone s out₀ out at count u h = sym (ap (sets out count) (nothing_left s at h)) ∙ u.written

-- undone, a field has no more bytes than before
undone_short : (n : ℕ) (s : List ℕ) → length s ≤ n → length (undone s) ≤ length s
unfolding undone
undone_short n [] h = omega arith
undone_short n (b ∷ []) h = omega arith
undone_short zero (b ∷ c ∷ s) h = absurd (omega arith)
undone_short (suc n) (b ∷ c ∷ s) h = go (eqb b quote && eqb c quote) (undone_short n s (omega arith)) (undone_short n (c ∷ s) (omega arith))
  where
    go : (x : Bool) → length (undone s) ≤ length s → length (undone (c ∷ s)) ≤ suc (length s)
        → length (cond x (quote ∷ undone s) (b ∷ undone (c ∷ s))) ≤ suc (suc (length s))
    go true p q = omega arith
    go false p q = omega arith

pub size_fits : (text : List ℕ) (start end size : ℕ) → length text ≤ 65535 → size ≡ length (undone (part text start end)) → size < 4294967296
size_fits text start end size fit is =
    let no_more = undone_short (length (part text start end)) (part text start end) (omega arith) in
    omega (arith, length-take (end - start) (drop start text), length-drop start text)

-- from the first byte of the lent text on
sets_start : (new old : List ℕ) → length new ≤ length old → sets old 0 new ≡ new ++ drop (length new) old
sets_start new old fits = let none : 0 + length new ≡ length new = omega arith in sets-eq new old 0 (omega arith) ∙ rw none refl

-- `field_text`
module _ (text : List ℕ) (start end : ℕ) (out : List ℕ) where
  pub too_long : longest < length text → Unquotes text start end out (Err Long) out
  unfolding unquotes
  too_long h = record { row = rw (lt-ltb longest (length text) h) refl }

  module _ (fit : length text ≤ longest) where
    pub no_order : end < start → Unquotes text start end out (Err Beyond) out
    unfolding unquotes
    no_order h = record { row = rw (le-ltb longest (length text) fit, lt-leb start end h) refl }

    module _ (ordered : start ≤ end) where
      pub no_end : length text < end → Unquotes text start end out (Err Beyond) out
      unfolding unquotes
      no_end h = record { row = rw (le-ltb longest (length text) fit, le-leb start end ordered, lt-leb end (length text) h) refl }

      module _ (inside_text : end ≤ length text) (size : ℕ) (size_is : size ≡ length (undone (part text start end))) where
        pub no_room : length out < size → Unquotes text start end out (Err Full) out
        unfolding unquotes
        no_room h = record {
          row =
              rw (le-ltb longest (length text) fit, le-leb start end ordered, le-leb end (length text) inside_text, lt-ltb (length out) (length (undone (part text start end))) (omega arith)) refl;
        }

        pub unquoted_there : (out' : List ℕ) → size ≤ length out → out' ≡ sets out 0 (undone (part text start end)) → Unquotes text start end out (Ok size) out'
        unfolding unquotes
        unquoted_there out' h written =
            let there : out' ≡ undone (part text start end) ++ drop (length (undone (part text start end))) out = written ∙ sets_start (undone (part text start end)) out (omega arith) in
            record {
              row =
                  rw (le-ltb longest (length text) fit, le-leb start end ordered, le-leb end (length text) inside_text, le-ltb (length out) (length (undone (part text start end))) (omega arith))
                  (ap (λ n. unquoted (told 0 n) out') size_is ∙ ap (unquoted (told 0 (length (undone (part text start end))))) there);
            }
