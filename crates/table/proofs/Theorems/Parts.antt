-- A vector's part: it is lent as asked exactly where the question answers 0, holds exactly the entries of the range and lies inside the slots; else
-- it is the empty part at slot 0.
use mathlib.Core.Path.{◌≡◌, refl, sym, ◌∙◌}
use mathlib.Core.Bool.{Bool, true, false, not, ◌||◌}
use mathlib.Core.List.{List, []}
use mathlib.Core.Logic.{◌⊎◌, inl, inr, ⊎_elim}
use Prim.Native.Nat.{ℕ, ◌+◌, ◌-◌, ◌≤◌, ◌<◌}
use native.Mathlib.Omega.{arith}
use borrow.Author.Tests.{leb-true}
use lib.Dec.{leb}
use lib.ListN.{length, get_or, take, drop, length-take, length-drop}
use lib.Seq.{ext_get_or, take_all, get_or-take, get_or-drop}
use Rattle.slots.specs.Layout.{vector}
use Rattle.slots.proofs.Words.{below?}
use Rattle.table.specs.Tray.{Tray, cap, list, invalid, within}
use Rattle.table.specs.Calls.{look, range}
use Rattle.table.specs.Numbers.{Astray}
use Rattle.table.specs.Does.{does}
use Rattle.table.specs.Parts.{Part, no_part, lends, lends_all, in_part}
use Rattle.table.proofs.Laws.Refusals.{inside}
use Rattle.table.proofs.Laws.Valid.{fit, and_left, and_right}
use Rattle.table.proofs.Laws.Done.{many, at}

-- the part as it is asked for
abbrev pub asked : (a b : ℕ) → Part
asked a b = record { start = a; count = b - a }

-- a range is in order and within the list, or it is astray
within? : (a b n : ℕ) → ((a ≤ b) × (b ≤ n)) ⊎ Astray a b n
within? a b n =
    ⊎_elim
    (λ (gt : b < a). inr (λ w. omega arith))
    (λ (le : a ≤ b). ⊎_elim (λ (gt : n < b). inr (λ w. omega arith)) (λ (fits : b ≤ n). inl (le, fits)) (below? n b))
    (below? b a)

outside : (a b n : ℕ) → Astray a b n → not (within a b n) ≡ true
outside a b n out = go (within a b n) refl
  where
    go : (p : Bool) → within a b n ≡ p → not p ≡ true
    go true e = absurd (out (leb-true a b (and_left _ _ e), leb-true b n (and_right (leb a b) _ e)))
    go false e = refl

or_right : (p q : Bool) → q ≡ true → p || q ≡ true
or_right true q e = refl
or_right false q e = e

-- two lists with the same numbers in a run have the same part
same_part : (xs ys : List ℕ) (a m : ℕ) → a + m ≤ length xs → a + m ≤ length ys → ((j : ℕ) → j < a + m → get_or xs j 0 ≡ get_or ys j 0)
    → take m (drop a xs) ≡ take m (drop a ys)
same_part xs ys a m fx fy e =
    ext_get_or 0 _ _ (many xs fx ∙ sym (many ys fy)) (λ i h. let lt : i < m = omega (arith, many xs fx) in
    in_part_law xs i lt ∙ e (a + i) (omega arith) ∙ sym (in_part_law ys i lt))
  where
    many : (zs : List ℕ) → a + m ≤ length zs → length (take m (drop a zs)) ≡ m
    many zs f = simp (length-take, length-drop) (omega arith)

    in_part_law : (zs : List ℕ) (i : ℕ) → i < m → get_or (take m (drop a zs)) i 0 ≡ get_or zs (a + i) 0
    in_part_law zs i h = get_or-take m (drop a zs) i 0 h ∙ get_or-drop a zs i 0

-- What is lent, by the tests that tell it.
module _ (t : Tray) (a b : ℕ) where
  pub lends_asked : invalid vector t ≡ false → a ≤ b → b ≤ t.len → lends a b t ≡ asked a b
  lends_asked ok le fits = rw (ok, inside a b t.len le fits)

  pub lends_invalid : invalid vector t ≡ true → lends a b t ≡ no_part
  lends_invalid bad = rw bad

  pub lends_astray : Astray a b t.len → lends a b t ≡ no_part
  lends_astray out = rw (or_right (invalid vector t) _ (outside a b t.len out))

  -- THE QUESTION. Its number and the part, together.
  pub data Question : (number : ℕ) → Part → Type 0 where
    lent : invalid vector t ≡ false → a ≤ b → b ≤ t.len → Question 0 (asked a b)
    unfit : invalid vector t ≡ true → Question 1 no_part
    astray : invalid vector t ≡ false → Astray a b t.len → Question 3 no_part

  pub question : Question (does vector (look (range a b)) t).number (lends a b t)
  unfolding does
  question = go (invalid vector t) refl
    where
      go : (p : Bool) → invalid vector t ≡ p → Question (does vector (look (range a b)) t).number (lends a b t)
      go true e = rw e (unfit e)
      go false e =
          ⊎_elim
          (λ (w : (a ≤ b) × (b ≤ t.len)). rw (e, inside a b t.len w.0 w.1) (lent e w.0 w.1))
          (λ (out : Astray a b t.len). rw (e, outside a b t.len out) (astray e out))
          (within? a b t.len)

  -- the part lies inside the slots
  pub part_inside : (lends a b t).start + (lends a b t).count ≤ cap t
  part_inside = go question
    where
      go : {m : ℕ} {p : Part} → Question m p → p.start + p.count ≤ cap t
      go (lent ok le fits) = omega (arith, (fit vector t ok).fits)
      go (unfit bad) = omega arith
      go (astray ok out) = omega arith

  -- THE ENTRIES of the range, and none where nothing is lent
  pub part_holds : invalid vector t ≡ false → a ≤ b → b ≤ t.len → in_part (lends a b t) t.slots ≡ take (b - a) (drop a (list vector t))
  part_holds ok le fits =
      let room = (fit vector t ok).fits in
      rw (lends_asked ok le fits) (same_part t.slots (list vector t) a (b - a) (omega arith) (omega (arith, many vector t))
      (λ j h. sym (at vector t j j (omega arith) refl)))

  pub part_none : lends a b t ≡ no_part → in_part (lends a b t) t.slots ≡ []
  part_none e = rw e

-- as_slice and its like
pub part_all : (t : Tray) → invalid vector t ≡ false → in_part (lends_all t) t.slots ≡ list vector t
part_all t ok = part_holds t 0 t.len ok (omega arith) (omega arith) ∙ take_all (t.len - 0) (list vector t) (omega (arith, many vector t))
