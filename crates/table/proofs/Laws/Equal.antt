-- Sameness, of any two kinds that have it: what the code's comparison tells is what `equal_lists` says, and the answer leaves both as they were.
use mathlib.Core.Path.{◌≡◌, refl, sym, ◌∙◌, subst}
use mathlib.Core.Bool.{Bool, true, false, cond, true≢false, false≢true}
use mathlib.Core.List.{List, [], ◌∷◌, List-discrete}
use mathlib.Core.Logic.{◌⊎◌, inl, inr}
use Prim.Native.Nat.{ℕ}
use native.Mathlib.Decide.{ℕ_discrete}
use borrow.Author.Tests.{eq-eqb, eqb-true}
use lib.Dec.{eqb}
use Rattle.slots.specs.Layout.{Kind, place, entries}
use Rattle.slots.specs.Compare.{Tells}
use Rattle.slots.proofs.Compares.{tells_long}
use Rattle.table.specs.Tray.{Tray, cap, list, invalid}
use Rattle.table.specs.Calls.{same}
use Rattle.table.specs.Table.{equal_lists}
use Rattle.table.specs.Does.{Outcome2, does2}
use Rattle.table.proofs.Laws.Valid.{and_left, and_right}
use Rattle.table.proofs.Laws.Done.{Homed, many, still, as_it_was}
use Rattle.table.proofs.Laws.Done2.{gives2, done2_is}

-- `equal_lists` says yes exactly of equal lists
itself_equal : (l : List ℕ) → equal_lists l l ≡ true
itself_equal [] = refl
itself_equal (x ∷ xs) = rw (eq-eqb x x refl) (itself_equal xs)

equals : (l l2 : List ℕ) → l ≡ l2 → equal_lists l l2 ≡ true
equals l l2 e = rw e (itself_equal l2)

are_equal : (l l2 : List ℕ) → equal_lists l l2 ≡ true → l ≡ l2
are_equal [] [] e = refl
are_equal [] (y ∷ ys) e = cc
are_equal (x ∷ xs) [] e = cc
are_equal (x ∷ xs) (y ∷ ys) e =
    let head = eqb-true x y (and_left (eqb x y) (equal_lists xs ys) e) in
    let rest = are_equal xs ys (and_right (eqb x y) (equal_lists xs ys) e) in
    cc

-- The one law between a comparison and the table.
pub tells_equal : (b : Bool) (l l2 : List ℕ) → Tells b l l2 → equal_lists l l2 ≡ b
tells_equal true l l2 m = equals l l2 (m.yes refl)
tells_equal false l l2 m = differ (equal_lists l l2) refl
  where
    differ : (v : Bool) → equal_lists l l2 ≡ v → v ≡ false
    differ true e = absurd (m.no refl (are_equal l l2 e))
    differ false e = refl

-- equal, as the table tells it, or not
pub equal? : (l l2 : List ℕ) → ((equal_lists l l2 ≡ true) × (l ≡ l2)) ⊎ ((equal_lists l l2 ≡ false) × (l ≡ l2 → ⊥))
equal? l l2 = elim (List-discrete ℕ_discrete l l2) [
  | yes e ↦ inl (tells_equal true l l2 (record { yes = λ z. e; no = λ z. absurd (true≢false z) }), e)
  | no ne ↦ inr (tells_equal false l l2 (record { yes = λ z. absurd (false≢true z); no = λ z. ne }), ne)
]

-- a question's answer: 1 or 0, and both as they were
abbrev pub answers : (t t2 : Tray) → ℕ → Outcome2
answers t t2 value = gives2 value t.head t.len t.slots t2.head t2.len t2.slots

module _ (k k2 : Kind) (t t2 : Tray) (o : Outcome2) (ok : invalid k t ≡ false) (ok2 : invalid k2 t2 ≡ false) (home : Homed k t) (home2 : Homed k2 t2) where
  -- b is what the code has settled
  asked : (b : Bool) → Tells b (list k t) (list k2 t2) → o ≡ answers t t2 (cond b 1 0) → o ≡ does2 k k2 same t t2
  asked b m eo =
      cc (
        done2_is k k2 t t2 same ok ok2 tt,
        tells_equal b (list k t) (list k2 t2) m,
        eo,
        home,
        home2,
        many k t,
        many k2 t2,
        still k t,
        as_it_was k t ok,
        as_it_was k2 t2 ok2,
      )

  -- the lengths differ
  pub longer_done : (t.len ≡ t2.len → ⊥) → o ≡ answers t t2 0 → o ≡ does2 k k2 same t t2
  longer_done ne eo = asked false (tells_long _ _ (λ e. ne (sym (many k t) ∙ e ∙ many k2 t2))) eo

  -- they are one, and so many entries were compared
  pub same_done : (b : Bool) → t.len ≡ t2.len → Tells b (entries (place k (cap t) t.head) t.len t.slots) (entries (place k2 (cap t2) t2.head) t.len t2.slots)
      → o ≡ answers t t2 (cond b 1 0) → o ≡ does2 k k2 same t t2
  same_done b lens m eo = asked b (subst (λ n. Tells b (list k t) (entries (place k2 (cap t2) t2.head) n t2.slots)) lens m) eo
