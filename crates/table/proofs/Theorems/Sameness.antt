-- Sameness: of two valid containers the value is 1 exactly when their lists are equal, and 0 exactly when they differ. It is reflexive, symmetric and
-- transitive. Head and capacity don't count: a ring that is turned, or laid out on other slots, is the same as it was, to itself and to all others.
use Prim.Native.Nat.{ℕ, ◌-◌, ◌≤◌}
use mathlib.Core.Path.{◌≡◌, refl, sym, ◌∙◌}
use mathlib.Core.Bool.{true, false, cond}
use mathlib.Core.List.{List}
use mathlib.Core.Logic.{⊎_elim}
use native.Mathlib.Omega.{arith}
use lib.ListN.{length}
use Rattle.slots.specs.Layout.{Kind, ring}
use Rattle.table.specs.Tray.{Tray, cap, list, invalid}
use Rattle.table.specs.Calls.{clone, same}
use Rattle.table.specs.Table.{equal_lists}
use Rattle.table.specs.Does.{Outcome2, relay, does2}
use Rattle.table.proofs.Laws.Done.{many, head_in}
use Rattle.table.proofs.Laws.Equal.{equal?}
use Rattle.table.proofs.Laws.Keeps.{relay_list}
use Rattle.table.proofs.Laws.Valid.{fit}
use Rattle.table.proofs.Theorems.Refused.{two_settled, two_clear}
use Rattle.table.proofs.Theorems.Listed.{two_listed}
use Rattle.table.proofs.Theorems.StaysValid.{Leaves, relay_valid, first_stays_valid, second_stays_valid}

-- a value that tells whether two lists are equal
pub record Exactly (value : ℕ) (l l2 : List ℕ) : Type 0 where
  pub one : value ≡ 1 → l ≡ l2
  pub equal : l ≡ l2 → value ≡ 1
  pub zero : value ≡ 0 → l ≡ l2 → ⊥
  pub differ : (l ≡ l2 → ⊥) → value ≡ 0

tells_exactly : (value : ℕ) (l l2 : List ℕ) → value ≡ cond (equal_lists l l2) 1 0 → Exactly value l l2
tells_exactly value l l2 e =
    ⊎_elim
    (λ (is : (equal_lists l l2 ≡ true) × (l ≡ l2)).
    let yes : value ≡ 1 = e ∙ rw is.0 in
    record { one = λ z. is.1; equal = λ z. yes; zero = λ z. absurd (omega arith); differ = λ ne. absurd (ne is.1) })
    (λ (not : (equal_lists l l2 ≡ false) × (l ≡ l2 → ⊥)).
    let no : value ≡ 0 = e ∙ rw not.0 in
    record { one = λ z. absurd (omega arith); equal = λ is. absurd (not.1 is); zero = λ z. not.1; differ = λ ne. no })
    (equal? l l2)

-- BOTH DIRECTIONS, of any two kinds
module _ (k k2 : Kind) (t t2 : Tray) (o : Outcome2) (ok : invalid k t ≡ false) (ok2 : invalid k2 t2 ≡ false) (promised : o ≡ does2 k k2 same t t2) where
  pub same_answers : o.number ≡ 0
  same_answers = rw (promised, (two_settled k k2 same t t2).first, ok, ok2)

  pub same_exactly : Exactly o.value (list k t) (list k2 t2)
  same_exactly = tells_exactly _ _ _ (two_listed k k2 same t t2 o promised same_answers).value

-- what is answered of two containers
abbrev pub sameness : (k k2 : Kind) (t t2 : Tray) → ℕ
sameness k k2 t t2 = (does2 k k2 same t t2).value

-- THE LISTS ALONE DECIDE: containers of any kinds, heads and capacities that hold the same lists get the same answer
pub same_by_lists : (j j2 k k2 : Kind) (s s2 t t2 : Tray) → invalid j s ≡ false → invalid j2 s2 ≡ false → invalid k t ≡ false → invalid k2 t2 ≡ false
    → list j s ≡ list k t → list j2 s2 ≡ list k2 t2 → sameness j j2 s s2 ≡ sameness k k2 t t2
same_by_lists j j2 k k2 s s2 t t2 oks oks2 ok ok2 e e2 =
    (two_listed j j2 same s s2 _ refl (same_answers j j2 s s2 _ oks oks2 refl)).value
    ∙ rw (e, e2) (sym (two_listed k k2 same t t2 _ refl (same_answers k k2 t t2 _ ok ok2 refl)).value)

-- REFLEXIVE, SYMMETRIC, TRANSITIVE
module _ (k k2 : Kind) (t t2 : Tray) (ok : invalid k t ≡ false) (ok2 : invalid k2 t2 ≡ false) where
  exact : Exactly (sameness k k2 t t2) (list k t) (list k2 t2)
  exact = same_exactly k k2 t t2 _ ok ok2 refl

pub same_reflexive : (k : Kind) (t : Tray) → invalid k t ≡ false → sameness k k t t ≡ 1
same_reflexive k t ok = (exact k k t t ok ok).equal refl

pub same_symmetric : (k k2 : Kind) (t t2 : Tray) → invalid k t ≡ false → invalid k2 t2 ≡ false → sameness k k2 t t2 ≡ sameness k2 k t2 t
same_symmetric k k2 t t2 ok ok2 =
    ⊎_elim
    (λ (is : (equal_lists (list k t) (list k2 t2) ≡ true) × (list k t ≡ list k2 t2)). (exact k k2 t t2 ok ok2).equal is.1 ∙ sym ((exact k2 k t2 t ok2 ok).equal (sym is.1)))
    (λ (not : (equal_lists (list k t) (list k2 t2) ≡ false) × (list k t ≡ list k2 t2 → ⊥)).
    (exact k k2 t t2 ok ok2).differ not.1 ∙ sym ((exact k2 k t2 t ok2 ok).differ (λ e. not.1 (sym e))))
    (equal? (list k t) (list k2 t2))

pub same_transitive : (k k2 k3 : Kind) (t t2 t3 : Tray) → invalid k t ≡ false → invalid k2 t2 ≡ false → invalid k3 t3 ≡ false
    → sameness k k2 t t2 ≡ 1 → sameness k2 k3 t2 t3 ≡ 1 → sameness k k3 t t3 ≡ 1
same_transitive k k2 k3 t t2 t3 ok ok2 ok3 e e2 =
    (exact k k3 t t3 ok ok3).equal ((exact k k2 t t2 ok ok2).one e ∙ (exact k2 k3 t2 t3 ok2 ok3).one e2)

-- TURNED, OR LAID OUT ON OTHER SLOTS. A ring's list from head h on, on the slots of `on`: on its own slots it is the ring turned, on others the ring
-- moved to another capacity.
abbrev pub laid_out : (on t : Tray) (h : ℕ) → Tray
laid_out on t h = relay ring on (list ring t) h

module _ (on t : Tray) (h : ℕ) (ok : invalid ring t ≡ false) (small : cap on ≤ 4096) (room : t.len ≤ cap on) (inside : h ≤ cap on - 1) where
  left : Leaves ring on (list ring t) h
  left = record { room = omega (arith, many ring t); inside = head_in ring (length (list ring t)) h (cap on - 1) inside }

  pub laid_out_valid : invalid ring (laid_out on t h) ≡ false
  laid_out_valid = relay_valid ring on (list ring t) h small left

  pub laid_out_list : list ring (laid_out on t h) ≡ list ring t
  laid_out_list = relay_list ring on (list ring t) h left.inside left.room

  pub laid_out_same : sameness ring ring t (laid_out on t h) ≡ 1
  laid_out_same = (exact ring ring t (laid_out on t h) ok laid_out_valid).equal (sym laid_out_list)

  -- any other gets the answer that it got
  module _ (k2 : Kind) (t2 : Tray) (ok2 : invalid k2 t2 ≡ false) where
    pub laid_out_first : sameness ring k2 (laid_out on t h) t2 ≡ sameness ring k2 t t2
    laid_out_first = same_by_lists ring k2 ring k2 (laid_out on t h) t2 t t2 laid_out_valid ok2 ok ok2 laid_out_list refl

    pub laid_out_second : sameness k2 ring t2 (laid_out on t h) ≡ sameness k2 ring t2 t
    laid_out_second = same_by_lists k2 ring k2 ring t2 (laid_out on t h) t2 t ok2 laid_out_valid ok2 ok refl laid_out_list

-- the ring turned to any head
module _ (t : Tray) (h : ℕ) (ok : invalid ring t ≡ false) (inside : h ≤ cap t - 1) where
  pub turned_same : sameness ring ring t (laid_out t t h) ≡ 1
  turned_same = laid_out_same t t h ok (fit ring t ok).small (fit ring t ok).fits inside

-- A COPY IS THE SAME: what clone leaves in T is the same as what it copied
pub clone_same : (k k2 : Kind) (t t2 : Tray) (o : Outcome2) → o ≡ does2 k k2 clone t t2 → o.number ≡ 0 → sameness k k2 o.first o.second ≡ 1
clone_same k k2 t t2 o promised done =
    let clear = two_clear k k2 clone t t2 o promised done in
    let ok = first_stays_valid k k2 clone t t2 o promised clear.0 in
    let ok2 = second_stays_valid k k2 clone t t2 o promised clear.1.0 in
    let now = two_listed k k2 clone t t2 o promised done in
    (exact k k2 o.first o.second ok ok2).equal (now.first.listed ∙ sym now.second.listed)
