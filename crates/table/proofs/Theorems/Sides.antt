-- What each head would cost on insert and remove: how many of the entries that remain change their slot, whichever slot the new list begins in; and which
-- heads cost least, by the numbers of entries on the two sides of the place.
use Prim.Native.Nat.{ℕ, ◌+◌, ◌-◌, min, ◌≤◌, ◌<◌}
use mathlib.Core.Path.{◌≡◌, sym, ap, ◌∙◌}
use mathlib.Core.Bool.{false}
use mathlib.Core.Logic.{◌⊎◌, inl, inr, ⊎_elim}
use native.Mathlib.Omega.{arith}
use Rattle.slots.specs.Layout.{ring, place, slot_of}
use Rattle.slots.specs.Moves.{moved}
use Rattle.slots.proofs.Words.{below?, same?}
use Rattle.slots.proofs.Placing.{one_head, slot_inside, slot_back, slot_on}
use Rattle.slots.proofs.Moves.{moved_each, tally_all, tally_but, insert_all_each, remove_all_each}
use Rattle.table.specs.Tray.{Tray, cap, invalid}
use Rattle.table.specs.Calls.{Call, insert, remove}
use Rattle.table.specs.Table.{head_back, head_on}
use Rattle.table.specs.Does.{row_of}
use Rattle.table.proofs.Laws.Valid.{ring_inside}
use Rattle.table.proofs.Theorems.Moves.{insert_high, insert_low, remove_high, remove_low}

-- how many of the remaining entries change their slot, by the call's carrying, if the new list is laid out so, position p in slot lay p; and if it begins
-- in slot g
abbrev pub with_layout : Call → Tray → (lay : ℕ → ℕ) → ℕ
with_layout call t lay = moved (place ring (cap t) t.head) lay (row_of ring call t).carry t.len

abbrev pub with_head : Call → Tray → (g : ℕ) → ℕ
with_head call t g = with_layout call t (place ring (cap t) g)

-- EACH HEAD'S COUNT w, where a of the remaining entries stand before the place and b behind it: those behind move if the head stays at h; those before do
-- if it goes along to h', one slot away; all do with any other.
pub record Counts (h h' a b g w : ℕ) : Type 0 where
  pub stays : g ≡ h → w ≡ b
  pub goes : g ≡ h' → w ≡ a
  pub other : (g ≡ h → ⊥) → (g ≡ h' → ⊥) → w ≡ a + b

module _ (t : Tray) (ok : invalid ring t ≡ false) where
  pub insert_counts : (i x g : ℕ) → i ≤ t.len → t.len < cap t → g < cap t
      → Counts t.head (head_back (cap t) t.head) i (t.len - i) g (with_head (insert i x) t g)
  insert_counts i x g fits room lt =
      let c : ℕ = cap t in
      let h : ℕ = t.head in
      let inside = ring_inside t ok (omega arith) in
      record {
        stays = λ e. rw e (insert_high ring t ok i fits room);
        goes = λ e. rw e (insert_low t ok i fits room);
        other = λ ne ne'.
            moved_each _ _ _ t.len _ (insert_all_each _ _ t.len i
            (λ j l e. ne (one_head c g h j lt inside e))
            (λ j l u e. ne' (one_head c g (head_back c h) (j + 1) lt (slot_inside c h (c - 1) inside) (e ∙ sym (slot_back c h j inside)))))
            ∙ tally_all t.len ∙ omega arith;
      }

  pub remove_counts : (i g : ℕ) → i < t.len → g < cap t
      → Counts t.head (head_on (cap t) t.head) i (t.len - 1 - i) g (with_head (remove i) t g)
  remove_counts i g fits lt =
      let c : ℕ = cap t in
      let h : ℕ = t.head in
      let inside = ring_inside t ok (omega arith) in
      let behind : (j : ℕ) → i < j → slot_of c h j ≡ slot_of c (head_on c h) (j - 1) = λ j l. ap (slot_of c h) (omega arith) ∙ sym (slot_on c h (j - 1)) in
      record {
        stays = λ e. rw e (remove_high ring t ok i fits);
        goes = λ e. rw e (remove_low t ok i fits);
        other = λ ne ne'.
            moved_each _ _ _ t.len _ (remove_all_each _ _ t.len i
            (λ j l e. ne (one_head c g h j lt inside e))
            (λ j l u e. ne' (one_head c g (head_on c h) (j - 1) lt (slot_inside c h 1 inside) (e ∙ behind j l))))
            ∙ tally_but t.len i fits ∙ omega arith;
      }

-- A HEAD THAT DOES AS WELL as the one chosen: it is that one; or there are as many on either side, and it is the other side's, or nobody is there to move.
abbrev pub AsGood : (chosen h' a b g : ℕ) → Type 0
AsGood chosen h' a b g = (g ≡ chosen) ⊎ ((a ≡ b) × ((g ≡ h') ⊎ (a ≡ 0)))

-- From the counts: none is below that of the shorter side.
module _ (h h' a b g w : ℕ) (counts : Counts h h' a b g w) where
  three_ways : {P : Type 0} → (g ≡ h → w ≡ b → P) → (g ≡ h' → w ≡ a → P) → (w ≡ a + b → P) → P
  three_ways stays goes other =
      ⊎_elim
      (λ (e : g ≡ h). stays e (counts.stays e))
      (λ (ne : g ≡ h → ⊥). ⊎_elim (λ (e : g ≡ h'). goes e (counts.goes e)) (λ (ne' : g ≡ h' → ⊥). other (counts.other ne ne')) (same? g h'))
      (same? g h)

  pub none_fewer : min a b ≤ w
  none_fewer = three_ways (λ e q. omega arith) (λ e q. omega arith) (λ q. omega arith)

  nobody_there : a + b ≡ 0 → w ≡ min a b
  nobody_there none = three_ways (λ e q. omega arith) (λ e q. omega arith) (λ q. omega arith)

  -- The head chosen is the shorter side's. Where the sides differ, every other head comes to more. One that comes to the same is as good as the chosen one,
  -- and one as good comes to the same.
  module _ (chosen : ℕ) (front : a < b → chosen ≡ h') (back : b ≤ a → 0 < a + b → chosen ≡ h) where
    pub all_more : (a ≡ b → ⊥) → (g ≡ chosen → ⊥) → min a b < w
    all_more uneven ne =
        ⊎_elim
        (λ (lt : a < b). three_ways (λ e q. omega arith) (λ e q. absurd (ne (e ∙ sym (front (omega arith))))) (λ q. omega arith))
        (λ (ge : b ≤ a). three_ways (λ e q. absurd (ne (e ∙ sym (back (omega arith) (omega arith))))) (λ e q. omega arith) (λ q. omega arith))
        (below? a b)

    pub as_good : w ≡ min a b → AsGood chosen h' a b g
    as_good tie =
        ⊎_elim
        (λ (even : a ≡ b).
        ⊎_elim
        (λ (none : a ≡ 0). inr (omega arith, inr none))
        (λ (some : a ≡ 0 → ⊥).
        three_ways (λ e q. inl (e ∙ sym (back (omega arith) (omega arith)))) (λ e q. inr (omega arith, inl e)) (λ q. absurd (some (omega arith))))
        (same? a 0))
        (λ (uneven : a ≡ b → ⊥).
        ⊎_elim
        (λ (e : g ≡ chosen). inl e)
        (λ (ne : g ≡ chosen → ⊥).
        ⊎_elim
        (λ (lt : a < b). three_ways (λ e q. absurd (omega arith)) (λ e q. absurd (ne (e ∙ sym (front lt)))) (λ q. absurd (omega arith)))
        (λ (ge : b ≤ a). three_ways (λ e q. absurd (ne (e ∙ sym (back ge (omega arith))))) (λ e q. absurd (omega arith)) (λ q. absurd (omega arith)))
        (below? a b))
        (same? g chosen))
        (same? a b)

    pub is_good : AsGood chosen h' a b g → w ≡ min a b
    is_good =
        ⊎_elim
        (λ (e : g ≡ chosen).
        ⊎_elim
        (λ (lt : a < b). omega (arith, counts.goes (e ∙ front (omega arith))))
        (λ (ge : b ≤ a).
        ⊎_elim
        (λ (some : 0 < a + b). omega (arith, counts.stays (e ∙ back (omega arith) (omega arith))))
        (λ (none : a + b ≤ 0). nobody_there (omega arith))
        (below? 0 (a + b)))
        (below? a b))
        (λ alike.
        let even = alike.0 in
        ⊎_elim
        (λ (e : g ≡ h'). omega (arith, counts.goes e))
        (λ (none : a ≡ 0). nobody_there (omega arith))
        alike.1)
