-- What reading a text gives, case by case: each refusal in its order, and what is done. All that is said of a reading is said of these four.
use mathlib.Core.Path.{◌≡◌, refl, subst⁻¹}
use mathlib.Core.Bool.{Bool, true, false}
use mathlib.Core.List.{List}
use Prim.Native.Nat.{ℕ, ◌≤◌, ◌<◌}
use native.Mathlib.Omega.{arith}
use borrow.Author.Tests.{lt-ltb, le-ltb, eq-eqb, ne_eqb, ltb-true, ltb-false, eqb-true, eqb-false}
use lib.Dec.{ltb, eqb}
use lib.ListN.{length}
use Rattle.slots.specs.Layout.{most, Kind}
use Rattle.table.specs.Tray.{Tray, cap, nowhere}
use Rattle.table.specs.Does.{Outcome, refused, gives, bare}
use Rattle.stored.specs.Judge.{told, judge}
use Rattle.stored.specs.Reads.{reads}

module _ (k : Kind) (text slots : List ℕ) where
  pub reads_over : most < length slots → reads k text slots ≡ refused (bare slots) nowhere 1
  unfolding reads
  reads_over h = rw (lt-ltb _ _ h)

  module _ (few : length slots ≤ most) where
    pub reads_other : judge k text ≡ false → reads k text slots ≡ refused (bare slots) nowhere 14
    unfolding reads
    reads_other e = rw (le-ltb _ _ few, e)

    module _ (ok : judge k text ≡ true) where
      pub reads_room : (cap (told k text) ≡ length slots → ⊥) → reads k text slots ≡ refused (bare slots) nowhere 6
      unfolding reads
      reads_room ne = rw (le-ltb _ _ few, ok, ne_eqb _ _ ne)

      pub reads_done : cap (told k text) ≡ length slots → reads k text slots ≡ gives 0 0 (told k text).head (told k text).len (told k text).slots
      unfolding reads
      reads_done same = rw (le-ltb _ _ few, ok, eq-eqb _ _ same)

-- a container that is given as it stands
abbrev pub given : Tray → Outcome
given t = gives 0 0 t.head t.len t.slots

-- what holds of every refusal and of what is done holds of the reading
pub reads_either : (k : Kind) (text slots : List ℕ) (P : Outcome → Type 0) → ((m : ℕ) → 0 < m → m ≤ 14 → P (refused (bare slots) nowhere m))
    → (length slots ≤ most → judge k text ≡ true → cap (told k text) ≡ length slots → P (given (told k text))) → P (reads k text slots)
reads_either k text slots P turned done = go (ltb most (length slots)) refl (judge k text) refl (eqb (cap (told k text)) (length slots)) refl
  where
    go : (big : Bool) → ltb most (length slots) ≡ big → (j : Bool) → judge k text ≡ j → (same : Bool) → eqb (cap (told k text)) (length slots) ≡ same → P (reads k text slots)
    go true e j ej b eb = subst⁻¹ P (reads_over k text slots (ltb-true _ _ e)) (turned 1 (omega arith) (omega arith))
    go false e false ej b eb = subst⁻¹ P (reads_other k text slots (ltb-false _ _ e) ej) (turned 14 (omega arith) (omega arith))
    go false e true ej false eb = subst⁻¹ P (reads_room k text slots (ltb-false _ _ e) ej (eqb-false _ _ eb)) (turned 6 (omega arith) (omega arith))
    go false e true ej true eb = subst⁻¹ P (reads_done k text slots (ltb-false _ _ e) ej (eqb-true _ _ eb)) (done (ltb-false _ _ e) ej (eqb-true _ _ eb))
