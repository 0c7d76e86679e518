-- What some calls of a vector do where they are done, as the proof of each function finds it: a vector's position is its slot, so nothing is said
-- of where it stands.
use mathlib.Core.Path.{◌≡◌, refl}
use mathlib.Core.Bool.{false}
use mathlib.Core.List.{List}
use mathlib.Core.Logic.{⊎_elim}
use Prim.Native.Nat.{ℕ, ◌-◌, ◌≤◌, ◌<◌}
use native.Mathlib.Omega.{arith}
use lib.ListN.{get_or, set}
use lib.Seq.{set-get_or}
use Rattle.slots.specs.Layout.{vector, itself}
use Rattle.slots.specs.Shift.{Filled}
use Rattle.slots.proofs.Words.{below?}
use Rattle.slots.proofs.Fills.{fill_none, one_fill}
use Rattle.table.specs.Tray.{Tray, cap, invalid}
use Rattle.table.specs.Calls.{write, swap_remove, resize}
use Rattle.table.specs.Does.{Outcome, gives, does}
use Rattle.table.proofs.Laws.Valid.{fit}
use Rattle.table.proofs.Laws.Done.{Homed}
use Rattle.table.proofs.Laws.Stores.{write_done}
use Rattle.table.proofs.Laws.Shifted.{swap_last_done}
use Rattle.table.proofs.Laws.Cut.{vector_resize_grown, resize_same_done}

module _ (t : Tray) (o : Outcome) (ok : invalid vector t ≡ false) where
  pub vector_write_done : Homed vector t → (i x : ℕ) → i < t.len → o ≡ gives (get_or t.slots i 0) 0 t.head t.len (set t.slots i x)
      → o ≡ does vector (write i x) t
  vector_write_done home i x h eo = write_done vector t o ok home i x i h refl eo

  -- swap_remove of the last only empties its slot: what it would store back is what the slot holds
  pub vector_swap_last_done : (i : ℕ) → i < t.len → i ≡ t.len - 1
      → o ≡ gives (get_or t.slots i 0) 0 0 (t.len - 1) (set t.slots (t.len - 1) 0) → o ≡ does vector (swap_remove i) t
  vector_swap_last_done i h e eo = swap_last_done t o ok i h e (cc (eo, e, set-get_or t.slots (t.len - 1) 0))

  -- resize to no fewer: the entries that are added may be none
  pub vector_resize_more_done : Homed vector t → (i x : ℕ) (u : List ℕ) → i ≤ cap t → t.len ≤ i → Filled itself t.len i x t.slots u
      → o ≡ gives 0 0 0 i u → o ≡ does vector (resize i x) t
  vector_resize_more_done home i x u fits h m eo = ⊎_elim more same (below? t.len i)
    where
      more : t.len < i → o ≡ does vector (resize i x) t
      more lt = vector_resize_grown t o ok i x u fits lt m eo

      same : i ≤ t.len → o ≡ does vector (resize i x) t
      same le =
          let e : i ≡ t.len = omega arith in
          let kept : u ≡ t.slots = one_fill _ _ t.len t.len x t.slots u t.slots (fit vector t ok).placed (rw e at m) (fill_none _ _ _ _) in
          resize_same_done vector t o ok home i x fits h le (cc (eo, e, kept, home))
