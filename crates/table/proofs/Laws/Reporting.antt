-- The slot in an answer: the one that the code put there is the one that the call reports.
use mathlib.Core.Path.{◌≡◌, sym, ap, ◌∙◌}
use mathlib.Core.Bool.{false}
use mathlib.Core.Logic.{⊎_elim}
use Prim.Native.Nat.{ℕ, ◌≤◌, ◌<◌}
use native.Mathlib.Omega.{arith}
use Rattle.slots.specs.Layout.{Kind, ring, slot_of}
use Rattle.slots.proofs.Words.{below?}
use Rattle.slots.proofs.Placing.{slot_zero}
use Rattle.table.specs.Tray.{Tray, cap, invalid}
use Rattle.table.specs.Calls.{Call}
use Rattle.table.specs.Does.{Outcome, does}
use Rattle.table.specs.Reported.{concerned, no_slot, slot_for, told_slot, reported}
use Rattle.table.proofs.Laws.Valid.{fit, ring_inside}
use Rattle.table.proofs.Theorems.Reported.{done_reports}

module _ (k : Kind) (call : Call) (t : Tray) (o : Outcome) (promised : o ≡ does k call t) where
  -- no slot: of a refusal, or of a call about no entry
  pub none_reported : no_slot ≡ told_slot k call t o → no_slot ≡ reported k call t
  unfolding reported
  none_reported e = e ∙ ap (told_slot k call t) promised

  -- a slot: that of the entry that the call is about
  pub slot_reported : o.number ≡ 0 → (at : ℕ) → at ≡ slot_for k (cap t) t.head o.tray.head (concerned t.len call) → at ≡ reported k call t
  slot_reported zero at e = e ∙ sym (done_reports k call t o promised zero)

-- position 0 of a ring stands in its head's slot, and the head of one that has an entry is a slot
pub own_slot : (c h : ℕ) → h < c → h ≡ slot_of c h 0
own_slot c h inside = sym (slot_zero c h inside)

pub head_slot : (t : Tray) → invalid ring t ≡ false → (t.len ≡ 0 → ⊥) → t.head < cap t
head_slot t ok any =
    let f = fit ring t ok in
    let entry : 0 < t.len = ⊎_elim (λ (some : 0 < t.len). some) (λ (none : t.len ≤ 0). absurd (any (omega arith))) (below? 0 t.len) in
    ring_inside t ok (omega (arith, f.fits))
