-- A call with an allowance (request 11): it answers 12 exactly when the plain call would be done and would move more, and then nothing has changed; in all other cases it is the plain
-- call, whole. Where an allowance is enough every larger one gives the same.
use Prim.Native.Nat.{ℕ, suc, ◌^◌, ◌≤◌, ◌<◌}
use mathlib.Core.Path.{◌≡◌, refl, sym, ap, ◌∙◌, subst⁻¹}
use mathlib.Core.Bool.{Bool, true, false, cond, true≢false}
use mathlib.Core.Logic.{⊎_elim}
use native.Mathlib.Omega.{arith}
use Rattle.slots.specs.Layout.{Kind}
use Rattle.slots.proofs.Totals.{no_change}
use Rattle.slots.proofs.Words.{below?, same?}
use Rattle.table.specs.Tray.{Tray, list, nowhere}
use Rattle.table.specs.Calls.{Call, has}
use Rattle.table.specs.Table.{Refusal, number_of, first_invalid, second_invalid, beyond, empty, taken, full, after}
use Rattle.table.specs.Does.{Outcome, refused, done, row_of, refusals_of, does}
use Rattle.table.specs.Numbers.{Applies}
use Rattle.table.specs.Reported.{no_slot, reported}
use Rattle.table.specs.Totals.{total_after}
use Rattle.table.specs.Within.{exceeds, does_within, reported_within, total_within}
use Rattle.table.specs.PromiseWithin.{promise_within}
use Rattle.table.proofs.Laws.Refusals.{either}
use Rattle.table.proofs.Laws.Within.{exceeding, exceeded}
use Rattle.table.proofs.Theorems.Numbers.{call_numbers}
use Rattle.table.proofs.Theorems.Refused.{call_refused, few_numbers}
use Rattle.table.proofs.Theorems.Moves.{few_moves}
use Rattle.table.proofs.Theorems.Reported.{refused_reports, fits_16}
use Rattle.table.proofs.Theorems.Totals.{refused_total}
use Rattle.table.proofs.Theorems.Home.{AtHome, stays_home}
use Rattle.table.proofs.Theorems.AlwaysHome.{Homes}

-- the plain call would be done, and would move more than a
abbrev pub MovesMore : (a : ℕ) → Kind → Call → Tray → Type 0
MovesMore a k call t = ((does k call t).number ≡ 0) × (a < (does k call t).moves)

-- a plain call never answers 12
below_12 : (r : Refusal) → number_of r < 12
below_12 first_invalid = omega arith
below_12 second_invalid = omega arith
below_12 beyond = omega arith
below_12 empty = omega arith
below_12 taken = omega arith
below_12 full = omega arith

pub plain_below_12 : (k : Kind) (call : Call) (t : Tray) → (does k call t).number < 12
unfolding does
plain_below_12 k call t =
    either (λ (o : Outcome). o.number < 12) (refused t (row_of k call t).given) (refusals_of k call t) (done k t (after call (list k t)) (row_of k call t)) below_12 (λ clear. omega arith)

-- what holds of a refusal with 12 where more would move, and of the plain call where not, holds
pub each_way : (P : Outcome → Type 0) (a : ℕ) (k : Kind) (call : Call) (t : Tray) → (MovesMore a k call t → P (refused t nowhere 12)) → ((MovesMore a k call t → ⊥) → P (does k call t))
    → P (does_within a k call t)
unfolding does_within
each_way P a k call t more plain = go (exceeds a (does k call t)) refl
  where
    go : (b : Bool) → exceeds a (does k call t) ≡ b → P (cond b (refused t nowhere 12) (does k call t))
    go true e = more (exceeded a (does k call t) e)
    go false e = plain (λ m. true≢false (sym (exceeding a (does k call t) m.0 m.1) ∙ e))

-- HERE o is what is seen of a call with the allowance a, as its promise says.
module _ (a : ℕ) (k : Kind) (call : Call) (t : Tray) (o : Outcome) (promised : o ≡ does_within a k call t) where
  -- 12 EXACTLY WHEN the plain call would be done and would move more: then all is as it was
  pub twelve_when : o.number ≡ 12 → MovesMore a k call t
  twelve_when =
      subst⁻¹ (λ (o : Outcome). o.number ≡ 12 → MovesMore a k call t) promised
      (each_way (λ (o : Outcome). o.number ≡ 12 → MovesMore a k call t) a k call t (λ more e. more) (λ less e. absurd (omega (arith, plain_below_12 k call t))))

  pub then_twelve : MovesMore a k call t → o ≡ refused t nowhere 12
  then_twelve more = promised ∙ each_way (λ o. o ≡ refused t nowhere 12) a k call t (λ again. refl) (λ less. absurd (less more))

  -- IN ALL OTHER CASES the whole outcome is the plain one
  pub else_plain : (MovesMore a k call t → ⊥) → o ≡ does k call t
  else_plain less = promised ∙ each_way (λ o. o ≡ does k call t) a k call t (λ more. absurd (less more)) (λ again. refl)

  pub not_twelve : (o.number ≡ 12 → ⊥) → o ≡ does k call t
  not_twelve other = else_plain (λ more. other (ap (λ o. o.number) (then_twelve more)))

  -- so a call that is done was done as the plain one, and within its allowance
  pub done_plain : o.number ≡ 0 → o ≡ does k call t
  done_plain zero = not_twelve (λ e. absurd (omega arith))

  pub done_within : o.number ≡ 0 → o.moves ≤ a
  done_within zero =
      let is = done_plain zero in
      ⊎_elim (λ (more : a < o.moves). absurd (omega (arith, ap (λ o. o.number) (then_twelve (rw (← is) (zero, more)))))) (λ (le : o.moves ≤ a). le) (below? a o.moves)

  -- 12 IS LAST: no other number's condition holds
  pub twelve_last : o.number ≡ 12 → (j : ℕ) → Applies k t j call → ⊥
  twelve_last e = (call_numbers k call t (does k call t) refl).none (twelve_when e).0

  -- the slot and the total, likewise
  pub twelve_beside : o.number ≡ 12 → (reported_within a k call t ≡ no_slot) × ((n : ℕ) → n < 2 ^ 64 → total_within a k call t n ≡ n)
  unfolding reported_within total_within
  twelve_beside e =
      let is : does_within a k call t ≡ refused t nowhere 12 = sym promised ∙ then_twelve (twelve_when e) in
      (rw is, λ n small. rw is (sym (no_change n _ small)))

  pub plain_beside : (o.number ≡ 12 → ⊥) → (reported_within a k call t ≡ reported k call t) × ((n : ℕ) → total_within a k call t n ≡ total_after k call t n)
  unfolding reported_within total_within reported total_after
  plain_beside other =
      let is : does_within a k call t ≡ does k call t = sym promised ∙ not_twelve other in
      (rw is, λ n. rw is)

-- A LARGER ALLOWANCE. Where a is enough, b ≥ a gives the same: the outcome, the slot and the total.
module _ (a b : ℕ) (k : Kind) (call : Call) (t : Tray) (larger : a ≤ b) (enough : (does_within a k call t).number ≡ 12 → ⊥) where
  larger_enough : (does_within b k call t).number ≡ 12 → ⊥
  larger_enough e =
      let more = twelve_when b k call t (does_within b k call t) refl e in
      enough (ap (λ o. o.number) (then_twelve a k call t (does_within a k call t) refl (more.0, omega (arith, more.1))))

  pub larger_same : does_within b k call t ≡ does_within a k call t
  larger_same = not_twelve b k call t _ refl larger_enough ∙ sym (not_twelve a k call t _ refl enough)

  pub larger_beside : (reported_within b k call t ≡ reported_within a k call t) × ((n : ℕ) → total_within b k call t n ≡ total_within a k call t n)
  larger_beside =
      let wide = plain_beside b k call t (does_within b k call t) refl larger_enough in
      let tight = plain_beside a k call t (does_within a k call t) refl enough in
      (wide.0 ∙ sym tight.0, λ n. wide.1 n ∙ sym (tight.1 n))

-- A REFUSAL, with whatever number, changes nothing, reports no slot and leaves the total. And the numbers, the moves and the slot are as small as a plain call's.
module _ (a : ℕ) (k : Kind) (call : Call) (t : Tray) where
  pub within_refused : (o : Outcome) → o ≡ does_within a k call t → (m : ℕ) → o.number ≡ suc m → (o.tray ≡ t) × (reported_within a k call t ≡ no_slot)
      × ((n : ℕ) → n < 2 ^ 64 → total_within a k call t n ≡ n)
  within_refused o promised m e =
      ⊎_elim
      (λ (is : o.number ≡ 12).
      let beside = twelve_beside a k call t o promised is in
      (ap (λ (o : Outcome). o.tray) (then_twelve a k call t o promised (twelve_when a k call t o promised is)), beside.0, beside.1))
      (λ (other : o.number ≡ 12 → ⊥).
      let is = not_twelve a k call t o promised other in
      let beside = plain_beside a k call t o promised other in (
        ap (λ (o : Outcome). o.tray) (call_refused k call t o is m e),
        beside.0 ∙ refused_reports k call t o is (λ zero. omega arith),
        λ n small. beside.1 n ∙ sym (refused_total k call t o m n is e small),
      ))
      (same? o.number 12)

  pub few_numbers_within : (does_within a k call t).number < 16
  few_numbers_within = each_way (λ (o : Outcome). o.number < 16) a k call t (λ more. omega arith) (λ less. few_numbers k call t)

  pub few_moves_within : has call k ≡ true → (does_within a k call t).moves < 4096
  few_moves_within of = each_way (λ (o : Outcome). o.moves < 4096) a k call t (λ more. omega arith) (λ less. few_moves k call t of)

  pub fits_16_within : reported_within a k call t < 65536
  fits_16_within =
      ⊎_elim
      (λ (is : (does_within a k call t).number ≡ 12). omega (arith, (twelve_beside a k call t (does_within a k call t) refl is).0))
      (λ (other : (does_within a k call t).number ≡ 12 → ⊥). omega (arith, (plain_beside a k call t (does_within a k call t) refl other).0, fits_16 k call t (does k call t) refl))
      (same? (does_within a k call t).number 12)

-- AN EMPTY RING'S HEAD is left at 0, as by the plain call (request 03).
pub within_homes : (a : ℕ) (call : Call) → Homes (promise_within a call)
unfolding does_within
within_homes a call = record {
  home = λ k t can was. each_way (λ (o : Outcome). AtHome k o.tray) a k call t (λ more. was) (λ less. stays_home k call t (does k call t) refl was);
}
