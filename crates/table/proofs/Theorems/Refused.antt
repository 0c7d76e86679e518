-- A refused call changes nothing: its answer has value 0 and moves 0, and the states, slots and cursor are those given; a refused making gives
-- state 0, 0. And where a call answers 0 no refusal of its row holds; that it answers 0 only and always there is in `Numbers`.
use Prim.Native.Nat.{ℕ, suc, ◌<◌}
use mathlib.Core.Bool.{Bool}
use native.Mathlib.Omega.{arith}
use mathlib.Core.Path.{◌≡◌, refl}
use mathlib.Core.List.{List}
use lib.ListN.{length}
use Rattle.slots.specs.Layout.{Kind}
use Rattle.table.specs.Tray.{Tray, list, nowhere}
use Rattle.table.specs.Calls.{Call, Call2, Making}
use Rattle.table.specs.Table.{Refusal, after, after2, begins, makes}
use Rattle.table.specs.Does.{Outcome, refused, done, row_of, refusals_of, does, bare, refusals_made, made}
use Rattle.table.specs.Does.{Outcome2, refused2, done2, row_of2, refusals_of2, does2}
use Rattle.table.proofs.Laws.Refusals.{Clear, Settled, settled, either, below_16, first_number}

-- A call on one container. Here and below o is what is seen of a call, as its promise says.
module _ (k : Kind) (call : Call) (t : Tray) where
  pub call_settled : Settled (λ o. o.number) (refused t (row_of k call t).given) (refusals_of k call t)
      (done k t (after call (list k t)) (row_of k call t)) (does k call t)
  unfolding does
  call_settled = settled _ _ _ (λ m. refl) refl (refusals_of k call t)

  module _ (o : Outcome) (promised : o ≡ does k call t) where
    pub call_refused : (m : ℕ) → o.number ≡ suc m → o ≡ refused t (row_of k call t).given (suc m)
    call_refused = rw promised call_settled.refused

    pub call_clear : o.number ≡ 0 → Clear (refusals_of k call t)
    call_clear = rw promised call_settled.clear

-- every number that a list of refusals may answer takes 4 bits
first_below_16 : (rs : List (Bool × Refusal)) → first_number rs < 16
first_below_16 rs = either (λ m. m < 16) (λ m. m) rs 0 below_16 (λ clear. omega arith)

pub few_numbers : (k : Kind) (call : Call) (t : Tray) → (does k call t).number < 16
few_numbers k call t = rw (call_settled k call t).first (first_below_16 (refusals_of k call t))

-- A call on two.
module _ (k k2 : Kind) (call : Call2) (t t2 : Tray) where
  pub two_settled : Settled (λ o. o.number) (refused2 t t2 (row_of2 k k2 call t t2).given) (refusals_of2 k k2 call t t2)
      (done2 k k2 t t2 (after2 call (list k t) (list k2 t2)) (row_of2 k k2 call t t2)) (does2 k k2 call t t2)
  unfolding does2
  two_settled = settled _ _ _ (λ m. refl) refl (refusals_of2 k k2 call t t2)

  module _ (o : Outcome2) (promised : o ≡ does2 k k2 call t t2) where
    pub two_refused : (m : ℕ) → o.number ≡ suc m → o ≡ refused2 t t2 (row_of2 k k2 call t t2).given (suc m)
    two_refused = rw promised two_settled.refused

    pub two_clear : o.number ≡ 0 → Clear (refusals_of2 k k2 call t t2)
    two_clear = rw promised two_settled.clear

pub few_numbers2 : (k k2 : Kind) (call : Call2) (t t2 : Tray) → (does2 k k2 call t t2).number < 16
few_numbers2 k k2 call t t2 = rw (two_settled k k2 call t t2).first (first_below_16 (refusals_of2 k k2 call t t2))

-- A making.
module _ (k : Kind) (m : Making) (slots : List ℕ) where
  pub made_settled : Settled (λ o. o.number) (refused (bare slots) nowhere) (refusals_made m slots)
      (done k (bare slots) (begins m) (makes (length slots) m)) (made k m slots)
  unfolding made
  made_settled = settled _ _ _ (λ m. refl) refl (refusals_made m slots)

  module _ (o : Outcome) (promised : o ≡ made k m slots) where
    pub made_refused : (j : ℕ) → o.number ≡ suc j → o ≡ refused (bare slots) nowhere (suc j)
    made_refused = rw promised made_settled.refused

    pub made_clear : o.number ≡ 0 → Clear (refusals_made m slots)
    made_clear = rw promised made_settled.clear

pub few_numbers_made : (k : Kind) (m : Making) (slots : List ℕ) → (made k m slots).number < 16
few_numbers_made k m slots = rw (made_settled k m slots).first (first_below_16 (refusals_made m slots))
