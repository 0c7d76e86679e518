-- What the code's tests of a state tell that refuse a call before its work: past one the length n is valid on c slots and a < b holds, which the call needs;
-- a refusal is `why`, or Invalid where the state is none.
use Rattle.std.specs.Prelude.{ℕ, ◌≤◌, ◌<◌, ◌≡◌, cond, false, not, ◌&&◌, ltb, Result, Ok, Err}
use Rattle.slots.specs.Layout.{most, vector}
use Rattle.table.specs.Tray.{valid}
use Rattle.table.specs.declared.answers.Refusal.{Refusal}
use Rattle.table.specs.declared.answers.Refusal.TheVariants.{Invalid}

pub record Passes (c n a b : ℕ) : Type 0 where
  pub right : not (valid vector c 0 n) ≡ false
  pub below : a < b
  pub small : c ≤ most
  pub fits : n ≤ c

pub record Stops (c n a b : ℕ) (why e : Refusal) : Type 0 where
  pub is : e ≡ cond (valid vector c 0 n) why Invalid
  pub fails : valid vector c 0 n && ltb a b ≡ false

abbrev pub Tells : (c n a b : ℕ) (why : Refusal) → Result (Unit {0}) Refusal → Type 0
Tells c n a b why (Ok past) = Passes c n a b
Tells c n a b why (Err e) = Stops c n a b why e
