-- What the code's tests of a state tell that refuse a call before its work: past one the state h, n is valid on c slots and a < b holds, which the call needs;
-- a refusal is `why`, or Invalid where the state is none.
use Rattle.std.specs.Prelude.{ℕ, ◌-◌, ◌≤◌, ◌<◌, ◌≡◌, cond, false, not, ◌&&◌, ltb, Result, Ok, Err}
use Rattle.slots.specs.Layout.{most, ring}
use Rattle.table.specs.Tray.{valid}
use Rattle.table.specs.declared.answers.Refusal.{Refusal}
use Rattle.table.specs.declared.answers.Refusal.TheVariants.{Invalid}

pub record Passes (c h n a b : ℕ) : Type 0 where
  pub right : not (valid ring c h n) ≡ false
  pub below : a < b
  pub small : c ≤ most
  pub fits : n ≤ c
  pub inside : h ≤ c - 1

pub record Stops (c h n a b : ℕ) (why e : Refusal) : Type 0 where
  pub is : e ≡ cond (valid ring c h n) why Invalid
  pub fails : valid ring c h n && ltb a b ≡ false

abbrev pub Tells : (c h n a b : ℕ) (why : Refusal) → Result (Unit {0}) Refusal → Type 0
Tells c h n a b why (Ok past) = Passes c h n a b
Tells c h n a b why (Err e) = Stops c h n a b why e
