-- What the window holds after reads: the bytes that it held stay, and it is full unless the input ended or failed. Which bytes a read gave no
-- contract says.
use Rattle.std.specs.Prelude.{ℕ, ◌≤◌, ◌≡◌, List, Option, None, length, take}
use Rattle.import.specs.declared.Ending.{Ending}

pub record Fills (before : List ℕ) (held held' : ℕ) (ending : Option Ending) (after : List ℕ) : Type 0 where
  pub more : held ≤ held'
  pub within : held' ≤ length before
  pub kept : take held after ≡ take held before
  pub full : ending ≡ None → held' ≡ length before
