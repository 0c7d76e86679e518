-- What a comparison tells of two lists: yes exactly when they are equal.
use Rattle.std.specs.Prelude.{◌≡◌, ℕ, Bool, true, false, List, ◌≢◌}

pub record Tells (b : Bool) (l l2 : List ℕ) : Type 0 where
  pub yes : b ≡ true → l ≡ l2
  pub no : b ≡ false → l ≢ l2
