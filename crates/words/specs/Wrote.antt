-- What a function that writes a line promises: the line stands in the text from a place on, all other bytes are as they were, and it answers the
-- place behind the line.
use Rattle.std.specs.Prelude.{ℕ, ◌+◌, ◌≡◌, List, length}
use Rattle.digits.specs.Put.{put}

pub record Wrote (before : List ℕ) (at : ℕ) (line : List ℕ) (end : ℕ) (after : List ℕ) : Type 0 where
  pub bytes : after ≡ put before at line
  pub behind : end ≡ at + length line
  pub long : length after ≡ length before
