-- Where `tray` stands after one read, and after all. Which bytes a read gave no contract of the C library says (docs/DECISIONS.md, 30).
use Rattle.std.specs.Prelude.{ℕ, ◌+◌, ◌≤◌, ◌<◌, ◌≡◌, List, Result, Ok, Err, length, take}
use Rattle.tray_lines.specs.declared.feeds.State.{State}
use Rattle.tray_lines.specs.Feeds.{feeds, keeping, midway}
use Rattle.tray.specs.declared.Went.{Went}
use Rattle.tray.specs.declared.Ending.{Ending}

-- One read more: the program stands where the first bytes of the buffer take it, as many as it has counted. There is one at least, if more may be read, and
-- none, if it is said that the input has ended: that is said of a read that gave no byte, and of no other.
pub record Turned (w : Went) (buffer : List ℕ) (more : Result Unit Ending) (r : Went) : Type 0 where
  pub last : ℕ
  pub fits : last ≤ length buffer
  pub count : r.read ≡ w.read + last
  pub state : midway r.state ≡ (feeds keeping (midway w.state) (take last buffer)).state
  pub some : more ≡ Ok tt → 0 < last
  pub none : more ≡ Err Ending.Input → last ≡ 0

-- after all reads: it stands where some bytes take it, as many as it counted
pub record Ran (first : State) (r : Went) : Type 0 where
  pub bytes : List ℕ
  pub all : length bytes ≡ r.read
  pub state : midway r.state ≡ (feeds keeping (midway first) bytes).state
