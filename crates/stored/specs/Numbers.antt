-- The numbers that the stored form's writer may answer, number by number, as paper 01 lists them: `AppliesText .. m` says that m's condition holds.
use Rattle.std.specs.Prelude.{ℕ, ◌+◌, ◌*◌, ◌<◌, ◌≡◌, true, List, length}
use Rattle.slots.specs.Layout.{Kind}
use Rattle.table.specs.Tray.{Tray, cap, invalid}

-- the container is invalid; the text buffer is too short for the 17 + 9c bytes that a text takes
pub data AppliesText (k : Kind) (t : Tray) (text : List ℕ) : ℕ → Type 0 where
  invalid_first : invalid k t ≡ true → AppliesText k t text 1
  too_short : length text < 17 + 9 * cap t → AppliesText k t text 6
