-- What is drawn: the container that the text tells, with its total. The text is judged acceptable first, and as many slots are lent as it says.
use Rattle.std.specs.Prelude.{ℕ, ◌-◌, ◌≤◌, ◌≡◌, true, List, length}
use Rattle.slots.specs.Layout.{most, Kind}
use Rattle.slots.specs.Total.{total}
use Rattle.table.specs.Tray.{list}
use Rattle.stored.specs.Judge.{told, judge, cap_in}

pub record Drawable (k : Kind) (text slots : List ℕ) : Type 0 where
  pub accepted : judge k text ≡ true
  pub room : length slots ≡ cap_in text

-- the first two say all; the others follow from them
pub record Shown (k : Kind) (text slots : List ℕ) (h n sum : ℕ) : Type 0 where
  pub is : record { head = h; len = n; slots = slots } ≡ told k text
  pub adds : sum ≡ total (list k (told k text))
  pub small : length slots ≤ most
  pub inside : h ≤ length slots - 1
  pub fits : n ≤ length slots
