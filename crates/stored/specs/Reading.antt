-- What reading a text into lent slots must give (request 08), with no reader in it: 1 for more than 4,096 slots; then 14 for a text that is not acceptable; then 6 for
-- slots that are not exactly as many as the capacity; else the container that the text stands for, every slot of it.
use Rattle.std.specs.Prelude.{◌≡◌, List, ℕ, ◌≤◌, ◌<◌, length}
use Rattle.slots.specs.Layout.{most, Kind}
use Rattle.table.specs.Tray.{Tray, cap, nowhere}
use Rattle.table.specs.Does.{Outcome, refused, gives, bare}
use Rattle.stored.specs.Acceptable.{StandsFor, Acceptable}

-- the outcome o of reading a text of this kind; where it is refused, the state is 0, 0 and the slots are as they were
pub record Reading (k : Kind) (text slots : List ℕ) (o : Outcome) : Type 0 where
  pub over : most < length slots → o ≡ refused (bare slots) nowhere 1
  pub other : length slots ≤ most → (Acceptable k text → ⊥) → o ≡ refused (bare slots) nowhere 14
  pub room : length slots ≤ most → (t : Tray) → StandsFor text k t → (cap t ≡ length slots → ⊥) → o ≡ refused (bare slots) nowhere 6
  pub done : length slots ≤ most → (t : Tray) → StandsFor text k t → cap t ≡ length slots → o ≡ gives 0 0 t.head t.len t.slots
