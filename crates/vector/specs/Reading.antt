-- A part that is only read, as demand 3 takes it: a call that bears no number and leaves every container as it was.
use Rattle.std.specs.Prelude.{ℕ, List, length}
use Rattle.table.specs.Tray.{Tray}
use Rattle.table.specs.Calls.{vectors}
use Rattle.table.specs.Does.{Outcome, gives}
use Rattle.table.specs.Parts.{Part, in_part}
use Rattle.table.specs.Promise.{Promise, showing}

-- what is seen of such a call: how many entries the part holds, and the container as it was
abbrev pub shown : (part : List ℕ) → Tray → Outcome
shown part t = gives (length part) 0 t.head t.len t.slots

abbrev pub reading : (lends : Tray → Part) → Promise
reading lends = showing vectors (λ k t. shown (in_part (lends t) t.slots) t)
