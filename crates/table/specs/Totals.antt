-- The total that a state keeps (request 04), a clause beside the row: it is read off the lists before and after the call, and neither a row nor demand 3 reads it.
-- For a refused call the two lists are the same.
use Rattle.std.specs.Prelude.{ℕ, List, []}
use Rattle.slots.specs.Layout.{Kind}
use Rattle.slots.specs.Total.{totalled}
use Rattle.table.specs.Tray.{Tray, list}
use Rattle.table.specs.Calls.{Call, Call2, Making}
use Rattle.table.specs.Does.{does, does2, made}

-- the total n of a container, after a call on it
unfoldable pub total_after : Kind → Call → Tray → (n : ℕ) → ℕ
total_after k call t n = totalled n (list k t) (list k (does k call t).tray)

-- the total that a making starts with
unfoldable pub total_made : Kind → Making → (slots : List ℕ) → ℕ
total_made k m slots = totalled 0 [] (list k (made k m slots).tray)

-- after a call on two, of the container named first and of T
unfoldable pub total_first : (k k2 : Kind) → Call2 → (t t2 : Tray) → (n : ℕ) → ℕ
total_first k k2 call t t2 n = totalled n (list k t) (list k (does2 k k2 call t t2).first)

unfoldable pub total_second : (k k2 : Kind) → Call2 → (t t2 : Tray) → (n : ℕ) → ℕ
total_second k k2 call t t2 n = totalled n (list k2 t2) (list k2 (does2 k k2 call t t2).second)
