-- What is laid where a lent part is: a run of slots holds a vector's entries.
use Rattle.std.proofs.Common.{◌≡◌, ℕ, ◌-◌, ◌≤◌, List, length, take, drop, sym, ◌∙◌, arith, length-drop, length-take, take-take}
use Rattle.slots.specs.Layout.{itself, entries}
use Rattle.slots.specs.Copy.{Laid}
use Rattle.slots.proofs.Lays.{from_on}
use Rattle.slots.proofs.Compares.{entries_first}
use Rattle.slots.proofs.Totals.{run_rest}

-- slots from .. to as they are lent
pub lent : (from to : ℕ) (s : List ℕ) → from ≤ to → to ≤ length s → take (to - from) (drop from s) ≡ drop from (entries itself to s)
lent from to s le fits =
    let long : length (from_on from s) ≡ length s - from = simp (length-take, length-drop) (omega arith) in
    sym (run_rest from to s le fits ∙ entries_first (to - from) (from_on from s) (omega arith) ∙ take-take (to - from) (length s - from) (drop from s) (omega arith))

pub bring_run : (at from to : ℕ) (s old new : List ℕ) → from ≤ to → to ≤ length s
    → Laid itself at (length (take (to - from) (drop from s))) (take (to - from) (drop from s)) old new
    → Laid itself at (to - from) (drop from (entries itself to s)) old new
bring_run at from to s old new le fits m =
    let long : length (take (to - from) (drop from s)) ≡ to - from = simp (length-take, length-drop) (omega arith) in
    rw (← lent from to s le fits) (rw long at m)
