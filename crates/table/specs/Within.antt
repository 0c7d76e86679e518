-- A limit on moves (request 11): a call with an allowance. It is refused with 12 where the plain call would be done and would move more entries than allowed; in all
-- other cases it is the plain call. So 12 comes after every other number.
use Rattle.std.specs.Prelude.{ℕ, Bool, cond, ◌&&◌, ltb, eqb}
use Rattle.slots.specs.Layout.{Kind}
use Rattle.slots.specs.Total.{totalled}
use Rattle.table.specs.Tray.{Tray, list, nowhere}
use Rattle.table.specs.Calls.{Call}
use Rattle.table.specs.Does.{Outcome, refused, does}
use Rattle.table.specs.Reported.{told_slot}

-- the call is done, and its moves are more than the allowance a
abbrev pub exceeds : (a : ℕ) → Outcome → Bool
exceeds a o = eqb o.number 0 && ltb a o.moves

-- A call with the allowance a.
unfoldable pub does_within : (a : ℕ) → Kind → Call → Tray → Outcome
does_within a k call t = cond (exceeds a (does k call t)) (refused t nowhere 12) (does k call t)

-- The slot that it reports, and the total n afterwards: by its own outcome, as the plain call's.
unfoldable pub reported_within : (a : ℕ) → Kind → Call → Tray → ℕ
reported_within a k call t = told_slot k call t (does_within a k call t)

unfoldable pub total_within : (a : ℕ) → Kind → Call → Tray → (n : ℕ) → ℕ
total_within a k call t n = totalled n (list k t) (list k (does_within a k call t).tray)
