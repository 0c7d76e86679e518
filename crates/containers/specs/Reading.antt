-- How a state is read, whichever kind of container it is of.
use Rattle.std.specs.Prelude.{ℕ, ◌≡◌, List}
use Rattle.slots.specs.Layout.{Kind, ring, vector}
use Rattle.table.specs.Tray.{Tray}
use Rattle.table.specs.Does.{head_after}

-- its kind; its head, 0 of a vector; how many entries it has; their total
pub record Reading (S : Type 0) : Type 0 where
  pub kind : Kind
  pub head : S → ℕ
  pub size : S → ℕ
  pub sum : S → ℕ

-- a state and the slots lent are a container
abbrev pub tray_by : {S : Type 0} → Reading S → S → List ℕ → Tray
tray_by r s slots = record { head = r.head s; len = r.size s; slots = slots }

-- a vector has no head, and 0 stands there
abbrev pub head_of : Kind → (head : ℕ) → ℕ
head_of ring head = head
head_of vector head = 0

-- the state s' is s with n entries left, and the total m
pub record Left {S : Type 0} (r : Reading S) (s : S) (n m : ℕ) (s' : S) : Type 0 where
  pub head : r.head s' ≡ head_after r.kind n (r.head s)
  pub size : r.size s' ≡ n
  pub sum : r.sum s' ≡ m
