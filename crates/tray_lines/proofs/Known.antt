-- Unknown, 8, is what paper 01 says it is: the operations of a ring and of a vector are those of the fourteen that the table's own `has` gives it, and
-- a number that stands in no row is unknown.
use mathlib.Core.Path.{◌≡◌, refl}
use mathlib.Core.Bool.{cond}
use mathlib.Core.List.{List, [], ◌∷◌}
use Prim.Native.Nat.{ℕ}
use Rattle.slots.specs.Layout.{Kind, ring, vector}
use Rattle.tray_lines.specs.Lines.{ring_ops, vector_ops}
use Rattle.tray_lines.specs.Acts.{Act, has_act, operations, ring_act, vector_act}

-- those of a table that a kind has
abbrev pub having : Kind → List (ℕ × Act) → List (ℕ × Act)
having k [] = []
having k (row ∷ rest) = cond (has_act row.1 k) (row ∷ having k rest) (having k rest)

-- a table of the code's operations, each as what it is in the table
abbrev pub as_acts : {A : Type 0} → (A → Act) → List (ℕ × A) → List (ℕ × Act)
as_acts act [] = []
as_acts act (row ∷ rest) = (row.0, act row.1) ∷ as_acts act rest

pub ring_known : (i x : ℕ) → as_acts ring_act (ring_ops i x) ≡ having ring (operations i x)
ring_known i x = refl

pub vector_known : (i x : ℕ) → as_acts vector_act (vector_ops i x) ≡ having vector (operations i x)
vector_known i x = refl
