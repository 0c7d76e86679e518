-- How a state is kept between two calls: its head, of which a vector has none, how many entries it has, and its slots. No line tells a total, and each call
-- starts from 0.
use Rattle.std.specs.Prelude.{ℕ, List}
use Rattle.runs.specs.Width.{summing}
use Rattle.ring.specs.declared.Ring.{Ring}
use Rattle.ring.specs.Seen as rings
use Rattle.vector.specs.declared.Vector.{Vector}
use Rattle.vector.specs.Seen as vectors
use Rattle.tray_lines.specs.declared.acts.Held.{Held}

-- what a call leaves, and the state that a call gets
pub record Keeping (S H : Type 0) : Type 0 where
  pub hold : S → (slots : List ℕ) → Held H
  pub state : Held H → S

abbrev pub ring_kept : Keeping Ring ℕ
ring_kept = record { hold = λ r slots. record { head = r.head; len = r.len; slots = slots }; state = λ h. rings.state h.head h.len (summing 0) }

abbrev pub vector_kept : Keeping Vector Unit
vector_kept = record { hold = λ v slots. record { head = tt; len = v.len; slots = slots }; state = λ h. vectors.state h.len (summing 0) }
