-- An invalid ring is the first refusal.
use mathlib.Core.Path.{refl, sym, ◌∙◌}
use Rattle.slots.specs.Layout.{ring}
use Rattle.stored.proofs.Writes.{writes_invalid}
use Rattle.stored.proofs.ring_text.Goals as goal

pub returns-then-invalid_ring : goal.returns-then-invalid_ring
returns-then-invalid_ring c = record { row = writes_invalid ring _ _ (sym c.invalid_ring.ensures.is ∙ c.if-invalid_ring.true); slot = refl; total = refl }
