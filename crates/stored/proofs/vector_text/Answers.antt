-- An invalid vector is the first refusal.
use mathlib.Core.Path.{refl, sym, ◌∙◌}
use Rattle.slots.specs.Layout.{vector}
use Rattle.stored.proofs.Writes.{writes_invalid}
use Rattle.stored.proofs.vector_text.Goals as goal

pub returns-then-invalid_vector : goal.returns-then-invalid_vector
returns-then-invalid_vector c = record { row = writes_invalid vector _ _ (sym c.invalid_vector.ensures.is ∙ c.if-invalid_vector.true); slot = refl; total = refl }
