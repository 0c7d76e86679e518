-- What the reader gives of a text that is judged acceptable: it is done.
use mathlib.Core.Path.{refl}
use Rattle.ring.specs.Seen as rings
use Rattle.vector.specs.Seen as vectors
use Rattle.show.proofs.Holding.{is_done, ring_shown, vector_shown}
use Rattle.show.proofs.container_of.Goals as goal

pub unwrap-requires : goal.unwrap-requires
unwrap-requires c = is_done _ _ _ (rw c.in-Ring.is at c.requires) rings.bare_ring _ _ refl c.ring_read.ensures.row

pub unwrap-requires-in-Vector : goal.unwrap-requires-in-Vector
unwrap-requires-in-Vector c = is_done _ _ _ (rw c.in-Vector.is at c.requires) vectors.none _ _ refl c.vector_read.ensures.row

pub returns-in-Ring : goal.returns-in-Ring
returns-in-Ring c = rw c.in-Ring.is (ring_shown _ _ _ _ _ (rw c.in-Ring.is at c.requires) c.ring_read.ensures c.unwrap.ensures)

pub returns-in-Vector : goal.returns-in-Vector
returns-in-Vector c = rw c.in-Vector.is (vector_shown _ _ _ _ _ _ (rw c.in-Vector.is at c.requires) c.vector_read.ensures c.unwrap-in-Vector.ensures c.state.ensures)
