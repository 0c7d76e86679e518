-- `put_place` meets its promise: the pieces, one behind another.
use native.Mathlib.Omega.{arith}
use Rattle.words.proofs.Writing.{wrote_then}
use Rattle.import.specs.Lines.{place}
use Rattle.import.proofs.prints.put_place.Goals as goal

pub returns : goal.returns
unfolding place
returns c = let line = c.put_numbered-end.ensures in let byte = c.put_numbered.ensures in (wrote_then line.0 byte.0, omega (arith, line.1, byte.1))
