-- The other ring's entries stand in one part of its slots, or in one to the last slot and one from slot 0, each compared with this ring's from the same position on.
use Rattle.slots.proofs.Compares.{rings_run, rings_around, rings_apart}
use Rattle.runs.proofs.compare.rings.Goals as goal

pub returns-then-count-gap : goal.returns-then-count-gap
returns-then-count-gap c = search rings_run

pub returns-then-ring_with : goal.returns-then-ring_with
returns-then-ring_with c = search rings_around

pub returns-else-ring_with : goal.returns-else-ring_with
returns-else-ring_with c = rw c.if-ring_with.false (search rings_apart)
