-- The ring's entries stand in one part of its slots, or in one to the last slot and one from slot 0.
use Rattle.slots.proofs.Compares.{with_run, with_around, with_apart}
use Rattle.runs.proofs.compare.ring_with.Goals as goal

pub returns-then-count-gap : goal.returns-then-count-gap
returns-then-count-gap c = search with_run

pub returns-then-firsts : goal.returns-then-firsts
returns-then-firsts c = search with_around

pub returns-else-firsts : goal.returns-else-firsts
returns-else-firsts c = rw c.if-firsts.false (search with_apart)
