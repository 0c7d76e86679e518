-- The other ring's entries stand in one part of its slots, or in one to the last slot and one from slot 0.
use Rattle.slots.proofs.Lays.{carry_straight, carry_around}
use Rattle.runs.proofs.copy.carry.Goals as goal

pub returns-then-count-gap : goal.returns-then-count-gap
returns-then-count-gap c = search carry_straight

pub returns : goal.returns
returns c = search carry_around
