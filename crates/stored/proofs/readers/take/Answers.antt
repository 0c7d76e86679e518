-- The lines that are taken were judged.
use Rattle.stored.proofs.Taking.{lines_read, lines_long}
use Rattle.stored.proofs.readers.take.Goals as goal

pub take_slots-requires : goal.take_slots-requires
take_slots-requires c = let told = c.in-Some.ensures in search (lines_read, lines_long)
