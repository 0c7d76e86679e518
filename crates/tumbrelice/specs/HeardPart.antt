-- How a caller in C hears of a part that a vector lends: the word has its first slot in the low 32 bits and its count in the high 32.
use Rattle.std.specs.Prelude.{ℕ, ◌/◌, ◌%◌}
use Rattle.table.specs.Parts.{Part}

abbrev pub part_of : (first count : ℕ) → Part
part_of first count = record { start = first; count = count }

abbrev pub part_in : (word : ℕ) → Part
part_in word = part_of (word % 4294967296) (word / 4294967296)
