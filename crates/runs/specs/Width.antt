-- The width of an entry: all that is not the same for 32 bits and 64.
use Rattle.std.specs.Prelude.{ℕ, ◌%◌}
use Rattle.runs.specs.declared.total.Total.{Total}

-- the bytes that an entry takes
abbrev pub bytes : ℕ
bytes = 4

-- a count as an entry: its low bits
abbrev pub entry_of : ℕ → ℕ
entry_of n = n % 4294967296

-- the total that is so much
abbrev pub summing : ℕ → Total
summing n = record { sum = n }
