-- A sum by halves, as `Halves` of the code keeps it.
use Rattle.std.specs.Prelude.{◌≡◌, ℕ, ◌+◌, ◌*◌, ◌/◌, ◌%◌, ◌^◌, ◌<◌}

-- a number's high half
abbrev pub high_half : ℕ → ℕ
high_half x = x / 65536

-- modulo 2 to the 32nd
abbrev pub wrapped : ℕ → ℕ
wrapped n = n % 2 ^ 32

-- the sum less the high halves' part of it, which is `low`, and that part
abbrev pub Whole : (sum high r : ℕ) → Type 0
Whole sum high r = (low : ℕ) × (low < 2 ^ 32) × (wrapped (low + high % 65536 * 65536) ≡ sum) × (r ≡ low + high * 65536)
