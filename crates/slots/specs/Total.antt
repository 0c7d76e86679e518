-- What a list adds up to, and how a total kept beside it changes (request 04): by what is put in and what is taken out, modulo 2 to the 64th.
use Rattle.std.specs.Prelude.{ℕ, ◌+◌, ◌-◌, ◌%◌, ◌^◌, List}
use Rattle.slots.specs.Count.{weigh}

-- each number weighs itself
unfoldable pub total : List ℕ → ℕ
total l = weigh (λ y. y) l

-- n + put − taken, modulo 2 to the 64th
unfoldable pub changed : (n put taken : ℕ) → ℕ
changed n put taken = (n + put + (2 ^ 64 - taken % 2 ^ 64)) % 2 ^ 64

-- the total n, once the list `before` has become the list `after`
abbrev pub totalled : (n : ℕ) (before after : List ℕ) → ℕ
totalled n before after = changed n (total after) (total before)
