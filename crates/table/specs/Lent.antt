-- How a part that was lent is read: where it lies in the slots, and what it holds.
use Rattle.std.specs.Prelude.{ℕ, ◌+◌, ◌*◌, ◌≡◌, List}
use Rattle.std.specs.Borrow.{Bor}
use Rattle.table.specs.Parts.{Part, in_part}

-- r is the part p of the slots lent, whose entries take so many bytes each: it lies in their block from p's first slot on, and holds what stands in p
pub record Lent (bytes : ℕ) (p : Part) (slots r : Bor (List ℕ)) : Type 0 where
  pub block : r.ref_ptr.0 ≡ slots.ref_ptr.0
  pub offset : r.ref_ptr.1 ≡ p.start * bytes + slots.ref_ptr.1
  pub holds : r.now ≡ in_part p slots.now
