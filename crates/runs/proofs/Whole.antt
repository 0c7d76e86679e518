-- A total is told by its sum.
use Rattle.std.proofs.Common.{◌≡◌, ℕ, ap}
use Rattle.runs.specs.declared.total.Total.{Total}
use Rattle.runs.specs.Width.{summing}

pub whole : (t : Total) (m : ℕ) → t.sum ≡ m → t ≡ summing m
whole t m e = ap summing e
