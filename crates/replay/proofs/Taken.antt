-- A line of 34 digits can be taken as the numbers that its fields say.
use mathlib.Core.Path.{◌≡◌, sym, ◌∙◌}
use mathlib.Core.Bool.{Bool, true}
use mathlib.Core.List.{List}
use Prim.Native.Nat.{ℕ}
use native.Mathlib.Omega.{arith}
use borrow.Author.Tests.{eq-eqb}
use lib.ListN.{length, take, drop}
use Rattle.digits.specs.Hex.{are_digits, number_in}
use Rattle.digits.proofs.Fields.{field_says}
use Rattle.replay.specs.Lines.{reaches, takes}

pub takes_line : (l : List ℕ) (f t : Bool) (op a b cap cap2 size : ℕ) → length l ≡ 34 → f ≡ are_digits l → f ≡ true
    → op ≡ number_in (take 2 (drop 0 l)) → a ≡ number_in (take 16 (drop 2 l)) → b ≡ number_in (take 16 (drop 18 l))
    → t ≡ reaches op a b cap cap2 size → t ≡ takes l cap cap2 size
unfolding takes
takes_line l f t op a b cap cap2 size e d ef eo ea eb et =
    let is : are_digits l ≡ true = sym d ∙ ef in
    rw (eq-eqb (length l) 34 e, is)
    (et ∙ cc (field_says 0 2 l is (omega arith) op eo, field_says 2 16 l is (omega arith) a ea, field_says 18 16 l is (omega arith) b eb))
