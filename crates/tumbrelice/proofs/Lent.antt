-- A part's word has its first slot and its count, and the tests of the state and the range tell which part is lent.
use Prim.Native.Nat.{ℕ, ◌+◌, ◌*◌, ◌/◌, ◌%◌, ◌<◌}
use mathlib.Core.Path.{◌≡◌, ap, ap₂, ◌∙◌}
use mathlib.Core.Bool.{Bool, true, false, cond}
use borrow.Author.Rules.{rules}
use lib.Arith.{digits_div, digits_mod}
use Rattle.table.specs.Parts.{Part}
use Rattle.table.proofs.Laws.Refusals.{tests}
use Rattle.table.proofs.Laws.Stops.{in_order, in_reach}
use Rattle.table.proofs.Laws.Lending.{left_holds, right_holds, both_fail}
use Rattle.tumbrelice.specs.HeardPart.{part_in, part_of}

pub part_worded : (first count word : ℕ) → first < 4294967296 → word ≡ count * 4294967296 + first → part_in word ≡ part_of first count
part_worded first count word fits e =
    ap₂ part_of (ap (λ w. w % 4294967296) e ∙ digits_mod count fits) (ap (λ w. w / 4294967296) e ∙ digits_div count fits)

module _ (word : ℕ) (test : Bool) (none these : Part) where
  pub part_none : test ≡ true → part_in word ≡ none → part_in word ≡ cond test none these
  part_none e is = rw e is

  pub part_these : test ≡ false → part_in word ≡ these → part_in word ≡ cond test none these
  part_these e is = rw e is

pub ruleset parting = (in_order, in_reach, part_none, part_these, left_holds, right_holds, both_fail, tests, rules)
