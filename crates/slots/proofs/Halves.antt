-- Adding up by halves: the numbers as they come, modulo 2 to the 32nd, and their high halves beside them, give what they add up to. Both fit 32 bits, so four numbers are added at once.
use Rattle.std.proofs.Common.{◌≡◌, ℕ, ◌+◌, ◌*◌, ◌/◌, ◌%◌, ◌^◌, ◌<◌, ◌≤◌, List, [], ◌∷◌, length, get_or, take, refl, ap, ◌∙◌, add-one, arith, take_all, take-suc}
use Rattle.slots.specs.Layout.{most, itself}
use Rattle.slots.specs.Shift.{Filled}
use Rattle.slots.specs.Count.{weigh}
use Rattle.slots.specs.Total.{total}
use Rattle.slots.proofs.Counts.{weigh_append}
use Rattle.slots.proofs.Totals.{sum_more}

-- what the high halves of a list's numbers add up to
unfoldable pub highs : List ℕ → ℕ
highs l = weigh (λ x. x / 65536) l

lows : List ℕ → ℕ
lows l = weigh (λ x. x % 65536) l

parted : (l : List ℕ) → total l ≡ lows l + highs l * 65536
unfolding total highs lows
parted [] = refl
parted (x ∷ l) =
    let rest : weigh (λ y. y) l ≡ weigh (λ x. x % 65536) l + weigh (λ x. x / 65536) l * 65536 = parted l in
    omega (arith, rest)

few_lows : (l : List ℕ) → lows l ≤ 65535 * length l
unfolding lows
few_lows [] = omega arith
few_lows (x ∷ l) = omega (arith, few_lows l)

-- A loop's first turn, any turn, and its end.
pub no_highs : highs [] ≡ 0
unfolding highs
no_highs = refl

pub no_wrapped : 0 ≡ total [] % 2 ^ 32
unfolding total
no_wrapped = refl

pub highs_more : (l : List ℕ) (i high : ℕ) → high ≡ highs (take i l) → i < length l → high + get_or l i 0 / 65536 ≡ highs (take (i + 1) l)
unfolding highs
highs_more l i high e h = rw (add-one, take-suc l i 0 h, weigh_append) (omega arith)

pub wrapped_more : (l : List ℕ) (i sum : ℕ) → sum ≡ total (take i l) % 2 ^ 32 → i < length l → (sum + get_or l i 0) % 2 ^ 32 ≡ total (take (i + 1) l) % 2 ^ 32
wrapped_more l i sum e h = omega (arith, e, sum_more l i (total (take i l)) refl h)

-- The same where the entries below i are filled already: that at i is still what it was.
module _ (l s : List ℕ) (i x : ℕ) (m : Filled itself 0 i x l s) (h : i < length l) where
  still : get_or s i 0 ≡ get_or l i 0
  still = m.high i (omega arith) h

  pub filled_highs_more : (high : ℕ) → high ≡ highs (take i l) → high + get_or s i 0 / 65536 ≡ highs (take (i + 1) l)
  filled_highs_more high e = rw still (highs_more l i high e h)

  pub filled_wrapped_more : (sum r : ℕ) → sum ≡ total (take i l) % 2 ^ 32 → r ≡ (sum + get_or s i 0) % 2 ^ 32 → r ≡ total (take (i + 1) l) % 2 ^ 32
  filled_wrapped_more sum r e er = er ∙ rw still (wrapped_more l i sum e h)

-- `low` is the sum less the high halves' part of it, modulo 2 to the 32nd
pub by_halves : (l : List ℕ) (i sum high r : ℕ) → sum ≡ total (take i l) % 2 ^ 32 → high ≡ highs (take i l) → length l ≤ i → length l ≤ most
    → ((low : ℕ) × (low < 2 ^ 32) × ((low + high % 65536 * 65536) % 2 ^ 32 ≡ sum) × (r ≡ low + high * 65536)) → r ≡ total l
by_halves l i sum high r e eh all fits (low, small, part, is) =
    let sum_is : sum ≡ total l % 2 ^ 32 = e ∙ ap (λ l. total l % 2 ^ 32) (take_all i l all) in
    let high_is : high ≡ highs l = eh ∙ ap highs (take_all i l all) in
    omega (arith, sum_is, high_is, part, small, is, parted l, few_lows l)
