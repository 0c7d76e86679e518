-- What a test of two halves tells that the code makes one after the other, and that a promise of a lent part leaves one part.
use mathlib.Core.Path.{◌≡◌, refl, sym, ◌∙◌}
use mathlib.Core.Bool.{Bool, true, false, ◌||◌}
use mathlib.Core.List.{List}
use Prim.Native.Nat.{ℕ}
use denote.Ref.{Bor}
use Rattle.table.specs.Parts.{Part}
use Rattle.table.specs.Lent.{Lent}

-- a test of two halves, of which the code makes the first before the second
pub left_holds : (a b : Bool) → a ≡ true → a || b ≡ true
left_holds a b e = rw e

pub right_holds : (a b : Bool) → b ≡ true → a || b ≡ true
right_holds true b e = refl
right_holds false b e = e

pub both_fail : (a b : Bool) → a ≡ false → b ≡ false → a || b ≡ false
both_fail a b e f = rw (e, f)

-- a promise `Lent bytes p slots r` leaves one place, and one content
pub one_part : (bytes : ℕ) (p : Part) (s r r' : Bor (List ℕ)) → Lent bytes p s r → Lent bytes p s r' → (r.ref_ptr ≡ r'.ref_ptr) × (r.now ≡ r'.now)
one_part bytes p s r r' l l' =
    let block : r.ref_ptr.0 ≡ r'.ref_ptr.0 = l.block ∙ sym l'.block in
    let offset : r.ref_ptr.1 ≡ r'.ref_ptr.1 = l.offset ∙ sym l'.offset in
    ((λ i. (block i, offset i)), l.holds ∙ sym l'.holds)
