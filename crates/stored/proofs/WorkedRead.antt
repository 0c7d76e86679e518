-- Texts judged and read byte by byte, by computing: W of paper 01, texts that differ from it in one thing each, older texts, a vector's.
use mathlib.Core.Path.{◌≡◌, refl}
use mathlib.Core.Bool.{true, false}
use mathlib.Core.List.{List, [], ◌∷◌, ◌++◌}
use Prim.Native.Nat.{ℕ}
use lib.ListN.{set, take, drop}
use Rattle.slots.specs.Layout.{ring, vector, slot_of, entries}
use Rattle.slots.specs.Count.{one}
use Rattle.slots.specs.Lists.{tabulate}
use Rattle.slots.specs.Total.{total}
use Rattle.table.specs.Tray.{valid, nowhere}
use Rattle.table.specs.Does.{gives, refused, bare}
use Rattle.table.specs.Ledger.{modelled, entered}
use Rattle.table.specs.World.{Event, arrived, lines}
use Rattle.lines.specs.Line.{is_line, field}
use Rattle.stored.specs.Judge.{are_lines, numbers, told, stands, opens, judge, judge_by}
use Rattle.stored.specs.Reads.{reads, total_read, reading}

-- 0000000400020003, then 0000000b, 00000000, 00000009, 0000000a, each ended by LF
abbrev zeros : List ℕ
zeros = 48 ∷ 48 ∷ 48 ∷ 48 ∷ 48 ∷ 48 ∷ 48 ∷ []

abbrev text : List ℕ
text =
    (zeros ++ (52 ∷ 48 ∷ 48 ∷ 48 ∷ 50 ∷ 48 ∷ 48 ∷ 48 ∷ 51 ∷ 10 ∷ []))
    ++ ((zeros ++ (98 ∷ 10 ∷ [])) ++ ((zeros ++ (48 ∷ 10 ∷ [])) ++ ((zeros ++ (57 ∷ 10 ∷ [])) ++ (zeros ++ (97 ∷ 10 ∷ [])))))

abbrev lent : List ℕ
lent = 1 ∷ 2 ∷ 3 ∷ 4 ∷ []

-- as a ring it is read, whatever the slots held; its entries 9, 10, 11 add up to 30
pub reads_w : (reads ring text lent ≡ gives 0 0 2 3 (11 ∷ 0 ∷ 9 ∷ 10 ∷ [])) × (total_read ring text lent ≡ 30)
unfolding reads total_read judge told stands opens is_line are_lines numbers field valid entries tabulate slot_of total
reads_w = (refl, refl)

-- as a vector it is not: 14, before 6 for three slots; and 6 where the text is acceptable
pub reads_not : (reads vector text lent ≡ refused (bare lent) nowhere 14) × (reads vector text (1 ∷ 2 ∷ 3 ∷ []) ≡ refused (bare (1 ∷ 2 ∷ 3 ∷ [])) nowhere 14)
    × (reads ring text (1 ∷ 2 ∷ 3 ∷ []) ≡ refused (bare (1 ∷ 2 ∷ 3 ∷ [])) nowhere 6)
unfolding reads judge told stands opens is_line are_lines numbers field valid
reads_not = (refl, refl, refl)

-- another kind; an unknown one; a capital B; a byte more; one less, at the start and at the end; length 5 of 4; a second byte 02; CR for LF; head 4 of 4
pub others : (judge_by 1 text ≡ false) × (judge_by 2 text ≡ false) × (judge ring (set text 24 66) ≡ false) × (judge ring (text ++ (10 ∷ [])) ≡ false)
    × (judge ring (drop 1 text) ≡ false) × (judge ring (take 52 text) ≡ false) × (judge ring (set text 15 53) ≡ false) × (judge ring (set text 3 50) ≡ false)
    × (judge ring (set text 25 13) ≡ false) × (judge ring (set text 11 52) ≡ false)
unfolding judge judge_by told stands opens is_line are_lines numbers field valid
others = (refl, refl, refl, refl, refl, refl, refl, refl, refl, refl)

-- with length 0 it is an older text, and head 2 is read as 0; a vector's text may not have that head
pub older_w : (reads ring (set text 15 48) lent ≡ gives 0 0 0 0 (11 ∷ 0 ∷ 9 ∷ 10 ∷ [])) × (total_read ring (set text 15 48) lent ≡ 0)
    × (judge vector (set (set text 15 48) 1 49) ≡ false) × (judge vector (set (set text 11 48) 1 49) ≡ true)
unfolding reads total_read judge told stands opens is_line are_lines numbers field valid entries tabulate slot_of total
older_w = (refl, refl, refl, refl)

-- in demand 3 its entries enter, and only these, not the free slot's 0; refused, for a capital B, nothing does
abbrev readings : List Event
readings =
    arrived ring (reading ring text) lent (reads ring text lent)
    ∷ arrived ring (reading ring (set text 24 66)) lent (reads ring (set text 24 66) lent)
    ∷ []

pub enters : (modelled [] (lines readings) ≡ (9 ∷ 10 ∷ 11 ∷ []) ∷ [] ∷ []) × (entered 9 [] (lines readings) ≡ 1) × (entered 0 [] (lines readings) ≡ 0)
unfolding reads judge told stands opens is_line are_lines numbers field valid entries tabulate slot_of one
enters = (refl, refl, refl)
