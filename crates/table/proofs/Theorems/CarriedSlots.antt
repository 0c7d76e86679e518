-- Carrying in the slots: an entry that is carried stands in the slot of its new position, wherever the ring wraps.
use Prim.Native.Nat.{ℕ, ◌-◌, ◌≤◌, ◌<◌}
use mathlib.Core.Path.{◌≡◌, refl, sym, ap, ◌∙◌}
use mathlib.Core.Bool.{false}
use mathlib.Core.List.{List}
use native.Mathlib.Omega.{arith}
use lib.ListN.{length, get_or}
use Rattle.slots.specs.Layout.{Kind, place, pos, itself}
use Rattle.slots.specs.Moves.{to}
use Rattle.slots.proofs.Placing.{Placing, placing, entry}
use Rattle.slots.proofs.Relaid.{entries_relaid}
use Rattle.table.specs.Tray.{Tray, cap, list, invalid}
use Rattle.table.specs.Calls.{Call, Call2}
use Rattle.table.specs.Table.{row2, after, after2}
use Rattle.table.specs.Does.{head_after, relay, row_of, row_of2, refusals_of2, refused2, done2, does, does2}
use Rattle.table.proofs.Laws.Refusals.{Clear, clear_of}
use Rattle.table.proofs.Laws.Valid.{fit}
use Rattle.table.proofs.Laws.Done.{head_left, done_is, row_carries, row_carries2, many, at}
use Rattle.table.proofs.Theorems.Carrying.{on}
use Rattle.table.proofs.Laws.Rows as rows

stands : (k : Kind) (t : Tray) (l : List ℕ) (head : ℕ)
    → Placing (cap t) (place k (cap t) (head_after k (length l) head)) (pos k (cap t) (head_after k (length l) head)) → length l ≤ cap t
    → (p : ℕ) → p < length l → get_or (relay k t l head).slots (place k (cap t) (head_after k (length l) head) p) 0 ≡ get_or l p 0
stands k t l head placed room p h = sym (entry _ (length l) _ p h) ∙ ap (λ z. get_or z p 0) (entries_relaid _ _ _ t.len l t.slots placed room)

pub carried_slots : (k : Kind) (t : Tray) (call : Call) → invalid k t ≡ false → Clear (row_of k call t).refusals
    → (j p : ℕ) → j < t.len → (row_of k call t).carry j ≡ to p
    → get_or (does k call t).tray.slots (place k (cap t) (does k call t).tray.head p) 0 ≡ get_or t.slots (place k (cap t) t.head j) 0
carried_slots k t call ok none j p h e =
    let l : List ℕ = list k t in
    let fits : length l ≤ cap t = omega (arith, many k t, fit k t ok) in
    let clear_on : Clear (on (cap t) t.head l call).refusals = rw (many k t) none in
    let c = row_carries k t call none in
    let room = (rows.kept itself (cap t) t.head call l fits clear_on).room in
    let head : t.head ≤ cap t - 1 → (row_of k call t).head ≤ cap t - 1 = λ i. rw (many k t) at (rows.headed call (cap t) t.head l i fits clear_on) in
    let lt : j < length l = omega (arith, many k t) in
    rw (done_is k t call ok none)
    (stands k t (after call l) (row_of k call t).head (placing k (cap t) _ (head_left k t ok _ _ head)) room p (c.inside j p lt e) ∙ c.entry j p lt e ∙ at k t j _ h refl)

-- of the first of two
pub carried_slots2 : (k k2 : Kind) (t t2 : Tray) (call : Call2) → invalid k t ≡ false → invalid k2 t2 ≡ false → Clear (row_of2 k k2 call t t2).refusals
    → (j p : ℕ) → j < t.len → (row_of2 k k2 call t t2).carry j ≡ to p
    → get_or (does2 k k2 call t t2).first.slots (place k (cap t) (does2 k k2 call t t2).first.head p) 0 ≡ get_or t.slots (place k (cap t) t.head j) 0
unfolding does2
carried_slots2 k k2 t t2 call ok ok2 none j p h e =
    let l : List ℕ = list k t in
    let l2 : List ℕ = list k2 t2 in
    let clear_on : Clear (row2 (cap t) t.head (length l) l (cap t2) t2.head (length l2) l2 call).refusals = rw (many k t, many k2 t2) none in
    let c = row_carries2 k k2 t t2 call in
    let fits : length l ≤ cap t = omega (arith, many k t, fit k t ok) in
    let fits2 : length l2 ≤ cap t2 = omega (arith, many k2 t2, fit k2 t2 ok2) in
    let room = (rows.kept2 itself (cap t) t.head (cap t2) t2.head call l l2 fits fits2 clear_on).room in
    let lt : j < length l = omega (arith, many k t) in
    let all : Clear (refusals_of2 k k2 call t t2) = (ok, (ok2, none)) in
    rw (clear_of (refused2 t t2 (row_of2 k k2 call t t2).given) (refusals_of2 k k2 call t t2) (done2 k k2 t t2 (after2 call l l2) (row_of2 k k2 call t t2)) all)
    (stands k t (after2 call l l2).0 t.head (placing k (cap t) _ (head_left k t ok _ _ (λ i. i))) room p (c.inside j p lt e) ∙ c.entry j p lt e ∙ at k t j _ h refl)
