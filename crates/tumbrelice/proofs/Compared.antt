-- What is heard of a comparison is what is seen of it, every answer fits a word, and both containers are as they were, so a caller keeps the states that
-- it gave.
use mathlib.Core.Path.{◌≡◌, refl, sym, ap, ◌∙◌}
use mathlib.Core.Bool.{false}
use mathlib.Core.List.{List}
use Prim.Native.Nat.{ℕ, ◌^◌, ◌<◌}
use Rattle.slots.specs.Layout.{Kind, ring, vector}
use Rattle.table.specs.Tray.{Tray, list, invalid, nowhere}
use Rattle.table.specs.Calls.{same}
use Rattle.table.specs.Table.{after2}
use Rattle.table.specs.Does.{Outcome2, refused2, done2, does2, row_of2, refusals_of2}
use Rattle.table.specs.Reported.{no_slot}
use Rattle.table.proofs.Laws.Refusals.{either}
use Rattle.table.proofs.Laws.Done.{Homed, homed}
use Rattle.table.proofs.Laws.Totalling.{first_same, second_same}
use Rattle.ring.specs.declared.Ring.{Ring}
use Rattle.vector.specs.declared.Vector.{Vector}
use Rattle.table.specs.declared.answers.Both.{Both}
use Rattle.table.specs.declared.answers.Numbered.{Numbered}
use Rattle.tumbrelice.proofs.Numbers.{RingsMeet, VectorsMeet, MixedMeet, rings_seen, vectors_seen, mixed_seen}
use Rattle.tumbrelice.specs.Heard.{Worded, Held, Hears2, ring_in, vector_in, ring_tray, ring_of, vector_of}
use Rattle.tumbrelice.proofs.Twos.{hears2, unmoved}

-- a comparison leaves both
first_still : (k k2 : Kind) (t t2 : Tray) → (invalid k t ≡ false → Homed k t) → (does2 k k2 same t t2).first ≡ t
unfolding does2
first_still k k2 t t2 home =
    either (λ (o : Outcome2). o.first ≡ t) (refused2 t t2 (row_of2 k k2 same t t2).given) (refusals_of2 k k2 same t t2)
    (done2 k k2 t t2 (after2 same (list k t) (list k2 t2)) (row_of2 k k2 same t t2))
    (λ r. refl)
    (λ clear. unmoved k t clear.0 (home clear.0))

second_still : (k k2 : Kind) (t t2 : Tray) → (invalid k2 t2 ≡ false → Homed k2 t2) → (does2 k k2 same t t2).second ≡ t2
unfolding does2
second_still k k2 t t2 home2 =
    either (λ (o : Outcome2). o.second ≡ t2) (refused2 t t2 (row_of2 k k2 same t t2).given) (refusals_of2 k k2 same t t2)
    (done2 k k2 t t2 (after2 same (list k t) (list k2 t2)) (row_of2 k k2 same t t2))
    (λ r. refl)
    (λ clear. unmoved k2 t2 clear.1.0 (home2 clear.1.0))

-- THE RULE: o is what was seen of the call, and b and b2 what the caller gave and keeps
compared : (k k2 : Kind) (b b2 : Held) (o : Outcome2) (word : ℕ) → (invalid k b.tray ≡ false → Homed k b.tray) → (invalid k2 b2.tray ≡ false → Homed k2 b2.tray)
    → b.total < 2 ^ 64 → b2.total < 2 ^ 64 → nowhere ≡ o.cursor → o ≡ does2 k k2 same b.tray b2.tray → Worded o.number o.value o.moves no_slot word
    → Hears2 k k2 same b b2 word b b2
compared k k2 b b2 o word home home2 small small2 none e w =
    let still = first_still k k2 b.tray b2.tray home in
    let still2 = second_still k k2 b.tray b2.tray home2 in
    hears2 k k2 same b b2 b b2 o word none e w (sym (ap (λ (o : Outcome2). o.first) e ∙ still)) (sym (ap (λ (o : Outcome2). o.second) e ∙ still2))
    (first_same k k2 same b.tray b2.tray _ b.total b2.total refl still small) (second_same k k2 same b.tray b2.tray _ b.total b2.total refl still2 small2)

-- and for each pair of kinds, with the states as numbers
pub rings_compared : (st ot s z : List ℕ) (r t : Ring) (a : Numbered (Both Ring Ring)) (word : ℕ) → r ≡ ring_in st → t ≡ ring_in ot → r.total.sum < 2 ^ 64 → t.total.sum < 2 ^ 64 → RingsMeet same r s t z a s z
    → Worded a.number a.value a.moves a.slot word → Hears2 ring ring same (ring_of st s) (ring_of ot z) word (ring_of st s) (ring_of ot z)
rings_compared st ot s z r t a word er et small small2 e w =
    let e' : RingsMeet same (ring_in st) s (ring_in ot) z a s z = rw (er, et) at e in
    compared ring ring (ring_of st s) (ring_of ot z) (rings_seen a s z) word (homed (ring_tray st s)) (homed (ring_tray ot z)) (rw er at small) (rw et at small2) refl e'.row (rw e'.slot at w)

pub vectors_compared : (n m s z : List ℕ) (v t : Vector) (a : Numbered (Both Vector Vector)) (word : ℕ) → v ≡ vector_in n → t ≡ vector_in m → v.total.sum < 2 ^ 64 → t.total.sum < 2 ^ 64 → VectorsMeet same v s t z a s z
    → Worded a.number a.value a.moves a.slot word → Hears2 vector vector same (vector_of n s) (vector_of m z) word (vector_of n s) (vector_of m z)
vectors_compared n m s z v t a word ev et small small2 e w =
    let e' : VectorsMeet same (vector_in n) s (vector_in m) z a s z = rw (ev, et) at e in
    compared vector vector (vector_of n s) (vector_of m z) (vectors_seen a s z) word (λ ok. refl) (λ ok. refl) (rw ev at small) (rw et at small2) refl e'.row (rw e'.slot at w)

pub mixed_compared : (st m s z : List ℕ) (r : Ring) (t : Vector) (a : Numbered (Both Ring Vector)) (word : ℕ) → r ≡ ring_in st → t ≡ vector_in m → r.total.sum < 2 ^ 64 → t.total.sum < 2 ^ 64
    → MixedMeet same r s t z a s z → Worded a.number a.value a.moves a.slot word
    → Hears2 ring vector same (ring_of st s) (vector_of m z) word (ring_of st s) (vector_of m z)
mixed_compared st m s z r t a word er et small small2 e w =
    let e' : MixedMeet same (ring_in st) s (vector_in m) z a s z = rw (er, et) at e in
    compared ring vector (ring_of st s) (vector_of m z) (mixed_seen a s z) word (homed (ring_tray st s)) (λ ok. refl) (rw er at small) (rw et at small2) refl e'.row (rw e'.slot at w)
