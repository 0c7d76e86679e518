-- Two containers: what is heard of a call is what is seen of it, every answer fits a word, and both states come out; and the same of from_iter, whose cursor comes out too.
use mathlib.Core.Path.{◌≡◌, refl, sym, ap, ◌∙◌}
use mathlib.Core.Bool.{false}
use mathlib.Core.List.{List}
use Prim.Native.Nat.{ℕ, zero, suc, ◌^◌, ◌<◌}
use native.Mathlib.Omega.{arith}
use Rattle.slots.specs.Layout.{Kind, ring, vector}
use Rattle.table.specs.Tray.{Tray, list, invalid, Cursor, nowhere}
use Rattle.table.specs.Calls.{Call2, clone, from_iter}
use Rattle.table.specs.Table.{after2}
use Rattle.table.specs.Does.{relay, Outcome2, refused2, done2, does2, row_of2, refusals_of2}
use Rattle.table.specs.Reported.{no_slot}
use Rattle.table.specs.Totals.{total_first, total_second}
use Rattle.table.proofs.Laws.Refusals.{either}
use Rattle.table.proofs.Laws.Done.{Homed, homed, many, as_it_was}
use Rattle.table.proofs.Laws.Totalling.{first_same, second_same}
use Rattle.table.proofs.Theorems.Refused.{few_numbers2, two_refused}
use Rattle.table.proofs.Theorems.Moves.{moves_of2}
use Rattle.ring.specs.declared.Ring.{Ring}
use Rattle.ring.specs.Seen as rings
use Rattle.vector.specs.declared.Vector.{Vector}
use Rattle.vector.specs.Seen as vectors
use Rattle.containers.specs.Reading.{Reading}
use Rattle.pairs.specs.Seen.{seen2}
use Rattle.cursors.specs.declared.Cursor as code
use Rattle.cursors.specs.Seen.{cursor, seen_into}
use Rattle.tumbrelice.specs.Heard.{Worded, heard_into, Held, Hears2, HearsInto, ring_in, ring_out, vector_in, vector_out, unless_refused, ring_tray, vector_tray, ring_of, vector_of, cursor_in, cursor_out, cursor_of}
use Rattle.table.specs.declared.answers.Both.{Both}
use Rattle.table.specs.declared.answers.Numbered.{Numbered}
use Rattle.tumbrelice.proofs.Numbers.{Two, RingsMeet, VectorsMeet, Taken, rings_seen, vectors_seen}
use Rattle.tumbrelice.proofs.Words.{none_fits, ring_comes_out, vector_comes_out}

-- an answer fits a word
module _ (k k2 : Kind) (call : Call2) (t t2 : Tray) (o : Outcome2) (e : o ≡ does2 k k2 call t t2) where
  number_fits2 : o.number < 16
  number_fits2 = omega (arith, few_numbers2 k k2 call t t2, ap (λ (o : Outcome2). o.number) e)

  moves_fit2 : o.moves < 4096
  moves_fit2 = omega (arith, moves_of2 k k2 call t t2, ap (λ (o : Outcome2). o.moves) e)

pub two_fit : {A B : Type 0} (of : Reading A) (of2 : Reading B) (call : Call2) (first : A) (second : B) (s z s' z' : List ℕ) (a : Numbered (Both A B)) → Two of of2 call first s second z a s' z'
    → (a.number < 16) × (a.moves < 4096) × (a.slot < 65536)
two_fit of of2 call first second s z s' z' a e =
    (number_fits2 of.kind of2.kind call _ _ (seen2 of of2 a s' z') e.row, moves_fit2 of.kind of2.kind call _ _ (seen2 of of2 a s' z') e.row, none_fits a.slot e.slot)

pub taken_fit : (k : Kind) (u : Cursor) (t : Tray) (v : Vector) (z z' : List ℕ) (a : Numbered (Both code.Cursor Vector)) → Taken k (from_iter u) t v z a z'
    → (a.number < 16) × (a.moves < 4096) × (a.slot < 65536)
taken_fit k u t v z z' a e =
    (number_fits2 k vector (from_iter u) _ _ (seen_into a t z') e.row, moves_fit2 k vector (from_iter u) _ _ (seen_into a t z') e.row, none_fits a.slot e.slot)

-- what is heard of a call is what is seen of it
heard_into_law : (m x k n word : ℕ) (t t2 : Tray) (u : Cursor) (o : Outcome2) → Worded m x k n word
    → record { number = m; value = x; moves = k; first = t; second = t2; cursor = u } ≡ o → heard_into word t t2 u ≡ o
heard_into_law m x k n word t t2 u o w e = cc

-- o was seen of the call, and t, t2 and u are as o has them
pub heard2_is : (word : ℕ) (t t2 : Tray) (u : Cursor) (o o' : Outcome2) → Worded o.number o.value o.moves no_slot word → t ≡ o.first → t2 ≡ o.second → u ≡ o.cursor
    → o ≡ o' → heard_into word t t2 u ≡ o'
heard2_is word t t2 u o o' w first second at e =
    heard_into_law o.number o.value o.moves no_slot word t t2 u o' w (rw (first, second, at) e)

-- THE RULE of a call on two: a and a2 are as o has them
pub hears2 : (k k2 : Kind) (call : Call2) (b b2 a a2 : Held) (o : Outcome2) (word : ℕ) → nowhere ≡ o.cursor → o ≡ does2 k k2 call b.tray b2.tray
    → Worded o.number o.value o.moves no_slot word → a.tray ≡ o.first → a2.tray ≡ o.second
    → a.total ≡ total_first k k2 call b.tray b2.tray b.total → a2.total ≡ total_second k k2 call b.tray b2.tray b2.total
    → Hears2 k k2 call b b2 word a a2
hears2 k k2 call b b2 a a2 o word none e w first second total total2 =
    record { row = heard2_is word a.tray a2.tray nowhere o _ w first second none e; slot = w.slot; total = total; total2 = total2 }

-- what a refused call leaves, of each: the tray, and the total n' that it answers where n was given
module _ (k k2 : Kind) (call : Call2) (t t2 : Tray) (o : Outcome2) (n n' : ℕ) (e : o ≡ does2 k k2 call t t2) (small : n < 2 ^ 64) (j : ℕ) (refuses : o.number ≡ suc j) where
  first_left : n' ≡ total_first k k2 call t t2 n → (o.first ≡ t) × (n' ≡ n)
  first_left total =
      let same = ap (λ (o : Outcome2). o.first) (two_refused k k2 call t t2 o e j refuses) in
      (same, total ∙ sym (first_same k k2 call t t2 o n 0 e same small))

  second_left : n' ≡ total_second k k2 call t t2 n → (o.second ≡ t2) × (n' ≡ n)
  second_left total =
      let same = ap (λ (o : Outcome2). o.second) (two_refused k k2 call t t2 o e j refuses) in
      (same, total ∙ sym (second_same k k2 call t t2 o 0 n e same small))

-- both states come out
pub rings_hear : (call : Call2) (st ot st' ot' s z s' z' : List ℕ) (r t : Ring) (a : Numbered (Both Ring Ring)) (word : ℕ) → r ≡ ring_in st → r.total.sum < 2 ^ 64
    → t ≡ ring_in ot → t.total.sum < 2 ^ 64 → RingsMeet call r s t z a s' z'
    → st' ≡ unless_refused a.number (ring_out a.state.first) st → ot' ≡ unless_refused a.number (ring_out a.state.second) ot
    → Worded a.number a.value a.moves a.slot word → Hears2 ring ring call (ring_of st s) (ring_of ot z) word (ring_of st' s') (ring_of ot' z')
rings_hear call st ot st' ot' s z s' z' r t a word er small et small2 e es eo w =
    let e' : RingsMeet call (ring_in st) s (ring_in ot) z a s' z' = rw (er, et) at e in
    let o : Outcome2 = rings_seen a s' z' in
    let first = ring_comes_out st s s' a.state.first a.number (λ j refuses. first_left ring ring call _ _ o _ _ e'.row (rw er at small) j refuses e'.total) in
    let second = ring_comes_out ot z z' a.state.second a.number (λ j refuses. second_left ring ring call _ _ o _ _ e'.row (rw et at small2) j refuses e'.total2) in
    rw (es, eo) (hears2 ring ring call _ _ (ring_of (unless_refused a.number (ring_out a.state.first) st) s') (ring_of (unless_refused a.number (ring_out a.state.second) ot) z') o word refl
    e'.row (rw e'.slot at w) first.0 second.0 (first.1 ∙ e'.total) (second.1 ∙ e'.total2))

pub vectors_hear : (call : Call2) (st ot st' ot' s z s' z' : List ℕ) (v t : Vector) (a : Numbered (Both Vector Vector)) (word : ℕ) → v ≡ vector_in st → v.total.sum < 2 ^ 64
    → t ≡ vector_in ot → t.total.sum < 2 ^ 64 → VectorsMeet call v s t z a s' z'
    → st' ≡ unless_refused a.number (vector_out a.state.first) st → ot' ≡ unless_refused a.number (vector_out a.state.second) ot
    → Worded a.number a.value a.moves a.slot word → Hears2 vector vector call (vector_of st s) (vector_of ot z) word (vector_of st' s') (vector_of ot' z')
vectors_hear call st ot st' ot' s z s' z' v t a word ev small et small2 e es eo w =
    let e' : VectorsMeet call (vector_in st) s (vector_in ot) z a s' z' = rw (ev, et) at e in
    let o : Outcome2 = vectors_seen a s' z' in
    let first = vector_comes_out st s s' a.state.first a.number (λ j refuses. first_left vector vector call _ _ o _ _ e'.row (rw ev at small) j refuses e'.total) in
    let second = vector_comes_out ot z z' a.state.second a.number (λ j refuses. second_left vector vector call _ _ o _ _ e'.row (rw et at small2) j refuses e'.total2) in
    rw (es, eo) (hears2 vector vector call _ _ (vector_of (unless_refused a.number (vector_out a.state.first) st) s') (vector_of (unless_refused a.number (vector_out a.state.second) ot) z') o word refl
    e'.row (rw e'.slot at w) first.0 second.0 (first.1 ∙ e'.total) (second.1 ∙ e'.total2))

-- a container whose list and head stay is as it was
pub unmoved : (k : Kind) (t : Tray) → invalid k t ≡ false → Homed k t → relay k t (list k t) t.head ≡ t
unmoved k t ok home =
    let as_before : relay k t (list k t) t.head ≡ record { head = t.head; len = t.len; slots = t.slots } = cc (home, many k t, as_it_was k t ok) in
    as_before

-- clone leaves the container that it copies, whose state is only read
clone_still : (k k2 : Kind) (t t2 : Tray) → (invalid k t ≡ false → Homed k t) → (does2 k k2 clone t t2).first ≡ t
unfolding does2
clone_still k k2 t t2 home =
    either (λ (o : Outcome2). o.first ≡ t) (refused2 t t2 (row_of2 k k2 clone t t2).given) (refusals_of2 k k2 clone t t2)
    (done2 k k2 t t2 (after2 clone (list k t) (list k2 t2)) (row_of2 k k2 clone t t2))
    (λ r. refl)
    (λ clear. unmoved k t clear.0 (home clear.0))

pub rings_cloned : (st ot ot' s z z' : List ℕ) (r t : Ring) (a : Numbered (Both Ring Ring)) (word : ℕ) → r ≡ ring_in st → r.total.sum < 2 ^ 64 → t ≡ ring_in ot → t.total.sum < 2 ^ 64
    → RingsMeet clone r s t z a s z' → ot' ≡ unless_refused a.number (ring_out a.state.second) ot → Worded a.number a.value a.moves a.slot word
    → Hears2 ring ring clone (ring_of st s) (ring_of ot z) word (ring_of st s) (ring_of ot' z')
rings_cloned st ot ot' s z z' r t a word er small et small2 e eo w =
    let e' : RingsMeet clone (ring_in st) s (ring_in ot) z a s z' = rw (er, et) at e in
    let o : Outcome2 = rings_seen a s z' in
    let still = clone_still ring ring (ring_tray st s) (ring_tray ot z) (homed (ring_tray st s)) in
    let second = ring_comes_out ot z z' a.state.second a.number (λ j refuses. second_left ring ring clone _ _ o _ _ e'.row (rw et at small2) j refuses e'.total2) in
    rw eo (hears2 ring ring clone _ _ (ring_of st s) (ring_of (unless_refused a.number (ring_out a.state.second) ot) z') o word refl
    e'.row (rw e'.slot at w) (sym (ap (λ (o : Outcome2). o.first) e'.row ∙ still)) second.0
    (first_same ring ring clone _ (ring_tray ot z) _ _ 0 refl still (rw er at small)) (second.1 ∙ e'.total2))

pub vectors_cloned : (st ot ot' s z z' : List ℕ) (v t : Vector) (a : Numbered (Both Vector Vector)) (word : ℕ) → v ≡ vector_in st → v.total.sum < 2 ^ 64 → t ≡ vector_in ot → t.total.sum < 2 ^ 64
    → VectorsMeet clone v s t z a s z' → ot' ≡ unless_refused a.number (vector_out a.state.second) ot → Worded a.number a.value a.moves a.slot word
    → Hears2 vector vector clone (vector_of st s) (vector_of ot z) word (vector_of st s) (vector_of ot' z')
vectors_cloned st ot ot' s z z' v t a word ev small et small2 e eo w =
    let e' : VectorsMeet clone (vector_in st) s (vector_in ot) z a s z' = rw (ev, et) at e in
    let o : Outcome2 = vectors_seen a s z' in
    let still = clone_still vector vector (vector_tray st s) (vector_tray ot z) (λ ok. refl) in
    let second = vector_comes_out ot z z' a.state.second a.number (λ j refuses. second_left vector vector clone _ _ o _ _ e'.row (rw et at small2) j refuses e'.total2) in
    rw eo (hears2 vector vector clone _ _ (vector_of st s) (vector_of (unless_refused a.number (vector_out a.state.second) ot) z') o word refl
    e'.row (rw e'.slot at w) (sym (ap (λ (o : Outcome2). o.first) e'.row ∙ still)) second.0
    (first_same vector vector clone _ (vector_tray ot z) _ _ 0 refl still (rw ev at small)) (second.1 ∙ e'.total2))

-- FROM_ITER, over either kind: the cursor comes out as T does
pub cursor_comes_out : (cu : List ℕ) (v : code.Cursor) (m : ℕ) → ((j : ℕ) → m ≡ suc j → cursor v ≡ cursor_of cu) → cursor_of (unless_refused m (cursor_out v) cu) ≡ cursor v
cursor_comes_out cu v zero refused = refl
cursor_comes_out cu v (suc j) refused = sym (refused j refl)

into : (k : Kind) (b : Held) (cu cu' ot ot' z z' : List ℕ) (u : code.Cursor) (t : Vector) (a : Numbered (Both code.Cursor Vector)) (word : ℕ) → u ≡ cursor_in cu → t ≡ vector_in ot → t.total.sum < 2 ^ 64
    → Taken k (from_iter (cursor u)) b.tray t z a z' → cu' ≡ unless_refused a.number (cursor_out a.state.first) cu → ot' ≡ unless_refused a.number (vector_out a.state.second) ot
    → Worded a.number a.value a.moves a.slot word → HearsInto k (cursor_of cu) b (vector_of ot z) word (cursor_of cu') (vector_of ot' z')
into k b cu cu' ot ot' z z' u t a word eu et small e ec eo w =
    let e' : Taken k (from_iter (cursor_of cu)) b.tray (vector_in ot) z a z' = rw (eu, et) at e in
    let o : Outcome2 = seen_into a b.tray z' in
    let second = vector_comes_out ot z z' a.state.second a.number (λ j refuses. second_left k vector (from_iter (cursor_of cu)) _ _ o _ _ e'.row (rw et at small) j refuses e'.total) in
    let walked = cursor_comes_out cu a.state.first a.number (λ j refuses. ap (λ (o : Outcome2). o.cursor) (two_refused k vector (from_iter (cursor_of cu)) _ _ o e'.row j refuses)) in
    rw (ec, eo) (record {
      row = heard2_is word b.tray _ _ o _ (rw e'.slot at w) refl second.0 walked e'.row;
      slot = w.slot ∙ e'.slot;
      total2 = second.1 ∙ e'.total;
    })

pub ring_into : (st cu cu' ot ot' s z z' : List ℕ) (r : Ring) (u : code.Cursor) (t : Vector) (a : Numbered (Both code.Cursor Vector)) (word : ℕ) → r ≡ ring_in st → u ≡ cursor_in cu → t ≡ vector_in ot → t.total.sum < 2 ^ 64
    → Taken ring (from_iter (cursor u)) (rings.tray r s) t z a z' → cu' ≡ unless_refused a.number (cursor_out a.state.first) cu → ot' ≡ unless_refused a.number (vector_out a.state.second) ot
    → Worded a.number a.value a.moves a.slot word → HearsInto ring (cursor_of cu) (ring_of st s) (vector_of ot z) word (cursor_of cu') (vector_of ot' z')
ring_into st cu cu' ot ot' s z z' r u t a word er eu et small e ec eo w = into ring (ring_of st s) cu cu' ot ot' z z' u t a word eu et small (rw er at e) ec eo w

pub vector_into : (st cu cu' ot ot' s z z' : List ℕ) (v : Vector) (u : code.Cursor) (t : Vector) (a : Numbered (Both code.Cursor Vector)) (word : ℕ) → v ≡ vector_in st → u ≡ cursor_in cu → t ≡ vector_in ot → t.total.sum < 2 ^ 64
    → Taken vector (from_iter (cursor u)) (vectors.tray v s) t z a z' → cu' ≡ unless_refused a.number (cursor_out a.state.first) cu → ot' ≡ unless_refused a.number (vector_out a.state.second) ot
    → Worded a.number a.value a.moves a.slot word → HearsInto vector (cursor_of cu) (vector_of st s) (vector_of ot z) word (cursor_of cu') (vector_of ot' z')
vector_into st cu cu' ot ot' s z z' v u t a word ev eu et small e ec eo w = into vector (vector_of st s) cu cu' ot ot' z z' u t a word eu et small (rw ev at e) ec eo w
