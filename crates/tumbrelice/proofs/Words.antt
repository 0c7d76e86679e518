-- A word made of an answer says that answer, every answer fits one, and what is heard of a call is what is seen of it.
use mathlib.Core.Path.{◌≡◌, refl, sym, ap, ◌∙◌}
use mathlib.Core.Bool.{true, false}
use mathlib.Core.List.{List}
use Prim.Native.Nat.{ℕ, zero, suc, ◌+◌, ◌*◌, ◌/◌, ◌%◌, ◌^◌, ◌<◌}
use native.Mathlib.Omega.{arith}
use lib.Arith.{digits_div, digits_mod}
use Rattle.slots.specs.Layout.{Kind, ring, vector}
use Rattle.table.specs.Tray.{Tray, list, invalid, Cursor, nowhere}
use Rattle.table.specs.Calls.{Call, Look, look, Making, has}
use Rattle.table.specs.Table.{after}
use Rattle.table.specs.Does.{Outcome, refused, done, does, row_of, refusals_of}
use Rattle.table.specs.Reported.{no_slot, reported}
use Rattle.table.specs.Totals.{total_after}
use Rattle.table.specs.Within.{does_within}
use Rattle.table.proofs.Laws.Refusals.{either}
use Rattle.table.proofs.Laws.Done.{Homed, homed, done_is}
use Rattle.table.proofs.Laws.Looks.{look_done}
use Rattle.table.proofs.Theorems.Refused.{few_numbers, few_numbers_made, call_refused}
use Rattle.table.proofs.Theorems.Moves.{few_moves, moves_made}
use Rattle.table.proofs.Theorems.Reported.{fits_16}
use Rattle.table.proofs.Theorems.Totals.{same_total, refused_total}
use Rattle.table.proofs.Theorems.Within.{within_refused, few_numbers_within, few_moves_within, fits_16_within}
use Rattle.table.specs.declared.answers.Numbered.{Numbered}
use Rattle.ring.specs.declared.Ring.{Ring}
use Rattle.ring.specs.Seen as rings
use Rattle.vector.specs.declared.Vector.{Vector}
use Rattle.vector.specs.Seen as vectors
use Rattle.tumbrelice.proofs.Numbers.{RingMeets, RingWithin, VectorMeets, RingMakes, VectorMakes}
use Rattle.tumbrelice.specs.Heard.{Worded, slot_in, heard_at, heard, Held, Hears, HearsWithin, HearsMade, ring_in, ring_out, vector_in, vector_out, unless_refused, ring_tray, vector_tray, ring_of, vector_of}

-- the digits of a word
pub worded : (m x k n word : ℕ) → k < 4096 → n < 65536 → x < 4294967296 → word ≡ ((m * 4096 + k) * 65536 + n) * 4294967296 + x → Worded m x k n word
worded m x k n word few small fits e =
    let low : word / 4294967296 ≡ (m * 4096 + k) * 65536 + n = ap (λ w. w / 4294967296) e ∙ digits_div ((m * 4096 + k) * 65536 + n) fits in
    let high : word / 4294967296 / 65536 ≡ m * 4096 + k = ap (λ w. w / 65536) low ∙ digits_div (m * 4096 + k) small in
    record {
      number = ap (λ w. w / 4096) high ∙ digits_div m few;
      value = ap (λ w. w % 4294967296) e ∙ digits_mod ((m * 4096 + k) * 65536 + n) fits;
      moves = ap (λ w. w % 4096) high ∙ digits_mod m few;
      slot = ap (λ w. w % 65536) low ∙ digits_mod (m * 4096 + k) small;
    }

-- the same of a call that is done, whose number is 0
pub worded_done : (m x k n word : ℕ) → m ≡ 0 → k < 4096 → n < 65536 → x < 4294967296 → word ≡ (k * 65536 + n) * 4294967296 + x → Worded m x k n word
worded_done m x k n word done few small fits e = worded m x k n word few small fits (omega arith)

-- an answer fits a word
pub none_fits : (n : ℕ) → n ≡ no_slot → n < 65536
none_fits n e = omega arith

slot_fits : (k : Kind) (call : Call) (t : Tray) (o : Outcome) → o ≡ does k call t → (n : ℕ) → n ≡ reported k call t → n < 65536
slot_fits k call t o e n is = omega (arith, fits_16 k call t o e)

module _ (call : Call) (r : Ring) (s z : List ℕ) (a : Numbered Ring) (e : RingMeets call r s a z) where
  ring_number_fits : a.number < 16
  ring_number_fits = omega (arith, few_numbers ring call (rings.tray r s), ap (λ (o : Outcome). o.number) e.row)

  ring_moves_fit : has call ring ≡ true → a.moves < 4096
  ring_moves_fit of = omega (arith, few_moves ring call (rings.tray r s) of, ap (λ (o : Outcome). o.moves) e.row)

  ring_slot_fits : a.slot < 65536
  ring_slot_fits = slot_fits ring call (rings.tray r s) _ e.row a.slot e.slot

-- with an allowance too: 12 takes 4 bits
module _ (allowance : ℕ) (call : Call) (r : Ring) (s z : List ℕ) (a : Numbered Ring) (e : RingWithin allowance call r s a z) where
  within_number_fits : a.number < 16
  within_number_fits = omega (arith, few_numbers_within allowance ring call (rings.tray r s), ap (λ (o : Outcome). o.number) e.row)

  within_moves_fit : has call ring ≡ true → a.moves < 4096
  within_moves_fit of = omega (arith, few_moves_within allowance ring call (rings.tray r s) of, ap (λ (o : Outcome). o.moves) e.row)

  within_slot_fits : a.slot < 65536
  within_slot_fits = omega (arith, fits_16_within allowance ring call (rings.tray r s), e.slot)

module _ (call : Call) (v : Vector) (s z : List ℕ) (a : Numbered Vector) (e : VectorMeets call v s a z) where
  vector_number_fits : a.number < 16
  vector_number_fits = omega (arith, few_numbers vector call (vectors.tray v s), ap (λ (o : Outcome). o.number) e.row)

  vector_moves_fit : has call vector ≡ true → a.moves < 4096
  vector_moves_fit of = omega (arith, few_moves vector call (vectors.tray v s) of, ap (λ (o : Outcome). o.moves) e.row)

  vector_slot_fits : a.slot < 65536
  vector_slot_fits = slot_fits vector call (vectors.tray v s) _ e.row a.slot e.slot

-- so does that of a making
module _ (m : Making) (s z : List ℕ) (a : Numbered Ring) (e : RingMakes m s a z) where
  ring_made_number : a.number < 16
  ring_made_number = omega (arith, few_numbers_made ring m s, ap (λ (o : Outcome). o.number) e.row)

  ring_made_moves : a.moves < 4096
  ring_made_moves = omega (arith, moves_made ring m s, ap (λ (o : Outcome). o.moves) e.row)

  ring_made_slot : a.slot < 65536
  ring_made_slot = none_fits a.slot e.slot

module _ (m : Making) (s z : List ℕ) (a : Numbered Vector) (e : VectorMakes m s a z) where
  vector_made_number : a.number < 16
  vector_made_number = omega (arith, few_numbers_made vector m s, ap (λ (o : Outcome). o.number) e.row)

  vector_made_moves : a.moves < 4096
  vector_made_moves = omega (arith, moves_made vector m s, ap (λ (o : Outcome). o.moves) e.row)

  vector_made_slot : a.slot < 65536
  vector_made_slot = none_fits a.slot e.slot

-- so each answer has its word
module _ (a : Numbered Ring) where
  pub ring_fit : (call : Call) (r : Ring) (s z : List ℕ) → RingMeets call r s a z → has call ring ≡ true → (a.number < 16) × (a.moves < 4096) × (a.slot < 65536)
  ring_fit call r s z e of = (ring_number_fits call r s z a e, ring_moves_fit call r s z a e of, ring_slot_fits call r s z a e)

  pub within_fit : (allowance : ℕ) (call : Call) (r : Ring) (s z : List ℕ) → RingWithin allowance call r s a z → has call ring ≡ true → (a.number < 16) × (a.moves < 4096) × (a.slot < 65536)
  within_fit allowance call r s z e of = (within_number_fits allowance call r s z a e, within_moves_fit allowance call r s z a e of, within_slot_fits allowance call r s z a e)

  pub ring_made_fit : (m : Making) (s z : List ℕ) → RingMakes m s a z → (a.number < 16) × (a.moves < 4096) × (a.slot < 65536)
  ring_made_fit m s z e = (ring_made_number m s z a e, ring_made_moves m s z a e, ring_made_slot m s z a e)

module _ (a : Numbered Vector) where
  pub vector_fit : (call : Call) (v : Vector) (s z : List ℕ) → VectorMeets call v s a z → has call vector ≡ true → (a.number < 16) × (a.moves < 4096) × (a.slot < 65536)
  vector_fit call v s z e of = (vector_number_fits call v s z a e, vector_moves_fit call v s z a e of, vector_slot_fits call v s z a e)

  pub vector_made_fit : (m : Making) (s z : List ℕ) → VectorMakes m s a z → (a.number < 16) × (a.moves < 4096) × (a.slot < 65536)
  vector_made_fit m s z e = (vector_made_number m s z a e, vector_made_moves m s z a e, vector_made_slot m s z a e)

-- what is heard of a call is what is seen of it
pub heard_at_law : (m x k n word : ℕ) (t : Tray) (u : Cursor) (o : Outcome) → Worded m x k n word
    → record { number = m; value = x; moves = k; tray = t; cursor = u } ≡ o → heard_at word t u ≡ o
heard_at_law m x k n word t u o w e = cc

-- the private functions that store nothing where a call is refused
pub refused_keeps : (m : ℕ) (out given numbers : List ℕ) → (m ≡ 0 → ⊥) → numbers ≡ given → numbers ≡ unless_refused m out given
refused_keeps zero out given numbers some e = absurd (some refl)
refused_keeps (suc m) out given numbers some e = e

pub done_leaves : (m : ℕ) (out given numbers : List ℕ) → m ≡ 0 → numbers ≡ out → numbers ≡ unless_refused m out given
done_leaves m out given numbers done e = rw done e

-- A STATE THAT COMES OUT, for either kind: `goes` is how its numbers go in, `comes` how they come out. Where the call is refused the answer has the container as
-- it was, so the numbers that were given are the answer's too.
module _ {S : Type 0} (goes : List ℕ → S) (comes : S → List ℕ) (tray : S → List ℕ → Tray) (sum : S → ℕ)
    (back : (s : S) (z : List ℕ) → tray (goes (comes s)) z ≡ tray s z) (back_sum : (s : S) → sum (goes (comes s)) ≡ sum s) (slots : (s : S) (z : List ℕ) → (tray s z).slots ≡ z) where
  comes_out : (st z z' : List ℕ) (s : S) (m : ℕ) → ((j : ℕ) → m ≡ suc j → (tray s z' ≡ tray (goes st) z) × (sum s ≡ sum (goes st)))
      → (tray (goes (unless_refused m (comes s) st)) z' ≡ tray s z') × (sum (goes (unless_refused m (comes s) st)) ≡ sum s)
  comes_out st z z' s zero refused = (back s z', back_sum s)
  comes_out st z z' s (suc j) refused =
      let stays = refused j refl in
      let same : z' ≡ z = sym (slots s z') ∙ ap (λ (t : Tray). t.slots) stays.0 ∙ slots (goes st) z in
      (ap (tray (goes st)) same ∙ sym stays.0, sym stays.1)

pub ring_comes_out : (st z z' : List ℕ) (r : Ring) (m : ℕ) → ((j : ℕ) → m ≡ suc j → (rings.tray r z' ≡ ring_tray st z) × (r.total.sum ≡ (ring_in st).total.sum))
    → (ring_tray (unless_refused m (ring_out r) st) z' ≡ rings.tray r z') × ((ring_in (unless_refused m (ring_out r) st)).total.sum ≡ r.total.sum)
ring_comes_out = comes_out ring_in ring_out rings.tray (λ r. r.total.sum) (λ r z. refl) (λ r. refl) (λ r z. refl)

pub vector_comes_out : (n z z' : List ℕ) (v : Vector) (m : ℕ) → ((j : ℕ) → m ≡ suc j → (vectors.tray v z' ≡ vector_tray n z) × (v.total.sum ≡ (vector_in n).total.sum))
    → (vector_tray (unless_refused m (vector_out v) n) z' ≡ vectors.tray v z') × ((vector_in (unless_refused m (vector_out v) n)).total.sum ≡ v.total.sum)
vector_comes_out = comes_out vector_in vector_out vectors.tray (λ v. v.total.sum) (λ v z. refl) (λ v. refl) (λ v z. refl)

-- what a refused call leaves: the tray, and the total n' that it answers where n was given
left : (k : Kind) (call : Call) (t : Tray) (o : Outcome) (n n' : ℕ) → o ≡ does k call t → n' ≡ total_after k call t n → n < 2 ^ 64 → (j : ℕ) → o.number ≡ suc j → (o.tray ≡ t) × (n' ≡ n)
left k call t o n n' e total small j refuses =
    (ap (λ o. o.tray) (call_refused k call t o e j refuses), total ∙ sym (refused_total k call t o j n e refuses small))

-- whatever outcome o, slot p and total n a call on a ring promises: they are what is heard of it. Where it is refused o has the container as it was, and n is the total that was given.
pub ring_says_law : (st st' s s' : List ℕ) (a : Numbered Ring) (word : ℕ) (o : Outcome) (p n : ℕ) → rings.seen a s' ≡ o → a.slot ≡ p → a.state.total.sum ≡ n
    → ((j : ℕ) → o.number ≡ suc j → (o.tray ≡ ring_tray st s) × (n ≡ (ring_in st).total.sum)) → st' ≡ unless_refused a.number (ring_out a.state) st
    → Worded a.number a.value a.moves a.slot word → (heard word (ring_tray st' s') ≡ o) × (slot_in word ≡ p) × ((ring_in st').total.sum ≡ n)
ring_says_law st st' s s' a word o p n is slot total stays es w =
    let out = ring_comes_out st s s' a.state a.number (λ j e.
    let was = stays j (ap (λ (o : Outcome). o.number) (sym is) ∙ e) in
    (ap (λ (o : Outcome). o.tray) is ∙ was.0, total ∙ was.1)) in
    rw es (ap (heard word) out.0 ∙ heard_at_law _ _ _ _ word (rings.tray a.state s') nowhere _ w is, w.slot ∙ slot, out.1 ∙ total)

-- THE RULES of the exported calls: the state goes in, the call meets its promise, the state comes out, and the answer is a word.
pub ring_hears : (call : Call) (st st' s s' : List ℕ) (r : Ring) (a : Numbered Ring) (word : ℕ) → r ≡ ring_in st → r.total.sum < 2 ^ 64 → RingMeets call r s a s'
    → st' ≡ unless_refused a.number (ring_out a.state) st → Worded a.number a.value a.moves a.slot word → Hears ring call (ring_of st s) word (ring_of st' s')
ring_hears call st st' s s' r a word er small e es w =
    let e' : RingMeets call (ring_in st) s a s' = rw er at e in
    let all = ring_says_law st st' s s' a word _ _ _ e'.row e'.slot e'.total (left ring call (ring_tray st s) _ _ _ refl refl (rw er at small)) es w in
    record { row = all.0; slot = all.1; total = all.2 }

-- with an allowance (request 11)
pub ring_hears_within : (allowance : ℕ) (call : Call) (st st' s s' : List ℕ) (r : Ring) (a : Numbered Ring) (word : ℕ) → r ≡ ring_in st → r.total.sum < 2 ^ 64
    → RingWithin allowance call r s a s' → st' ≡ unless_refused a.number (ring_out a.state) st → Worded a.number a.value a.moves a.slot word
    → HearsWithin allowance ring call (ring_of st s) word (ring_of st' s')
ring_hears_within allowance call st st' s s' r a word er small e es w =
    let e' : RingWithin allowance call (ring_in st) s a s' = rw er at e in
    let all = ring_says_law st st' s s' a word _ _ _ e'.row e'.slot e'.total (λ j refuses.
    let was = within_refused allowance ring call (ring_tray st s) (does_within allowance ring call (ring_tray st s)) refl j refuses in
    (was.0, was.2 _ (rw er at small))) es w in
    record { row = all.0; slot = all.1; total = all.2 }

pub vector_hears : (call : Call) (st st' s s' : List ℕ) (v : Vector) (a : Numbered Vector) (word : ℕ) → v ≡ vector_in st → v.total.sum < 2 ^ 64 → VectorMeets call v s a s'
    → st' ≡ unless_refused a.number (vector_out a.state) st → Worded a.number a.value a.moves a.slot word → Hears vector call (vector_of st s) word (vector_of st' s')
vector_hears call st st' s s' v a word ev small e en w =
    let e' : VectorMeets call (vector_in st) s a s' = rw ev at e in
    let out = vector_comes_out st s s' a.state a.number (left vector call (vector_tray st s) (vectors.seen a s') _ _ e'.row e'.total (rw ev at small)) in
    rw en (record {
      row = ap (heard word) out.0 ∙ heard_at_law _ _ _ _ word (vectors.tray a.state s') nowhere _ w e'.row;
      slot = w.slot ∙ e'.slot;
      total = out.1 ∙ e'.total;
    })

-- a making's state comes out whole
pub ring_made_heard : (m : Making) (st' s s' : List ℕ) (a : Numbered Ring) (word : ℕ) → RingMakes m s a s' → st' ≡ ring_out a.state
    → Worded a.number a.value a.moves a.slot word → HearsMade ring m s word (ring_of st' s')
ring_made_heard m st' s s' a word e es w =
    rw es (record { row = heard_at_law _ _ _ _ word (rings.tray a.state s') nowhere _ w e.row; slot = w.slot ∙ e.slot; total = e.total })

pub vector_made_heard : (m : Making) (st' s s' : List ℕ) (a : Numbered Vector) (word : ℕ) → VectorMakes m s a s' → st' ≡ vector_out a.state
    → Worded a.number a.value a.moves a.slot word → HearsMade vector m s word (vector_of st' s')
vector_made_heard m st' s s' a word e es w =
    rw es (record { row = heard_at_law _ _ _ _ word (vectors.tray a.state s') nowhere _ w e.row; slot = w.slot ∙ e.slot; total = e.total })

-- a look leaves the container as it is, so a caller keeps the state that it gave
look_still : (k : Kind) (q : Look) (t : Tray) → (invalid k t ≡ false → Homed k t) → (does k (look q) t).tray ≡ t
unfolding does
look_still k q t home =
    either (λ (o : Outcome). o.tray ≡ t) (refused t (row_of k (look q) t).given) (refusals_of k (look q) t)
    (done k t (after (look q) (list k t)) (row_of k (look q) t))
    (λ r. refl)
    (λ clear. ap (λ o. o.tray) (sym (done_is k t (look q) clear.0 clear.1) ∙ sym (look_done k t _ clear.0 (home clear.0) q clear.1 refl)))

looked : (m x k n word : ℕ) (t' : Tray) (b : Held) (kind : Kind) (q : Look) → (invalid kind b.tray ≡ false → Homed kind b.tray) → b.total < 2 ^ 64 → Worded m x k n word
    → n ≡ reported kind (look q) b.tray → record { number = m; value = x; moves = k; tray = t'; cursor = nowhere } ≡ does kind (look q) b.tray → Hears kind (look q) b word b
looked m x k n word t' b kind q home small w reports e = record {
  row =
      heard_at_law m x k n word b.tray nowhere _ w
      (ap (λ t. record { number = m; value = x; moves = k; tray = t; cursor = nowhere }) (sym (look_still kind q b.tray home) ∙ sym (ap (λ o. o.tray) e)) ∙ e);
  slot = w.slot ∙ reports;
  total = same_total kind (look q) b.tray _ b.total refl (look_still kind q b.tray home) small;
}

pub ring_looked : (q : Look) (st s : List ℕ) (r : Ring) (a : Numbered Ring) (word : ℕ) → r ≡ ring_in st → r.total.sum < 2 ^ 64 → RingMeets (look q) r s a s
    → Worded a.number a.value a.moves a.slot word → Hears ring (look q) (ring_of st s) word (ring_of st s)
ring_looked q st s r a word er small e w =
    let e' : RingMeets (look q) (ring_in st) s a s = rw er at e in
    looked _ _ _ _ word _ (ring_of st s) ring q (homed (ring_tray st s)) (rw er at small) w e'.slot e'.row

pub vector_looked : (q : Look) (st s : List ℕ) (v : Vector) (a : Numbered Vector) (word : ℕ) → v ≡ vector_in st → v.total.sum < 2 ^ 64 → VectorMeets (look q) v s a s
    → Worded a.number a.value a.moves a.slot word → Hears vector (look q) (vector_of st s) word (vector_of st s)
vector_looked q st s v a word ev small e w =
    let e' : VectorMeets (look q) (vector_in st) s a s = rw ev at e in
    looked _ _ _ _ word _ (vector_of st s) vector q (λ ok. refl) (rw ev at small) w e'.slot e'.row
