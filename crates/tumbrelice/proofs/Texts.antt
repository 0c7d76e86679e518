-- What is heard of the calls on a text, the stored form or a record, is what is seen of them, and every answer fits a word.
use mathlib.Core.Path.{◌≡◌, refl, sym, ap, ◌∙◌}
use mathlib.Core.Bool.{Bool, true, false, cond}
use mathlib.Core.List.{List}
use Prim.Native.Nat.{ℕ, suc, ◌^◌, ◌<◌}
use native.Mathlib.Omega.{arith}
use Rattle.slots.specs.Layout.{Kind, ring, vector}
use Rattle.slots.proofs.Totals.{no_change}
use Rattle.table.specs.Tray.{Tray, cap, nowhere}
use Rattle.table.specs.Does.{Outcome, Outcome2, refused2}
use Rattle.table.specs.Reported.{no_slot}
use Rattle.table.proofs.Laws.Refusals.{either, below_16}
use Rattle.ring.specs.declared.Ring.{Ring}
use Rattle.ring.specs.Seen as rings
use Rattle.vector.specs.declared.Vector.{Vector}
use Rattle.vector.specs.Seen as vectors
use Rattle.digits.specs.Put.{put}
use Rattle.stored.specs.Form.{form, size}
use Rattle.stored.specs.Written.{Written, refusals_text, writes}
use Rattle.stored.specs.Seen.{seen_ring, seen_vector, RingStored, VectorStored}
use Rattle.stored.proofs.Writes.{refusing, telling}
use Rattle.stored.proofs.Ours.{as_it_was}
use Rattle.stored.specs.Reads.{reads, RingRead, VectorRead}
use Rattle.stored.proofs.Given.{reads_either}
use Rattle.std.specs.Prelude.{Result, Ok, Err}
use Rattle.table.specs.declared.answers.Answer.{Answer}
use Rattle.table.specs.declared.answers.Both.{Both}
use Rattle.table.specs.declared.answers.Numbered.{Numbered}
use Rattle.table.specs.declared.answers.Refusal.{Refusal}
use Rattle.table.specs.Answers.{number_in}
use Rattle.table.specs.Answers as answers
use Rattle.pairs.specs.Seen.{both}
use Rattle.record.specs.declared.Fault.{Fault}
use Rattle.record.specs.declared.Fault.TheVariants.{Stray, Unclosed, Long}
use Rattle.record.specs.Steps.{refusal_of, place_told}
use Rattle.record.specs.Recorded.{Told, told, judged, judges, records, total_starts, total_ends, Records}
use Rattle.record.specs.Unquoted.{unquoted, numbered, Unquotes}
use Rattle.record.proofs.Theorems.Small.{few_numbers, no_moves}
use Rattle.record.proofs.Theorems.Numbers.{records_refused}
use Rattle.tumbrelice.specs.Heard.{Worded, Held, ring_in, vector_in, ring_out, vector_out, unless_refused, ring_of, vector_of}
use Rattle.tumbrelice.specs.HeardText.{HearsStored, HearsRead, HearsRecord, heard_told, HearsTold, HearsUndone}
use Rattle.tumbrelice.proofs.Numbers.{vectors_seen}
use Rattle.tumbrelice.proofs.Words.{none_fits, heard_at_law, vector_comes_out}
use Rattle.tumbrelice.proofs.Twos.{heard2_is}

-- A record that is read onto two vectors: what it promises of its answer in numbers, as `Numbers` has it of a call on two.
pub record Recorded (text : List ℕ) (v : Vector) (s : List ℕ) (t : Vector) (z : List ℕ) (a : Numbered (Both Vector Vector)) (s' z' : List ℕ) : Type 0 where
  pub row : vectors_seen a s' z' ≡ records text (vectors.tray v s) (vectors.tray t z)
  pub slot : a.slot ≡ no_slot
  pub total : a.state.first.total.sum ≡ total_starts text (vectors.tray v s) (vectors.tray t z) v.total.sum
  pub total2 : a.state.second.total.sum ≡ total_ends text (vectors.tray v s) (vectors.tray t z) t.total.sum

pub record_numbers : (text : List ℕ) (v t : Vector) (s z s' z' : List ℕ) (a : Numbered (Both Vector Vector)) (r : Result (Answer (Both Vector Vector)) Refusal) → a ≡ answers.numbered (both v t) r
    → Records text v s t z r s' z' → Recorded text v s t z a s' z'
record_numbers text v t s z s' z' a r is e = rw is (record { row = e.row; slot = e.slot; total = e.total; total2 = e.total2 })

pub record_fit : (text : List ℕ) (v t : Vector) (s z s' z' : List ℕ) (a : Numbered (Both Vector Vector)) → Recorded text v s t z a s' z' → (a.number < 16) × (a.moves < 4096) × (a.slot < 65536)
record_fit text v t s z s' z' a e = (
  omega (arith, few_numbers text (vectors.tray v s) (vectors.tray t z), ap (λ (o : Outcome2). o.number) e.row),
  omega (arith, no_moves text (vectors.tray v s) (vectors.tray t z), ap (λ (o : Outcome2). o.moves) e.row),
  none_fits a.slot e.slot,
)

-- what a refused record leaves, of each vector: the tray, and the total n' that it answers where n was given
module _ (text : List ℕ) (t t2 : Tray) (o : Outcome2) (n n' : ℕ) (e : o ≡ records text t t2) (small : n < 2 ^ 64) (j : ℕ) (refuses : o.number ≡ suc j) where
  refused : o ≡ refused2 t t2 nowhere (records text t t2).number
  refused = e ∙ records_refused text t t2 (λ zero. omega (arith, zero, refuses, ap (λ (o : Outcome2). o.number) e))

  starts_left : n' ≡ total_starts text t t2 n → (o.first ≡ t) × (n' ≡ n)
  unfolding total_starts
  starts_left total =
      let same : o.first ≡ t = ap (λ (o : Outcome2). o.first) refused in
      let now : (records text t t2).first ≡ t = ap (λ (o : Outcome2). o.first) (sym e) ∙ same in
      (same, total ∙ sym (rw now (no_change n _ small)))

  ends_left : n' ≡ total_ends text t t2 n → (o.second ≡ t2) × (n' ≡ n)
  unfolding total_ends
  ends_left total =
      let same : o.second ≡ t2 = ap (λ (o : Outcome2). o.second) refused in
      let now : (records text t t2).second ≡ t2 = ap (λ (o : Outcome2). o.second) (sym e) ∙ same in
      (same, total ∙ sym (rw now (no_change n _ small)))

pub record_hears : (text n m n' m' s z s' z' : List ℕ) (v t : Vector) (a : Numbered (Both Vector Vector)) (word : ℕ) → v ≡ vector_in n → v.total.sum < 2 ^ 64 → t ≡ vector_in m → t.total.sum < 2 ^ 64
    → Recorded text v s t z a s' z' → n' ≡ unless_refused a.number (vector_out a.state.first) n → m' ≡ unless_refused a.number (vector_out a.state.second) m
    → Worded a.number a.value a.moves a.slot word → HearsRecord text (vector_of n s) (vector_of m z) word (vector_of n' s') (vector_of m' z')
record_hears text n m n' m' s z s' z' v t a word ev small et small2 e en em w =
    let e' : Recorded text (vector_in n) s (vector_in m) z a s' z' = rw (ev, et) at e in
    let o : Outcome2 = vectors_seen a s' z' in
    let first = vector_comes_out n s s' a.state.first a.number (λ j refuses. starts_left text _ _ o _ _ e'.row (rw ev at small) j refuses e'.total) in
    let second = vector_comes_out m z z' a.state.second a.number (λ j refuses. ends_left text _ _ o _ _ e'.row (rw et at small2) j refuses e'.total2) in
    rw (en, em) (record {
      row = heard2_is word _ _ nowhere o _ (rw e'.slot at w) first.0 second.0 refl e'.row;
      slot = w.slot ∙ e'.slot;
      total = first.1 ∙ e'.total;
      total2 = second.1 ∙ e'.total2;
    })

-- the stored form: what the writer's number and moves are
module _ (k : Kind) (t : Tray) (text : List ℕ) where
  writes_few : (writes k t text).outcome.number < 16
  unfolding writes
  writes_few =
      either (λ (w : Written). w.outcome.number < 16) (λ m. refusing t m text) (refusals_text k t text) (telling t (size (cap t)) (put text 0 (form k t)))
      below_16 (λ clear. omega arith)

  writes_still : (writes k t text).outcome.moves ≡ 0
  unfolding writes
  writes_still =
      either (λ (w : Written). w.outcome.moves ≡ 0) (λ m. refusing t m text) (refusals_text k t text) (telling t (size (cap t)) (put text 0 (form k t)))
      (λ r. refl) (λ clear. refl)

pub ring_text_fit : (r : Ring) (s text text' : List ℕ) (a : Numbered Ring) (told : Result (Answer Ring) Refusal) → a ≡ answers.numbered r told → RingStored r s text told text'
    → (a.number < 16) × (a.moves < 4096) × (a.slot < 65536)
ring_text_fit r s text text' a told is e =
    rw is (
      omega (arith, writes_few ring (rings.tray r s) text, ap (λ (w : Written). w.outcome.number) e.row),
      omega (arith, writes_still ring (rings.tray r s) text, ap (λ (w : Written). w.outcome.moves) e.row),
      none_fits _ e.slot,
    )

pub vector_text_fit : (v : Vector) (s text text' : List ℕ) (a : Numbered Vector) (told : Result (Answer Vector) Refusal) → a ≡ answers.numbered v told → VectorStored v s text told text'
    → (a.number < 16) × (a.moves < 4096) × (a.slot < 65536)
vector_text_fit v s text text' a told is e =
    rw is (
      omega (arith, writes_few vector (vectors.tray v s) text, ap (λ (w : Written). w.outcome.number) e.row),
      omega (arith, writes_still vector (vectors.tray v s) text, ap (λ (w : Written). w.outcome.moves) e.row),
      none_fits _ e.slot,
    )

-- w is what was seen of the writer, which leaves the container
storing : (k : Kind) (b : Held) (text : List ℕ) (w : Written) (n word : ℕ) → w ≡ writes k b.tray text → nowhere ≡ w.outcome.cursor → n ≡ no_slot
    → Worded w.outcome.number w.outcome.value w.outcome.moves n word → HearsStored k b text word w.text
storing k b text w n word e none slot wd =
    let still : b.tray ≡ w.outcome.tray = sym (ap (λ (w : Written). w.outcome.tray) e ∙ as_it_was k b.tray text) in
    record {
      row = ap (λ (o : Outcome). record { outcome = o; text = w.text }) (heard_at_law _ _ _ n word b.tray nowhere w.outcome wd (rw (still, none))) ∙ e;
      slot = wd.slot ∙ slot;
    }

pub ring_stored_heard : (st s text text' : List ℕ) (r : Ring) (a : Numbered Ring) (told : Result (Answer Ring) Refusal) (word : ℕ) → r ≡ ring_in st → a ≡ answers.numbered r told
    → RingStored r s text told text' → Worded a.number a.value a.moves a.slot word → HearsStored ring (ring_of st s) text word text'
ring_stored_heard st s text text' r a told word er is e w =
    let e' : RingStored (ring_in st) s text told text' = rw er at e in
    let n : a ≡ answers.numbered (ring_in st) told = rw er at is in
    storing ring (ring_of st s) text (seen_ring a s text') a.slot word (rw n e'.row) refl (rw n e'.slot) w

pub vector_stored_heard : (st s text text' : List ℕ) (v : Vector) (a : Numbered Vector) (told : Result (Answer Vector) Refusal) (word : ℕ) → v ≡ vector_in st → a ≡ answers.numbered v told
    → VectorStored v s text told text' → Worded a.number a.value a.moves a.slot word → HearsStored vector (vector_of st s) text word text'
vector_stored_heard st s text text' v a told word ev is e w =
    let e' : VectorStored (vector_in st) s text told text' = rw ev at e in
    let n : a ≡ answers.numbered (vector_in st) told = rw ev at is in
    storing vector (vector_of st s) text (seen_vector a s text') a.slot word (rw n e'.row) refl (rw n e'.slot) w

-- the stored form's reader: its numbers and moves, and its state, which comes out whole
reads_small : (k : Kind) (text slots : List ℕ) → ((reads k text slots).number < 16) × ((reads k text slots).moves ≡ 0)
reads_small k text slots =
    reads_either k text slots (λ (o : Outcome). (o.number < 16) × (o.moves ≡ 0)) (λ m over few. (omega arith, refl)) (λ few ok same. (omega arith, refl))

pub ring_read_fit : (text s z : List ℕ) (r : Ring) (a : Numbered Ring) (told : Result (Answer Ring) Refusal) → a ≡ answers.numbered r told → r ≡ rings.bare_ring → RingRead text s told z
    → (a.number < 16) × (a.moves < 4096) × (a.slot < 65536)
ring_read_fit text s z r a told is bare e =
    rw (is, bare) (
      omega (arith, (reads_small ring text s).0, ap (λ (o : Outcome). o.number) e.row),
      omega (arith, (reads_small ring text s).1, ap (λ (o : Outcome). o.moves) e.row),
      none_fits _ e.slot,
    )

pub vector_read_fit : (text s z : List ℕ) (v : Vector) (a : Numbered Vector) (told : Result (Answer Vector) Refusal) → a ≡ answers.numbered v told → v ≡ vectors.none → VectorRead text s told z
    → (a.number < 16) × (a.moves < 4096) × (a.slot < 65536)
vector_read_fit text s z v a told is bare e =
    rw (is, bare) (
      omega (arith, (reads_small vector text s).0, ap (λ (o : Outcome). o.number) e.row),
      omega (arith, (reads_small vector text s).1, ap (λ (o : Outcome). o.moves) e.row),
      none_fits _ e.slot,
    )

pub ring_read_heard : (st s s' text : List ℕ) (r : Ring) (a : Numbered Ring) (told : Result (Answer Ring) Refusal) (word : ℕ) → a ≡ answers.numbered r told → r ≡ rings.bare_ring → RingRead text s told s'
    → st ≡ ring_out a.state → Worded a.number a.value a.moves a.slot word → HearsRead ring text s word (ring_of st s')
ring_read_heard st s s' text r a told word is bare e es w =
    let n : a ≡ answers.numbered rings.bare_ring told = rw bare at is in
    rw es (record { row = heard_at_law _ _ _ _ word (rings.tray a.state s') nowhere _ w (rw n e.row); slot = w.slot ∙ rw n e.slot; total = rw n e.total })

pub vector_read_heard : (st s s' text : List ℕ) (v : Vector) (a : Numbered Vector) (told : Result (Answer Vector) Refusal) (word : ℕ) → a ≡ answers.numbered v told → v ≡ vectors.none → VectorRead text s told s'
    → st ≡ vector_out a.state → Worded a.number a.value a.moves a.slot word → HearsRead vector text s word (vector_of st s')
vector_read_heard st s s' text v a told word is bare e es w =
    let n : a ≡ answers.numbered vectors.none told = rw bare at is in
    rw es (record { row = heard_at_law _ _ _ _ word (vectors.tray a.state s') nowhere _ w (rw n e.row); slot = w.slot ∙ rw n e.slot; total = rw n e.total })

-- an answer on a text alone
told_is : (a : Told) (word : ℕ) → Worded a.number a.value 0 no_slot word → heard_told word ≡ a
told_is a word w = rw (w.number, w.value) refl

told_fault : (f : Fault) → told (number_in (refusal_of f)) (place_told f) ≡ judged (Err f)
told_fault (Stray at) = refl
told_fault (Unclosed at) = refl
told_fault Long = refl

-- how the code words what `judge` and `field_text` answer
module _ (text : List ℕ) (r : Result ℕ Fault) (e : judged r ≡ judges text) (word : ℕ) where
  pub judged_done : (next : ℕ) → r ≡ Ok next → Worded 0 next 0 no_slot word → HearsTold text word
  judged_done next is w = record { row = told_is (told 0 next) word w ∙ sym (ap judged is) ∙ e; still = w.moves; slot = w.slot }

  pub judged_wrong : (f : Fault) → r ≡ Err f → Worded (number_in (refusal_of f)) (place_told f) 0 no_slot word → HearsTold text word
  judged_wrong f is w = record { row = told_is (told (number_in (refusal_of f)) (place_told f)) word w ∙ told_fault f ∙ sym (ap judged is) ∙ e; still = w.moves; slot = w.slot }

module _ (text : List ℕ) (start end : ℕ) (out out' : List ℕ) (r : Result ℕ Refusal) (e : Unquotes text start end out r out') (word : ℕ) where
  pub undone_done : (size : ℕ) → r ≡ Ok size → Worded 0 size 0 no_slot word → HearsUndone text start end out word out'
  undone_done size is w = record { row = ap (λ a. unquoted a out') (told_is (told 0 size) word w ∙ sym (ap numbered is)) ∙ e.row; still = w.moves; slot = w.slot }

  pub undone_refused : (f : Refusal) → r ≡ Err f → Worded (number_in f) 0 0 no_slot word → HearsUndone text start end out word out'
  undone_refused f is w =
      record { row = ap (λ a. unquoted a out') (told_is (told (number_in f) 0) word w ∙ sym (ap numbered is)) ∙ e.row; still = w.moves; slot = w.slot }
