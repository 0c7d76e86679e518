-- What a text without a fault is read as: a valid state, in as many slots as it says. The reader accepts it, and what it gives is what the text tells.
use mathlib.Core.Path.{◌≡◌, refl, sym, ap, subst, ◌∙◌}
use mathlib.Core.Bool.{true}
use mathlib.Core.List.{List}
use Prim.Native.Nat.{ℕ, ◌-◌, ◌≤◌, ◌<◌}
use native.Mathlib.Omega.{arith}
use borrow.Author.Tests.{eq-eqb, le-ltb}
use lib.ListN.{length, get_or, take, length-take}
use lib.Seq.{ext_get_or}
use Rattle.std.specs.Prelude.{Result, Ok, Err, IsOk}
use Rattle.slots.specs.Layout.{most, Kind, ring, vector, itself, slot_of}
use Rattle.slots.specs.Total.{total}
use Rattle.slots.proofs.Placing.{length_entries, entry}
use Rattle.slots.proofs.Lays.{slot_near}
use Rattle.table.specs.Tray.{Tray, cap, list}
use Rattle.table.specs.Does.{Outcome, gives}
use Rattle.table.specs.Answers.{numbered}
use Rattle.table.specs.declared.answers.Answer.{Answer}
use Rattle.table.specs.declared.answers.Refusal.{Refusal}
use Rattle.table.proofs.Laws.Valid.{Valid}
use Rattle.table.proofs.Laws.Numbered.{some_number}
use Rattle.lines.specs.Line.{is_line, field}
use Rattle.ring.specs.declared.Ring.{Ring}
use Rattle.ring.specs.Seen as rings
use Rattle.vector.specs.declared.Vector.{Vector}
use Rattle.vector.specs.Seen as vectors
use Rattle.stored.specs.Form.{kind_byte}
use Rattle.stored.specs.Judge.{told, cap_in}
use Rattle.stored.specs.Reads.{reads, total_read, RingRead, VectorRead}
use Rattle.stored.proofs.Judging.{opens_line}
use Rattle.stored.proofs.Exactly.{start, many, standing_valid, stands_told}
use Rattle.show.specs.Rows.{list_in}
use Rattle.show.specs.Drawable.{Drawable, Shown}
use Rattle.show.specs.Faults.{fault, sound}
use Rattle.show.proofs.Exact.{parts, none_judged}

module _ (k : Kind) (text before : List ℕ) (d : Drawable k text before) where
  told_valid : Valid (cap (told k text)) (told k text).head (told k text).len
  told_valid = standing_valid k text (told k text) (stands_told k text d.accepted)

  as_many : cap (told k text) ≡ length before
  as_many = many k text d.accepted ∙ sym d.room

  reads_told : reads k text before ≡ gives 0 0 (told k text).head (told k text).len (told k text).slots
  unfolding reads
  reads_told = let few : length before ≤ most = omega (arith, as_many, told_valid.small) in rw (le-ltb most (length before) few, d.accepted, eq-eqb _ _ as_many)

  pub drawn_line : is_line 16 text ≡ true
  drawn_line = opens_line (kind_byte k) text (start k text d.accepted)

  shown_by : (after : List ℕ) (h n sum : ℕ) (o : Outcome) → o ≡ reads k text before → o.tray ≡ record { head = h; len = n; slots = after } → sum ≡ total_read k text before
      → Shown k text after h n sum
  unfolding total_read
  shown_by after h n sum o row e es =
      let v = told_valid in
      let is : record { head = h; len = n; slots = after } ≡ told k text = sym e ∙ ap (λ (o : Outcome). o.tray) (row ∙ reads_told) in
      let eh : h ≡ (told k text).head = ap (λ (t : Tray). t.head) is in
      let en : n ≡ (told k text).len = ap (λ (t : Tray). t.len) is in
      let ec : length after ≡ cap (told k text) = ap (λ (t : Tray). length t.slots) is in
      record {
        is = is;
        adds = es ∙ ap (λ (o : Outcome). total (list k o.tray)) reads_told;
        small = omega (arith, v.small);
        inside = omega (arith, v.inside);
        fits = omega (arith, v.fits);
      }

  -- so it is done
  pub is_done : {S : Type 0} (given : S) (r : Result (Answer S) Refusal) (o : Outcome) → o.number ≡ (numbered given r).number → o ≡ reads k text before → IsOk r
  is_done given (Ok a) o en row = refl
  is_done given (Err e) o en row = absurd (omega (arith, some_number e, en, ap (λ (o : Outcome). o.number) (row ∙ reads_told)))

-- and what it gives is drawn; a vector as a ring with head 0
pub ring_shown : (text before after : List ℕ) (r : rings.Answered) (a : Answer Ring) → Drawable ring text before → RingRead text before r after → r ≡ Ok a
    → Shown ring text after a.state.head a.state.len a.state.total.sum
ring_shown text before after r a d p is =
    let q : RingRead text before (Ok a) after = subst (λ r. RingRead text before r after) is p in
    shown_by ring text before d after _ _ _ (rings.seen (numbered rings.bare_ring (Ok a)) after) q.row refl q.total

pub vector_shown : (text before after : List ℕ) (r : Result (Answer Vector) Refusal) (a : Answer Vector) (v : Ring) → Drawable vector text before → VectorRead text before r after
    → r ≡ Ok a → v ≡ rings.state 0 a.state.len a.state.total → Shown vector text after v.head v.len v.total.sum
vector_shown text before after r a v d p is ev =
    let q : VectorRead text before (Ok a) after = subst (λ r. VectorRead text before r after) is p in
    rw ev (shown_by vector text before d after _ _ _ (vectors.seen (numbered vectors.none (Ok a)) after) q.row refl q.total)

-- the list that is drawn is the one that the text tells; a vector's is a ring's with head 0
pub ring_list : (text slots : List ℕ) (h n sum : ℕ) → Shown ring text slots h n sum → list_in slots h n ≡ list ring (told ring text)
ring_list text slots h n sum s = ap (list ring) s.is

pub vector_list : (text slots : List ℕ) (n sum : ℕ) → Shown vector text slots 0 n sum → list_in slots 0 n ≡ list vector (told vector text)
vector_list text slots n sum s =
    ext_get_or 0 _ _ (length_entries _ n slots ∙ sym (length_entries itself n slots))
    (λ j g.
    let lt : j < n = (rw (length_entries _ n slots) at g) in
    let there : slot_of (length slots) 0 j ≡ j = slot_near (length slots) 0 j (omega (arith, s.fits)) ∙ omega arith in
    entry _ n slots j lt ∙ ap (λ i. get_or slots i 0) there ∙ sym (entry itself n slots j lt))
    ∙ ap (list vector) s.is

-- a text in which no fault is found, of either kind
module _ (text : List ℕ) (ok : fault text ≡ sound) where
  pub none_line : is_line 16 text ≡ true
  none_line = (parts text ok).line

  pub none_small : (c : ℕ) → c ≡ field 4 4 text → c ≤ 4096
  none_small c e = omega (arith, (parts text ok).fine.small)

  none_kind : field 0 2 text ≤ 1
  none_kind = (parts text ok).fine.kinded

  pub kind_known : (kind : ℕ) → kind ≡ field 0 2 text → 1 < kind → ⊥
  kind_known kind e more = omega (arith, none_kind)

  -- the first c of all slots
  module _ (slots : List ℕ) (kind c : ℕ) (ek : kind ≡ field 0 2 text) (ec : c ≡ field 4 4 text) (long : length slots ≡ 4096) where
    room : length (take c slots) ≡ cap_in text
    room = simp length-take (omega (arith, none_small c ec))

    pub drawable : (k : Kind) → kind_byte k ≡ kind → Drawable k text (take c slots)
    drawable k e = record { accepted = none_judged text k (sym ek ∙ sym e) ok; room = room }
