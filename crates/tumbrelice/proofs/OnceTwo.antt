-- One answer of the calls on two containers and on a record: any two words that meet an exported call's generated contract on the same arguments are the same,
-- and so are the numbers of both states and the contents of the slots, or the text, that they come with.
use Prim.Native.Nat.{ℕ}
use mathlib.Core.Path.{◌≡◌, sym, ap, ◌∙◌}
use mathlib.Core.List.{List}
use contract.Lifetimes.{Lfts}
use Rattle.slots.specs.Layout.{Kind}
use Rattle.slots.proofs.Twice.{Twice}
use Rattle.table.specs.Calls.{Call2}
use Rattle.table.specs.Does.{Outcome2}
use Rattle.record.specs.Recorded.{Told}
use Rattle.record.specs.Unquoted.{Unquoted}
use Rattle.tumbrelice.specs.Heard.{slot_in, moves_in, heard2, Held, Hears2, ring_of, vector_of}
use Rattle.tumbrelice.specs.HeardText.{HearsRecord, heard_told}
use Rattle.tumbrelice.proofs.Once.{one_word, one_held}
use Rattle.tumbrelice.proofs.two as two
use Rattle.tumbrelice.specs.contracts.two as two·promise
use Rattle.tumbrelice.proofs.compare as compare
use Rattle.tumbrelice.specs.contracts.compare as compare·promise
use Rattle.tumbrelice.proofs.records as records
use Rattle.tumbrelice.specs.contracts.records as records·promise

-- of a call on two, and of a record: o is its outcome, n and m are the totals
one_two : (o : Outcome2) (n m : ℕ) (w w' : ℕ) (t t' t2 t2' : Held) → heard2 w t.tray t2.tray ≡ o → heard2 w' t'.tray t2'.tray ≡ o → slot_in w ≡ slot_in w'
    → t.total ≡ n → t'.total ≡ n → t2.total ≡ m → t2'.total ≡ m → (w ≡ w') × (t ≡ t') × (t2 ≡ t2')
one_two o n m w w' t t' t2 t2' p q slot first first' second second' =
    let same = p ∙ sym q in (
      one_word w w' (ap (λ o. o.number) same) (ap (λ o. o.value) same) (ap (λ o. o.moves) same) slot,
      one_held (ap (λ o. o.first) same) (first ∙ sym first'),
      one_held (ap (λ o. o.second) same) (second ∙ sym second'),
    )

one2 : {k k2 : Kind} {call : Call2} {b b2 : Held} (w w' : ℕ) (t t' t2 t2' : Held) → Hears2 k k2 call b b2 w t t2 → Hears2 k k2 call b b2 w' t' t2'
    → (w ≡ w') × (t ≡ t') × (t2 ≡ t2')
one2 w w' t t' t2 t2' p q = one_two _ _ _ w w' t t' t2 t2' p.row q.row (p.slot ∙ sym q.slot) p.total q.total p.total2 q.total2

one_record : {text : List ℕ} {b b2 : Held} (w w' : ℕ) (t t' t2 t2' : Held) → HearsRecord text b b2 w t t2 → HearsRecord text b b2 w' t' t2' → (w ≡ w') × (t ≡ t') × (t2 ≡ t2')
one_record w w' t t' t2 t2' p q = one_two _ _ _ w w' t t' t2 t2' p.row q.row (p.slot ∙ sym q.slot) p.total q.total p.total2 q.total2

one_told : (w w' : ℕ) → heard_told w ≡ heard_told w' → moves_in w ≡ 0 → moves_in w' ≡ 0 → slot_in w ≡ slot_in w' → w ≡ w'
one_told w w' same m m' slot = one_word w w' (ap (λ (a : Told). a.number) same) (ap (λ (a : Told). a.value) same) (m ∙ sym m') slot

-- In what follows a are the arguments, r and r' are words, and e and e' the arguments as they are at the return.
module _ (κs : Lfts 4) where
  pub tum_ring_append_once : Twice two·promise.tum_ring_append.ended κs (two.tum_ring_append.Reads.Learnt κs) (λ r e r' e'. (r ≡ r') × (ring_of e.1.0.now e.0.now ≡ ring_of e'.1.0.now e'.0.now) × (ring_of e.1.1.1.0.now e.1.1.0.now ≡ ring_of e'.1.1.1.0.now e'.1.1.0.now))
  tum_ring_append_once a r r' e e' p q = one2 r r' _ _ _ _ p q

  pub tum_ring_split_off_once : Twice two·promise.tum_ring_split_off.ended κs (two.tum_ring_split_off.Reads.Learnt κs) (λ r e r' e'. (r ≡ r') × (ring_of e.1.0.now e.0.now ≡ ring_of e'.1.0.now e'.0.now) × (ring_of e.1.1.1.1.0.now e.1.1.1.0.now ≡ ring_of e'.1.1.1.1.0.now e'.1.1.1.0.now))
  tum_ring_split_off_once a r r' e e' p q = one2 r r' _ _ _ _ p q

  pub tum_ring_clone_once : Twice two·promise.tum_ring_clone.ended κs (two.tum_ring_clone.Reads.Learnt κs) (λ r e r' e'. (r ≡ r') × (ring_of e.1.1.1.0.now e.1.1.0.now ≡ ring_of e'.1.1.1.0.now e'.1.1.0.now))
  tum_ring_clone_once a r r' e e' p q = let all = one2 r r' _ _ _ _ p q in (all.0, all.2)

  pub tum_vector_append_once : Twice two·promise.tum_vector_append.ended κs (two.tum_vector_append.Reads.Learnt κs) (λ r e r' e'. (r ≡ r') × (vector_of e.1.0.now e.0.now ≡ vector_of e'.1.0.now e'.0.now) × (vector_of e.1.1.1.0.now e.1.1.0.now ≡ vector_of e'.1.1.1.0.now e'.1.1.0.now))
  tum_vector_append_once a r r' e e' p q = one2 r r' _ _ _ _ p q

  pub tum_vector_split_off_once : Twice two·promise.tum_vector_split_off.ended κs (two.tum_vector_split_off.Reads.Learnt κs) (λ r e r' e'. (r ≡ r') × (vector_of e.1.0.now e.0.now ≡ vector_of e'.1.0.now e'.0.now) × (vector_of e.1.1.1.1.0.now e.1.1.1.0.now ≡ vector_of e'.1.1.1.1.0.now e'.1.1.1.0.now))
  tum_vector_split_off_once a r r' e e' p q = one2 r r' _ _ _ _ p q

  pub tum_vector_clone_once : Twice two·promise.tum_vector_clone.ended κs (two.tum_vector_clone.Reads.Learnt κs) (λ r e r' e'. (r ≡ r') × (vector_of e.1.1.1.0.now e.1.1.0.now ≡ vector_of e'.1.1.1.0.now e'.1.1.0.now))
  tum_vector_clone_once a r r' e e' p q = let all = one2 r r' _ _ _ _ p q in (all.0, all.2)

  pub tum_ring_same_once : Twice compare·promise.tum_ring_same.ended κs (compare.tum_ring_same.Reads.Learnt κs) (λ r e r' e'. r ≡ r')
  tum_ring_same_once a r r' e e' p q = (one2 r r' _ _ _ _ p q).0

  pub tum_vector_equal_once : Twice compare·promise.tum_vector_equal.ended κs (compare.tum_vector_equal.Reads.Learnt κs) (λ r e r' e'. r ≡ r')
  tum_vector_equal_once a r r' e e' p q = (one2 r r' _ _ _ _ p q).0

  pub tum_ring_same_as_vector_once : Twice compare·promise.tum_ring_same_as_vector.ended κs (compare.tum_ring_same_as_vector.Reads.Learnt κs) (λ r e r' e'. r ≡ r')
  tum_ring_same_as_vector_once a r r' e e' p q = (one2 r r' _ _ _ _ p q).0

module _ (κs : Lfts 5) where
  pub tum_record_read_once : Twice records·promise.tum_record_read.ended κs (records.tum_record_read.Reads.Learnt κs) (λ r e r' e'. (r ≡ r') × (vector_of e.1.1.0.now e.1.0.now ≡ vector_of e'.1.1.0.now e'.1.0.now) × (vector_of e.1.1.1.1.0.now e.1.1.1.0.now ≡ vector_of e'.1.1.1.1.0.now e'.1.1.1.0.now))
  tum_record_read_once a r r' e e' p q = one_record r r' _ _ _ _ p q

module _ (κs : Lfts 1) where
  pub tum_record_judge_once : Twice records·promise.tum_record_judge.ended κs (records.tum_record_judge.Reads.Learnt κs) (λ r e r' e'. r ≡ r')
  tum_record_judge_once a r r' e e' p q = one_told r r' (p.row ∙ sym q.row) p.still q.still (p.slot ∙ sym q.slot)

module _ (κs : Lfts 2) where
  pub tum_record_text_once : Twice records·promise.tum_record_text.ended κs (records.tum_record_text.Reads.Learnt κs) (λ r e r' e'. (r ≡ r') × (e.1.1.1.0.now ≡ e'.1.1.1.0.now))
  tum_record_text_once a r r' e e' p q =
      let same = p.row ∙ sym q.row in
      (one_told r r' (ap (λ (u : Unquoted). u.answer) same) p.still q.still (p.slot ∙ sym q.slot), ap (λ (u : Unquoted). u.out) same)
