-- One answer of a cursor's calls, of the parts and of the stored form: any two words that meet an exported call's generated contract on the same arguments are the same,
-- and so are the cursors, the vectors and the texts that they come with.
use Prim.Native.Nat.{ℕ, ◌/◌, ◌%◌}
use native.Mathlib.Omega.{arith}
use mathlib.Core.Path.{◌≡◌, sym, ap, ◌∙◌}
use mathlib.Core.List.{List}
use contract.Lifetimes.{Lfts}
use Rattle.slots.specs.Layout.{Kind}
use Rattle.slots.proofs.Twice.{Twice}
use Rattle.table.specs.Tray.{Cursor}
use Rattle.table.specs.Calls.{Look}
use Rattle.table.specs.Does.{Outcome2}
use Rattle.table.specs.Parts.{Part}
use Rattle.stored.specs.Written.{Written}
use Rattle.tumbrelice.specs.Heard.{Held, HearsAt, HearsInto, ring_of, vector_of, cursor_of}
use Rattle.tumbrelice.specs.HeardText.{HearsStored, HearsRead}
use Rattle.tumbrelice.specs.HeardPart.{part_in}
use Rattle.tumbrelice.proofs.Once.{one_word, one_held, one_of}
use Rattle.tumbrelice.proofs.ring_walks as ring_walks
use Rattle.tumbrelice.specs.contracts.ring_walks as ring_walks·promise
use Rattle.tumbrelice.proofs.vector_walks as vector_walks
use Rattle.tumbrelice.specs.contracts.vector_walks as vector_walks·promise
use Rattle.tumbrelice.proofs.parts as parts
use Rattle.tumbrelice.specs.contracts.parts as parts·promise
use Rattle.tumbrelice.proofs.forms as forms
use Rattle.tumbrelice.specs.contracts.forms as forms·promise

one_at : {k : Kind} {s : Look} {b : Held} (w w' : ℕ) (u u' : Cursor) → HearsAt k s b w u → HearsAt k s b w' u' → (w ≡ w') × (u ≡ u')
one_at w w' u u' p q =
    let same = p.row ∙ sym q.row in
    (one_word w w' (ap (λ o. o.number) same) (ap (λ o. o.value) same) (ap (λ o. o.moves) same) (p.slot ∙ sym q.slot), ap (λ o. o.cursor) same)

one_into : {k : Kind} {v : Cursor} {b b2 : Held} (w w' : ℕ) (u u' : Cursor) (t t' : Held) → HearsInto k v b b2 w u t → HearsInto k v b b2 w' u' t' → (w ≡ w') × (u ≡ u') × (t ≡ t')
one_into w w' u u' t t' p q =
    let same = p.row ∙ sym q.row in (
      one_word w w' (ap (λ (o : Outcome2). o.number) same) (ap (λ (o : Outcome2). o.value) same) (ap (λ (o : Outcome2). o.moves) same) (p.slot ∙ sym q.slot),
      ap (λ (o : Outcome2). o.cursor) same,
      one_held (ap (λ (o : Outcome2). o.second) same) (p.total2 ∙ sym q.total2),
    )

-- a part's word is its first slot and its count
one_part : (w w' : ℕ) → part_in w ≡ part_in w' → w ≡ w'
one_part w w' same =
    let first : w % 4294967296 ≡ w' % 4294967296 = ap (λ (p : Part). p.start) same in
    let count : w / 4294967296 ≡ w' / 4294967296 = ap (λ (p : Part). p.count) same in
    omega arith

one_read : {k : Kind} {text slots : List ℕ} (w w' : ℕ) (t t' : Held) → HearsRead k text slots w t → HearsRead k text slots w' t' → (w ≡ w') × (t ≡ t')
one_read w w' t t' p q = one_of _ _ _ w w' t t' p.row q.row p.slot q.slot p.total q.total

one_stored : {k : Kind} {b : Held} {text : List ℕ} (w w' : ℕ) (z z' : List ℕ) → HearsStored k b text w z → HearsStored k b text w' z' → (w ≡ w') × (z ≡ z')
one_stored w w' z z' p q =
    let same = p.row ∙ sym q.row in (
      one_word w w' (ap (λ (w : Written). w.outcome.number) same) (ap (λ (w : Written). w.outcome.value) same) (ap (λ (w : Written). w.outcome.moves) same) (p.slot ∙ sym q.slot),
      ap (λ (w : Written). w.text) same,
    )

-- In what follows a are the arguments, r and r' are words, and e and e' the arguments as they are at the return.
module _ (κs : Lfts 2) where
  pub tum_vector_range_once : Twice parts·promise.tum_vector_range.ended κs (parts.tum_vector_range.Reads.Learnt κs) (λ r e r' e'. r ≡ r')
  tum_vector_range_once a r r' e e' p q = one_part r r' (p ∙ sym q)

  pub tum_vector_as_slice_once : Twice parts·promise.tum_vector_as_slice.ended κs (parts.tum_vector_as_slice.Reads.Learnt κs) (λ r e r' e'. r ≡ r')
  tum_vector_as_slice_once a r r' e e' p q = one_part r r' (p ∙ sym q)

  pub tum_vector_as_ref_once : Twice parts·promise.tum_vector_as_ref.ended κs (parts.tum_vector_as_ref.Reads.Learnt κs) (λ r e r' e'. r ≡ r')
  tum_vector_as_ref_once a r r' e e' p q = one_part r r' (p ∙ sym q)

  pub tum_vector_deref_once : Twice parts·promise.tum_vector_deref.ended κs (parts.tum_vector_deref.Reads.Learnt κs) (λ r e r' e'. r ≡ r')
  tum_vector_deref_once a r r' e e' p q = one_part r r' (p ∙ sym q)

  pub tum_vector_as_mut_slice_once : Twice parts·promise.tum_vector_as_mut_slice.ended κs (parts.tum_vector_as_mut_slice.Reads.Learnt κs) (λ r e r' e'. r ≡ r')
  tum_vector_as_mut_slice_once a r r' e e' p q = one_part r r' (p ∙ sym q)

  pub tum_vector_deref_mut_once : Twice parts·promise.tum_vector_deref_mut.ended κs (parts.tum_vector_deref_mut.Reads.Learnt κs) (λ r e r' e'. r ≡ r')
  tum_vector_deref_mut_once a r r' e e' p q = one_part r r' (p ∙ sym q)

module _ (κs : Lfts 3) where
  pub tum_ring_iter_once : Twice ring_walks·promise.tum_ring_iter.ended κs (ring_walks.tum_ring_iter.Reads.Learnt κs) (λ r e r' e'. (r ≡ r') × (cursor_of e.1.1.0.now ≡ cursor_of e'.1.1.0.now))
  tum_ring_iter_once a r r' e e' p q = one_at r r' _ _ p q

  pub tum_ring_into_iter_once : Twice ring_walks·promise.tum_ring_into_iter.ended κs (ring_walks.tum_ring_into_iter.Reads.Learnt κs) (λ r e r' e'. (r ≡ r') × (cursor_of e.1.1.0.now ≡ cursor_of e'.1.1.0.now))
  tum_ring_into_iter_once a r r' e e' p q = one_at r r' _ _ p q

  pub tum_ring_step_front_once : Twice ring_walks·promise.tum_ring_step_front.ended κs (ring_walks.tum_ring_step_front.Reads.Learnt κs) (λ r e r' e'. (r ≡ r') × (cursor_of e.1.1.0.now ≡ cursor_of e'.1.1.0.now))
  tum_ring_step_front_once a r r' e e' p q = one_at r r' _ _ p q

  pub tum_ring_step_back_once : Twice ring_walks·promise.tum_ring_step_back.ended κs (ring_walks.tum_ring_step_back.Reads.Learnt κs) (λ r e r' e'. (r ≡ r') × (cursor_of e.1.1.0.now ≡ cursor_of e'.1.1.0.now))
  tum_ring_step_back_once a r r' e e' p q = one_at r r' _ _ p q

  pub tum_ring_peek_front_once : Twice ring_walks·promise.tum_ring_peek_front.ended κs (ring_walks.tum_ring_peek_front.Reads.Learnt κs) (λ r e r' e'. r ≡ r')
  tum_ring_peek_front_once a r r' e e' p q = (one_at r r' _ _ p q).0

  pub tum_ring_peek_back_once : Twice ring_walks·promise.tum_ring_peek_back.ended κs (ring_walks.tum_ring_peek_back.Reads.Learnt κs) (λ r e r' e'. r ≡ r')
  tum_ring_peek_back_once a r r' e e' p q = (one_at r r' _ _ p q).0

  pub tum_vector_iter_once : Twice vector_walks·promise.tum_vector_iter.ended κs (vector_walks.tum_vector_iter.Reads.Learnt κs) (λ r e r' e'. (r ≡ r') × (cursor_of e.1.1.0.now ≡ cursor_of e'.1.1.0.now))
  tum_vector_iter_once a r r' e e' p q = one_at r r' _ _ p q

  pub tum_vector_into_iter_once : Twice vector_walks·promise.tum_vector_into_iter.ended κs (vector_walks.tum_vector_into_iter.Reads.Learnt κs) (λ r e r' e'. (r ≡ r') × (cursor_of e.1.1.0.now ≡ cursor_of e'.1.1.0.now))
  tum_vector_into_iter_once a r r' e e' p q = one_at r r' _ _ p q

  pub tum_vector_step_front_once : Twice vector_walks·promise.tum_vector_step_front.ended κs (vector_walks.tum_vector_step_front.Reads.Learnt κs) (λ r e r' e'. (r ≡ r') × (cursor_of e.1.1.0.now ≡ cursor_of e'.1.1.0.now))
  tum_vector_step_front_once a r r' e e' p q = one_at r r' _ _ p q

  pub tum_vector_step_back_once : Twice vector_walks·promise.tum_vector_step_back.ended κs (vector_walks.tum_vector_step_back.Reads.Learnt κs) (λ r e r' e'. (r ≡ r') × (cursor_of e.1.1.0.now ≡ cursor_of e'.1.1.0.now))
  tum_vector_step_back_once a r r' e e' p q = one_at r r' _ _ p q

  pub tum_vector_peek_front_once : Twice vector_walks·promise.tum_vector_peek_front.ended κs (vector_walks.tum_vector_peek_front.Reads.Learnt κs) (λ r e r' e'. r ≡ r')
  tum_vector_peek_front_once a r r' e e' p q = (one_at r r' _ _ p q).0

  pub tum_vector_peek_back_once : Twice vector_walks·promise.tum_vector_peek_back.ended κs (vector_walks.tum_vector_peek_back.Reads.Learnt κs) (λ r e r' e'. r ≡ r')
  tum_vector_peek_back_once a r r' e e' p q = (one_at r r' _ _ p q).0

  pub tum_ring_text_once : Twice forms·promise.tum_ring_text.ended κs (forms.tum_ring_text.Reads.Learnt κs) (λ r e r' e'. (r ≡ r') × (e.1.1.0.now ≡ e'.1.1.0.now))
  tum_ring_text_once a r r' e e' p q = one_stored r r' _ _ p q

  pub tum_vector_text_once : Twice forms·promise.tum_vector_text.ended κs (forms.tum_vector_text.Reads.Learnt κs) (λ r e r' e'. (r ≡ r') × (e.1.1.0.now ≡ e'.1.1.0.now))
  tum_vector_text_once a r r' e e' p q = one_stored r r' _ _ p q

  pub tum_ring_text_read_once : Twice forms·promise.tum_ring_text_read.ended κs (forms.tum_ring_text_read.Reads.Learnt κs) (λ r e r' e'. (r ≡ r') × (ring_of e.1.0.now e.0.now ≡ ring_of e'.1.0.now e'.0.now))
  tum_ring_text_read_once a r r' e e' p q = one_read r r' _ _ p q

  pub tum_vector_text_read_once : Twice forms·promise.tum_vector_text_read.ended κs (forms.tum_vector_text_read.Reads.Learnt κs) (λ r e r' e'. (r ≡ r') × (vector_of e.1.0.now e.0.now ≡ vector_of e'.1.0.now e'.0.now))
  tum_vector_text_read_once a r r' e e' p q = one_read r r' _ _ p q

module _ (κs : Lfts 1) where
  pub tum_stored_check_once : Twice forms·promise.tum_stored_check.ended κs (forms.tum_stored_check.Reads.Learnt κs) (λ r e r' e'. r ≡ r')
  tum_stored_check_once a r r' e e' p q = p ∙ sym q

module _ (κs : Lfts 5) where
  pub tum_ring_from_iter_once : Twice ring_walks·promise.tum_ring_from_iter.ended κs (ring_walks.tum_ring_from_iter.Reads.Learnt κs) (λ r e r' e'. (r ≡ r') × (cursor_of e.1.1.0.now ≡ cursor_of e'.1.1.0.now) × (vector_of e.1.1.1.1.0.now e.1.1.1.0.now ≡ vector_of e'.1.1.1.1.0.now e'.1.1.1.0.now))
  tum_ring_from_iter_once a r r' e e' p q = one_into r r' _ _ _ _ p q

  pub tum_vector_from_iter_once : Twice vector_walks·promise.tum_vector_from_iter.ended κs (vector_walks.tum_vector_from_iter.Reads.Learnt κs) (λ r e r' e'. (r ≡ r') × (cursor_of e.1.1.0.now ≡ cursor_of e'.1.1.0.now) × (vector_of e.1.1.1.1.0.now e.1.1.1.0.now ≡ vector_of e'.1.1.1.1.0.now e'.1.1.1.0.now))
  tum_vector_from_iter_once a r r' e e' p q = one_into r r' _ _ _ _ p q
