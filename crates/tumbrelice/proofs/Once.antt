-- One answer: any two words that meet an exported call's generated contract on the same arguments are the same, and so are the numbers of the
-- state and the contents of the slots that they come with. Here the calls on one container.
use Prim.Native.Nat.{ℕ}
use native.Mathlib.Omega.{arith}
use mathlib.Core.Path.{◌≡◌, sym, ap, ap₂, ◌∙◌}
use mathlib.Core.List.{List}
use contract.Lifetimes.{Lfts}
use Rattle.slots.specs.Layout.{Kind}
use Rattle.slots.proofs.Twice.{Twice}
use Rattle.table.specs.Calls.{Call, Making}
use Rattle.table.specs.Does.{Outcome}
use Rattle.runs.specs.Width.{summing}
use Rattle.ring.specs.declared.Ring.{Ring}
use Rattle.ring.specs.Seen as seen_rings
use Rattle.vector.specs.declared.Vector.{Vector}
use Rattle.vector.specs.Seen as seen_vectors
use Rattle.tumbrelice.specs.Heard.{value_in, slot_in, moves_in, number_in, heard, Held, Hears, HearsWithin, HearsMade, ring_in, vector_in, ring_of, vector_of}
use Rattle.tumbrelice.proofs.makings as makings
use Rattle.tumbrelice.specs.contracts.makings as makings·promise
use Rattle.tumbrelice.proofs.rings as rings
use Rattle.tumbrelice.specs.contracts.rings as rings·promise
use Rattle.tumbrelice.proofs.vectors as vectors
use Rattle.tumbrelice.specs.contracts.vectors as vectors·promise

-- the four numbers of a word make it up
pub one_word : (w w' : ℕ) → number_in w ≡ number_in w' → value_in w ≡ value_in w' → moves_in w ≡ moves_in w' → slot_in w ≡ slot_in w' → w ≡ w'
one_word w w' number value moves slot = omega arith

-- a container is told by its tray and its total
pub one_held : {b b' : Held} → b.tray ≡ b'.tray → b.total ≡ b'.total → b ≡ b'
one_held tray total = ap₂ (λ t n. record { tray = t; total = n }) tray total

-- of a call, and of a making: o is its outcome, m the slot and n the total
pub one_of : (o : Outcome) (m n : ℕ) (w w' : ℕ) (t t' : Held) → heard w t.tray ≡ o → heard w' t'.tray ≡ o → slot_in w ≡ m → slot_in w' ≡ m → t.total ≡ n → t'.total ≡ n → (w ≡ w') × (t ≡ t')
one_of o m n w w' t t' p q slot slot' total total' =
    let same = p ∙ sym q in (
      one_word w w' (ap (λ (o : Outcome). o.number) same) (ap (λ (o : Outcome). o.value) same) (ap (λ (o : Outcome). o.moves) same) (slot ∙ sym slot'),
      one_held (ap (λ (o : Outcome). o.tray) same) (total ∙ sym total'),
    )

one : {k : Kind} {call : Call} {b : Held} (w w' : ℕ) (t t' : Held) → Hears k call b w t → Hears k call b w' t' → (w ≡ w') × (t ≡ t')
one w w' t t' p q = one_of _ _ _ w w' t t' p.row q.row p.slot q.slot p.total q.total

one_within : {a : ℕ} {k : Kind} {call : Call} {b : Held} (w w' : ℕ) (t t' : Held) → HearsWithin a k call b w t → HearsWithin a k call b w' t' → (w ≡ w') × (t ≡ t')
one_within w w' t t' p q = one_of _ _ _ w w' t t' p.row q.row p.slot q.slot p.total q.total

one_made : {k : Kind} {m : Making} {s : List ℕ} (w w' : ℕ) (t t' : Held) → HearsMade k m s w t → HearsMade k m s w' t' → (w ≡ w') × (t ≡ t')
one_made w w' t t' p q = one_of _ _ _ w w' t t' p.row q.row p.slot q.slot p.total q.total

-- a state's numbers, as they go in, are told by the container
abbrev ring_back : Held → Ring
ring_back b = seen_rings.state b.tray.head b.tray.len (summing b.total)

abbrev vector_back : Held → Vector
vector_back b = seen_vectors.state b.tray.len (summing b.total)

-- In what follows a are the arguments, r and r' are words, and e and e' the arguments as they are at the return.
module _ (κs : Lfts 2) where
  pub tum_ring_new_once : Twice makings·promise.tum_ring_new.ended κs (makings.tum_ring_new.Reads.Learnt κs) (λ r e r' e'. (r ≡ r') × (ring_in e.1.0.now ≡ ring_in e'.1.0.now))
  tum_ring_new_once a r r' e e' p q = let all = one_made r r' _ _ p q in (all.0, ap ring_back all.1)

  pub tum_ring_with_capacity_once : Twice makings·promise.tum_ring_with_capacity.ended κs (makings.tum_ring_with_capacity.Reads.Learnt κs) (λ r e r' e'. (r ≡ r') × (ring_in e.1.0.now ≡ ring_in e'.1.0.now))
  tum_ring_with_capacity_once a r r' e e' p q = let all = one_made r r' _ _ p q in (all.0, ap ring_back all.1)

  pub tum_vector_new_once : Twice makings·promise.tum_vector_new.ended κs (makings.tum_vector_new.Reads.Learnt κs) (λ r e r' e'. (r ≡ r') × (vector_in e.1.0.now ≡ vector_in e'.1.0.now))
  tum_vector_new_once a r r' e e' p q = let all = one_made r r' _ _ p q in (all.0, ap vector_back all.1)

  pub tum_vector_with_capacity_once : Twice makings·promise.tum_vector_with_capacity.ended κs (makings.tum_vector_with_capacity.Reads.Learnt κs) (λ r e r' e'. (r ≡ r') × (vector_in e.1.0.now ≡ vector_in e'.1.0.now))
  tum_vector_with_capacity_once a r r' e e' p q = let all = one_made r r' _ _ p q in (all.0, ap vector_back all.1)

  pub tum_vector_from_elem_once : Twice makings·promise.tum_vector_from_elem.ended κs (makings.tum_vector_from_elem.Reads.Learnt κs) (λ r e r' e'. (r ≡ r') × (vector_of e.1.0.now e.0.now ≡ vector_of e'.1.0.now e'.0.now))
  tum_vector_from_elem_once a r r' e e' p q = one_made r r' _ _ p q

  pub tum_ring_len_once : Twice rings·promise.tum_ring_len.ended κs (rings.tum_ring_len.Reads.Learnt κs) (λ r e r' e'. r ≡ r')
  tum_ring_len_once a r r' e e' p q = (one r r' _ _ p q).0

  pub tum_ring_read_once : Twice rings·promise.tum_ring_read.ended κs (rings.tum_ring_read.Reads.Learnt κs) (λ r e r' e'. r ≡ r')
  tum_ring_read_once a r r' e e' p q = (one r r' _ _ p q).0

  pub tum_ring_reserve_once : Twice rings·promise.tum_ring_reserve.ended κs (rings.tum_ring_reserve.Reads.Learnt κs) (λ r e r' e'. r ≡ r')
  tum_ring_reserve_once a r r' e e' p q = (one r r' _ _ p q).0

  pub tum_ring_write_once : Twice rings·promise.tum_ring_write.ended κs (rings.tum_ring_write.Reads.Learnt κs) (λ r e r' e'. (r ≡ r') × (ring_of e.1.0.now e.0.now ≡ ring_of e'.1.0.now e'.0.now))
  tum_ring_write_once a r r' e e' p q = one r r' _ _ p q

  pub tum_ring_push_back_once : Twice rings·promise.tum_ring_push_back.ended κs (rings.tum_ring_push_back.Reads.Learnt κs) (λ r e r' e'. (r ≡ r') × (ring_of e.1.0.now e.0.now ≡ ring_of e'.1.0.now e'.0.now))
  tum_ring_push_back_once a r r' e e' p q = one r r' _ _ p q

  pub tum_ring_push_front_once : Twice rings·promise.tum_ring_push_front.ended κs (rings.tum_ring_push_front.Reads.Learnt κs) (λ r e r' e'. (r ≡ r') × (ring_of e.1.0.now e.0.now ≡ ring_of e'.1.0.now e'.0.now))
  tum_ring_push_front_once a r r' e e' p q = one r r' _ _ p q

  pub tum_ring_pop_back_once : Twice rings·promise.tum_ring_pop_back.ended κs (rings.tum_ring_pop_back.Reads.Learnt κs) (λ r e r' e'. (r ≡ r') × (ring_of e.1.0.now e.0.now ≡ ring_of e'.1.0.now e'.0.now))
  tum_ring_pop_back_once a r r' e e' p q = one r r' _ _ p q

  pub tum_ring_pop_front_once : Twice rings·promise.tum_ring_pop_front.ended κs (rings.tum_ring_pop_front.Reads.Learnt κs) (λ r e r' e'. (r ≡ r') × (ring_of e.1.0.now e.0.now ≡ ring_of e'.1.0.now e'.0.now))
  tum_ring_pop_front_once a r r' e e' p q = one r r' _ _ p q

  pub tum_ring_insert_once : Twice rings·promise.tum_ring_insert.ended κs (rings.tum_ring_insert.Reads.Learnt κs) (λ r e r' e'. (r ≡ r') × (ring_of e.1.0.now e.0.now ≡ ring_of e'.1.0.now e'.0.now))
  tum_ring_insert_once a r r' e e' p q = one r r' _ _ p q

  pub tum_ring_remove_once : Twice rings·promise.tum_ring_remove.ended κs (rings.tum_ring_remove.Reads.Learnt κs) (λ r e r' e'. (r ≡ r') × (ring_of e.1.0.now e.0.now ≡ ring_of e'.1.0.now e'.0.now))
  tum_ring_remove_once a r r' e e' p q = one r r' _ _ p q

  pub tum_ring_insert_within_once : Twice rings·promise.tum_ring_insert_within.ended κs (rings.tum_ring_insert_within.Reads.Learnt κs) (λ r e r' e'. (r ≡ r') × (ring_of e.1.0.now e.0.now ≡ ring_of e'.1.0.now e'.0.now))
  tum_ring_insert_within_once a r r' e e' p q = one_within r r' _ _ p q

  pub tum_ring_remove_within_once : Twice rings·promise.tum_ring_remove_within.ended κs (rings.tum_ring_remove_within.Reads.Learnt κs) (λ r e r' e'. (r ≡ r') × (ring_of e.1.0.now e.0.now ≡ ring_of e'.1.0.now e'.0.now))
  tum_ring_remove_within_once a r r' e e' p q = one_within r r' _ _ p q

  pub tum_ring_truncate_once : Twice rings·promise.tum_ring_truncate.ended κs (rings.tum_ring_truncate.Reads.Learnt κs) (λ r e r' e'. (r ≡ r') × (ring_of e.1.0.now e.0.now ≡ ring_of e'.1.0.now e'.0.now))
  tum_ring_truncate_once a r r' e e' p q = one r r' _ _ p q

  pub tum_ring_resize_once : Twice rings·promise.tum_ring_resize.ended κs (rings.tum_ring_resize.Reads.Learnt κs) (λ r e r' e'. (r ≡ r') × (ring_of e.1.0.now e.0.now ≡ ring_of e'.1.0.now e'.0.now))
  tum_ring_resize_once a r r' e e' p q = one r r' _ _ p q

  pub tum_ring_clear_once : Twice rings·promise.tum_ring_clear.ended κs (rings.tum_ring_clear.Reads.Learnt κs) (λ r e r' e'. (r ≡ r') × (ring_of e.1.0.now e.0.now ≡ ring_of e'.1.0.now e'.0.now))
  tum_ring_clear_once a r r' e e' p q = one r r' _ _ p q

  pub tum_vector_len_once : Twice vectors·promise.tum_vector_len.ended κs (vectors.tum_vector_len.Reads.Learnt κs) (λ r e r' e'. r ≡ r')
  tum_vector_len_once a r r' e e' p q = (one r r' _ _ p q).0

  pub tum_vector_is_empty_once : Twice vectors·promise.tum_vector_is_empty.ended κs (vectors.tum_vector_is_empty.Reads.Learnt κs) (λ r e r' e'. r ≡ r')
  tum_vector_is_empty_once a r r' e e' p q = (one r r' _ _ p q).0

  pub tum_vector_read_once : Twice vectors·promise.tum_vector_read.ended κs (vectors.tum_vector_read.Reads.Learnt κs) (λ r e r' e'. r ≡ r')
  tum_vector_read_once a r r' e e' p q = (one r r' _ _ p q).0

  pub tum_vector_reserve_once : Twice vectors·promise.tum_vector_reserve.ended κs (vectors.tum_vector_reserve.Reads.Learnt κs) (λ r e r' e'. r ≡ r')
  tum_vector_reserve_once a r r' e e' p q = (one r r' _ _ p q).0

  pub tum_vector_try_reserve_once : Twice vectors·promise.tum_vector_try_reserve.ended κs (vectors.tum_vector_try_reserve.Reads.Learnt κs) (λ r e r' e'. r ≡ r')
  tum_vector_try_reserve_once a r r' e e' p q = (one r r' _ _ p q).0

  pub tum_vector_try_reserve_exact_once : Twice vectors·promise.tum_vector_try_reserve_exact.ended κs (vectors.tum_vector_try_reserve_exact.Reads.Learnt κs) (λ r e r' e'. r ≡ r')
  tum_vector_try_reserve_exact_once a r r' e e' p q = (one r r' _ _ p q).0

  pub tum_vector_ask_range_once : Twice vectors·promise.tum_vector_ask_range.ended κs (vectors.tum_vector_ask_range.Reads.Learnt κs) (λ r e r' e'. r ≡ r')
  tum_vector_ask_range_once a r r' e e' p q = (one r r' _ _ p q).0

  pub tum_vector_write_once : Twice vectors·promise.tum_vector_write.ended κs (vectors.tum_vector_write.Reads.Learnt κs) (λ r e r' e'. (r ≡ r') × (vector_of e.1.0.now e.0.now ≡ vector_of e'.1.0.now e'.0.now))
  tum_vector_write_once a r r' e e' p q = one r r' _ _ p q

  pub tum_vector_push_once : Twice vectors·promise.tum_vector_push.ended κs (vectors.tum_vector_push.Reads.Learnt κs) (λ r e r' e'. (r ≡ r') × (vector_of e.1.0.now e.0.now ≡ vector_of e'.1.0.now e'.0.now))
  tum_vector_push_once a r r' e e' p q = one r r' _ _ p q

  pub tum_vector_pop_once : Twice vectors·promise.tum_vector_pop.ended κs (vectors.tum_vector_pop.Reads.Learnt κs) (λ r e r' e'. (r ≡ r') × (vector_of e.1.0.now e.0.now ≡ vector_of e'.1.0.now e'.0.now))
  tum_vector_pop_once a r r' e e' p q = one r r' _ _ p q

  pub tum_vector_insert_once : Twice vectors·promise.tum_vector_insert.ended κs (vectors.tum_vector_insert.Reads.Learnt κs) (λ r e r' e'. (r ≡ r') × (vector_of e.1.0.now e.0.now ≡ vector_of e'.1.0.now e'.0.now))
  tum_vector_insert_once a r r' e e' p q = one r r' _ _ p q

  pub tum_vector_remove_once : Twice vectors·promise.tum_vector_remove.ended κs (vectors.tum_vector_remove.Reads.Learnt κs) (λ r e r' e'. (r ≡ r') × (vector_of e.1.0.now e.0.now ≡ vector_of e'.1.0.now e'.0.now))
  tum_vector_remove_once a r r' e e' p q = one r r' _ _ p q

  pub tum_vector_swap_remove_once : Twice vectors·promise.tum_vector_swap_remove.ended κs (vectors.tum_vector_swap_remove.Reads.Learnt κs) (λ r e r' e'. (r ≡ r') × (vector_of e.1.0.now e.0.now ≡ vector_of e'.1.0.now e'.0.now))
  tum_vector_swap_remove_once a r r' e e' p q = one r r' _ _ p q

  pub tum_vector_truncate_once : Twice vectors·promise.tum_vector_truncate.ended κs (vectors.tum_vector_truncate.Reads.Learnt κs) (λ r e r' e'. (r ≡ r') × (vector_of e.1.0.now e.0.now ≡ vector_of e'.1.0.now e'.0.now))
  tum_vector_truncate_once a r r' e e' p q = one r r' _ _ p q

  pub tum_vector_resize_once : Twice vectors·promise.tum_vector_resize.ended κs (vectors.tum_vector_resize.Reads.Learnt κs) (λ r e r' e'. (r ≡ r') × (vector_of e.1.0.now e.0.now ≡ vector_of e'.1.0.now e'.0.now))
  tum_vector_resize_once a r r' e e' p q = one r r' _ _ p q

  pub tum_vector_clear_once : Twice vectors·promise.tum_vector_clear.ended κs (vectors.tum_vector_clear.Reads.Learnt κs) (λ r e r' e'. (r ≡ r') × (vector_of e.1.0.now e.0.now ≡ vector_of e'.1.0.now e'.0.now))
  tum_vector_clear_once a r r' e e' p q = one r r' _ _ p q

module _ (κs : Lfts 3) where
  pub tum_vector_extend_from_slice_once : Twice vectors·promise.tum_vector_extend_from_slice.ended κs (vectors.tum_vector_extend_from_slice.Reads.Learnt κs) (λ r e r' e'. (r ≡ r') × (vector_of e.1.0.now e.0.now ≡ vector_of e'.1.0.now e'.0.now))
  tum_vector_extend_from_slice_once a r r' e e' p q = one r r' _ _ p q
