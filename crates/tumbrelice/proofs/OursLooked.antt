-- Each exported call of a cursor, of a part and of the stored form is an event of demand 3: what a caller learns of it is what `Ours` asks. A part is told, and what a caller reads there
-- is what it holds; what one writes there is no call of ours.
use Prim.Native.Nat.{ℕ}
use mathlib.Core.Path.{refl, ap}
use contract.Lifetimes.{Lfts}
use denote.Triple.Clauses.{AtExit}
use borrow.Fn.World.{ArgsD, ResD}
use Rattle.slots.specs.Layout.{ring, vector}
use Rattle.table.specs.Calls.{look, iter, into_iter, step_front, step_back, peek_front, peek_back, from_iter}
use Rattle.table.specs.Parts.{lends, lends_all, in_part}
use Rattle.table.specs.World.{World, on, on_two, arrived, called, Ours}
use Rattle.table.proofs.Laws.Named.{Is, Are, ours_on, ours_on_two, ours_called}
use Rattle.vector.specs.Reading.{shown, reading}
use Rattle.vector.proofs.Ours.{reads}
use Rattle.stored.specs.Written.{Written}
use Rattle.stored.specs.Storing.{storing}
use Rattle.stored.proofs.Ours.{storing_kept}
use Rattle.stored.specs.Reads.{reading as reading_text}
use Rattle.stored.proofs.OursRead.{ours_read}
use Rattle.tumbrelice.specs.Heard.{heard_at, heard, heard_into, ring_tray, vector_tray, cursor_of}
use Rattle.tumbrelice.specs.HeardPart.{part_in}
use Rattle.tumbrelice.proofs.ring_walks as ring_walks
use Rattle.tumbrelice.specs.contracts.ring_walks as ring_walks·promise
use Rattle.tumbrelice.proofs.vector_walks as vector_walks
use Rattle.tumbrelice.specs.contracts.vector_walks as vector_walks·promise
use Rattle.tumbrelice.proofs.parts as parts
use Rattle.tumbrelice.specs.contracts.parts as parts·promise
use Rattle.tumbrelice.proofs.forms as forms
use Rattle.tumbrelice.specs.contracts.forms as forms·promise

-- In what follows a are the arguments, r is the word answered, and e the arguments as they are at the return.
module _ (w : World) (i : ℕ) (κs : Lfts 3) where
  pub tum_ring_text_ours : (a : ArgsD forms·promise.tum_ring_text.signature κs) (r : ResD forms·promise.tum_ring_text.signature κs) (e : AtExit forms·promise.tum_ring_text.ended κs)
      → Is w i ring (ring_tray a.1.0.now a.0.now) → forms.tum_ring_text.Reads.Learnt κs a r e
      → Ours w (called i (storing a.1.1.0.now) (heard r (ring_tray a.1.0.now a.0.now)))
  tum_ring_text_ours a r e is learnt = ours_called w i ring _ _ _ (storing_kept _) refl is (ap (λ (w : Written). w.outcome) learnt.row)

  pub tum_vector_text_ours : (a : ArgsD forms·promise.tum_vector_text.signature κs) (r : ResD forms·promise.tum_vector_text.signature κs) (e : AtExit forms·promise.tum_vector_text.ended κs)
      → Is w i vector (vector_tray a.1.0.now a.0.now) → forms.tum_vector_text.Reads.Learnt κs a r e
      → Ours w (called i (storing a.1.1.0.now) (heard r (vector_tray a.1.0.now a.0.now)))
  tum_vector_text_ours a r e is learnt = ours_called w i vector _ _ _ (storing_kept _) refl is (ap (λ (w : Written). w.outcome) learnt.row)

module _ (w : World) (κs : Lfts 3) where
  pub tum_ring_text_read_ours : (a : ArgsD forms·promise.tum_ring_text_read.signature κs) (r : ResD forms·promise.tum_ring_text_read.signature κs) (e : AtExit forms·promise.tum_ring_text_read.ended κs)
      → forms.tum_ring_text_read.Reads.Learnt κs a r e
      → Ours w (arrived ring (reading_text ring a.1.1.0.now) a.0.now (heard r (ring_tray e.1.0.now e.0.now)))
  tum_ring_text_read_ours a r e learnt = ours_read w ring _ _ _ refl learnt.row

  pub tum_vector_text_read_ours : (a : ArgsD forms·promise.tum_vector_text_read.signature κs) (r : ResD forms·promise.tum_vector_text_read.signature κs) (e : AtExit forms·promise.tum_vector_text_read.ended κs)
      → forms.tum_vector_text_read.Reads.Learnt κs a r e
      → Ours w (arrived vector (reading_text vector a.1.1.0.now) a.0.now (heard r (vector_tray e.1.0.now e.0.now)))
  tum_vector_text_read_ours a r e learnt = ours_read w vector _ _ _ refl learnt.row

module _ (w : World) (i : ℕ) (κs : Lfts 3) where
  pub tum_ring_iter_ours : (a : ArgsD ring_walks·promise.tum_ring_iter.signature κs) (r : ResD ring_walks·promise.tum_ring_iter.signature κs) (e : AtExit ring_walks·promise.tum_ring_iter.ended κs)
      → Is w i ring (ring_tray a.1.0.now a.0.now) → ring_walks.tum_ring_iter.Reads.Learnt κs a r e
      → Ours w (on i (look iter) (heard_at r (ring_tray a.1.0.now a.0.now) (cursor_of e.1.1.0.now)))
  tum_ring_iter_ours a r e is learnt = ours_on w i _ _ _ _ refl is learnt.row

  pub tum_ring_into_iter_ours : (a : ArgsD ring_walks·promise.tum_ring_into_iter.signature κs) (r : ResD ring_walks·promise.tum_ring_into_iter.signature κs) (e : AtExit ring_walks·promise.tum_ring_into_iter.ended κs)
      → Is w i ring (ring_tray a.1.0.now a.0.now) → ring_walks.tum_ring_into_iter.Reads.Learnt κs a r e
      → Ours w (on i (look into_iter) (heard_at r (ring_tray a.1.0.now a.0.now) (cursor_of e.1.1.0.now)))
  tum_ring_into_iter_ours a r e is learnt = ours_on w i _ _ _ _ refl is learnt.row

  pub tum_ring_step_front_ours : (a : ArgsD ring_walks·promise.tum_ring_step_front.signature κs) (r : ResD ring_walks·promise.tum_ring_step_front.signature κs) (e : AtExit ring_walks·promise.tum_ring_step_front.ended κs)
      → Is w i ring (ring_tray a.1.0.now a.0.now) → ring_walks.tum_ring_step_front.Reads.Learnt κs a r e
      → Ours w (on i (look (step_front (cursor_of a.1.1.0.now))) (heard_at r (ring_tray a.1.0.now a.0.now) (cursor_of e.1.1.0.now)))
  tum_ring_step_front_ours a r e is learnt = ours_on w i _ _ _ _ refl is learnt.row

  pub tum_ring_step_back_ours : (a : ArgsD ring_walks·promise.tum_ring_step_back.signature κs) (r : ResD ring_walks·promise.tum_ring_step_back.signature κs) (e : AtExit ring_walks·promise.tum_ring_step_back.ended κs)
      → Is w i ring (ring_tray a.1.0.now a.0.now) → ring_walks.tum_ring_step_back.Reads.Learnt κs a r e
      → Ours w (on i (look (step_back (cursor_of a.1.1.0.now))) (heard_at r (ring_tray a.1.0.now a.0.now) (cursor_of e.1.1.0.now)))
  tum_ring_step_back_ours a r e is learnt = ours_on w i _ _ _ _ refl is learnt.row

  pub tum_ring_peek_front_ours : (a : ArgsD ring_walks·promise.tum_ring_peek_front.signature κs) (r : ResD ring_walks·promise.tum_ring_peek_front.signature κs) (e : AtExit ring_walks·promise.tum_ring_peek_front.ended κs)
      → Is w i ring (ring_tray a.1.0.now a.0.now) → ring_walks.tum_ring_peek_front.Reads.Learnt κs a r e
      → Ours w (on i (look (peek_front (cursor_of a.1.1.0.now) a.1.1.1.0)) (heard_at r (ring_tray a.1.0.now a.0.now) (cursor_of a.1.1.0.now)))
  tum_ring_peek_front_ours a r e is learnt = ours_on w i _ _ _ _ refl is learnt.row

  pub tum_ring_peek_back_ours : (a : ArgsD ring_walks·promise.tum_ring_peek_back.signature κs) (r : ResD ring_walks·promise.tum_ring_peek_back.signature κs) (e : AtExit ring_walks·promise.tum_ring_peek_back.ended κs)
      → Is w i ring (ring_tray a.1.0.now a.0.now) → ring_walks.tum_ring_peek_back.Reads.Learnt κs a r e
      → Ours w (on i (look (peek_back (cursor_of a.1.1.0.now) a.1.1.1.0)) (heard_at r (ring_tray a.1.0.now a.0.now) (cursor_of a.1.1.0.now)))
  tum_ring_peek_back_ours a r e is learnt = ours_on w i _ _ _ _ refl is learnt.row

  pub tum_vector_iter_ours : (a : ArgsD vector_walks·promise.tum_vector_iter.signature κs) (r : ResD vector_walks·promise.tum_vector_iter.signature κs) (e : AtExit vector_walks·promise.tum_vector_iter.ended κs)
      → Is w i vector (vector_tray a.1.0.now a.0.now) → vector_walks.tum_vector_iter.Reads.Learnt κs a r e
      → Ours w (on i (look iter) (heard_at r (vector_tray a.1.0.now a.0.now) (cursor_of e.1.1.0.now)))
  tum_vector_iter_ours a r e is learnt = ours_on w i _ _ _ _ refl is learnt.row

  pub tum_vector_into_iter_ours : (a : ArgsD vector_walks·promise.tum_vector_into_iter.signature κs) (r : ResD vector_walks·promise.tum_vector_into_iter.signature κs) (e : AtExit vector_walks·promise.tum_vector_into_iter.ended κs)
      → Is w i vector (vector_tray a.1.0.now a.0.now) → vector_walks.tum_vector_into_iter.Reads.Learnt κs a r e
      → Ours w (on i (look into_iter) (heard_at r (vector_tray a.1.0.now a.0.now) (cursor_of e.1.1.0.now)))
  tum_vector_into_iter_ours a r e is learnt = ours_on w i _ _ _ _ refl is learnt.row

  pub tum_vector_step_front_ours : (a : ArgsD vector_walks·promise.tum_vector_step_front.signature κs) (r : ResD vector_walks·promise.tum_vector_step_front.signature κs) (e : AtExit vector_walks·promise.tum_vector_step_front.ended κs)
      → Is w i vector (vector_tray a.1.0.now a.0.now) → vector_walks.tum_vector_step_front.Reads.Learnt κs a r e
      → Ours w (on i (look (step_front (cursor_of a.1.1.0.now))) (heard_at r (vector_tray a.1.0.now a.0.now) (cursor_of e.1.1.0.now)))
  tum_vector_step_front_ours a r e is learnt = ours_on w i _ _ _ _ refl is learnt.row

  pub tum_vector_step_back_ours : (a : ArgsD vector_walks·promise.tum_vector_step_back.signature κs) (r : ResD vector_walks·promise.tum_vector_step_back.signature κs) (e : AtExit vector_walks·promise.tum_vector_step_back.ended κs)
      → Is w i vector (vector_tray a.1.0.now a.0.now) → vector_walks.tum_vector_step_back.Reads.Learnt κs a r e
      → Ours w (on i (look (step_back (cursor_of a.1.1.0.now))) (heard_at r (vector_tray a.1.0.now a.0.now) (cursor_of e.1.1.0.now)))
  tum_vector_step_back_ours a r e is learnt = ours_on w i _ _ _ _ refl is learnt.row

  pub tum_vector_peek_front_ours : (a : ArgsD vector_walks·promise.tum_vector_peek_front.signature κs) (r : ResD vector_walks·promise.tum_vector_peek_front.signature κs) (e : AtExit vector_walks·promise.tum_vector_peek_front.ended κs)
      → Is w i vector (vector_tray a.1.0.now a.0.now) → vector_walks.tum_vector_peek_front.Reads.Learnt κs a r e
      → Ours w (on i (look (peek_front (cursor_of a.1.1.0.now) a.1.1.1.0)) (heard_at r (vector_tray a.1.0.now a.0.now) (cursor_of a.1.1.0.now)))
  tum_vector_peek_front_ours a r e is learnt = ours_on w i _ _ _ _ refl is learnt.row

  pub tum_vector_peek_back_ours : (a : ArgsD vector_walks·promise.tum_vector_peek_back.signature κs) (r : ResD vector_walks·promise.tum_vector_peek_back.signature κs) (e : AtExit vector_walks·promise.tum_vector_peek_back.ended κs)
      → Is w i vector (vector_tray a.1.0.now a.0.now) → vector_walks.tum_vector_peek_back.Reads.Learnt κs a r e
      → Ours w (on i (look (peek_back (cursor_of a.1.1.0.now) a.1.1.1.0)) (heard_at r (vector_tray a.1.0.now a.0.now) (cursor_of a.1.1.0.now)))
  tum_vector_peek_back_ours a r e is learnt = ours_on w i _ _ _ _ refl is learnt.row

module _ (w : World) (i : ℕ) (κs : Lfts 2) where
  pub tum_vector_range_ours : (a : ArgsD parts·promise.tum_vector_range.signature κs) (r : ResD parts·promise.tum_vector_range.signature κs) (e : AtExit parts·promise.tum_vector_range.ended κs)
      → Is w i vector (vector_tray a.1.0.now a.0.now) → parts.tum_vector_range.Reads.Learnt κs a r e
      → Ours w (called i (reading (lends a.1.1.0 a.1.1.1.0)) (shown (in_part (part_in r) a.0.now) (vector_tray a.1.0.now a.0.now)))
  tum_vector_range_ours a r e is learnt = reads (lends a.1.1.0 a.1.1.1.0) w i _ _ is (ap (λ p. in_part p a.0.now) learnt)

  pub tum_vector_as_slice_ours : (a : ArgsD parts·promise.tum_vector_as_slice.signature κs) (r : ResD parts·promise.tum_vector_as_slice.signature κs) (e : AtExit parts·promise.tum_vector_as_slice.ended κs)
      → Is w i vector (vector_tray a.1.0.now a.0.now) → parts.tum_vector_as_slice.Reads.Learnt κs a r e
      → Ours w (called i (reading lends_all) (shown (in_part (part_in r) a.0.now) (vector_tray a.1.0.now a.0.now)))
  tum_vector_as_slice_ours a r e is learnt = reads lends_all w i _ _ is (ap (λ p. in_part p a.0.now) learnt)

  pub tum_vector_as_ref_ours : (a : ArgsD parts·promise.tum_vector_as_ref.signature κs) (r : ResD parts·promise.tum_vector_as_ref.signature κs) (e : AtExit parts·promise.tum_vector_as_ref.ended κs)
      → Is w i vector (vector_tray a.1.0.now a.0.now) → parts.tum_vector_as_ref.Reads.Learnt κs a r e
      → Ours w (called i (reading lends_all) (shown (in_part (part_in r) a.0.now) (vector_tray a.1.0.now a.0.now)))
  tum_vector_as_ref_ours a r e is learnt = reads lends_all w i _ _ is (ap (λ p. in_part p a.0.now) learnt)

  pub tum_vector_deref_ours : (a : ArgsD parts·promise.tum_vector_deref.signature κs) (r : ResD parts·promise.tum_vector_deref.signature κs) (e : AtExit parts·promise.tum_vector_deref.ended κs)
      → Is w i vector (vector_tray a.1.0.now a.0.now) → parts.tum_vector_deref.Reads.Learnt κs a r e
      → Ours w (called i (reading lends_all) (shown (in_part (part_in r) a.0.now) (vector_tray a.1.0.now a.0.now)))
  tum_vector_deref_ours a r e is learnt = reads lends_all w i _ _ is (ap (λ p. in_part p a.0.now) learnt)

  pub tum_vector_as_mut_slice_ours : (a : ArgsD parts·promise.tum_vector_as_mut_slice.signature κs) (r : ResD parts·promise.tum_vector_as_mut_slice.signature κs) (e : AtExit parts·promise.tum_vector_as_mut_slice.ended κs)
      → Is w i vector (vector_tray a.1.0.now a.0.now) → parts.tum_vector_as_mut_slice.Reads.Learnt κs a r e
      → Ours w (called i (reading lends_all) (shown (in_part (part_in r) a.0.now) (vector_tray a.1.0.now a.0.now)))
  tum_vector_as_mut_slice_ours a r e is learnt = reads lends_all w i _ _ is (ap (λ p. in_part p a.0.now) learnt)

  pub tum_vector_deref_mut_ours : (a : ArgsD parts·promise.tum_vector_deref_mut.signature κs) (r : ResD parts·promise.tum_vector_deref_mut.signature κs) (e : AtExit parts·promise.tum_vector_deref_mut.ended κs)
      → Is w i vector (vector_tray a.1.0.now a.0.now) → parts.tum_vector_deref_mut.Reads.Learnt κs a r e
      → Ours w (called i (reading lends_all) (shown (in_part (part_in r) a.0.now) (vector_tray a.1.0.now a.0.now)))
  tum_vector_deref_mut_ours a r e is learnt = reads lends_all w i _ _ is (ap (λ p. in_part p a.0.now) learnt)

module _ (w : World) (i j : ℕ) (κs : Lfts 5) where
  pub tum_ring_from_iter_ours : (a : ArgsD ring_walks·promise.tum_ring_from_iter.signature κs) (r : ResD ring_walks·promise.tum_ring_from_iter.signature κs) (e : AtExit ring_walks·promise.tum_ring_from_iter.ended κs)
      → Are w i j ring vector (ring_tray a.1.0.now a.0.now) (vector_tray a.1.1.1.1.0.now a.1.1.1.0.now) → ring_walks.tum_ring_from_iter.Reads.Learnt κs a r e
      → Ours w (on_two i j (from_iter (cursor_of a.1.1.0.now)) (heard_into r (ring_tray a.1.0.now a.0.now) (vector_tray e.1.1.1.1.0.now e.1.1.1.0.now) (cursor_of e.1.1.0.now)))
  tum_ring_from_iter_ours a r e are learnt = ours_on_two w i j _ _ _ _ _ _ refl are learnt.row

  pub tum_vector_from_iter_ours : (a : ArgsD vector_walks·promise.tum_vector_from_iter.signature κs) (r : ResD vector_walks·promise.tum_vector_from_iter.signature κs) (e : AtExit vector_walks·promise.tum_vector_from_iter.ended κs)
      → Are w i j vector vector (vector_tray a.1.0.now a.0.now) (vector_tray a.1.1.1.1.0.now a.1.1.1.0.now) → vector_walks.tum_vector_from_iter.Reads.Learnt κs a r e
      → Ours w (on_two i j (from_iter (cursor_of a.1.1.0.now)) (heard_into r (vector_tray a.1.0.now a.0.now) (vector_tray e.1.1.1.1.0.now e.1.1.1.0.now) (cursor_of e.1.1.0.now)))
  tum_vector_from_iter_ours a r e are learnt = ours_on_two w i j _ _ _ _ _ _ refl are learnt.row
