-- Each exported call on one container is an event of demand 3 on the container whose state and slots it is lent: what a caller learns of it is what `Ours` asks.
use Prim.Native.Nat.{ℕ}
use mathlib.Core.Path.{refl}
use contract.Lifetimes.{Lfts}
use denote.Triple.Clauses.{AtExit}
use borrow.Fn.World.{ArgsD, ResD}
use Rattle.slots.specs.Layout.{ring, vector}
use Rattle.table.specs.Calls.{new, with_capacity, from_elem, look, len, is_empty, read, reserve, try_reserve, try_reserve_exact, range}
use Rattle.table.specs.Calls.{write, push, push_front, pop, pop_front, insert, remove, swap_remove, truncate, resize, clear, extend}
use Rattle.table.specs.PromiseWithin.{promise_within}
use Rattle.table.specs.World.{World, called, make, on, Ours}
use Rattle.table.proofs.Laws.Named.{Is, ours_make, ours_on}
use Rattle.table.proofs.Laws.Within.{ours_within}
use Rattle.tumbrelice.specs.Heard.{heard, ring_tray, vector_tray}
use Rattle.tumbrelice.proofs.makings as makings
use Rattle.tumbrelice.specs.contracts.makings as makings·promise
use Rattle.tumbrelice.proofs.rings as rings
use Rattle.tumbrelice.specs.contracts.rings as rings·promise
use Rattle.tumbrelice.proofs.vectors as vectors
use Rattle.tumbrelice.specs.contracts.vectors as vectors·promise

-- In what follows a are the arguments, r is the word answered, and e the arguments as they are at the return.
module _ (w : World) (κs : Lfts 2) where
  pub tum_ring_new_ours : (a : ArgsD makings·promise.tum_ring_new.signature κs) (r : ResD makings·promise.tum_ring_new.signature κs) (e : AtExit makings·promise.tum_ring_new.ended κs)
      → makings.tum_ring_new.Reads.Learnt κs a r e → Ours w (make ring new a.0.now (heard r (ring_tray e.1.0.now a.0.now)))
  tum_ring_new_ours a r e learnt = ours_make w _ _ _ _ refl learnt.row

  pub tum_ring_with_capacity_ours : (a : ArgsD makings·promise.tum_ring_with_capacity.signature κs) (r : ResD makings·promise.tum_ring_with_capacity.signature κs) (e : AtExit makings·promise.tum_ring_with_capacity.ended κs)
      → makings.tum_ring_with_capacity.Reads.Learnt κs a r e → Ours w (make ring (with_capacity a.1.1.0) a.0.now (heard r (ring_tray e.1.0.now a.0.now)))
  tum_ring_with_capacity_ours a r e learnt = ours_make w _ _ _ _ refl learnt.row

  pub tum_vector_new_ours : (a : ArgsD makings·promise.tum_vector_new.signature κs) (r : ResD makings·promise.tum_vector_new.signature κs) (e : AtExit makings·promise.tum_vector_new.ended κs)
      → makings.tum_vector_new.Reads.Learnt κs a r e → Ours w (make vector new a.0.now (heard r (vector_tray e.1.0.now a.0.now)))
  tum_vector_new_ours a r e learnt = ours_make w _ _ _ _ refl learnt.row

  pub tum_vector_with_capacity_ours : (a : ArgsD makings·promise.tum_vector_with_capacity.signature κs) (r : ResD makings·promise.tum_vector_with_capacity.signature κs) (e : AtExit makings·promise.tum_vector_with_capacity.ended κs)
      → makings.tum_vector_with_capacity.Reads.Learnt κs a r e → Ours w (make vector (with_capacity a.1.1.0) a.0.now (heard r (vector_tray e.1.0.now a.0.now)))
  tum_vector_with_capacity_ours a r e learnt = ours_make w _ _ _ _ refl learnt.row

  pub tum_vector_from_elem_ours : (a : ArgsD makings·promise.tum_vector_from_elem.signature κs) (r : ResD makings·promise.tum_vector_from_elem.signature κs) (e : AtExit makings·promise.tum_vector_from_elem.ended κs)
      → makings.tum_vector_from_elem.Reads.Learnt κs a r e → Ours w (make vector (from_elem a.1.1.0 a.1.1.1.0) a.0.now (heard r (vector_tray e.1.0.now e.0.now)))
  tum_vector_from_elem_ours a r e learnt = ours_make w _ _ _ _ refl learnt.row

module _ (w : World) (i : ℕ) (κs : Lfts 2) where
  pub tum_ring_len_ours : (a : ArgsD rings·promise.tum_ring_len.signature κs) (r : ResD rings·promise.tum_ring_len.signature κs) (e : AtExit rings·promise.tum_ring_len.ended κs)
      → Is w i ring (ring_tray a.1.0.now a.0.now) → rings.tum_ring_len.Reads.Learnt κs a r e → Ours w (on i (look len) (heard r (ring_tray a.1.0.now a.0.now)))
  tum_ring_len_ours a r e is learnt = ours_on w i _ _ _ _ refl is learnt.row

  pub tum_ring_read_ours : (a : ArgsD rings·promise.tum_ring_read.signature κs) (r : ResD rings·promise.tum_ring_read.signature κs) (e : AtExit rings·promise.tum_ring_read.ended κs)
      → Is w i ring (ring_tray a.1.0.now a.0.now) → rings.tum_ring_read.Reads.Learnt κs a r e → Ours w (on i (look (read a.1.1.0)) (heard r (ring_tray a.1.0.now a.0.now)))
  tum_ring_read_ours a r e is learnt = ours_on w i _ _ _ _ refl is learnt.row

  pub tum_ring_reserve_ours : (a : ArgsD rings·promise.tum_ring_reserve.signature κs) (r : ResD rings·promise.tum_ring_reserve.signature κs) (e : AtExit rings·promise.tum_ring_reserve.ended κs)
      → Is w i ring (ring_tray a.1.0.now a.0.now) → rings.tum_ring_reserve.Reads.Learnt κs a r e → Ours w (on i (look (reserve a.1.1.0)) (heard r (ring_tray a.1.0.now a.0.now)))
  tum_ring_reserve_ours a r e is learnt = ours_on w i _ _ _ _ refl is learnt.row

  pub tum_ring_write_ours : (a : ArgsD rings·promise.tum_ring_write.signature κs) (r : ResD rings·promise.tum_ring_write.signature κs) (e : AtExit rings·promise.tum_ring_write.ended κs)
      → Is w i ring (ring_tray a.1.0.now a.0.now) → rings.tum_ring_write.Reads.Learnt κs a r e → Ours w (on i (write a.1.1.0 a.1.1.1.0) (heard r (ring_tray e.1.0.now e.0.now)))
  tum_ring_write_ours a r e is learnt = ours_on w i _ _ _ _ refl is learnt.row

  pub tum_ring_push_back_ours : (a : ArgsD rings·promise.tum_ring_push_back.signature κs) (r : ResD rings·promise.tum_ring_push_back.signature κs) (e : AtExit rings·promise.tum_ring_push_back.ended κs)
      → Is w i ring (ring_tray a.1.0.now a.0.now) → rings.tum_ring_push_back.Reads.Learnt κs a r e → Ours w (on i (push a.1.1.0) (heard r (ring_tray e.1.0.now e.0.now)))
  tum_ring_push_back_ours a r e is learnt = ours_on w i _ _ _ _ refl is learnt.row

  pub tum_ring_push_front_ours : (a : ArgsD rings·promise.tum_ring_push_front.signature κs) (r : ResD rings·promise.tum_ring_push_front.signature κs) (e : AtExit rings·promise.tum_ring_push_front.ended κs)
      → Is w i ring (ring_tray a.1.0.now a.0.now) → rings.tum_ring_push_front.Reads.Learnt κs a r e → Ours w (on i (push_front a.1.1.0) (heard r (ring_tray e.1.0.now e.0.now)))
  tum_ring_push_front_ours a r e is learnt = ours_on w i _ _ _ _ refl is learnt.row

  pub tum_ring_pop_back_ours : (a : ArgsD rings·promise.tum_ring_pop_back.signature κs) (r : ResD rings·promise.tum_ring_pop_back.signature κs) (e : AtExit rings·promise.tum_ring_pop_back.ended κs)
      → Is w i ring (ring_tray a.1.0.now a.0.now) → rings.tum_ring_pop_back.Reads.Learnt κs a r e → Ours w (on i pop (heard r (ring_tray e.1.0.now e.0.now)))
  tum_ring_pop_back_ours a r e is learnt = ours_on w i _ _ _ _ refl is learnt.row

  pub tum_ring_pop_front_ours : (a : ArgsD rings·promise.tum_ring_pop_front.signature κs) (r : ResD rings·promise.tum_ring_pop_front.signature κs) (e : AtExit rings·promise.tum_ring_pop_front.ended κs)
      → Is w i ring (ring_tray a.1.0.now a.0.now) → rings.tum_ring_pop_front.Reads.Learnt κs a r e → Ours w (on i pop_front (heard r (ring_tray e.1.0.now e.0.now)))
  tum_ring_pop_front_ours a r e is learnt = ours_on w i _ _ _ _ refl is learnt.row

  pub tum_ring_insert_ours : (a : ArgsD rings·promise.tum_ring_insert.signature κs) (r : ResD rings·promise.tum_ring_insert.signature κs) (e : AtExit rings·promise.tum_ring_insert.ended κs)
      → Is w i ring (ring_tray a.1.0.now a.0.now) → rings.tum_ring_insert.Reads.Learnt κs a r e → Ours w (on i (insert a.1.1.0 a.1.1.1.0) (heard r (ring_tray e.1.0.now e.0.now)))
  tum_ring_insert_ours a r e is learnt = ours_on w i _ _ _ _ refl is learnt.row

  pub tum_ring_remove_ours : (a : ArgsD rings·promise.tum_ring_remove.signature κs) (r : ResD rings·promise.tum_ring_remove.signature κs) (e : AtExit rings·promise.tum_ring_remove.ended κs)
      → Is w i ring (ring_tray a.1.0.now a.0.now) → rings.tum_ring_remove.Reads.Learnt κs a r e → Ours w (on i (remove a.1.1.0) (heard r (ring_tray e.1.0.now e.0.now)))
  tum_ring_remove_ours a r e is learnt = ours_on w i _ _ _ _ refl is learnt.row

  pub tum_ring_insert_within_ours : (a : ArgsD rings·promise.tum_ring_insert_within.signature κs) (r : ResD rings·promise.tum_ring_insert_within.signature κs) (e : AtExit rings·promise.tum_ring_insert_within.ended κs)
      → Is w i ring (ring_tray a.1.0.now a.0.now) → rings.tum_ring_insert_within.Reads.Learnt κs a r e
      → Ours w (called i (promise_within a.1.1.1.1.0 (insert a.1.1.0 a.1.1.1.0)) (heard r (ring_tray e.1.0.now e.0.now)))
  tum_ring_insert_within_ours a r e is learnt = ours_within w i _ _ _ _ _ refl is learnt.row

  pub tum_ring_remove_within_ours : (a : ArgsD rings·promise.tum_ring_remove_within.signature κs) (r : ResD rings·promise.tum_ring_remove_within.signature κs) (e : AtExit rings·promise.tum_ring_remove_within.ended κs)
      → Is w i ring (ring_tray a.1.0.now a.0.now) → rings.tum_ring_remove_within.Reads.Learnt κs a r e
      → Ours w (called i (promise_within a.1.1.1.0 (remove a.1.1.0)) (heard r (ring_tray e.1.0.now e.0.now)))
  tum_ring_remove_within_ours a r e is learnt = ours_within w i _ _ _ _ _ refl is learnt.row

  pub tum_ring_truncate_ours : (a : ArgsD rings·promise.tum_ring_truncate.signature κs) (r : ResD rings·promise.tum_ring_truncate.signature κs) (e : AtExit rings·promise.tum_ring_truncate.ended κs)
      → Is w i ring (ring_tray a.1.0.now a.0.now) → rings.tum_ring_truncate.Reads.Learnt κs a r e → Ours w (on i (truncate a.1.1.0) (heard r (ring_tray e.1.0.now e.0.now)))
  tum_ring_truncate_ours a r e is learnt = ours_on w i _ _ _ _ refl is learnt.row

  pub tum_ring_resize_ours : (a : ArgsD rings·promise.tum_ring_resize.signature κs) (r : ResD rings·promise.tum_ring_resize.signature κs) (e : AtExit rings·promise.tum_ring_resize.ended κs)
      → Is w i ring (ring_tray a.1.0.now a.0.now) → rings.tum_ring_resize.Reads.Learnt κs a r e → Ours w (on i (resize a.1.1.0 a.1.1.1.0) (heard r (ring_tray e.1.0.now e.0.now)))
  tum_ring_resize_ours a r e is learnt = ours_on w i _ _ _ _ refl is learnt.row

  pub tum_ring_clear_ours : (a : ArgsD rings·promise.tum_ring_clear.signature κs) (r : ResD rings·promise.tum_ring_clear.signature κs) (e : AtExit rings·promise.tum_ring_clear.ended κs)
      → Is w i ring (ring_tray a.1.0.now a.0.now) → rings.tum_ring_clear.Reads.Learnt κs a r e → Ours w (on i clear (heard r (ring_tray e.1.0.now e.0.now)))
  tum_ring_clear_ours a r e is learnt = ours_on w i _ _ _ _ refl is learnt.row

  pub tum_vector_len_ours : (a : ArgsD vectors·promise.tum_vector_len.signature κs) (r : ResD vectors·promise.tum_vector_len.signature κs) (e : AtExit vectors·promise.tum_vector_len.ended κs)
      → Is w i vector (vector_tray a.1.0.now a.0.now) → vectors.tum_vector_len.Reads.Learnt κs a r e → Ours w (on i (look len) (heard r (vector_tray a.1.0.now a.0.now)))
  tum_vector_len_ours a r e is learnt = ours_on w i _ _ _ _ refl is learnt.row

  pub tum_vector_is_empty_ours : (a : ArgsD vectors·promise.tum_vector_is_empty.signature κs) (r : ResD vectors·promise.tum_vector_is_empty.signature κs) (e : AtExit vectors·promise.tum_vector_is_empty.ended κs)
      → Is w i vector (vector_tray a.1.0.now a.0.now) → vectors.tum_vector_is_empty.Reads.Learnt κs a r e → Ours w (on i (look is_empty) (heard r (vector_tray a.1.0.now a.0.now)))
  tum_vector_is_empty_ours a r e is learnt = ours_on w i _ _ _ _ refl is learnt.row

  pub tum_vector_read_ours : (a : ArgsD vectors·promise.tum_vector_read.signature κs) (r : ResD vectors·promise.tum_vector_read.signature κs) (e : AtExit vectors·promise.tum_vector_read.ended κs)
      → Is w i vector (vector_tray a.1.0.now a.0.now) → vectors.tum_vector_read.Reads.Learnt κs a r e → Ours w (on i (look (read a.1.1.0)) (heard r (vector_tray a.1.0.now a.0.now)))
  tum_vector_read_ours a r e is learnt = ours_on w i _ _ _ _ refl is learnt.row

  pub tum_vector_reserve_ours : (a : ArgsD vectors·promise.tum_vector_reserve.signature κs) (r : ResD vectors·promise.tum_vector_reserve.signature κs) (e : AtExit vectors·promise.tum_vector_reserve.ended κs)
      → Is w i vector (vector_tray a.1.0.now a.0.now) → vectors.tum_vector_reserve.Reads.Learnt κs a r e → Ours w (on i (look (reserve a.1.1.0)) (heard r (vector_tray a.1.0.now a.0.now)))
  tum_vector_reserve_ours a r e is learnt = ours_on w i _ _ _ _ refl is learnt.row

  pub tum_vector_try_reserve_ours : (a : ArgsD vectors·promise.tum_vector_try_reserve.signature κs) (r : ResD vectors·promise.tum_vector_try_reserve.signature κs) (e : AtExit vectors·promise.tum_vector_try_reserve.ended κs)
      → Is w i vector (vector_tray a.1.0.now a.0.now) → vectors.tum_vector_try_reserve.Reads.Learnt κs a r e → Ours w (on i (look (try_reserve a.1.1.0)) (heard r (vector_tray a.1.0.now a.0.now)))
  tum_vector_try_reserve_ours a r e is learnt = ours_on w i _ _ _ _ refl is learnt.row

  pub tum_vector_try_reserve_exact_ours : (a : ArgsD vectors·promise.tum_vector_try_reserve_exact.signature κs) (r : ResD vectors·promise.tum_vector_try_reserve_exact.signature κs) (e : AtExit vectors·promise.tum_vector_try_reserve_exact.ended κs)
      → Is w i vector (vector_tray a.1.0.now a.0.now) → vectors.tum_vector_try_reserve_exact.Reads.Learnt κs a r e → Ours w (on i (look (try_reserve_exact a.1.1.0)) (heard r (vector_tray a.1.0.now a.0.now)))
  tum_vector_try_reserve_exact_ours a r e is learnt = ours_on w i _ _ _ _ refl is learnt.row

  pub tum_vector_ask_range_ours : (a : ArgsD vectors·promise.tum_vector_ask_range.signature κs) (r : ResD vectors·promise.tum_vector_ask_range.signature κs) (e : AtExit vectors·promise.tum_vector_ask_range.ended κs)
      → Is w i vector (vector_tray a.1.0.now a.0.now) → vectors.tum_vector_ask_range.Reads.Learnt κs a r e → Ours w (on i (look (range a.1.1.0 a.1.1.1.0)) (heard r (vector_tray a.1.0.now a.0.now)))
  tum_vector_ask_range_ours a r e is learnt = ours_on w i _ _ _ _ refl is learnt.row

  pub tum_vector_write_ours : (a : ArgsD vectors·promise.tum_vector_write.signature κs) (r : ResD vectors·promise.tum_vector_write.signature κs) (e : AtExit vectors·promise.tum_vector_write.ended κs)
      → Is w i vector (vector_tray a.1.0.now a.0.now) → vectors.tum_vector_write.Reads.Learnt κs a r e → Ours w (on i (write a.1.1.0 a.1.1.1.0) (heard r (vector_tray e.1.0.now e.0.now)))
  tum_vector_write_ours a r e is learnt = ours_on w i _ _ _ _ refl is learnt.row

  pub tum_vector_push_ours : (a : ArgsD vectors·promise.tum_vector_push.signature κs) (r : ResD vectors·promise.tum_vector_push.signature κs) (e : AtExit vectors·promise.tum_vector_push.ended κs)
      → Is w i vector (vector_tray a.1.0.now a.0.now) → vectors.tum_vector_push.Reads.Learnt κs a r e → Ours w (on i (push a.1.1.0) (heard r (vector_tray e.1.0.now e.0.now)))
  tum_vector_push_ours a r e is learnt = ours_on w i _ _ _ _ refl is learnt.row

  pub tum_vector_pop_ours : (a : ArgsD vectors·promise.tum_vector_pop.signature κs) (r : ResD vectors·promise.tum_vector_pop.signature κs) (e : AtExit vectors·promise.tum_vector_pop.ended κs)
      → Is w i vector (vector_tray a.1.0.now a.0.now) → vectors.tum_vector_pop.Reads.Learnt κs a r e → Ours w (on i pop (heard r (vector_tray e.1.0.now e.0.now)))
  tum_vector_pop_ours a r e is learnt = ours_on w i _ _ _ _ refl is learnt.row

  pub tum_vector_insert_ours : (a : ArgsD vectors·promise.tum_vector_insert.signature κs) (r : ResD vectors·promise.tum_vector_insert.signature κs) (e : AtExit vectors·promise.tum_vector_insert.ended κs)
      → Is w i vector (vector_tray a.1.0.now a.0.now) → vectors.tum_vector_insert.Reads.Learnt κs a r e → Ours w (on i (insert a.1.1.0 a.1.1.1.0) (heard r (vector_tray e.1.0.now e.0.now)))
  tum_vector_insert_ours a r e is learnt = ours_on w i _ _ _ _ refl is learnt.row

  pub tum_vector_remove_ours : (a : ArgsD vectors·promise.tum_vector_remove.signature κs) (r : ResD vectors·promise.tum_vector_remove.signature κs) (e : AtExit vectors·promise.tum_vector_remove.ended κs)
      → Is w i vector (vector_tray a.1.0.now a.0.now) → vectors.tum_vector_remove.Reads.Learnt κs a r e → Ours w (on i (remove a.1.1.0) (heard r (vector_tray e.1.0.now e.0.now)))
  tum_vector_remove_ours a r e is learnt = ours_on w i _ _ _ _ refl is learnt.row

  pub tum_vector_swap_remove_ours : (a : ArgsD vectors·promise.tum_vector_swap_remove.signature κs) (r : ResD vectors·promise.tum_vector_swap_remove.signature κs) (e : AtExit vectors·promise.tum_vector_swap_remove.ended κs)
      → Is w i vector (vector_tray a.1.0.now a.0.now) → vectors.tum_vector_swap_remove.Reads.Learnt κs a r e → Ours w (on i (swap_remove a.1.1.0) (heard r (vector_tray e.1.0.now e.0.now)))
  tum_vector_swap_remove_ours a r e is learnt = ours_on w i _ _ _ _ refl is learnt.row

  pub tum_vector_truncate_ours : (a : ArgsD vectors·promise.tum_vector_truncate.signature κs) (r : ResD vectors·promise.tum_vector_truncate.signature κs) (e : AtExit vectors·promise.tum_vector_truncate.ended κs)
      → Is w i vector (vector_tray a.1.0.now a.0.now) → vectors.tum_vector_truncate.Reads.Learnt κs a r e → Ours w (on i (truncate a.1.1.0) (heard r (vector_tray e.1.0.now e.0.now)))
  tum_vector_truncate_ours a r e is learnt = ours_on w i _ _ _ _ refl is learnt.row

  pub tum_vector_resize_ours : (a : ArgsD vectors·promise.tum_vector_resize.signature κs) (r : ResD vectors·promise.tum_vector_resize.signature κs) (e : AtExit vectors·promise.tum_vector_resize.ended κs)
      → Is w i vector (vector_tray a.1.0.now a.0.now) → vectors.tum_vector_resize.Reads.Learnt κs a r e → Ours w (on i (resize a.1.1.0 a.1.1.1.0) (heard r (vector_tray e.1.0.now e.0.now)))
  tum_vector_resize_ours a r e is learnt = ours_on w i _ _ _ _ refl is learnt.row

  pub tum_vector_clear_ours : (a : ArgsD vectors·promise.tum_vector_clear.signature κs) (r : ResD vectors·promise.tum_vector_clear.signature κs) (e : AtExit vectors·promise.tum_vector_clear.ended κs)
      → Is w i vector (vector_tray a.1.0.now a.0.now) → vectors.tum_vector_clear.Reads.Learnt κs a r e → Ours w (on i clear (heard r (vector_tray e.1.0.now e.0.now)))
  tum_vector_clear_ours a r e is learnt = ours_on w i _ _ _ _ refl is learnt.row

module _ (w : World) (i : ℕ) (κs : Lfts 3) where
  pub tum_vector_extend_from_slice_ours : (a : ArgsD vectors·promise.tum_vector_extend_from_slice.signature κs) (r : ResD vectors·promise.tum_vector_extend_from_slice.signature κs) (e : AtExit vectors·promise.tum_vector_extend_from_slice.ended κs)
      → Is w i vector (vector_tray a.1.0.now a.0.now) → vectors.tum_vector_extend_from_slice.Reads.Learnt κs a r e → Ours w (on i (extend a.1.1.0.now) (heard r (vector_tray e.1.0.now e.0.now)))
  tum_vector_extend_from_slice_ours a r e is learnt = ours_on w i _ _ _ _ refl is learnt.row
