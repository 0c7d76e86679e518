-- Each call of this crate is an event of demand 3: what a caller learns of it is what `Ours` asks.
use Prim.Native.Nat.{ℕ}
use mathlib.Core.Path.{◌≡◌, refl, ap}
use mathlib.Core.List.{List}
use contract.Lifetimes.{Lfts}
use denote.Triple.Clauses.{AtExit}
use borrow.Fn.World.{ArgsD, ResD}
use Rattle.slots.specs.Layout.{vector}
use Rattle.table.specs.Calls.{look, len, is_empty, read, reserve, try_reserve, try_reserve_exact, range, new, with_capacity, from_elem}
use Rattle.table.specs.Calls.{write, push, pop, insert, remove, swap_remove, truncate, resize, clear, extend}
use Rattle.table.specs.Tray.{Tray}
use Rattle.table.specs.Parts.{Part, lends, lends_all, in_part}
use Rattle.table.specs.World.{World, make, on, called, Ours}
use Rattle.table.specs.Answers.{numbered}
use Rattle.table.proofs.Laws.Named.{Is, ours_make, ours_on, ours_called}
use Rattle.table.proofs.Laws.Keeps.{showing_kept}
use Rattle.table.proofs.Theorems.AlwaysHome.{Homes, showing_homes}
use Rattle.table.proofs.Theorems.Capacity.{Sized, showing_sized}
use Rattle.vector.specs.Seen.{tray, seen, none}
use Rattle.vector.specs.Reading.{shown, reading}
use Rattle.vector.proofs.Vector as fns
use Rattle.vector.specs.contracts.Vector as fns·promise

-- In what follows a are the arguments, r is the result, and e the arguments as they are at the return.
module _ (w : World) (κs : Lfts 1) where
  pub new_ours : (a : ArgsD fns·promise.new.signature κs) (r : ResD fns·promise.new.signature κs) (e : AtExit fns·promise.new.ended κs)
      → fns.new.Reads.Learnt κs a r e → Ours w (make vector new a.0.now (seen (numbered none r) a.0.now))
  new_ours a r e learnt = ours_make w _ _ _ _ refl learnt.row

  pub with_capacity_ours : (a : ArgsD fns·promise.with_capacity.signature κs) (r : ResD fns·promise.with_capacity.signature κs) (e : AtExit fns·promise.with_capacity.ended κs)
      → fns.with_capacity.Reads.Learnt κs a r e → Ours w (make vector (with_capacity a.1.0) a.0.now (seen (numbered none r) a.0.now))
  with_capacity_ours a r e learnt = ours_make w _ _ _ _ refl learnt.row

  pub from_elem_ours : (a : ArgsD fns·promise.from_elem.signature κs) (r : ResD fns·promise.from_elem.signature κs) (e : AtExit fns·promise.from_elem.ended κs)
      → fns.from_elem.Reads.Learnt κs a r e → Ours w (make vector (from_elem a.1.0 a.1.1.0) a.0.now (seen (numbered none r) e.0.now))
  from_elem_ours a r e learnt = ours_make w _ _ _ _ refl learnt.row

module _ (w : World) (i : ℕ) (κs : Lfts 1) where
  pub len_ours : (a : ArgsD fns·promise.len.signature κs) (r : ResD fns·promise.len.signature κs) (e : AtExit fns·promise.len.ended κs)
      → Is w i vector (tray a.0 a.1.0.now) → fns.len.Reads.Learnt κs a r e → Ours w (on i (look len) (seen (numbered a.0 r) a.1.0.now))
  len_ours a r e is learnt = ours_on w i _ _ _ _ refl is learnt.row

  pub is_empty_ours : (a : ArgsD fns·promise.is_empty.signature κs) (r : ResD fns·promise.is_empty.signature κs) (e : AtExit fns·promise.is_empty.ended κs)
      → Is w i vector (tray a.0 a.1.0.now) → fns.is_empty.Reads.Learnt κs a r e → Ours w (on i (look is_empty) (seen (numbered a.0 r) a.1.0.now))
  is_empty_ours a r e is learnt = ours_on w i _ _ _ _ refl is learnt.row

  pub read_ours : (a : ArgsD fns·promise.read.signature κs) (r : ResD fns·promise.read.signature κs) (e : AtExit fns·promise.read.ended κs)
      → Is w i vector (tray a.0 a.1.0.now) → fns.read.Reads.Learnt κs a r e → Ours w (on i (look (read a.1.1.0)) (seen (numbered a.0 r) a.1.0.now))
  read_ours a r e is learnt = ours_on w i _ _ _ _ refl is learnt.row

  pub reserve_ours : (a : ArgsD fns·promise.reserve.signature κs) (r : ResD fns·promise.reserve.signature κs) (e : AtExit fns·promise.reserve.ended κs)
      → Is w i vector (tray a.0 a.1.0.now) → fns.reserve.Reads.Learnt κs a r e → Ours w (on i (look (reserve a.1.1.0)) (seen (numbered a.0 r) a.1.0.now))
  reserve_ours a r e is learnt = ours_on w i _ _ _ _ refl is learnt.row

  pub try_reserve_ours : (a : ArgsD fns·promise.try_reserve.signature κs) (r : ResD fns·promise.try_reserve.signature κs) (e : AtExit fns·promise.try_reserve.ended κs)
      → Is w i vector (tray a.0 a.1.0.now) → fns.try_reserve.Reads.Learnt κs a r e → Ours w (on i (look (try_reserve a.1.1.0)) (seen (numbered a.0 r) a.1.0.now))
  try_reserve_ours a r e is learnt = ours_on w i _ _ _ _ refl is learnt.row

  pub try_reserve_exact_ours : (a : ArgsD fns·promise.try_reserve_exact.signature κs) (r : ResD fns·promise.try_reserve_exact.signature κs) (e : AtExit fns·promise.try_reserve_exact.ended κs)
      → Is w i vector (tray a.0 a.1.0.now) → fns.try_reserve_exact.Reads.Learnt κs a r e → Ours w (on i (look (try_reserve_exact a.1.1.0)) (seen (numbered a.0 r) a.1.0.now))
  try_reserve_exact_ours a r e is learnt = ours_on w i _ _ _ _ refl is learnt.row

  pub ask_range_ours : (a : ArgsD fns·promise.ask_range.signature κs) (r : ResD fns·promise.ask_range.signature κs) (e : AtExit fns·promise.ask_range.ended κs)
      → Is w i vector (tray a.0 a.1.0.now) → fns.ask_range.Reads.Learnt κs a r e → Ours w (on i (look (range a.1.1.0 a.1.1.1.0)) (seen (numbered a.0 r) a.1.0.now))
  ask_range_ours a r e is learnt = ours_on w i _ _ _ _ refl is learnt.row

  pub write_ours : (a : ArgsD fns·promise.write.signature κs) (r : ResD fns·promise.write.signature κs) (e : AtExit fns·promise.write.ended κs)
      → Is w i vector (tray a.0 a.1.0.now) → fns.write.Reads.Learnt κs a r e → Ours w (on i (write a.1.1.0 a.1.1.1.0) (seen (numbered a.0 r) e.1.0.now))
  write_ours a r e is learnt = ours_on w i _ _ _ _ refl is learnt.row

  pub push_ours : (a : ArgsD fns·promise.push.signature κs) (r : ResD fns·promise.push.signature κs) (e : AtExit fns·promise.push.ended κs)
      → Is w i vector (tray a.0 a.1.0.now) → fns.push.Reads.Learnt κs a r e → Ours w (on i (push a.1.1.0) (seen (numbered a.0 r) e.1.0.now))
  push_ours a r e is learnt = ours_on w i _ _ _ _ refl is learnt.row

  pub pop_ours : (a : ArgsD fns·promise.pop.signature κs) (r : ResD fns·promise.pop.signature κs) (e : AtExit fns·promise.pop.ended κs)
      → Is w i vector (tray a.0 a.1.0.now) → fns.pop.Reads.Learnt κs a r e → Ours w (on i pop (seen (numbered a.0 r) e.1.0.now))
  pop_ours a r e is learnt = ours_on w i _ _ _ _ refl is learnt.row

  pub insert_ours : (a : ArgsD fns·promise.insert.signature κs) (r : ResD fns·promise.insert.signature κs) (e : AtExit fns·promise.insert.ended κs)
      → Is w i vector (tray a.0 a.1.0.now) → fns.insert.Reads.Learnt κs a r e → Ours w (on i (insert a.1.1.0 a.1.1.1.0) (seen (numbered a.0 r) e.1.0.now))
  insert_ours a r e is learnt = ours_on w i _ _ _ _ refl is learnt.row

  pub remove_ours : (a : ArgsD fns·promise.remove.signature κs) (r : ResD fns·promise.remove.signature κs) (e : AtExit fns·promise.remove.ended κs)
      → Is w i vector (tray a.0 a.1.0.now) → fns.remove.Reads.Learnt κs a r e → Ours w (on i (remove a.1.1.0) (seen (numbered a.0 r) e.1.0.now))
  remove_ours a r e is learnt = ours_on w i _ _ _ _ refl is learnt.row

  pub swap_remove_ours : (a : ArgsD fns·promise.swap_remove.signature κs) (r : ResD fns·promise.swap_remove.signature κs) (e : AtExit fns·promise.swap_remove.ended κs)
      → Is w i vector (tray a.0 a.1.0.now) → fns.swap_remove.Reads.Learnt κs a r e → Ours w (on i (swap_remove a.1.1.0) (seen (numbered a.0 r) e.1.0.now))
  swap_remove_ours a r e is learnt = ours_on w i _ _ _ _ refl is learnt.row

  pub truncate_ours : (a : ArgsD fns·promise.truncate.signature κs) (r : ResD fns·promise.truncate.signature κs) (e : AtExit fns·promise.truncate.ended κs)
      → Is w i vector (tray a.0 a.1.0.now) → fns.truncate.Reads.Learnt κs a r e → Ours w (on i (truncate a.1.1.0) (seen (numbered a.0 r) e.1.0.now))
  truncate_ours a r e is learnt = ours_on w i _ _ _ _ refl is learnt.row

  pub resize_ours : (a : ArgsD fns·promise.resize.signature κs) (r : ResD fns·promise.resize.signature κs) (e : AtExit fns·promise.resize.ended κs)
      → Is w i vector (tray a.0 a.1.0.now) → fns.resize.Reads.Learnt κs a r e → Ours w (on i (resize a.1.1.0 a.1.1.1.0) (seen (numbered a.0 r) e.1.0.now))
  resize_ours a r e is learnt = ours_on w i _ _ _ _ refl is learnt.row

  pub clear_ours : (a : ArgsD fns·promise.clear.signature κs) (r : ResD fns·promise.clear.signature κs) (e : AtExit fns·promise.clear.ended κs)
      → Is w i vector (tray a.0 a.1.0.now) → fns.clear.Reads.Learnt κs a r e → Ours w (on i clear (seen (numbered a.0 r) e.1.0.now))
  clear_ours a r e is learnt = ours_on w i _ _ _ _ refl is learnt.row

module _ (w : World) (i : ℕ) (κs : Lfts 2) where
  pub extend_from_slice_ours : (a : ArgsD fns·promise.extend_from_slice.signature κs) (r : ResD fns·promise.extend_from_slice.signature κs) (e : AtExit fns·promise.extend_from_slice.ended κs)
      → Is w i vector (tray a.0 a.1.0.now) → fns.extend_from_slice.Reads.Learnt κs a r e → Ours w (on i (extend a.1.1.0.now) (seen (numbered a.0 r) e.1.0.now))
  extend_from_slice_ours a r e is learnt = ours_on w i _ _ _ _ refl is learnt.row

-- a part that is only read leaves an empty ring's head at 0, as it leaves everything
pub reading_homes : (part : Tray → Part) → Homes (reading part)
reading_homes part = showing_homes _ _ (λ k t. refl)

-- and as many slots as there were
pub reading_sized : (part : Tray → Part) → Sized (reading part)
reading_sized part = showing_sized _ _ (λ k t. refl)

-- The parts that are only read. That the slots stay is the `&`'s doing; that the part is the one lent is the promise's.
module _ (part : Tray → Part) (w : World) (i : ℕ) (t : Tray) where
  pub reads : (held : List ℕ) → Is w i vector t → held ≡ in_part (part t) t.slots → Ours w (called i (reading part) (shown held t))
  reads held is holds = ours_called w i _ _ _ _ (showing_kept _ _ (λ k t. refl)) refl is (ap (λ l. shown l t) holds)

module _ (w : World) (i : ℕ) (κs : Lfts 1) where
  pub range_ours : (a : ArgsD fns·promise.range.signature κs) (r : ResD fns·promise.range.signature κs) (e : AtExit fns·promise.range.ended κs)
      → Is w i vector (tray a.0 a.1.0.now) → fns.range.Reads.Learnt κs a r e → Ours w (called i (reading (lends a.1.1.0 a.1.1.1.0)) (shown r.now (tray a.0 a.1.0.now)))
  range_ours a r e is learnt = reads (lends a.1.1.0 a.1.1.1.0) w i _ _ is learnt.holds

  pub as_slice_ours : (a : ArgsD fns·promise.as_slice.signature κs) (r : ResD fns·promise.as_slice.signature κs) (e : AtExit fns·promise.as_slice.ended κs)
      → Is w i vector (tray a.0 a.1.0.now) → fns.as_slice.Reads.Learnt κs a r e → Ours w (called i (reading lends_all) (shown r.now (tray a.0 a.1.0.now)))
  as_slice_ours a r e is learnt = reads lends_all w i _ _ is learnt.holds

  pub as_ref_ours : (a : ArgsD fns·promise.as_ref.signature κs) (r : ResD fns·promise.as_ref.signature κs) (e : AtExit fns·promise.as_ref.ended κs)
      → Is w i vector (tray a.0 a.1.0.now) → fns.as_ref.Reads.Learnt κs a r e → Ours w (called i (reading lends_all) (shown r.now (tray a.0 a.1.0.now)))
  as_ref_ours a r e is learnt = reads lends_all w i _ _ is learnt.holds

  pub deref_ours : (a : ArgsD fns·promise.deref.signature κs) (r : ResD fns·promise.deref.signature κs) (e : AtExit fns·promise.deref.ended κs)
      → Is w i vector (tray a.0 a.1.0.now) → fns.deref.Reads.Learnt κs a r e → Ours w (called i (reading lends_all) (shown r.now (tray a.0 a.1.0.now)))
  deref_ours a r e is learnt = reads lends_all w i _ _ is learnt.holds
