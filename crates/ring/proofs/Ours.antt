-- Each call of this crate is an event of demand 3: what a caller learns of it, its generated contract, is what `Ours` asks.
use Prim.Native.Nat.{ℕ}
use mathlib.Core.Path.{refl}
use contract.Lifetimes.{Lfts}
use denote.Triple.Clauses.{AtExit}
use borrow.Fn.World.{ArgsD, ResD}
use Rattle.slots.specs.Layout.{ring}
use Rattle.table.specs.Answers.{numbered}
use Rattle.table.specs.Calls.{new, with_capacity, look, len, read, reserve}
use Rattle.table.specs.Calls.{write, push, push_front, pop, pop_front, insert, remove, truncate, resize, clear}
use Rattle.table.specs.PromiseWithin.{promise_within}
use Rattle.table.specs.World.{World, called, make, on, Ours}
use Rattle.table.proofs.Laws.Named.{Is, ours_make, ours_on}
use Rattle.table.proofs.Laws.Within.{ours_within}
use Rattle.ring.specs.Seen.{tray, seen, bare_ring}
use Rattle.ring.proofs.Ring as fn
use Rattle.ring.specs.contracts.Ring as promise

-- In what follows a are the arguments, r is the result, and e the arguments as they are at the return.
module _ (w : World) (κs : Lfts 1) where
  pub new_ours : (a : ArgsD promise.new.signature κs) (r : ResD promise.new.signature κs) (e : AtExit promise.new.ended κs)
      → fn.new.Reads.Learnt κs a r e → Ours w (make ring new a.0.now (seen (numbered bare_ring r) a.0.now))
  new_ours a r e learnt = ours_make w _ _ _ _ refl learnt.row

  pub with_capacity_ours : (a : ArgsD promise.with_capacity.signature κs) (r : ResD promise.with_capacity.signature κs) (e : AtExit promise.with_capacity.ended κs)
      → fn.with_capacity.Reads.Learnt κs a r e → Ours w (make ring (with_capacity a.1.0) a.0.now (seen (numbered bare_ring r) a.0.now))
  with_capacity_ours a r e learnt = ours_make w _ _ _ _ refl learnt.row

module _ (w : World) (i : ℕ) (κs : Lfts 1) where
  pub len_ours : (a : ArgsD promise.len.signature κs) (r : ResD promise.len.signature κs) (e : AtExit promise.len.ended κs)
      → Is w i ring (tray a.0 a.1.0.now) → fn.len.Reads.Learnt κs a r e → Ours w (on i (look len) (seen (numbered a.0 r) a.1.0.now))
  len_ours a r e is learnt = ours_on w i _ _ _ _ refl is learnt.row

  pub read_ours : (a : ArgsD promise.read.signature κs) (r : ResD promise.read.signature κs) (e : AtExit promise.read.ended κs)
      → Is w i ring (tray a.0 a.1.0.now) → fn.read.Reads.Learnt κs a r e → Ours w (on i (look (read a.1.1.0)) (seen (numbered a.0 r) a.1.0.now))
  read_ours a r e is learnt = ours_on w i _ _ _ _ refl is learnt.row

  pub reserve_ours : (a : ArgsD promise.reserve.signature κs) (r : ResD promise.reserve.signature κs) (e : AtExit promise.reserve.ended κs)
      → Is w i ring (tray a.0 a.1.0.now) → fn.reserve.Reads.Learnt κs a r e → Ours w (on i (look (reserve a.1.1.0)) (seen (numbered a.0 r) a.1.0.now))
  reserve_ours a r e is learnt = ours_on w i _ _ _ _ refl is learnt.row

  pub write_ours : (a : ArgsD promise.write.signature κs) (r : ResD promise.write.signature κs) (e : AtExit promise.write.ended κs)
      → Is w i ring (tray a.0 a.1.0.now) → fn.write.Reads.Learnt κs a r e → Ours w (on i (write a.1.1.0 a.1.1.1.0) (seen (numbered a.0 r) e.1.0.now))
  write_ours a r e is learnt = ours_on w i _ _ _ _ refl is learnt.row

  pub push_back_ours : (a : ArgsD promise.push_back.signature κs) (r : ResD promise.push_back.signature κs) (e : AtExit promise.push_back.ended κs)
      → Is w i ring (tray a.0 a.1.0.now) → fn.push_back.Reads.Learnt κs a r e → Ours w (on i (push a.1.1.0) (seen (numbered a.0 r) e.1.0.now))
  push_back_ours a r e is learnt = ours_on w i _ _ _ _ refl is learnt.row

  pub push_front_ours : (a : ArgsD promise.push_front.signature κs) (r : ResD promise.push_front.signature κs) (e : AtExit promise.push_front.ended κs)
      → Is w i ring (tray a.0 a.1.0.now) → fn.push_front.Reads.Learnt κs a r e → Ours w (on i (push_front a.1.1.0) (seen (numbered a.0 r) e.1.0.now))
  push_front_ours a r e is learnt = ours_on w i _ _ _ _ refl is learnt.row

  pub pop_back_ours : (a : ArgsD promise.pop_back.signature κs) (r : ResD promise.pop_back.signature κs) (e : AtExit promise.pop_back.ended κs)
      → Is w i ring (tray a.0 a.1.0.now) → fn.pop_back.Reads.Learnt κs a r e → Ours w (on i pop (seen (numbered a.0 r) e.1.0.now))
  pop_back_ours a r e is learnt = ours_on w i _ _ _ _ refl is learnt.row

  pub pop_front_ours : (a : ArgsD promise.pop_front.signature κs) (r : ResD promise.pop_front.signature κs) (e : AtExit promise.pop_front.ended κs)
      → Is w i ring (tray a.0 a.1.0.now) → fn.pop_front.Reads.Learnt κs a r e → Ours w (on i pop_front (seen (numbered a.0 r) e.1.0.now))
  pop_front_ours a r e is learnt = ours_on w i _ _ _ _ refl is learnt.row

  pub insert_ours : (a : ArgsD promise.insert.signature κs) (r : ResD promise.insert.signature κs) (e : AtExit promise.insert.ended κs)
      → Is w i ring (tray a.0 a.1.0.now) → fn.insert.Reads.Learnt κs a r e → Ours w (on i (insert a.1.1.0 a.1.1.1.0) (seen (numbered a.0 r) e.1.0.now))
  insert_ours a r e is learnt = ours_on w i _ _ _ _ refl is learnt.row

  pub remove_ours : (a : ArgsD promise.remove.signature κs) (r : ResD promise.remove.signature κs) (e : AtExit promise.remove.ended κs)
      → Is w i ring (tray a.0 a.1.0.now) → fn.remove.Reads.Learnt κs a r e → Ours w (on i (remove a.1.1.0) (seen (numbered a.0 r) e.1.0.now))
  remove_ours a r e is learnt = ours_on w i _ _ _ _ refl is learnt.row

  pub insert_within_ours : (a : ArgsD promise.insert_within.signature κs) (r : ResD promise.insert_within.signature κs) (e : AtExit promise.insert_within.ended κs)
      → Is w i ring (tray a.0 a.1.0.now) → fn.insert_within.Reads.Learnt κs a r e
      → Ours w (called i (promise_within a.1.1.1.1.0 (insert a.1.1.0 a.1.1.1.0)) (seen (numbered a.0 r) e.1.0.now))
  insert_within_ours a r e is learnt = ours_within w i _ _ _ _ _ refl is learnt.row

  pub remove_within_ours : (a : ArgsD promise.remove_within.signature κs) (r : ResD promise.remove_within.signature κs) (e : AtExit promise.remove_within.ended κs)
      → Is w i ring (tray a.0 a.1.0.now) → fn.remove_within.Reads.Learnt κs a r e
      → Ours w (called i (promise_within a.1.1.1.0 (remove a.1.1.0)) (seen (numbered a.0 r) e.1.0.now))
  remove_within_ours a r e is learnt = ours_within w i _ _ _ _ _ refl is learnt.row

  pub truncate_ours : (a : ArgsD promise.truncate.signature κs) (r : ResD promise.truncate.signature κs) (e : AtExit promise.truncate.ended κs)
      → Is w i ring (tray a.0 a.1.0.now) → fn.truncate.Reads.Learnt κs a r e → Ours w (on i (truncate a.1.1.0) (seen (numbered a.0 r) e.1.0.now))
  truncate_ours a r e is learnt = ours_on w i _ _ _ _ refl is learnt.row

  pub resize_ours : (a : ArgsD promise.resize.signature κs) (r : ResD promise.resize.signature κs) (e : AtExit promise.resize.ended κs)
      → Is w i ring (tray a.0 a.1.0.now) → fn.resize.Reads.Learnt κs a r e → Ours w (on i (resize a.1.1.0 a.1.1.1.0) (seen (numbered a.0 r) e.1.0.now))
  resize_ours a r e is learnt = ours_on w i _ _ _ _ refl is learnt.row

  pub clear_ours : (a : ArgsD promise.clear.signature κs) (r : ResD promise.clear.signature κs) (e : AtExit promise.clear.ended κs)
      → Is w i ring (tray a.0 a.1.0.now) → fn.clear.Reads.Learnt κs a r e → Ours w (on i clear (seen (numbered a.0 r) e.1.0.now))
  clear_ours a r e is learnt = ours_on w i _ _ _ _ refl is learnt.row
