-- Each call of this crate is an event of demand 3, whichever kind of container it walks over: what a caller learns of it is what `Ours` asks.
use Prim.Native.Nat.{ℕ}
use mathlib.Core.Path.{refl}
use mir.Syntax.{Dict}
use denote.RattleType.{RattleType}
use denote.Param.Laws.{Laws, IsCopy}
use contract.Lifetimes.{Lfts}
use denote.Triple.Clauses.{AtExit}
use borrow.Fn.World.{ArgsD, ResD}
use Rattle.std.specs.declared.clone.Clone
use Rattle.slots.specs.Layout.{vector}
use Rattle.table.specs.Calls.{look, iter, into_iter, step_front, step_back, peek_front, peek_back, from_iter}
use Rattle.table.specs.World.{World, on, on_two, Ours}
use Rattle.table.specs.Answers.{numbered}
use Rattle.table.proofs.Laws.Named.{Is, Are, ours_on, ours_on_two}
use Rattle.vector.specs.Seen.{tray}
use Rattle.containers.specs.Reading.{tray_by}
use Rattle.containers.specs.declared.Container
use Rattle.cursors.specs.Seen.{cursor, none, seen, seen_into}
use Rattle.cursors.proofs.Cursor as fn
use Rattle.cursors.specs.contracts.Cursor as promise

-- T is the type of the container, and C how its states are read; the rest is what a generated contract is stated over beside them. In what follows a are the
-- arguments, r is the result, and e the arguments as they are at the return.
module _ (T : RattleType) (L : Laws T) (K : IsCopy T) (C : Container.Ghosts T.Denot) (D : Dict) (H : Clone.Ghosts T.Denot) (E : Dict) (w : World) (i : ℕ) where
  module _ (κs : Lfts 2) where
    pub iter_ours : (a : ArgsD (promise.iter.signature T) κs) (r : ResD (promise.iter.signature T) κs) (e : AtExit (promise.iter.ended T C D H E) κs)
        → Is w i C.reads.kind (tray_by C.reads a.0 a.1.0.now) → fn.iter.Reads.Learnt T L K C D H E κs a r e
        → Ours w (on i (look iter) (seen (numbered none r) (tray_by C.reads a.0 a.1.0.now)))
    iter_ours a r e is learnt = ours_on w i _ _ _ _ refl is learnt.row

    pub into_iter_ours : (a : ArgsD (promise.into_iter.signature T) κs) (r : ResD (promise.into_iter.signature T) κs) (e : AtExit (promise.into_iter.ended T C D H E) κs)
        → Is w i C.reads.kind (tray_by C.reads a.0 a.1.0.now) → fn.into_iter.Reads.Learnt T L K C D H E κs a r e
        → Ours w (on i (look into_iter) (seen (numbered none r) (tray_by C.reads a.0 a.1.0.now)))
    into_iter_ours a r e is learnt = ours_on w i _ _ _ _ refl is learnt.row

    pub step_front_ours : (a : ArgsD (promise.step_front.signature T) κs) (r : ResD (promise.step_front.signature T) κs)
        (e : AtExit (promise.step_front.ended T C D H E) κs)
        → Is w i C.reads.kind (tray_by C.reads a.1.0 a.1.1.0.now) → fn.step_front.Reads.Learnt T L K C D H E κs a r e
        → Ours w (on i (look (step_front (cursor a.0))) (seen (numbered a.0 r) (tray_by C.reads a.1.0 a.1.1.0.now)))
    step_front_ours a r e is learnt = ours_on w i _ _ _ _ refl is learnt.row

    pub step_back_ours : (a : ArgsD (promise.step_back.signature T) κs) (r : ResD (promise.step_back.signature T) κs)
        (e : AtExit (promise.step_back.ended T C D H E) κs)
        → Is w i C.reads.kind (tray_by C.reads a.1.0 a.1.1.0.now) → fn.step_back.Reads.Learnt T L K C D H E κs a r e
        → Ours w (on i (look (step_back (cursor a.0))) (seen (numbered a.0 r) (tray_by C.reads a.1.0 a.1.1.0.now)))
    step_back_ours a r e is learnt = ours_on w i _ _ _ _ refl is learnt.row

    pub peek_front_ours : (a : ArgsD (promise.peek_front.signature T) κs) (r : ResD (promise.peek_front.signature T) κs) (e : AtExit (promise.peek_front.ended T C D H E) κs)
        → Is w i C.reads.kind (tray_by C.reads a.1.0 a.1.1.0.now) → fn.peek_front.Reads.Learnt T L K C D H E κs a r e
        → Ours w (on i (look (peek_front (cursor a.0) a.1.1.1.0)) (seen (numbered a.0 r) (tray_by C.reads a.1.0 a.1.1.0.now)))
    peek_front_ours a r e is learnt = ours_on w i _ _ _ _ refl is learnt.row

    pub peek_back_ours : (a : ArgsD (promise.peek_back.signature T) κs) (r : ResD (promise.peek_back.signature T) κs) (e : AtExit (promise.peek_back.ended T C D H E) κs)
        → Is w i C.reads.kind (tray_by C.reads a.1.0 a.1.1.0.now) → fn.peek_back.Reads.Learnt T L K C D H E κs a r e
        → Ours w (on i (look (peek_back (cursor a.0) a.1.1.1.0)) (seen (numbered a.0 r) (tray_by C.reads a.1.0 a.1.1.0.now)))
    peek_back_ours a r e is learnt = ours_on w i _ _ _ _ refl is learnt.row

  module _ (j : ℕ) (κs : Lfts 3) where
    pub from_iter_ours : (a : ArgsD (promise.from_iter.signature T) κs) (r : ResD (promise.from_iter.signature T) κs) (e : AtExit (promise.from_iter.ended T C D H E) κs)
        → Are w i j C.reads.kind vector (tray_by C.reads a.1.0 a.1.1.0.now) (tray a.1.1.1.0 a.1.1.1.1.0.now) → fn.from_iter.Reads.Learnt T L K C D H E κs a r e
        → Ours w (on_two i j (from_iter (cursor a.0))
        (seen_into (numbered (record { first = a.0; second = a.1.1.1.0 }) r) (tray_by C.reads a.1.0 a.1.1.0.now) e.1.1.1.1.0.now))
    from_iter_ours a r e are learnt = ours_on_two w i j _ _ _ _ _ _ refl are learnt.row
