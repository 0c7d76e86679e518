-- Request 07 from the generated contracts: the moves that `insert` and `remove` report are the least possible. They are the count with the head that the
-- call leaves, and no head, and no layout in ring order, makes fewer of the remaining entries change their slot.
use Prim.Native.Nat.{ℕ, ◌≤◌}
use mathlib.Core.Path.{◌≡◌, refl}
use mathlib.Core.Bool.{true}
use mathlib.Core.List.{List}
use lib.ListN.{length}
use contract.Lifetimes.{Lfts}
use denote.MutBor.{MutBor}
use denote.Triple.Clauses.{AtExit}
use Rattle.slots.specs.Layout.{ring, place}
use Rattle.slots.specs.Moves.{moved, inserted, removed}
use Rattle.table.specs.Answers.{numbered}
use Rattle.table.specs.Calls.{Call, insert, remove, has}
use Rattle.table.proofs.Theorems.Best.{Least, best}
use Rattle.table.proofs.Theorems.BestLayout.{RingOrder, best_laid}
use Rattle.ring.specs.declared.Ring.{Ring}
use Rattle.ring.specs.Seen.{tray, seen, Meets, Answered}
use Rattle.ring.proofs.Ring as fn
use Rattle.ring.specs.contracts.Ring as promise

-- whichever call of a ring it was
pub call_least : (call : Call) (v : Ring) (s z : List ℕ) (a : Answered) → Meets call v s a z → has call ring ≡ true → (numbered v a).number ≡ 0
    → Least call (tray v s) (seen (numbered v a) z)
call_least call v s z a meets of done = best call (tray v s) (seen (numbered v a) z) meets.row of done

-- In what follows v is the ring and s its slots, r is the result, and e the arguments as they are at the return, so that `e.1.0` are the slots then.
module _ (κs : Lfts 1) (v : Ring) (s : MutBor (List ℕ)) (i x : ℕ) (r : Answered) (e : AtExit promise.insert.ended κs)
    (learnt : fn.insert.Reads.Learnt κs (v, (s, (i, (x, tt)))) r e) (done : (numbered v r).number ≡ 0) where
  pub insert_least : Least (insert i x) (tray v s.now) (seen (numbered v r) e.1.0.now)
  insert_least = call_least _ _ _ _ _ learnt refl done

  pub insert_laid : (lay : ℕ → ℕ) → RingOrder (length s.now) (numbered v r).state.len lay
      → (numbered v r).moves ≤ moved (place ring (length s.now) v.head) lay (inserted i) v.len
  insert_laid = best_laid _ _ _ learnt.row refl done

module _ (κs : Lfts 1) (v : Ring) (s : MutBor (List ℕ)) (i : ℕ) (r : Answered) (e : AtExit promise.remove.ended κs)
    (learnt : fn.remove.Reads.Learnt κs (v, (s, (i, tt))) r e) (done : (numbered v r).number ≡ 0) where
  pub remove_least : Least (remove i) (tray v s.now) (seen (numbered v r) e.1.0.now)
  remove_least = call_least _ _ _ _ _ learnt refl done

  pub remove_laid : (lay : ℕ → ℕ) → RingOrder (length s.now) (numbered v r).state.len lay
      → (numbered v r).moves ≤ moved (place ring (length s.now) v.head) lay (removed i) v.len
  remove_laid = best_laid _ _ _ learnt.row refl done
