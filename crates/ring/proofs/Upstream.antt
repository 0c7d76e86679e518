-- Upstream's clauses of `vecdeque.rs`, each from the generated contract of its function, `Learnt`: what a caller knows of a call. One line each, by the
-- table's law of the call.
use Prim.Native.Nat.{ℕ, ◌-◌, ◌≤◌, ◌<◌}
use mathlib.Core.Path.{◌≡◌}
use mathlib.Core.Bool.{false}
use mathlib.Core.List.{List, [], ◌∷◌, ◌++◌}
use lib.ListN.{length, get_or, take, drop}
use contract.Lifetimes.{Lfts}
use denote.Ref.{Bor}
use denote.MutBor.{MutBor}
use denote.Triple.Clauses.{AtExit}
use Rattle.slots.specs.Lists.{update, insert_at, remove_at}
use Rattle.slots.specs.Layout.{ring}
use Rattle.table.specs.Tray.{list, invalid}
use Rattle.table.specs.Answers.{numbered}
use Rattle.table.specs.Calls.{pop, pop_front, remove}
use Rattle.table.proofs.Theorems.Upstream as law
use Rattle.table.proofs.Theorems.Upstream.{IfInside, IfSome, IfFree, IfRoom, IfHolds, IfInserts}
use Rattle.ring.specs.declared.Ring.{Ring}
use Rattle.ring.specs.Seen.{tray, Answered, bare_ring}
use Rattle.ring.proofs.Ring as fn
use Rattle.ring.specs.contracts.Ring as promise

-- upstream's `v@`: the list of this ring in these slots
abbrev pub view : Ring → List ℕ → List ℕ
view v s = list ring (tray v s)

-- as upstream's always are
abbrev pub Valid : Ring → List ℕ → Type 0
Valid v s = invalid ring (tray v s) ≡ false

-- In what follows v is the ring and s its slots, r is the result, and e the arguments as they are at the return, so that `e.1.0` are the slots then.
module _ (κs : Lfts 1) (s : Bor (List ℕ)) (r : Answered) (e : AtExit promise.new.ended κs) (learnt : fn.new.Reads.Learnt κs (s, tt) r e) where
  pub new_list : view (numbered bare_ring r).state s.now ≡ []
  new_list = law.new_list ring _ _ learnt.row

  pub new_answers : length s.now ≤ 4096 → (numbered bare_ring r).number ≡ 0
  new_answers few = law.new_answers ring _ _ few learnt.row

module _ (κs : Lfts 1) (s : Bor (List ℕ)) (k : ℕ) (r : Answered) (e : AtExit promise.with_capacity.ended κs) (learnt : fn.with_capacity.Reads.Learnt κs (s, (k, tt)) r e) where
  pub with_capacity_list : view (numbered bare_ring r).state s.now ≡ []
  with_capacity_list = law.with_capacity_list ring _ _ _ learnt.row

  pub with_capacity_answers : length s.now ≤ 4096 → IfHolds (numbered bare_ring r).number (length s.now) k
  with_capacity_answers few = law.with_capacity_answers ring _ _ few _ learnt.row

module _ (κs : Lfts 1) (v : Ring) (s : Bor (List ℕ)) (r : Answered) (e : AtExit promise.len.ended κs) (learnt : fn.len.Reads.Learnt κs (v, (s, tt)) r e) where
  pub len_value : Valid v s.now → (numbered v r).value ≡ length (view v s.now)
  len_value ok = law.len_value ring _ _ ok learnt.row

  pub len_answers : Valid v s.now → (numbered v r).number ≡ 0
  len_answers ok = law.len_answers ring _ _ ok learnt.row

module _ (κs : Lfts 1) (v : Ring) (s : Bor (List ℕ)) (i : ℕ) (r : Answered) (e : AtExit promise.read.ended κs) (learnt : fn.read.Reads.Learnt κs (v, (s, (i, tt))) r e) where
  pub read_value : (numbered v r).number ≡ 0 → (numbered v r).value ≡ get_or (view v s.now) i 0
  read_value = law.read_value ring _ _ _ learnt.row

  pub read_answers : Valid v s.now → IfInside (numbered v r).number (length (view v s.now)) i
  read_answers ok = law.read_answers ring _ _ ok _ learnt.row

module _ (κs : Lfts 1) (v : Ring) (s : Bor (List ℕ)) (k : ℕ) (r : Answered) (e : AtExit promise.reserve.ended κs) (learnt : fn.reserve.Reads.Learnt κs (v, (s, (k, tt))) r e) where
  pub reserve_list : view (numbered v r).state s.now ≡ view v s.now
  reserve_list = law.look_list ring _ _ _ learnt.row

  pub reserve_answers : Valid v s.now → IfRoom (numbered v r).number (length s.now) (length (view v s.now)) k
  reserve_answers ok = law.reserve_answers ring _ _ ok _ learnt.row

module _ (κs : Lfts 1) (v : Ring) (s : MutBor (List ℕ)) (i x : ℕ) (r : Answered) (e : AtExit promise.write.ended κs) (learnt : fn.write.Reads.Learnt κs (v, (s, (i, (x, tt)))) r e) where
  pub write_value : (numbered v r).number ≡ 0 → (numbered v r).value ≡ get_or (view v s.now) i 0
  write_value = law.write_value ring _ _ _ _ learnt.row

  pub write_list : (numbered v r).number ≡ 0 → view (numbered v r).state e.1.0.now ≡ update (view v s.now) i x
  write_list = law.write_list ring _ _ _ _ learnt.row

  pub write_answers : Valid v s.now → IfInside (numbered v r).number (length (view v s.now)) i
  write_answers ok = law.write_answers ring _ _ ok _ _ learnt.row

module _ (κs : Lfts 1) (v : Ring) (s : MutBor (List ℕ)) (x : ℕ) (r : Answered) (e : AtExit promise.push_back.ended κs) (learnt : fn.push_back.Reads.Learnt κs (v, (s, (x, tt))) r e) where
  pub push_back_list : (numbered v r).number ≡ 0 → view (numbered v r).state e.1.0.now ≡ view v s.now ++ (x ∷ [])
  push_back_list = law.push_list ring _ _ _ learnt.row

  pub push_back_answers : Valid v s.now → IfFree (numbered v r).number (length s.now) (length (view v s.now))
  push_back_answers ok = law.push_answers ring _ _ ok _ learnt.row

module _ (κs : Lfts 1) (v : Ring) (s : MutBor (List ℕ)) (x : ℕ) (r : Answered) (e : AtExit promise.push_front.ended κs) (learnt : fn.push_front.Reads.Learnt κs (v, (s, (x, tt))) r e) where
  pub push_front_list : (numbered v r).number ≡ 0 → view (numbered v r).state e.1.0.now ≡ (x ∷ []) ++ view v s.now
  push_front_list = law.push_front_list ring _ _ _ learnt.row

  pub push_front_answers : Valid v s.now → IfFree (numbered v r).number (length s.now) (length (view v s.now))
  push_front_answers ok = law.push_front_answers ring _ _ ok _ learnt.row

module _ (κs : Lfts 1) (v : Ring) (s : MutBor (List ℕ)) (r : Answered) (e : AtExit promise.pop_back.ended κs) (learnt : fn.pop_back.Reads.Learnt κs (v, (s, tt)) r e) where
  pub pop_back_answers : Valid v s.now → IfSome (numbered v r).number (length (view v s.now))
  pop_back_answers ok = law.pop_answers ring _ _ ok learnt.row

  pub pop_back_value : (numbered v r).number ≡ 0 → (numbered v r).value ≡ get_or (view v s.now) (length (view v s.now) - 1) 0
  pop_back_value = law.pop_value ring _ _ learnt.row

  pub pop_back_list : (numbered v r).number ≡ 0 → view (numbered v r).state e.1.0.now ≡ take (length (view v s.now) - 1) (view v s.now)
  pop_back_list = law.pop_list ring _ _ learnt.row

  pub pop_back_none : (numbered v r).number ≡ 4 → view (numbered v r).state e.1.0.now ≡ view v s.now
  pop_back_none = law.refused_list ring pop _ _ learnt.row 3

module _ (κs : Lfts 1) (v : Ring) (s : MutBor (List ℕ)) (r : Answered) (e : AtExit promise.pop_front.ended κs) (learnt : fn.pop_front.Reads.Learnt κs (v, (s, tt)) r e) where
  pub pop_front_answers : Valid v s.now → IfSome (numbered v r).number (length (view v s.now))
  pop_front_answers ok = law.pop_front_answers ring _ _ ok learnt.row

  pub pop_front_value : (numbered v r).number ≡ 0 → (numbered v r).value ≡ get_or (view v s.now) 0 0
  pop_front_value = law.pop_front_value ring _ _ learnt.row

  pub pop_front_list : (numbered v r).number ≡ 0 → view (numbered v r).state e.1.0.now ≡ drop 1 (view v s.now)
  pop_front_list = law.pop_front_list ring _ _ learnt.row

  pub pop_front_none : (numbered v r).number ≡ 4 → view (numbered v r).state e.1.0.now ≡ view v s.now
  pop_front_none = law.refused_list ring pop_front _ _ learnt.row 3

module _ (κs : Lfts 1) (v : Ring) (s : MutBor (List ℕ)) (i x : ℕ) (r : Answered) (e : AtExit promise.insert.ended κs) (learnt : fn.insert.Reads.Learnt κs (v, (s, (i, (x, tt)))) r e) where
  pub insert_list : (numbered v r).number ≡ 0 → view (numbered v r).state e.1.0.now ≡ insert_at (view v s.now) i x
  insert_list = law.insert_list ring _ _ _ _ learnt.row

  pub insert_answers : Valid v s.now → IfInserts (numbered v r).number (length s.now) (length (view v s.now)) i
  insert_answers ok = law.insert_answers ring _ _ ok _ _ learnt.row

module _ (κs : Lfts 1) (v : Ring) (s : MutBor (List ℕ)) (i : ℕ) (r : Answered) (e : AtExit promise.remove.ended κs) (learnt : fn.remove.Reads.Learnt κs (v, (s, (i, tt))) r e) where
  pub remove_answers : Valid v s.now → IfInside (numbered v r).number (length (view v s.now)) i
  remove_answers ok = law.remove_answers ring _ _ ok _ learnt.row

  pub remove_value : (numbered v r).number ≡ 0 → (numbered v r).value ≡ get_or (view v s.now) i 0
  remove_value = law.remove_value ring _ _ _ learnt.row

  pub remove_list : (numbered v r).number ≡ 0 → view (numbered v r).state e.1.0.now ≡ remove_at (view v s.now) i
  remove_list = law.remove_list ring _ _ _ learnt.row

  pub remove_none : (numbered v r).number ≡ 3 → view (numbered v r).state e.1.0.now ≡ view v s.now
  remove_none = law.refused_list ring (remove i) _ _ learnt.row 2

module _ (κs : Lfts 1) (v : Ring) (s : MutBor (List ℕ)) (r : Answered) (e : AtExit promise.clear.ended κs) (learnt : fn.clear.Reads.Learnt κs (v, (s, tt)) r e) where
  pub clear_list : Valid v s.now → view (numbered v r).state e.1.0.now ≡ []
  clear_list ok = law.clear_list ring _ _ ok learnt.row

  pub clear_answers : Valid v s.now → (numbered v r).number ≡ 0
  clear_answers ok = law.clear_answers ring _ _ ok learnt.row

module _ (κs : Lfts 1) (v : Ring) (s : MutBor (List ℕ)) (k : ℕ) (r : Answered) (e : AtExit promise.truncate.ended κs) (learnt : fn.truncate.Reads.Learnt κs (v, (s, (k, tt))) r e) where
  pub truncate_list : Valid v s.now → view (numbered v r).state e.1.0.now ≡ take k (view v s.now)
  truncate_list ok = law.truncate_list ring _ _ ok _ learnt.row

  pub truncate_same : Valid v s.now → length (view v s.now) < k → view (numbered v r).state e.1.0.now ≡ view v s.now
  truncate_same ok = law.truncate_same ring _ _ ok _ learnt.row

  pub truncate_answers : Valid v s.now → (numbered v r).number ≡ 0
  truncate_answers ok = law.truncate_answers ring _ _ ok _ learnt.row

module _ (κs : Lfts 1) (v : Ring) (s : MutBor (List ℕ)) (k x : ℕ) (r : Answered) (e : AtExit promise.resize.ended κs) (learnt : fn.resize.Reads.Learnt κs (v, (s, (k, (x, tt)))) r e) where
  pub resize_list : Valid v s.now → k ≤ length (view v s.now) → view (numbered v r).state e.1.0.now ≡ take k (view v s.now)
  resize_list ok = law.resize_list ring _ _ ok _ _ learnt.row

  pub resize_length : (numbered v r).number ≡ 0 → length (view (numbered v r).state e.1.0.now) ≡ k
  resize_length = law.resize_length ring _ _ _ _ learnt.row

  pub resize_kept : (numbered v r).number ≡ 0 → length (view v s.now) < k → take (length (view v s.now)) (view (numbered v r).state e.1.0.now) ≡ view v s.now
  resize_kept = law.resize_kept ring _ _ _ _ learnt.row

  pub resize_filled : (numbered v r).number ≡ 0 → (i : ℕ) → length (view v s.now) ≤ i → i < k → get_or (view (numbered v r).state e.1.0.now) i 0 ≡ x
  resize_filled = law.resize_filled ring _ _ _ _ learnt.row

  pub resize_answers : Valid v s.now → IfHolds (numbered v r).number (length s.now) k
  resize_answers ok = law.resize_answers ring _ _ ok _ _ learnt.row
