-- Upstream's clauses of `vec.rs` on one vector, each from the generated contract of its function, `Learnt`: what a caller knows of a call. One line
-- each, by the table's law of the call; the parts are in `UpstreamParts`.
use Prim.Native.Nat.{ℕ, ◌+◌, ◌-◌, ◌≤◌, ◌<◌}
use mathlib.Core.Path.{◌≡◌}
use mathlib.Core.Bool.{false}
use mathlib.Core.List.{List, [], ◌∷◌, ◌++◌}
use mathlib.Core.Logic.{◌⊎◌}
use lib.ListN.{length, get_or, take}
use contract.Lifetimes.{Lfts}
use denote.Ref.{Bor}
use denote.MutBor.{MutBor}
use denote.Triple.Clauses.{AtExit}
use Rattle.std.proofs.Common.{Result}
use Rattle.table.specs.Answers.{numbered}
use Rattle.table.specs.declared.answers.Answer.{Answer}
use Rattle.table.specs.declared.answers.Refusal.{Refusal}
use Rattle.slots.specs.Lists.{update, insert_at, remove_at}
use Rattle.slots.specs.Layout.{vector}
use Rattle.table.specs.Tray.{list, invalid}
use Rattle.table.specs.Numbers.{Astray}
use Rattle.table.proofs.Theorems.Upstream as law
use Rattle.table.proofs.Theorems.Upstream.{Says, IfInside, IfSome, IfFree, IfRoom, IfHolds, IfInserts}
use Rattle.vector.specs.declared.Vector.{Vector}
use Rattle.vector.specs.Seen.{tray, none}
use Rattle.vector.proofs.Vector as fn
use Rattle.vector.specs.contracts.Vector as promise

-- upstream's `vec@`: the list of this vector in these slots
abbrev pub view : Vector → List ℕ → List ℕ
view v s = list vector (tray v s)

-- as upstream's always are
abbrev pub Valid : Vector → List ℕ → Type 0
Valid v s = invalid vector (tray v s) ≡ false

-- In what follows v is the vector and s its slots, r is the result, and e the arguments as they are at the return, so that `e.1.0` are the slots then.
module _ (κs : Lfts 1) (s : Bor (List ℕ)) (r : Result (Answer Vector) Refusal) (e : AtExit promise.new.ended κs) (learnt : fn.new.Reads.Learnt κs (s, tt) r e) where
  pub new_list : view (numbered none r).state s.now ≡ []
  new_list = law.new_list vector _ _ learnt.row

  pub new_answers : length s.now ≤ 4096 → (numbered none r).number ≡ 0
  new_answers few = law.new_answers vector _ _ few learnt.row

module _ (κs : Lfts 1) (s : Bor (List ℕ)) (k : ℕ) (r : Result (Answer Vector) Refusal) (e : AtExit promise.with_capacity.ended κs) (learnt : fn.with_capacity.Reads.Learnt κs (s, (k, tt)) r e) where
  pub with_capacity_list : view (numbered none r).state s.now ≡ []
  with_capacity_list = law.with_capacity_list vector _ _ _ learnt.row

  pub with_capacity_answers : length s.now ≤ 4096 → IfHolds (numbered none r).number (length s.now) k
  with_capacity_answers few = law.with_capacity_answers vector _ _ few _ learnt.row

module _ (κs : Lfts 1) (s : MutBor (List ℕ)) (k x : ℕ) (r : Result (Answer Vector) Refusal) (e : AtExit promise.from_elem.ended κs) (learnt : fn.from_elem.Reads.Learnt κs (s, (k, (x, tt))) r e) where
  pub from_elem_length : (numbered none r).number ≡ 0 → length (view (numbered none r).state e.0.now) ≡ k
  from_elem_length = law.from_elem_length vector _ _ _ _ learnt.row

  pub from_elem_entry : (numbered none r).number ≡ 0 → (i : ℕ) → i < k → get_or (view (numbered none r).state e.0.now) i 0 ≡ x
  from_elem_entry = law.from_elem_entry vector _ _ _ _ learnt.row

  pub from_elem_answers : length s.now ≤ 4096 → IfHolds (numbered none r).number (length s.now) k
  from_elem_answers few = law.from_elem_answers vector _ _ few _ _ learnt.row

module _ (κs : Lfts 1) (v : Vector) (s : Bor (List ℕ)) (r : Result (Answer Vector) Refusal) (e : AtExit promise.len.ended κs) (learnt : fn.len.Reads.Learnt κs (v, (s, tt)) r e) where
  pub len_value : Valid v s.now → (numbered v r).value ≡ length (view v s.now)
  len_value ok = law.len_value vector _ _ ok learnt.row

  pub len_answers : Valid v s.now → (numbered v r).number ≡ 0
  len_answers ok = law.len_answers vector _ _ ok learnt.row

module _ (κs : Lfts 1) (v : Vector) (s : Bor (List ℕ)) (r : Result (Answer Vector) Refusal) (e : AtExit promise.is_empty.ended κs) (learnt : fn.is_empty.Reads.Learnt κs (v, (s, tt)) r e) where
  pub is_empty_value : Valid v s.now → Says (numbered v r).value 0 (0 < length (view v s.now)) ⊎ Says (numbered v r).value 1 (length (view v s.now) ≡ 0)
  is_empty_value ok = law.is_empty_value vector _ _ ok learnt.row

  pub is_empty_answers : Valid v s.now → (numbered v r).number ≡ 0
  is_empty_answers ok = law.is_empty_answers vector _ _ ok learnt.row

module _ (κs : Lfts 1) (v : Vector) (s : Bor (List ℕ)) (i : ℕ) (r : Result (Answer Vector) Refusal) (e : AtExit promise.read.ended κs) (learnt : fn.read.Reads.Learnt κs (v, (s, (i, tt))) r e) where
  pub read_value : (numbered v r).number ≡ 0 → (numbered v r).value ≡ get_or (view v s.now) i 0
  read_value = law.read_value vector _ _ _ learnt.row

  pub read_answers : Valid v s.now → IfInside (numbered v r).number (length (view v s.now)) i
  read_answers ok = law.read_answers vector _ _ ok _ learnt.row

module _ (κs : Lfts 1) (v : Vector) (s : Bor (List ℕ)) (k : ℕ) (r : Result (Answer Vector) Refusal) (e : AtExit promise.reserve.ended κs) (learnt : fn.reserve.Reads.Learnt κs (v, (s, (k, tt))) r e) where
  pub reserve_list : view (numbered v r).state s.now ≡ view v s.now
  reserve_list = law.look_list vector _ _ _ learnt.row

  pub reserve_answers : Valid v s.now → IfRoom (numbered v r).number (length s.now) (length (view v s.now)) k
  reserve_answers ok = law.reserve_answers vector _ _ ok _ learnt.row

module _ (κs : Lfts 1) (v : Vector) (s : Bor (List ℕ)) (k : ℕ) (r : Result (Answer Vector) Refusal) (e : AtExit promise.try_reserve.ended κs) (learnt : fn.try_reserve.Reads.Learnt κs (v, (s, (k, tt))) r e) where
  pub try_reserve_list : view (numbered v r).state s.now ≡ view v s.now
  try_reserve_list = law.look_list vector _ _ _ learnt.row

  pub try_reserve_answers : Valid v s.now → IfRoom (numbered v r).number (length s.now) (length (view v s.now)) k
  try_reserve_answers ok = law.try_reserve_answers vector _ _ ok _ learnt.row

module _ (κs : Lfts 1) (v : Vector) (s : Bor (List ℕ)) (k : ℕ) (r : Result (Answer Vector) Refusal) (e : AtExit promise.try_reserve_exact.ended κs) (learnt : fn.try_reserve_exact.Reads.Learnt κs (v, (s, (k, tt))) r e) where
  pub try_reserve_exact_list : view (numbered v r).state s.now ≡ view v s.now
  try_reserve_exact_list = law.look_list vector _ _ _ learnt.row

  pub try_reserve_exact_answers : Valid v s.now → IfRoom (numbered v r).number (length s.now) (length (view v s.now)) k
  try_reserve_exact_answers ok = law.try_reserve_exact_answers vector _ _ ok _ learnt.row

module _ (κs : Lfts 1) (v : Vector) (s : Bor (List ℕ)) (a b : ℕ) (r : Result (Answer Vector) Refusal) (e : AtExit promise.ask_range.ended κs) (learnt : fn.ask_range.Reads.Learnt κs (v, (s, (a, (b, tt)))) r e) where
  pub ask_range_answers : Valid v s.now → Says (numbered v r).number 0 ((a ≤ b) × (b ≤ length (view v s.now))) ⊎ Says (numbered v r).number 3 (Astray a b (length (view v s.now)))
  ask_range_answers ok = law.range_answers _ _ ok _ _ learnt.row

module _ (κs : Lfts 1) (v : Vector) (s : MutBor (List ℕ)) (i x : ℕ) (r : Result (Answer Vector) Refusal) (e : AtExit promise.write.ended κs) (learnt : fn.write.Reads.Learnt κs (v, (s, (i, (x, tt)))) r e) where
  pub write_value : (numbered v r).number ≡ 0 → (numbered v r).value ≡ get_or (view v s.now) i 0
  write_value = law.write_value vector _ _ _ _ learnt.row

  pub write_list : (numbered v r).number ≡ 0 → view (numbered v r).state e.1.0.now ≡ update (view v s.now) i x
  write_list = law.write_list vector _ _ _ _ learnt.row

  pub write_entry : (numbered v r).number ≡ 0 → get_or (view (numbered v r).state e.1.0.now) i 0 ≡ x
  write_entry = law.write_entry vector _ _ _ _ learnt.row

  pub write_answers : Valid v s.now → IfInside (numbered v r).number (length (view v s.now)) i
  write_answers ok = law.write_answers vector _ _ ok _ _ learnt.row

module _ (κs : Lfts 1) (v : Vector) (s : MutBor (List ℕ)) (x : ℕ) (r : Result (Answer Vector) Refusal) (e : AtExit promise.push.ended κs) (learnt : fn.push.Reads.Learnt κs (v, (s, (x, tt))) r e) where
  pub push_list : (numbered v r).number ≡ 0 → view (numbered v r).state e.1.0.now ≡ view v s.now ++ (x ∷ [])
  push_list = law.push_list vector _ _ _ learnt.row

  pub push_answers : Valid v s.now → IfFree (numbered v r).number (length s.now) (length (view v s.now))
  push_answers ok = law.push_answers vector _ _ ok _ learnt.row

module _ (κs : Lfts 1) (v : Vector) (s : MutBor (List ℕ)) (r : Result (Answer Vector) Refusal) (e : AtExit promise.pop.ended κs) (learnt : fn.pop.Reads.Learnt κs (v, (s, tt)) r e) where
  pub pop_answers : Valid v s.now → IfSome (numbered v r).number (length (view v s.now))
  pop_answers ok = law.pop_answers vector _ _ ok learnt.row

  pub pop_some : Valid v s.now → 0 < length (view v s.now)
      → ((numbered v r).number ≡ 0) × ((numbered v r).value ≡ get_or (view v s.now) (length (view v s.now) - 1) 0) × (view (numbered v r).state e.1.0.now ≡ take (length (view v s.now) - 1) (view v s.now))
  pop_some ok = law.pop_some vector _ _ ok learnt.row

  pub pop_none : Valid v s.now → length (view v s.now) ≡ 0 → ((numbered v r).number ≡ 4) × (view (numbered v r).state e.1.0.now ≡ view v s.now)
  pop_none ok = law.pop_none vector _ _ ok learnt.row

module _ (κs : Lfts 1) (v : Vector) (s : MutBor (List ℕ)) (i x : ℕ) (r : Result (Answer Vector) Refusal) (e : AtExit promise.insert.ended κs) (learnt : fn.insert.Reads.Learnt κs (v, (s, (i, (x, tt)))) r e) where
  pub insert_list : (numbered v r).number ≡ 0 → view (numbered v r).state e.1.0.now ≡ insert_at (view v s.now) i x
  insert_list = law.insert_list vector _ _ _ _ learnt.row

  pub insert_answers : Valid v s.now → IfInserts (numbered v r).number (length s.now) (length (view v s.now)) i
  insert_answers ok = law.insert_answers vector _ _ ok _ _ learnt.row

module _ (κs : Lfts 1) (v : Vector) (s : MutBor (List ℕ)) (i : ℕ) (r : Result (Answer Vector) Refusal) (e : AtExit promise.remove.ended κs) (learnt : fn.remove.Reads.Learnt κs (v, (s, (i, tt))) r e) where
  pub remove_value : (numbered v r).number ≡ 0 → (numbered v r).value ≡ get_or (view v s.now) i 0
  remove_value = law.remove_value vector _ _ _ learnt.row

  pub remove_list : (numbered v r).number ≡ 0 → view (numbered v r).state e.1.0.now ≡ remove_at (view v s.now) i
  remove_list = law.remove_list vector _ _ _ learnt.row

  pub remove_answers : Valid v s.now → IfInside (numbered v r).number (length (view v s.now)) i
  remove_answers ok = law.remove_answers vector _ _ ok _ learnt.row

module _ (κs : Lfts 1) (v : Vector) (s : MutBor (List ℕ)) (i : ℕ) (r : Result (Answer Vector) Refusal) (e : AtExit promise.swap_remove.ended κs) (learnt : fn.swap_remove.Reads.Learnt κs (v, (s, (i, tt))) r e) where
  pub swap_remove_value : (numbered v r).number ≡ 0 → (numbered v r).value ≡ get_or (view v s.now) i 0
  swap_remove_value = law.swap_remove_value vector _ _ _ learnt.row

  pub swap_remove_list : (numbered v r).number ≡ 0 → view (numbered v r).state e.1.0.now ≡ take (length (view v s.now) - 1) (update (view v s.now) i (get_or (view v s.now) (length (view v s.now) - 1) 0))
  swap_remove_list = law.swap_remove_list vector _ _ _ learnt.row

  pub swap_remove_answers : Valid v s.now → IfInside (numbered v r).number (length (view v s.now)) i
  swap_remove_answers ok = law.swap_remove_answers vector _ _ ok _ learnt.row

module _ (κs : Lfts 1) (v : Vector) (s : MutBor (List ℕ)) (k : ℕ) (r : Result (Answer Vector) Refusal) (e : AtExit promise.truncate.ended κs) (learnt : fn.truncate.Reads.Learnt κs (v, (s, (k, tt))) r e) where
  pub truncate_list : Valid v s.now → view (numbered v r).state e.1.0.now ≡ take k (view v s.now)
  truncate_list ok = law.truncate_list vector _ _ ok _ learnt.row

  pub truncate_same : Valid v s.now → length (view v s.now) < k → view (numbered v r).state e.1.0.now ≡ view v s.now
  truncate_same ok = law.truncate_same vector _ _ ok _ learnt.row

  pub truncate_answers : Valid v s.now → (numbered v r).number ≡ 0
  truncate_answers ok = law.truncate_answers vector _ _ ok _ learnt.row

module _ (κs : Lfts 1) (v : Vector) (s : MutBor (List ℕ)) (k x : ℕ) (r : Result (Answer Vector) Refusal) (e : AtExit promise.resize.ended κs) (learnt : fn.resize.Reads.Learnt κs (v, (s, (k, (x, tt)))) r e) where
  pub resize_list : Valid v s.now → k ≤ length (view v s.now) → view (numbered v r).state e.1.0.now ≡ take k (view v s.now)
  resize_list ok = law.resize_list vector _ _ ok _ _ learnt.row

  pub resize_length : (numbered v r).number ≡ 0 → length (view (numbered v r).state e.1.0.now) ≡ k
  resize_length = law.resize_length vector _ _ _ _ learnt.row

  pub resize_kept : (numbered v r).number ≡ 0 → length (view v s.now) < k → take (length (view v s.now)) (view (numbered v r).state e.1.0.now) ≡ view v s.now
  resize_kept = law.resize_kept vector _ _ _ _ learnt.row

  pub resize_filled : (numbered v r).number ≡ 0 → (i : ℕ) → length (view v s.now) ≤ i → i < k → get_or (view (numbered v r).state e.1.0.now) i 0 ≡ x
  resize_filled = law.resize_filled vector _ _ _ _ learnt.row

  pub resize_answers : Valid v s.now → IfHolds (numbered v r).number (length s.now) k
  resize_answers ok = law.resize_answers vector _ _ ok _ _ learnt.row

module _ (κs : Lfts 1) (v : Vector) (s : MutBor (List ℕ)) (r : Result (Answer Vector) Refusal) (e : AtExit promise.clear.ended κs) (learnt : fn.clear.Reads.Learnt κs (v, (s, tt)) r e) where
  pub clear_list : Valid v s.now → view (numbered v r).state e.1.0.now ≡ []
  clear_list ok = law.clear_list vector _ _ ok learnt.row

  pub clear_answers : Valid v s.now → (numbered v r).number ≡ 0
  clear_answers ok = law.clear_answers vector _ _ ok learnt.row

module _ (κs : Lfts 2) (v : Vector) (s : MutBor (List ℕ)) (more : Bor (List ℕ)) (r : Result (Answer Vector) Refusal) (e : AtExit promise.extend_from_slice.ended κs) (learnt : fn.extend_from_slice.Reads.Learnt κs (v, (s, (more, tt))) r e) where
  pub extend_from_slice_length : (numbered v r).number ≡ 0 → length (view (numbered v r).state e.1.0.now) ≡ length (view v s.now) + length more.now
  extend_from_slice_length = law.extend_length vector _ _ _ learnt.row

  pub extend_from_slice_kept : (numbered v r).number ≡ 0 → (i : ℕ) → i < length (view v s.now) → get_or (view (numbered v r).state e.1.0.now) i 0 ≡ get_or (view v s.now) i 0
  extend_from_slice_kept = law.extend_kept vector _ _ _ learnt.row

  pub extend_from_slice_added : (numbered v r).number ≡ 0 → (i : ℕ) → length (view v s.now) ≤ i → get_or (view (numbered v r).state e.1.0.now) i 0 ≡ get_or more.now (i - length (view v s.now)) 0
  extend_from_slice_added = law.extend_added vector _ _ _ learnt.row

  pub extend_from_slice_answers : Valid v s.now → IfRoom (numbered v r).number (length s.now) (length (view v s.now)) (length more.now)
  extend_from_slice_answers ok = law.extend_answers vector _ _ ok _ learnt.row
