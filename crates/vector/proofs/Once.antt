-- Each promise of this crate leaves one result: two that both meet it, with the slots as each leaves them, are the same.
use Prim.Native.Nat.{ℕ}
use mathlib.Core.Path.{◌≡◌, refl, sym, ◌∙◌}
use mathlib.Core.List.{List}
use Rattle.std.proofs.Common.{Result}
use contract.Lifetimes.{Lfts}
use Rattle.slots.proofs.Twice.{Twice}
use Rattle.table.specs.Calls.{Call, Making}
use Rattle.table.specs.Does.{Outcome}
use Rattle.table.specs.Answers.{numbered}
use Rattle.table.specs.declared.answers.Answer.{Answer}
use Rattle.table.specs.declared.answers.Numbered.{Numbered}
use Rattle.table.specs.declared.answers.Refusal.{Refusal}
use Rattle.table.proofs.Laws.Numbered.{same_answer}
use Rattle.table.proofs.Theorems.Unique.{one_answer}
use Rattle.vector.specs.declared.Vector.{Vector}
use Rattle.vector.specs.Seen.{seen, none, Meets, Makes, state}
use denote.MutBor.{as_bor}
use Rattle.table.proofs.Laws.Lending.{one_part}
use Rattle.vector.proofs.Vector as fns
use Rattle.vector.specs.contracts.Vector as fns·promise
use Rattle.vector.proofs.state as state·fn
use Rattle.vector.specs.contracts.state as state·promise
use Rattle.vector.proofs.done as done·fn
use Rattle.vector.specs.contracts.done as done·promise

-- an answer as it is numbered is told by what is seen of it, by the slot that it reports and by the total
numbers : (o : Outcome) (n m : ℕ) (a a' : Numbered Vector) (s s' : List ℕ) → seen a s ≡ o → seen a' s' ≡ o → a.slot ≡ n → a'.slot ≡ n
    → a.state.total.sum ≡ m → a'.state.total.sum ≡ m → (a ≡ a') × (s ≡ s')
numbers o n m a a' s s' e e' slot slot' sum sum' =
    one_answer {B = ℕ × ℕ} seen (λ a. (a.slot, a.state.total.sum))
    (λ o b. record { number = o.number; value = o.value; moves = o.moves; slot = b.0; state = state o.tray.len (record { sum = b.1 }) })
    (λ a s. refl) (λ a s. refl) o (n, m) a a' s s' e e' (cc) (cc)

pub told_by : (v : Vector) (o : Outcome) (n m : ℕ) (r r' : Result (Answer Vector) Refusal) (s s' : List ℕ) → seen (numbered v r) s ≡ o → seen (numbered v r') s' ≡ o
    → (numbered v r).slot ≡ n → (numbered v r').slot ≡ n → (numbered v r).state.total.sum ≡ m → (numbered v r').state.total.sum ≡ m → (r ≡ r') × (s ≡ s')
told_by v o n m r r' s s' e e' slot slot' sum sum' =
    let same = numbers o n m (numbered v r) (numbered v r') s s' e e' slot slot' sum sum' in
    (same_answer v r r' same.0, same.1)

-- every promise that bears a number is `Meets`, a making's `Makes`
one : {call : Call} {v : Vector} {b : List ℕ} (r r' : Result (Answer Vector) Refusal) (s s' : List ℕ) → Meets call v b r s → Meets call v b r' s' → (r ≡ r') × (s ≡ s')
one {v = v} r r' s s' p q = told_by v _ _ _ r r' s s' p.row q.row p.slot q.slot p.total q.total

one_made : {m : Making} {b : List ℕ} (r r' : Result (Answer Vector) Refusal) (s s' : List ℕ) → Makes m b r s → Makes m b r' s' → (r ≡ r') × (s ≡ s')
one_made r r' s s' p q = told_by none _ _ _ r r' s s' p.row q.row p.slot q.slot p.total q.total

module _ (κs : Lfts 1) where
  pub new_once : Twice fns·promise.new.ended κs (fns.new.Reads.Learnt κs) (λ r e r' e'. r ≡ r')
  new_once a r r' e e' l l' = (one_made r r' _ _ l l').0

  pub with_capacity_once : Twice fns·promise.with_capacity.ended κs (fns.with_capacity.Reads.Learnt κs) (λ r e r' e'. r ≡ r')
  with_capacity_once a r r' e e' l l' = (one_made r r' _ _ l l').0

  pub from_elem_once : Twice fns·promise.from_elem.ended κs (fns.from_elem.Reads.Learnt κs) (λ r e r' e'. (r ≡ r') × (e.0.now ≡ e'.0.now))
  from_elem_once a r r' e e' = one_made r r' _ _

  pub len_once : Twice fns·promise.len.ended κs (fns.len.Reads.Learnt κs) (λ r e r' e'. r ≡ r')
  len_once a r r' e e' l l' = (one r r' _ _ l l').0

  pub is_empty_once : Twice fns·promise.is_empty.ended κs (fns.is_empty.Reads.Learnt κs) (λ r e r' e'. r ≡ r')
  is_empty_once a r r' e e' l l' = (one r r' _ _ l l').0

  pub read_once : Twice fns·promise.read.ended κs (fns.read.Reads.Learnt κs) (λ r e r' e'. r ≡ r')
  read_once a r r' e e' l l' = (one r r' _ _ l l').0

  pub reserve_once : Twice fns·promise.reserve.ended κs (fns.reserve.Reads.Learnt κs) (λ r e r' e'. r ≡ r')
  reserve_once a r r' e e' l l' = (one r r' _ _ l l').0

  pub try_reserve_once : Twice fns·promise.try_reserve.ended κs (fns.try_reserve.Reads.Learnt κs) (λ r e r' e'. r ≡ r')
  try_reserve_once a r r' e e' l l' = (one r r' _ _ l l').0

  pub try_reserve_exact_once : Twice fns·promise.try_reserve_exact.ended κs (fns.try_reserve_exact.Reads.Learnt κs) (λ r e r' e'. r ≡ r')
  try_reserve_exact_once a r r' e e' l l' = (one r r' _ _ l l').0

  pub ask_range_once : Twice fns·promise.ask_range.ended κs (fns.ask_range.Reads.Learnt κs) (λ r e r' e'. r ≡ r')
  ask_range_once a r r' e e' l l' = (one r r' _ _ l l').0

  pub write_once : Twice fns·promise.write.ended κs (fns.write.Reads.Learnt κs) (λ r e r' e'. (r ≡ r') × (e.1.0.now ≡ e'.1.0.now))
  write_once a r r' e e' = one r r' _ _

  pub push_once : Twice fns·promise.push.ended κs (fns.push.Reads.Learnt κs) (λ r e r' e'. (r ≡ r') × (e.1.0.now ≡ e'.1.0.now))
  push_once a r r' e e' = one r r' _ _

  pub pop_once : Twice fns·promise.pop.ended κs (fns.pop.Reads.Learnt κs) (λ r e r' e'. (r ≡ r') × (e.1.0.now ≡ e'.1.0.now))
  pop_once a r r' e e' = one r r' _ _

  pub insert_once : Twice fns·promise.insert.ended κs (fns.insert.Reads.Learnt κs) (λ r e r' e'. (r ≡ r') × (e.1.0.now ≡ e'.1.0.now))
  insert_once a r r' e e' = one r r' _ _

  pub remove_once : Twice fns·promise.remove.ended κs (fns.remove.Reads.Learnt κs) (λ r e r' e'. (r ≡ r') × (e.1.0.now ≡ e'.1.0.now))
  remove_once a r r' e e' = one r r' _ _

  pub swap_remove_once : Twice fns·promise.swap_remove.ended κs (fns.swap_remove.Reads.Learnt κs) (λ r e r' e'. (r ≡ r') × (e.1.0.now ≡ e'.1.0.now))
  swap_remove_once a r r' e e' = one r r' _ _

  pub truncate_once : Twice fns·promise.truncate.ended κs (fns.truncate.Reads.Learnt κs) (λ r e r' e'. (r ≡ r') × (e.1.0.now ≡ e'.1.0.now))
  truncate_once a r r' e e' = one r r' _ _

  pub resize_once : Twice fns·promise.resize.ended κs (fns.resize.Reads.Learnt κs) (λ r e r' e'. (r ≡ r') × (e.1.0.now ≡ e'.1.0.now))
  resize_once a r r' e e' = one r r' _ _

  pub clear_once : Twice fns·promise.clear.ended κs (fns.clear.Reads.Learnt κs) (λ r e r' e'. (r ≡ r') × (e.1.0.now ≡ e'.1.0.now))
  clear_once a r r' e e' = one r r' _ _

  pub range_once : Twice fns·promise.range.ended κs (fns.range.Reads.Learnt κs) (λ r e r' e'. (r.ref_ptr ≡ r'.ref_ptr) × (r.now ≡ r'.now))
  range_once a r r' e e' = one_part _ _ _ r r'

  pub as_slice_once : Twice fns·promise.as_slice.ended κs (fns.as_slice.Reads.Learnt κs) (λ r e r' e'. (r.ref_ptr ≡ r'.ref_ptr) × (r.now ≡ r'.now))
  as_slice_once a r r' e e' = one_part _ _ _ r r'

  pub as_ref_once : Twice fns·promise.as_ref.ended κs (fns.as_ref.Reads.Learnt κs) (λ r e r' e'. (r.ref_ptr ≡ r'.ref_ptr) × (r.now ≡ r'.now))
  as_ref_once a r r' e e' = one_part _ _ _ r r'

  pub deref_once : Twice fns·promise.deref.ended κs (fns.deref.Reads.Learnt κs) (λ r e r' e'. (r.ref_ptr ≡ r'.ref_ptr) × (r.now ≡ r'.now))
  deref_once a r r' e e' = one_part _ _ _ r r'

  pub as_mut_slice_once : Twice fns·promise.as_mut_slice.ended κs (fns.as_mut_slice.Reads.Learnt κs) (λ r e r' e'. (r.ref_ptr ≡ r'.ref_ptr) × (r.now ≡ r'.now))
  as_mut_slice_once a r r' e e' = one_part _ _ _ (as_bor r) (as_bor r')

  pub deref_mut_once : Twice fns·promise.deref_mut.ended κs (fns.deref_mut.Reads.Learnt κs) (λ r e r' e'. (r.ref_ptr ≡ r'.ref_ptr) × (r.now ≡ r'.now))
  deref_mut_once a r r' e e' = one_part _ _ _ (as_bor r) (as_bor r')

module _ (κs : Lfts 2) where
  pub extend_from_slice_once : Twice fns·promise.extend_from_slice.ended κs (fns.extend_from_slice.Reads.Learnt κs) (λ r e r' e'. (r ≡ r') × (e.1.0.now ≡ e'.1.0.now))
  extend_from_slice_once a r r' e e' = one r r' _ _

-- The functions that put a state or an answer together name the very value.
module _ (κs : Lfts 0) where
  pub state_once : Twice state·promise.ended κs (state·fn.Reads.Learnt κs) (λ r e r' e'. r ≡ r')
  state_once a r r' e e' p q = p ∙ sym q

  pub done_once : Twice done·promise.ended κs (done·fn.Reads.Learnt κs) (λ r e r' e'. r ≡ r')
  done_once a r r' e e' p q = p ∙ sym q
