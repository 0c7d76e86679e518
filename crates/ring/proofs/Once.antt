-- One answer: any two results that meet a function's generated contract on the same arguments are the same, and so are the contents of its slots
-- that they come with.
use Prim.Native.Nat.{ℕ}
use mathlib.Core.Path.{◌≡◌, refl, sym, ◌∙◌}
use mathlib.Core.List.{List}
use contract.Lifetimes.{Lfts}
use Rattle.slots.proofs.Twice.{Twice}
use Rattle.table.specs.Calls.{Call, Making}
use Rattle.table.specs.Does.{Outcome}
use Rattle.table.specs.Answers.{numbered}
use Rattle.table.proofs.Laws.Numbered.{same_answer}
use Rattle.table.proofs.Theorems.Unique.{one_answer}
use Rattle.ring.specs.declared.Ring.{Ring}
use Rattle.ring.specs.Seen.{seen, Meets, MeetsWithin, Makes, Answered, state}
use Rattle.ring.proofs.Ring as fn
use Rattle.ring.specs.contracts.Ring as promise
use Rattle.ring.proofs.state as state·fn
use Rattle.ring.specs.contracts.state as state·promise
use Rattle.ring.proofs.left as left·fn
use Rattle.ring.specs.contracts.left as left·promise
use Rattle.ring.proofs.shows as shows·fn
use Rattle.ring.specs.contracts.shows as shows·promise
use Rattle.ring.proofs.done as done·fn
use Rattle.ring.specs.contracts.done as done·promise

-- an answer or a refusal is told by what is seen of it, by the slot that it reports and by the total; v is the state that was given
pub told_by : (v : Ring) (o : Outcome) (n m : ℕ) (r r' : Answered) (s s' : List ℕ) → seen (numbered v r) s ≡ o → seen (numbered v r') s' ≡ o
    → (numbered v r).slot ≡ n → (numbered v r').slot ≡ n → (numbered v r).state.total.sum ≡ m → (numbered v r').state.total.sum ≡ m → (r ≡ r') × (s ≡ s')
told_by v o n m r r' s s' e e' slot slot' sum sum' =
    let alike : (numbered v r ≡ numbered v r') × (s ≡ s') =
    one_answer {B = ℕ × ℕ} seen (λ r. (r.slot, r.state.total.sum))
    (λ o b. record { number = o.number; value = o.value; moves = o.moves; slot = b.0; state = state o.tray.head o.tray.len (record { sum = b.1 }) })
    (λ r s. refl) (λ r s. refl) o (n, m) (numbered v r) (numbered v r') s s' e e' (cc) (cc) in
    (same_answer v r r' alike.0, alike.1)

-- every promise of this crate is `Meets`, with an allowance `MeetsWithin`, a making's `Makes`
pub one : {call : Call} {v : Ring} {b : List ℕ} (r r' : Answered) (s s' : List ℕ) → Meets call v b r s → Meets call v b r' s' → (r ≡ r') × (s ≡ s')
one r r' s s' p q = told_by _ _ _ _ r r' s s' p.row q.row p.slot q.slot p.total q.total

pub one_within : {a : ℕ} {call : Call} {v : Ring} {b : List ℕ} (r r' : Answered) (s s' : List ℕ) → MeetsWithin a call v b r s → MeetsWithin a call v b r' s'
    → (r ≡ r') × (s ≡ s')
one_within r r' s s' p q = told_by _ _ _ _ r r' s s' p.row q.row p.slot q.slot p.total q.total

one_made : {m : Making} {b : List ℕ} (r r' : Answered) (s s' : List ℕ) → Makes m b r s → Makes m b r' s' → (r ≡ r') × (s ≡ s')
one_made r r' s s' p q = told_by _ _ _ _ r r' s s' p.row q.row p.slot q.slot p.total q.total

-- In what follows a are the arguments, r and r' are results, and e and e' the arguments as they are at the return.
module _ (κs : Lfts 1) where
  pub new_once : Twice promise.new.ended κs (fn.new.Reads.Learnt κs) (λ r e r' e'. r ≡ r')
  new_once a r r' e e' p q = (one_made r r' _ _ p q).0

  pub with_capacity_once : Twice promise.with_capacity.ended κs (fn.with_capacity.Reads.Learnt κs) (λ r e r' e'. r ≡ r')
  with_capacity_once a r r' e e' p q = (one_made r r' _ _ p q).0

  pub len_once : Twice promise.len.ended κs (fn.len.Reads.Learnt κs) (λ r e r' e'. r ≡ r')
  len_once a r r' e e' p q = (one r r' _ _ p q).0

  pub read_once : Twice promise.read.ended κs (fn.read.Reads.Learnt κs) (λ r e r' e'. r ≡ r')
  read_once a r r' e e' p q = (one r r' _ _ p q).0

  pub reserve_once : Twice promise.reserve.ended κs (fn.reserve.Reads.Learnt κs) (λ r e r' e'. r ≡ r')
  reserve_once a r r' e e' p q = (one r r' _ _ p q).0

  pub write_once : Twice promise.write.ended κs (fn.write.Reads.Learnt κs) (λ r e r' e'. (r ≡ r') × (e.1.0.now ≡ e'.1.0.now))
  write_once a r r' e e' p q = one r r' _ _ p q

  pub push_back_once : Twice promise.push_back.ended κs (fn.push_back.Reads.Learnt κs) (λ r e r' e'. (r ≡ r') × (e.1.0.now ≡ e'.1.0.now))
  push_back_once a r r' e e' p q = one r r' _ _ p q

  pub push_front_once : Twice promise.push_front.ended κs (fn.push_front.Reads.Learnt κs) (λ r e r' e'. (r ≡ r') × (e.1.0.now ≡ e'.1.0.now))
  push_front_once a r r' e e' p q = one r r' _ _ p q

  pub pop_back_once : Twice promise.pop_back.ended κs (fn.pop_back.Reads.Learnt κs) (λ r e r' e'. (r ≡ r') × (e.1.0.now ≡ e'.1.0.now))
  pop_back_once a r r' e e' p q = one r r' _ _ p q

  pub pop_front_once : Twice promise.pop_front.ended κs (fn.pop_front.Reads.Learnt κs) (λ r e r' e'. (r ≡ r') × (e.1.0.now ≡ e'.1.0.now))
  pop_front_once a r r' e e' p q = one r r' _ _ p q

  pub insert_once : Twice promise.insert.ended κs (fn.insert.Reads.Learnt κs) (λ r e r' e'. (r ≡ r') × (e.1.0.now ≡ e'.1.0.now))
  insert_once a r r' e e' p q = one r r' _ _ p q

  pub remove_once : Twice promise.remove.ended κs (fn.remove.Reads.Learnt κs) (λ r e r' e'. (r ≡ r') × (e.1.0.now ≡ e'.1.0.now))
  remove_once a r r' e e' p q = one r r' _ _ p q

  pub insert_within_once : Twice promise.insert_within.ended κs (fn.insert_within.Reads.Learnt κs) (λ r e r' e'. (r ≡ r') × (e.1.0.now ≡ e'.1.0.now))
  insert_within_once a r r' e e' p q = one_within r r' _ _ p q

  pub remove_within_once : Twice promise.remove_within.ended κs (fn.remove_within.Reads.Learnt κs) (λ r e r' e'. (r ≡ r') × (e.1.0.now ≡ e'.1.0.now))
  remove_within_once a r r' e e' p q = one_within r r' _ _ p q

  pub truncate_once : Twice promise.truncate.ended κs (fn.truncate.Reads.Learnt κs) (λ r e r' e'. (r ≡ r') × (e.1.0.now ≡ e'.1.0.now))
  truncate_once a r r' e e' p q = one r r' _ _ p q

  pub resize_once : Twice promise.resize.ended κs (fn.resize.Reads.Learnt κs) (λ r e r' e'. (r ≡ r') × (e.1.0.now ≡ e'.1.0.now))
  resize_once a r r' e e' p q = one r r' _ _ p q

  pub clear_once : Twice promise.clear.ended κs (fn.clear.Reads.Learnt κs) (λ r e r' e'. (r ≡ r') × (e.1.0.now ≡ e'.1.0.now))
  clear_once a r r' e e' p q = one r r' _ _ p q

-- The functions that put a state or an answer together name the very value.
module _ (κs : Lfts 0) where
  pub state_once : Twice state·promise.ended κs (state·fn.Reads.Learnt κs) (λ r e r' e'. r ≡ r')
  state_once a r r' e e' p q = p ∙ sym q

  pub left_once : Twice left·promise.ended κs (left·fn.Reads.Learnt κs) (λ r e r' e'. r ≡ r')
  left_once a r r' e e' p q = p ∙ sym q

  pub shows_once : Twice shows·promise.ended κs (shows·fn.Reads.Learnt κs) (λ r e r' e'. r ≡ r')
  shows_once a r r' e e' p q = p ∙ sym q

  pub done_once : Twice done·promise.ended κs (done·fn.Reads.Learnt κs) (λ r e r' e'. r ≡ r')
  done_once a r r' e e' p q = p ∙ sym q
