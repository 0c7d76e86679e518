-- Request 03 from the generated contracts: a ring that a done call leaves empty has head 0; and a fresh stack that `push_back` lays on an empty ring lies
-- along its slots from slot 0 on, entry j in slot j.
use Prim.Native.Nat.{ℕ, ◌≤◌, ◌<◌}
use mathlib.Core.Path.{◌≡◌, refl, ap, ◌∙◌, subst⁻¹}
use mathlib.Core.List.{List, [], ◌∷◌}
use lib.ListN.{length, get_or}
use contract.Lifetimes.{Lfts}
use denote.Ref.{Bor}
use denote.MutBor.{MutBor}
use denote.Triple.Clauses.{AtExit}
use Rattle.slots.specs.Layout.{ring}
use Rattle.table.specs.Tray.{Tray}
use Rattle.table.specs.Answers.{numbered}
use Rattle.table.specs.Calls.{Call, push}
use Rattle.table.proofs.Theorems.Home.{done_home}
use Rattle.table.proofs.Theorems.Stack.{stacked, Lies, lies}
use Rattle.ring.specs.declared.Ring.{Ring}
use Rattle.ring.specs.Seen.{tray, Meets, Answered}
use Rattle.ring.proofs.Upstream.{Valid}
use Rattle.ring.proofs.Ring as fn
use Rattle.ring.specs.contracts.Ring as promise

-- whichever call it was
pub call_home : (call : Call) (v : Ring) (s z : List ℕ) (a : Answered) → Meets call v s a z → (numbered v a).number ≡ 0 → (numbered v a).state.len ≡ 0
    → (numbered v a).state.head ≡ 0
call_home call v s z a meets = done_home ring call (tray v s) _ meets.row

-- In what follows v is the ring and s its slots, r is the result, and e the arguments as they are at the return. Those that can take the last entry out:
module _ (κs : Lfts 1) (v : Ring) (s : MutBor (List ℕ)) (r : Answered) where
  pub pop_back_home : (e : AtExit promise.pop_back.ended κs) → fn.pop_back.Reads.Learnt κs (v, (s, tt)) r e → (numbered v r).number ≡ 0
      → (numbered v r).state.len ≡ 0 → (numbered v r).state.head ≡ 0
  pop_back_home e learnt = call_home _ _ _ _ _ learnt

  pub pop_front_home : (e : AtExit promise.pop_front.ended κs) → fn.pop_front.Reads.Learnt κs (v, (s, tt)) r e → (numbered v r).number ≡ 0
      → (numbered v r).state.len ≡ 0 → (numbered v r).state.head ≡ 0
  pop_front_home e learnt = call_home _ _ _ _ _ learnt

  pub remove_home : (i : ℕ) (e : AtExit promise.remove.ended κs) → fn.remove.Reads.Learnt κs (v, (s, (i, tt))) r e → (numbered v r).number ≡ 0
      → (numbered v r).state.len ≡ 0 → (numbered v r).state.head ≡ 0
  remove_home i e learnt = call_home _ _ _ _ _ learnt

  pub truncate_home : (k : ℕ) (e : AtExit promise.truncate.ended κs) → fn.truncate.Reads.Learnt κs (v, (s, (k, tt))) r e → (numbered v r).number ≡ 0
      → (numbered v r).state.len ≡ 0 → (numbered v r).state.head ≡ 0
  truncate_home k e learnt = call_home _ _ _ _ _ learnt

  pub resize_home : (k x : ℕ) (e : AtExit promise.resize.ended κs) → fn.resize.Reads.Learnt κs (v, (s, (k, (x, tt)))) r e → (numbered v r).number ≡ 0
      → (numbered v r).state.len ≡ 0 → (numbered v r).state.head ≡ 0
  resize_home k x e learnt = call_home _ _ _ _ _ learnt

  pub clear_home : (e : AtExit promise.clear.ended κs) → fn.clear.Reads.Learnt κs (v, (s, tt)) r e → (numbered v r).number ≡ 0
      → (numbered v r).state.len ≡ 0 → (numbered v r).state.head ≡ 0
  clear_home e learnt = call_home _ _ _ _ _ learnt

-- THE STACK: a ring and its slots before, the entries that `push_back` put on it one after another, and the ring and its slots after.
pub data Pushed : (v : Ring) (slots xs : List ℕ) (v' : Ring) (slots' : List ℕ) → Type 0 where
  begun : {v : Ring} {s : List ℕ} → Pushed v s [] v s
  pushed : {v v' : Ring} {s s₁ s' xs : List ℕ} {x : ℕ} {a : Answered} → Meets (push x) v s a s₁ → Pushed (numbered v a).state s₁ xs v' s' → Pushed v s (x ∷ xs) v' s'

-- one more, from the function's own contract: `e.1.0` are the slots as it leaves them
pub push_back_pushed : (κs : Lfts 1) (v v' : Ring) (s : MutBor (List ℕ)) (x : ℕ) (r : Answered) (e : AtExit promise.push_back.ended κs) (xs s' : List ℕ)
    → fn.push_back.Reads.Learnt κs (v, (s, (x, tt))) r e → Pushed (numbered v r).state e.1.0.now xs v' s' → Pushed v s.now (x ∷ xs) v' s'
push_back_pushed κs v v' s x r e xs s' learnt rest = pushed learnt rest

pushed_is : {v v' : Ring} {s s' xs : List ℕ} → Pushed v s xs v' s' → tray v' s' ≡ stacked (tray v s) xs
pushed_is begun = refl
pushed_is (pushed {xs = xs} meets rest) = pushed_is rest ∙ ap (λ (t : Tray). stacked t xs) (ap (λ o. o.tray) meets.row)

pub stack_lies : (v v' : Ring) (s : Bor (List ℕ)) (xs s' : List ℕ) → Valid v s.now → v.len ≡ 0 → length xs ≤ length s.now → Pushed v s.now xs v' s'
    → Lies (tray v s.now) xs (tray v' s')
stack_lies v v' s xs s' ok none room p = subst⁻¹ (λ (t : Tray). Lies (tray v s.now) xs t) (pushed_is p) (lies (tray v s.now) ok none xs room)

-- in a word: entry j stands in slot j
pub stack_slots : (v v' : Ring) (s : Bor (List ℕ)) (xs s' : List ℕ) → Valid v s.now → v.len ≡ 0 → length xs ≤ length s.now → Pushed v s.now xs v' s'
    → (j : ℕ) → j < length xs → get_or s' j 0 ≡ get_or xs j 0
stack_slots v v' s xs s' ok none room p = (stack_lies v v' s xs s' ok none room p).slot
