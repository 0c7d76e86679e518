-- Request 11 from the generated contracts: `insert_within` and `remove_within` answer 12 exactly when the plain call would be done and would move more; else they answer what it answers, and
-- leave the slots as it does. A larger allowance gives the same, and one of half of c - 1 is always enough.
use Prim.Native.Nat.{ℕ, ◌-◌, ◌/◌, ◌^◌, ◌≤◌, ◌<◌}
use mathlib.Core.Path.{◌≡◌, refl, sym, ap, ◌∙◌}
use mathlib.Core.List.{List}
use native.Mathlib.Omega.{arith}
use lib.ListN.{length}
use contract.Lifetimes.{Lfts}
use denote.MutBor.{MutBor}
use denote.Triple.Clauses.{AtExit}
use Rattle.std.specs.Prelude.{Err}
use Rattle.slots.specs.Layout.{ring}
use Rattle.table.specs.Tray.{nowhere}
use Rattle.table.specs.Answers.{numbered}
use Rattle.table.specs.declared.answers.Refusal.TheVariants.{Moves}
use Rattle.table.specs.Calls.{Call, insert, remove}
use Rattle.table.specs.Does.{Outcome, refused, does}
use Rattle.table.specs.Within.{does_within}
use Rattle.table.proofs.Theorems.Within.{MovesMore, plain_below_12, twelve_when, then_twelve, twelve_beside, not_twelve, plain_beside, larger_same, larger_beside}
use Rattle.table.proofs.Theorems.Room.{insert_enough, remove_enough}
use Rattle.ring.specs.declared.Ring.{Ring}
use Rattle.ring.specs.Seen.{tray, seen, Meets, MeetsWithin, Answered}
use Rattle.ring.proofs.Once.{told_by, one, one_within}
use Rattle.ring.proofs.Ring as fn
use Rattle.ring.specs.contracts.Ring as promise

-- WHICHEVER CALL it is: v is the ring and s its slots, r is the result and z the slots then.
module _ (a : ℕ) (call : Call) (v : Ring) (s z : List ℕ) (r : Answered) (m : MeetsWithin a call v s r z) where
  pub within_12 : (numbered v r).number ≡ 12 → MovesMore a ring call (tray v s)
  within_12 = twelve_when a ring call (tray v s) (seen (numbered v r) z) m.row

  -- the answer is the refusal, with the state that was given, and no slot has changed
  pub within_refused_12 : v.total.sum < 2 ^ 64 → MovesMore a ring call (tray v s) → (r ≡ Err Moves) × (z ≡ s)
  within_refused_12 small more =
      let is : seen (numbered v r) z ≡ refused (tray v s) nowhere 12 = then_twelve a ring call (tray v s) (seen (numbered v r) z) m.row more in
      let beside = twelve_beside a ring call (tray v s) (seen (numbered v r) z) m.row (ap (λ (o : Outcome). o.number) is) in
      told_by v (refused (tray v s) nowhere 12) _ v.total.sum r (Err Moves) z s is refl (m.slot ∙ beside.0) refl (m.total ∙ beside.1 _ small) refl

  -- else it meets the promise of the plain call
  pub within_plain : ((numbered v r).number ≡ 12 → ⊥) → Meets call v s r z
  within_plain other =
      let beside = plain_beside a ring call (tray v s) (seen (numbered v r) z) m.row other in
      record { row = not_twelve a ring call (tray v s) (seen (numbered v r) z) m.row other; slot = m.slot ∙ beside.0; total = m.total ∙ beside.1 _ }

  -- and a larger allowance's
  pub within_larger : (b : ℕ) → a ≤ b → ((numbered v r).number ≡ 12 → ⊥) → MeetsWithin b call v s r z
  within_larger b larger other =
      let enough : (does_within a ring call (tray v s)).number ≡ 12 → ⊥ = λ e. other (ap (λ (o : Outcome). o.number) m.row ∙ e) in
      let beside = larger_beside a b ring call (tray v s) larger enough in
      record {
        row = m.row ∙ sym (larger_same a b ring call (tray v s) larger enough);
        slot = m.slot ∙ sym beside.0;
        total = m.total ∙ sym (beside.1 _);
      }

  pub within_enough : does_within a ring call (tray v s) ≡ does ring call (tray v s) → (numbered v r).number ≡ 12 → ⊥
  within_enough plain e = omega (arith, plain_below_12 ring call (tray v s), ap (λ (o : Outcome). o.number) (m.row ∙ plain))

-- INSERT. In what follows e are the arguments as they are at the return, so that `e.1.0` are the slots then.
module _ (κs : Lfts 1) (v : Ring) (s : MutBor (List ℕ)) (i x a : ℕ) (r : Answered) (e : AtExit promise.insert_within.ended κs)
    (learnt : fn.insert_within.Reads.Learnt κs (v, (s, (i, (x, (a, tt))))) r e) where
  pub insert_within_12 : (numbered v r).number ≡ 12 → MovesMore a ring (insert i x) (tray v s.now)
  insert_within_12 = within_12 a _ v s.now _ r learnt

  pub insert_within_then_12 : v.total.sum < 2 ^ 64 → MovesMore a ring (insert i x) (tray v s.now) → (r ≡ Err Moves) × (e.1.0.now ≡ s.now)
  insert_within_then_12 = within_refused_12 a _ v s.now _ r learnt

  -- what `insert` itself answers and leaves, r' and e'
  pub insert_within_plain : (r' : Answered) (e' : AtExit promise.insert.ended κs) → fn.insert.Reads.Learnt κs (v, (s, (i, (x, tt)))) r' e'
      → ((numbered v r).number ≡ 12 → ⊥)
      → (r ≡ r') × (e.1.0.now ≡ e'.1.0.now)
  insert_within_plain r' e' plain other = one r r' _ _ (within_plain a _ v s.now _ r learnt other) plain

  -- what it answers and leaves with a larger allowance
  pub insert_within_larger : (b : ℕ) (r' : Answered) (e' : AtExit promise.insert_within.ended κs)
      → fn.insert_within.Reads.Learnt κs (v, (s, (i, (x, (b, tt))))) r' e' → a ≤ b
      → ((numbered v r).number ≡ 12 → ⊥) → (r ≡ r') × (e.1.0.now ≡ e'.1.0.now)
  insert_within_larger b r' e' wide larger other = one_within r r' _ _ (within_larger a _ v s.now _ r learnt b larger other) wide

  pub insert_within_enough : (length s.now - 1) / 2 ≤ a → (numbered v r).number ≡ 12 → ⊥
  insert_within_enough enough = within_enough a _ v s.now _ r learnt (insert_enough a (tray v s.now) i enough x)

-- REMOVE, in the same words.
module _ (κs : Lfts 1) (v : Ring) (s : MutBor (List ℕ)) (i a : ℕ) (r : Answered) (e : AtExit promise.remove_within.ended κs)
    (learnt : fn.remove_within.Reads.Learnt κs (v, (s, (i, (a, tt)))) r e) where
  pub remove_within_12 : (numbered v r).number ≡ 12 → MovesMore a ring (remove i) (tray v s.now)
  remove_within_12 = within_12 a _ v s.now _ r learnt

  pub remove_within_then_12 : v.total.sum < 2 ^ 64 → MovesMore a ring (remove i) (tray v s.now) → (r ≡ Err Moves) × (e.1.0.now ≡ s.now)
  remove_within_then_12 = within_refused_12 a _ v s.now _ r learnt

  pub remove_within_plain : (r' : Answered) (e' : AtExit promise.remove.ended κs) → fn.remove.Reads.Learnt κs (v, (s, (i, tt))) r' e' → ((numbered v r).number ≡ 12 → ⊥)
      → (r ≡ r') × (e.1.0.now ≡ e'.1.0.now)
  remove_within_plain r' e' plain other = one r r' _ _ (within_plain a _ v s.now _ r learnt other) plain

  pub remove_within_larger : (b : ℕ) (r' : Answered) (e' : AtExit promise.remove_within.ended κs) → fn.remove_within.Reads.Learnt κs (v, (s, (i, (b, tt)))) r' e' → a ≤ b
      → ((numbered v r).number ≡ 12 → ⊥) → (r ≡ r') × (e.1.0.now ≡ e'.1.0.now)
  remove_within_larger b r' e' wide larger other = one_within r r' _ _ (within_larger a _ v s.now _ r learnt b larger other) wide

  pub remove_within_enough : (length s.now - 1) / 2 ≤ a → (numbered v r).number ≡ 12 → ⊥
  remove_within_enough enough = within_enough a _ v s.now _ r learnt (remove_enough a (tray v s.now) i enough)
