-- One result: any two that meet a function's generated contract on the same arguments are the same, and so are the contents of the slots that they
-- leave. No `requires` is leaned on, since a ring's positions are a placing whatever the head.
use Rattle.std.proofs.Common.{◌≡◌, ℕ, sym, ap, ◌∙◌, arith}
use contract.Lifetimes.{Lfts}
use Rattle.slots.specs.Layout.{vector, itself}
use Rattle.slots.proofs.Placing.{Placing, placing, placing_any}
use Rattle.slots.proofs.Shifts.{one_down, one_up}
use Rattle.slots.proofs.Fills.{one_fill}
use Rattle.slots.proofs.Lays.{one_lay}
use Rattle.slots.proofs.Compares.{one_tells}
use Rattle.slots.proofs.Twice.{Twice}
use Rattle.runs.specs.declared.total.Total.{Total}
use Rattle.runs.specs.Width.{summing}
use Rattle.runs.proofs.word as word·fn
use Rattle.runs.specs.contracts.word as word·promise
use Rattle.runs.proofs.run_down as run_down·fn
use Rattle.runs.specs.contracts.run_down as run_down·promise
use Rattle.runs.proofs.run_up as run_up·fn
use Rattle.runs.specs.contracts.run_up as run_up·promise
use Rattle.runs.proofs.run_fill as run_fill·fn
use Rattle.runs.specs.contracts.run_fill as run_fill·promise
use Rattle.runs.proofs.shift_down as shift_down·fn
use Rattle.runs.specs.contracts.shift_down as shift_down·promise
use Rattle.runs.proofs.shift_up as shift_up·fn
use Rattle.runs.specs.contracts.shift_up as shift_up·promise
use Rattle.runs.proofs.fill as fill·fn
use Rattle.runs.specs.contracts.fill as fill·promise
use Rattle.runs.proofs.copy as copy·fn
use Rattle.runs.specs.contracts.copy as copy·promise
use Rattle.runs.proofs.bring as bring·fn
use Rattle.runs.specs.contracts.bring as bring·promise
use Rattle.runs.proofs.compare as compare·fn
use Rattle.runs.specs.contracts.compare as compare·promise
use Rattle.runs.proofs.total as total·fn
use Rattle.runs.specs.contracts.total as total·promise
use Rattle.runs.proofs.clear as clear·fn
use Rattle.runs.specs.contracts.clear as clear·promise

-- the positions of a run of slots
plain : (c : ℕ) → Placing c itself itself
plain c = placing vector c 0 (omega arith)

-- a total is told by its sum
one_total : (m : ℕ) (r r' : Total) → r.sum ≡ m → r'.sum ≡ m → r ≡ r'
one_total m r r' p q = ap summing (p ∙ sym q)

-- In what follows a are the arguments, r and r' are results, and e and e' the arguments as they are at the return.
module _ (κs : Lfts 0) where
  pub word_once : Twice word·promise.ended κs (word·fn.Reads.Learnt κs) (λ r e r' e'. r ≡ r')
  word_once a r r' e e' p q = p ∙ sym q

  pub none_once : Twice total·promise.none.ended κs (total·fn.none.Reads.Learnt κs) (λ r e r' e'. r ≡ r')
  none_once a r r' e e' = one_total _ r r'

  pub put_once : Twice total·promise.put.ended κs (total·fn.put.Reads.Learnt κs) (λ r e r' e'. r ≡ r')
  put_once a r r' e e' = one_total _ r r'

  pub took_once : Twice total·promise.took.ended κs (total·fn.took.Reads.Learnt κs) (λ r e r' e'. r ≡ r')
  took_once a r r' e e' = one_total _ r r'

  pub traded_once : Twice total·promise.traded.ended κs (total·fn.traded.Reads.Learnt κs) (λ r e r' e'. r ≡ r')
  traded_once a r r' e e' = one_total _ r r'

  pub more_once : Twice total·promise.more.ended κs (total·fn.more.Reads.Learnt κs) (λ r e r' e'. r ≡ r')
  more_once a r r' e e' = one_total _ r r'

  pub less_once : Twice total·promise.less.ended κs (total·fn.less.Reads.Learnt κs) (λ r e r' e'. r ≡ r')
  less_once a r r' e e' = one_total _ r r'

  pub times_once : Twice total·promise.times.ended κs (total·fn.times.Reads.Learnt κs) (λ r e r' e'. r ≡ r')
  times_once a r r' e e' = one_total _ r r'

module _ (κs : Lfts 1) where
  pub run_down_once : Twice run_down·promise.ended κs (run_down·fn.Reads.Learnt κs) (λ r e r' e'. e.0.now ≡ e'.0.now)
  run_down_once a r r' e e' = one_down _ _ _ _ _ _ _ (plain _)

  pub run_up_once : Twice run_up·promise.ended κs (run_up·fn.Reads.Learnt κs) (λ r e r' e'. e.0.now ≡ e'.0.now)
  run_up_once a r r' e e' = one_up _ _ _ _ _ _ _ (plain _)

  pub run_fill_once : Twice run_fill·promise.ended κs (run_fill·fn.Reads.Learnt κs) (λ r e r' e'. e.0.now ≡ e'.0.now)
  run_fill_once a r r' e e' = one_fill _ _ _ _ _ _ _ _ (plain _)

  pub shift_down_once : Twice shift_down·promise.ended κs (shift_down·fn.Reads.Learnt κs) (λ r e r' e'. e.0.now ≡ e'.0.now)
  shift_down_once a r r' e e' = one_down _ _ _ _ _ _ _ (placing_any _ _)

  pub shift_up_once : Twice shift_up·promise.ended κs (shift_up·fn.Reads.Learnt κs) (λ r e r' e'. e.0.now ≡ e'.0.now)
  shift_up_once a r r' e e' = one_up _ _ _ _ _ _ _ (placing_any _ _)

  pub fill_once : Twice fill·promise.ended κs (fill·fn.Reads.Learnt κs) (λ r e r' e'. e.0.now ≡ e'.0.now)
  fill_once a r r' e e' = one_fill _ _ _ _ _ _ _ _ (placing_any _ _)

  pub part_once : Twice total·promise.part.ended κs (total·fn.part.Reads.Learnt κs) (λ r e r' e'. r ≡ r')
  part_once a r r' e e' = one_total _ r r'

  pub run_once : Twice total·promise.run.ended κs (total·fn.run.Reads.Learnt κs) (λ r e r' e'. r ≡ r')
  run_once a r r' e e' = one_total _ r r'

  pub ring_once : Twice total·promise.ring.ended κs (total·fn.ring.Reads.Learnt κs) (λ r e r' e'. r ≡ r')
  ring_once a r r' e e' = one_total _ r r'

  pub run_clear_once : Twice clear·promise.run_clear.ended κs (clear·fn.run_clear.Reads.Learnt κs) (λ r e r' e'. (r ≡ r') × (e.0.now ≡ e'.0.now))
  run_clear_once a r r' e e' p q = (one_total _ r r' p.0 q.0, one_fill _ _ _ _ _ _ _ _ (plain _) p.1 q.1)

  pub ring_clear_once : Twice clear·promise.ring_clear.ended κs (clear·fn.ring_clear.Reads.Learnt κs) (λ r e r' e'. (r ≡ r') × (e.0.now ≡ e'.0.now))
  ring_clear_once a r r' e e' p q = (one_total _ r r' p.0 q.0, one_fill _ _ _ _ _ _ _ _ (placing_any _ _) p.1 q.1)

module _ (κs : Lfts 2) where
  pub run_copy_once : Twice copy·promise.run_copy.ended κs (copy·fn.run_copy.Reads.Learnt κs) (λ r e r' e'. e.0.now ≡ e'.0.now)
  run_copy_once a r r' e e' = one_lay _ _ _ _ _ _ _ _ (plain _)

  pub carry_once : Twice copy·promise.carry.ended κs (copy·fn.carry.Reads.Learnt κs) (λ r e r' e'. e.0.now ≡ e'.0.now)
  carry_once a r r' e e' = one_lay _ _ _ _ _ _ _ _ (placing_any _ _)

  pub bring_part_once : Twice bring·promise.bring_part.ended κs (bring·fn.bring_part.Reads.Learnt κs) (λ r e r' e'. (r ≡ r') × (e.0.now ≡ e'.0.now))
  bring_part_once a r r' e e' p q = (one_total _ r r' p.1 q.1, one_lay _ _ _ _ _ _ _ _ (plain _) p.0 q.0)

  pub bring_run_once : Twice bring·promise.bring_run.ended κs (bring·fn.bring_run.Reads.Learnt κs) (λ r e r' e'. (r ≡ r') × (e.0.now ≡ e'.0.now))
  bring_run_once a r r' e e' p q = (one_total _ r r' p.1 q.1, one_lay _ _ _ _ _ _ _ _ (plain _) p.0 q.0)

  pub bring_ring_once : Twice bring·promise.bring_ring.ended κs (bring·fn.bring_ring.Reads.Learnt κs) (λ r e r' e'. (r ≡ r') × (e.0.now ≡ e'.0.now))
  bring_ring_once a r r' e e' p q = (one_total _ r r' p.1 q.1, one_lay _ _ _ _ _ _ _ _ (plain _) p.0 q.0)

  pub firsts_once : Twice compare·promise.firsts.ended κs (compare·fn.firsts.Reads.Learnt κs) (λ r e r' e'. r ≡ r')
  firsts_once a r r' e e' = one_tells r r' _ _

  pub ring_with_once : Twice compare·promise.ring_with.ended κs (compare·fn.ring_with.Reads.Learnt κs) (λ r e r' e'. r ≡ r')
  ring_with_once a r r' e e' = one_tells r r' _ _

  pub rings_once : Twice compare·promise.rings.ended κs (compare·fn.rings.Reads.Learnt κs) (λ r e r' e'. r ≡ r')
  rings_once a r r' e e' = one_tells r r' _ _
