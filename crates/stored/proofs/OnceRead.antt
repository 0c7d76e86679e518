-- One answer of the readers, of the check and of a kind's number: any two results that meet a function's generated contract on the same arguments are the same, and so are the slots that they leave.
use mathlib.Core.Path.{◌≡◌, refl, sym, ap, ◌∙◌}
use native.Mathlib.Omega.{arith}
use Prim.Native.Nat.{ℕ}
use contract.Lifetimes.{Lfts}
use Rattle.std.specs.Prelude.{Result, Ok, Err}
use Rattle.slots.proofs.Twice.{Twice}
use Rattle.ring.proofs.Once as rings
use Rattle.vector.proofs.Once as vectors
use Rattle.stored.specs.declared.kinds.Kind.{Kind}
use Rattle.stored.specs.declared.kinds.Kind.TheVariants.{Ring, Vector}
use Rattle.stored.specs.declared.kinds.UnknownKind.{UnknownKind}
use Rattle.stored.specs.First.{Decodes}
use Rattle.stored.proofs.judges as judges
use Rattle.stored.specs.contracts.judges as judges·promise
use Rattle.stored.proofs.readers as readers
use Rattle.stored.specs.contracts.readers as readers·promise
use Rattle.stored.proofs.kinds.KindTryFromU64.try_from as try_from·fn
use Rattle.stored.specs.contracts.kinds.KindTryFromU64.try_from as try_from·promise

-- a kind's number tells it, and above 1 the number that is given back is the one that was given
one_kind : (number : ℕ) (r r' : Result Kind UnknownKind) → Decodes number r → Decodes number r' → r ≡ r'
one_kind number (Ok Ring) (Ok Ring) p q = refl
one_kind number (Ok Ring) (Ok Vector) p q = absurd (omega (arith, p, q))
one_kind number (Ok Vector) (Ok Ring) p q = absurd (omega (arith, p, q))
one_kind number (Ok Vector) (Ok Vector) p q = refl
one_kind number (Ok Ring) (Err e) p q = absurd (omega (arith, p, q.1))
one_kind number (Ok Vector) (Err e) p q = absurd (omega (arith, p, q.1))
one_kind number (Err e) (Ok Ring) p q = absurd (omega (arith, p.1, q))
one_kind number (Err e) (Ok Vector) p q = absurd (omega (arith, p.1, q))
one_kind number (Err e) (Err e') p q = ap (λ n. Err (record { 0 = n })) (p.0 ∙ sym q.0)

module _ (κs : Lfts 0) where
  pub try_from_once : Twice try_from·promise.ended κs (try_from·fn.Reads.Learnt κs) (λ r e r' e'. r ≡ r')
  try_from_once a r r' e e' p q = one_kind a.0 r r' p q

module _ (κs : Lfts 2) where
  pub ring_read_once : Twice readers·promise.ring_read.ended κs (readers.ring_read.Reads.Learnt κs) (λ r e r' e'. (r ≡ r') × (e.1.0.now ≡ e'.1.0.now))
  ring_read_once a r r' e e' p q = rings.told_by _ _ _ _ r r' _ _ p.row q.row p.slot q.slot p.total q.total

  pub vector_read_once : Twice readers·promise.vector_read.ended κs (readers.vector_read.Reads.Learnt κs) (λ r e r' e'. (r ≡ r') × (e.1.0.now ≡ e'.1.0.now))
  vector_read_once a r r' e e' p q = vectors.told_by _ _ _ _ r r' _ _ p.row q.row p.slot q.slot p.total q.total

module _ (κs : Lfts 1) where
  pub check_once : Twice judges·promise.check.ended κs (judges.check.Reads.Learnt κs) (λ r e r' e'. r ≡ r')
  check_once a r r' e e' p q = p ∙ sym q
