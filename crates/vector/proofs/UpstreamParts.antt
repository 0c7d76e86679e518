-- Upstream's clauses of a vector's parts, each from the generated contract of its function: what the part holds is `vec@`, or the range of it that is
-- asked. What a writable part leaves no contract here can say (docs/EXCEPTIONS.md).
use Prim.Native.Nat.{ℕ, ◌-◌, ◌≤◌}
use mathlib.Core.Path.{◌≡◌, ◌∙◌}
use mathlib.Core.List.{List, []}
use native.Mathlib.Omega.{arith}
use lib.ListN.{length, take, drop}
use contract.Lifetimes.{Lfts}
use denote.Ref.{Bor}
use denote.MutBor.{MutBor}
use denote.Triple.Clauses.{AtExit}
use Rattle.slots.specs.Layout.{vector}
use Rattle.table.specs.Numbers.{Astray}
use Rattle.table.proofs.Laws.Done.{many}
use Rattle.table.proofs.Theorems.Parts.{part_all, part_holds, part_none, lends_astray}
use Rattle.vector.specs.declared.Vector.{Vector}
use Rattle.vector.specs.Seen.{tray}
use Rattle.vector.proofs.Upstream.{view, Valid}
use Rattle.vector.proofs.Vector as fn
use Rattle.vector.specs.contracts.Vector as promise

-- In what follows v is the vector and s its slots, r is the part, and e the arguments as they are at the return.
module _ (κs : Lfts 1) (v : Vector) (s r : Bor (List ℕ)) where
  pub as_slice_view : (e : AtExit promise.as_slice.ended κs) → fn.as_slice.Reads.Learnt κs (v, (s, tt)) r e → Valid v s.now → r.now ≡ view v s.now
  as_slice_view e learnt ok = learnt.holds ∙ part_all (tray v s.now) ok

  pub as_ref_view : (e : AtExit promise.as_ref.ended κs) → fn.as_ref.Reads.Learnt κs (v, (s, tt)) r e → Valid v s.now → r.now ≡ view v s.now
  as_ref_view e learnt ok = learnt.holds ∙ part_all (tray v s.now) ok

  pub deref_view : (e : AtExit promise.deref.ended κs) → fn.deref.Reads.Learnt κs (v, (s, tt)) r e → Valid v s.now → r.now ≡ view v s.now
  deref_view e learnt ok = learnt.holds ∙ part_all (tray v s.now) ok

module _ (κs : Lfts 1) (v : Vector) (s r : MutBor (List ℕ)) where
  pub as_mut_slice_view : (e : AtExit promise.as_mut_slice.ended κs) → fn.as_mut_slice.Reads.Learnt κs (v, (s, tt)) r e → Valid v s.now → r.now ≡ view v s.now
  as_mut_slice_view e learnt ok = learnt.holds ∙ part_all (tray v s.now) ok

  pub deref_mut_view : (e : AtExit promise.deref_mut.ended κs) → fn.deref_mut.Reads.Learnt κs (v, (s, tt)) r e → Valid v s.now → r.now ≡ view v s.now
  deref_mut_view e learnt ok = learnt.holds ∙ part_all (tray v s.now) ok

-- index by a range a..b: the part of the list that it names, and nothing where it isn't one
module _ (κs : Lfts 1) (v : Vector) (s r : Bor (List ℕ)) (a b : ℕ) (e : AtExit promise.range.ended κs) (learnt : fn.range.Reads.Learnt κs (v, (s, (a, (b, tt)))) r e) where
  pub range_view : Valid v s.now → a ≤ b → b ≤ length (view v s.now) → r.now ≡ take (b - a) (drop a (view v s.now))
  range_view ok le fits = learnt.holds ∙ part_holds (tray v s.now) a b ok le (omega (arith, many vector (tray v s.now)))

  pub range_none : Astray a b (length (view v s.now)) → r.now ≡ []
  range_none out =
      let far : Astray a b v.len = rw (many vector (tray v s.now)) at out in
      learnt.holds ∙ part_none (tray v s.now) a b (lends_astray (tray v s.now) a b far)
