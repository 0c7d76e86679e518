-- Each call of this crate is an event of demand 3 on two containers, whichever kind they are of: what a caller learns of it is what `Ours` asks.
use Prim.Native.Nat.{ℕ}
use mathlib.Core.Path.{◌≡◌, refl}
use mathlib.Core.Bool.{true}
use mir.Syntax.{Dict}
use denote.RattleType.{RattleType}
use denote.Param.Laws.{Laws, IsCopy}
use contract.Lifetimes.{Lfts}
use denote.Triple.Clauses.{AtExit}
use borrow.Fn.World.{ArgsD, ResD}
use Rattle.std.specs.declared.clone.Clone
use Rattle.slots.specs.Layout.{Kind, ring, vector}
use Rattle.table.specs.Calls.{has2, append, split_off, clone, same}
use Rattle.table.specs.World.{World, on_two, Ours}
use Rattle.table.specs.Answers.{numbered}
use Rattle.table.proofs.Laws.Named.{Are, ours_on_two}
use Rattle.ring.specs.contracts.Ring as ringed
use Rattle.ring.specs.declared.Ring.{Ring}
use Rattle.ring.specs.Seen as rings
use Rattle.vector.specs.contracts.Vector as vectored
use Rattle.vector.specs.declared.Vector.{Vector}
use Rattle.vector.specs.Seen as vectors
use Rattle.containers.specs.Reading.{tray_by}
use Rattle.containers.specs.declared.Container
use Rattle.containers.specs.contracts.RingContainer.TheImpl as as_ring
use Rattle.containers.specs.contracts.VectorContainer.TheImpl as as_vector
use Rattle.pairs.specs.Seen.{both, seen2}
use Rattle.pairs.proofs.append as append·fn
use Rattle.pairs.specs.contracts.append as append·promise
use Rattle.pairs.proofs.split_off as split_off·fn
use Rattle.pairs.specs.contracts.split_off as split_off·promise
use Rattle.pairs.proofs.clone as clone·fn
use Rattle.pairs.specs.contracts.clone as clone·promise
use Rattle.pairs.proofs.same as same·fn
use Rattle.pairs.specs.contracts.same as same·promise

-- two of one kind have each of these calls
appends : (k : Kind) → has2 append k k ≡ true
appends ring = refl
appends vector = refl

splits : (k : Kind) (at : ℕ) → has2 (split_off at) k k ≡ true
splits ring at = refl
splits vector at = refl

clones : (k : Kind) → has2 clone k k ≡ true
clones ring = refl
clones vector = refl

-- T is the type of the containers, and C how their states are read; the rest is what a generated contract is stated over beside them. In what follows a are the
-- arguments, r is the result, and e the arguments as they are at the return.
module _ (T : RattleType) (L : Laws T) (K : IsCopy T) (C : Container.Ghosts T.Denot) (D : Dict) (H : Clone.Ghosts T.Denot) (E : Dict) (w : World) (i j : ℕ)
    (κs : Lfts 3) where
  pub append_ours : (a : ArgsD (append·promise.signature T) κs) (r : ResD (append·promise.signature T) κs) (e : AtExit (append·promise.ended T C D H E) κs)
      → Are w i j C.reads.kind C.reads.kind (tray_by C.reads a.0 a.1.0.now) (tray_by C.reads a.1.1.0 a.1.1.1.0.now) → append·fn.Reads.Learnt T L K C D H E κs a r e
      → Ours w (on_two i j append (seen2 C.reads C.reads (numbered (both a.0 a.1.1.0) r) e.1.0.now e.1.1.1.0.now))
  append_ours a r e are learnt = ours_on_two w i j _ _ _ _ _ _ (appends C.reads.kind) are learnt.row

  pub split_off_ours : (a : ArgsD (split_off·promise.signature T) κs) (r : ResD (split_off·promise.signature T) κs) (e : AtExit (split_off·promise.ended T C D H E) κs)
      → Are w i j C.reads.kind C.reads.kind (tray_by C.reads a.0 a.1.0.now) (tray_by C.reads a.1.1.1.0 a.1.1.1.1.0.now)
      → split_off·fn.Reads.Learnt T L K C D H E κs a r e
      → Ours w (on_two i j (split_off a.1.1.0) (seen2 C.reads C.reads (numbered (both a.0 a.1.1.1.0) r) e.1.0.now e.1.1.1.1.0.now))
  split_off_ours a r e are learnt = ours_on_two w i j _ _ _ _ _ _ (splits C.reads.kind a.1.1.0) are learnt.row

  pub clone_ours : (a : ArgsD (clone·promise.signature T) κs) (r : ResD (clone·promise.signature T) κs) (e : AtExit (clone·promise.ended T C D H E) κs)
      → Are w i j C.reads.kind C.reads.kind (tray_by C.reads a.0 a.1.0.now) (tray_by C.reads a.1.1.0 a.1.1.1.0.now) → clone·fn.Reads.Learnt T L K C D H E κs a r e
      → Ours w (on_two i j clone (seen2 C.reads C.reads (numbered (both a.0 a.1.1.0) r) a.1.0.now e.1.1.1.0.now))
  clone_ours a r e are learnt = ours_on_two w i j _ _ _ _ _ _ (clones C.reads.kind) are learnt.row

-- `same` of two types, T and T2, where the papers compare such
module _ (T T2 : RattleType) (L : Laws T) (L2 : Laws T2) (K : IsCopy T) (K2 : IsCopy T2) (C : Container.Ghosts T.Denot) (D : Dict) (H : Clone.Ghosts T.Denot) (E : Dict)
    (C2 : Container.Ghosts T2.Denot) (D2 : Dict) (H2 : Clone.Ghosts T2.Denot) (E2 : Dict) (w : World) (i j : ℕ) (κs : Lfts 4) where
  pub same_ours : (compared : has2 same C.reads.kind C2.reads.kind ≡ true) (a : ArgsD (same·promise.signature T T2) κs) (r : ResD (same·promise.signature T T2) κs)
      (e : AtExit (same·promise.ended T T2 C D H E C2 D2 H2 E2) κs)
      → Are w i j C.reads.kind C2.reads.kind (tray_by C.reads a.0 a.1.0.now) (tray_by C2.reads a.1.1.0 a.1.1.1.0.now)
      → same·fn.Reads.Learnt T T2 L L2 K K2 C D H E C2 D2 H2 E2 κs a r e
      → Ours w (on_two i j same (seen2 C.reads C2.reads (numbered (both a.0 a.1.1.0) r) a.1.0.now a.1.1.1.0.now))
  same_ours compared a r e are learnt = ours_on_two w i j _ _ _ _ _ _ compared are learnt.row

-- of two rings
module _ (L : Laws ringed.the_row) (L2 : Laws ringed.the_row) (K : IsCopy ringed.the_row) (K2 : IsCopy ringed.the_row) (D : Dict) (H : Clone.Ghosts Ring) (E : Dict)
    (D2 : Dict) (H2 : Clone.Ghosts Ring) (E2 : Dict) (w : World) (i j : ℕ) (κs : Lfts 4) where
  pub ring_same_ours : (a : ArgsD (same·promise.signature ringed.the_row ringed.the_row) κs) (r : ResD (same·promise.signature ringed.the_row ringed.the_row) κs)
      (e : AtExit (same·promise.ended ringed.the_row ringed.the_row as_ring.ghosts D H E as_ring.ghosts D2 H2 E2) κs)
      → Are w i j ring ring (rings.tray a.0 a.1.0.now) (rings.tray a.1.1.0 a.1.1.1.0.now)
      → same·fn.Reads.Learnt ringed.the_row ringed.the_row L L2 K K2 as_ring.ghosts D H E as_ring.ghosts D2 H2 E2 κs a r e
      → Ours w (on_two i j same (seen2 as_ring.ghosts.reads as_ring.ghosts.reads (numbered (both a.0 a.1.1.0) r) a.1.0.now a.1.1.1.0.now))
  ring_same_ours a r e are learnt = same_ours ringed.the_row ringed.the_row L L2 K K2 as_ring.ghosts D H E as_ring.ghosts D2 H2 E2 w i j κs refl a r e are learnt

-- of two vectors
module _ (L : Laws vectored.the_row) (L2 : Laws vectored.the_row) (K : IsCopy vectored.the_row) (K2 : IsCopy vectored.the_row) (D : Dict) (H : Clone.Ghosts Vector)
    (E : Dict)
    (D2 : Dict) (H2 : Clone.Ghosts Vector) (E2 : Dict) (w : World) (i j : ℕ) (κs : Lfts 4) where
  pub vector_same_ours : (a : ArgsD (same·promise.signature vectored.the_row vectored.the_row) κs) (r : ResD (same·promise.signature vectored.the_row vectored.the_row) κs)
      (e : AtExit (same·promise.ended vectored.the_row vectored.the_row as_vector.ghosts D H E as_vector.ghosts D2 H2 E2) κs)
      → Are w i j vector vector (vectors.tray a.0 a.1.0.now) (vectors.tray a.1.1.0 a.1.1.1.0.now)
      → same·fn.Reads.Learnt vectored.the_row vectored.the_row L L2 K K2 as_vector.ghosts D H E as_vector.ghosts D2 H2 E2 κs a r e
      → Ours w (on_two i j same (seen2 as_vector.ghosts.reads as_vector.ghosts.reads (numbered (both a.0 a.1.1.0) r) a.1.0.now a.1.1.1.0.now))
  vector_same_ours a r e are learnt = same_ours vectored.the_row vectored.the_row L L2 K K2 as_vector.ghosts D H E as_vector.ghosts D2 H2 E2 w i j κs refl a r e are learnt

-- of a ring and a vector
module _ (L : Laws ringed.the_row) (L2 : Laws vectored.the_row) (K : IsCopy ringed.the_row) (K2 : IsCopy vectored.the_row) (D : Dict) (H : Clone.Ghosts Ring) (E : Dict)
    (D2 : Dict) (H2 : Clone.Ghosts Vector) (E2 : Dict) (w : World) (i j : ℕ) (κs : Lfts 4) where
  pub same_as_vector_ours : (a : ArgsD (same·promise.signature ringed.the_row vectored.the_row) κs) (r : ResD (same·promise.signature ringed.the_row vectored.the_row) κs)
      (e : AtExit (same·promise.ended ringed.the_row vectored.the_row as_ring.ghosts D H E as_vector.ghosts D2 H2 E2) κs)
      → Are w i j ring vector (rings.tray a.0 a.1.0.now) (vectors.tray a.1.1.0 a.1.1.1.0.now)
      → same·fn.Reads.Learnt ringed.the_row vectored.the_row L L2 K K2 as_ring.ghosts D H E as_vector.ghosts D2 H2 E2 κs a r e
      → Ours w (on_two i j same (seen2 as_ring.ghosts.reads as_vector.ghosts.reads (numbered (both a.0 a.1.1.0) r) a.1.0.now a.1.1.1.0.now))
  same_as_vector_ours a r e are learnt = same_ours ringed.the_row vectored.the_row L L2 K K2 as_ring.ghosts D H E as_vector.ghosts D2 H2 E2 w i j κs refl a r e are learnt
