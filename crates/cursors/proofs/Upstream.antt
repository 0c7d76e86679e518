-- Upstream's clauses of iterators hold of each function: from its generated contract, which is the promise that the table's law of the call asks for, to the
-- record of the call's clauses, which is the same over a ring and a vector. Upstream's `remaining` and `into_iter_elts` are the entries from the cursor's
-- front to its back. What a step does to them no clause says; paper 01 decides it. Each is said of any container, then of a ring and of a vector, by upstream's names.
use Prim.Native.Nat.{ℕ}
use mathlib.Core.List.{List}
use mir.Syntax.{Dict}
use denote.Ref.{Bor}
use denote.MutBor.{MutBor}
use denote.RattleType.{RattleType}
use denote.Param.Laws.{Laws, IsCopy}
use contract.Lifetimes.{Lfts}
use denote.Triple.Clauses.{AtExit}
use Rattle.std.specs.Prelude.{Result}
use Rattle.std.specs.declared.clone.Clone
use Rattle.slots.specs.Layout.{ring, vector}
use Rattle.table.specs.Answers.{numbered}
use Rattle.table.specs.declared.answers.Answer.{Answer}
use Rattle.table.specs.declared.answers.Both.{Both}
use Rattle.table.specs.declared.answers.Refusal.{Refusal}
use Rattle.table.proofs.Theorems.UpstreamWalks as law
use Rattle.table.proofs.Theorems.UpstreamWalks.{Begins, StepsFront, StepsBack, PeeksFront, PeeksBack, Fills}
use Rattle.ring.specs.contracts.Ring as ringed
use Rattle.ring.specs.declared.Ring.{Ring}
use Rattle.ring.specs.Seen as rings
use Rattle.vector.specs.contracts.Vector as vectored
use Rattle.vector.specs.declared.Vector.{Vector}
use Rattle.vector.specs.Seen as vectors
use Rattle.containers.specs.Reading.{tray_by}
use Rattle.containers.specs.declared.Container
use Rattle.containers.specs.contracts.RingContainer.TheImpl as as_ring
use Rattle.containers.specs.contracts.VectorContainer.TheImpl as as_vector
use Rattle.cursors.specs.declared.Cursor.{Cursor}
use Rattle.cursors.specs.Seen.{cursor, none, seen, seen_into}
use Rattle.cursors.proofs.Cursor as fn
use Rattle.cursors.specs.contracts.Cursor as promise

abbrev Told : Type 0
Told = Result (Answer Cursor) Refusal

abbrev ToldInto : Type 0
ToldInto = Result (Answer (Both Cursor Vector)) Refusal

-- In what follows v and s are the container that is walked over and its slots, u is the cursor given, w and z are T and its slots, r is the result, and e
-- the arguments as they are at the return: `e.1.1.1.1.0` are T's slots then. T is the type of the container, and C how its states are read; the rest is what a
-- generated contract is stated over beside them.
module _ (T : RattleType) (L : Laws T) (K : IsCopy T) (C : Container.Ghosts T.Denot) (D : Dict) (H : Clone.Ghosts T.Denot) (E : Dict)
    (v : T.Denot) (s : Bor (List ℕ)) where
  module _ (κs : Lfts 2) (r : Told) where
    pub iter : (e : AtExit (promise.iter.ended T C D H E) κs) → fn.iter.Reads.Learnt T L K C D H E κs (v, (s, tt)) r e
        → Begins C.reads.kind (tray_by C.reads v s.now) (seen (numbered none r) (tray_by C.reads v s.now))
    iter e learnt = law.iter_begins _ _ _ learnt.row

    pub into_iter : (e : AtExit (promise.into_iter.ended T C D H E) κs) → fn.into_iter.Reads.Learnt T L K C D H E κs (v, (s, tt)) r e
        → Begins C.reads.kind (tray_by C.reads v s.now) (seen (numbered none r) (tray_by C.reads v s.now))
    into_iter e learnt = law.into_iter_begins _ _ _ learnt.row

    pub step_front : (u : Cursor) (e : AtExit (promise.step_front.ended T C D H E) κs) → fn.step_front.Reads.Learnt T L K C D H E κs (u, (v, (s, tt))) r e
        → StepsFront C.reads.kind (tray_by C.reads v s.now) (cursor u) (seen (numbered u r) (tray_by C.reads v s.now))
    step_front u e learnt = law.front_steps _ _ _ _ learnt.row

    pub step_back : (u : Cursor) (e : AtExit (promise.step_back.ended T C D H E) κs) → fn.step_back.Reads.Learnt T L K C D H E κs (u, (v, (s, tt))) r e
        → StepsBack C.reads.kind (tray_by C.reads v s.now) (cursor u) (seen (numbered u r) (tray_by C.reads v s.now))
    step_back u e learnt = law.back_steps _ _ _ _ learnt.row

    pub peek_front : (u : Cursor) (m : ℕ) (e : AtExit (promise.peek_front.ended T C D H E) κs)
        → fn.peek_front.Reads.Learnt T L K C D H E κs (u, (v, (s, (m, tt)))) r e
        → PeeksFront C.reads.kind (tray_by C.reads v s.now) (cursor u) m (seen (numbered u r) (tray_by C.reads v s.now))
    peek_front u m e learnt = law.front_peeks _ _ _ _ m learnt.row

    pub peek_back : (u : Cursor) (m : ℕ) (e : AtExit (promise.peek_back.ended T C D H E) κs)
        → fn.peek_back.Reads.Learnt T L K C D H E κs (u, (v, (s, (m, tt)))) r e
        → PeeksBack C.reads.kind (tray_by C.reads v s.now) (cursor u) m (seen (numbered u r) (tray_by C.reads v s.now))
    peek_back u m e learnt = law.back_peeks _ _ _ _ m learnt.row

  pub from_iter : (κs : Lfts 3) (u : Cursor) (w : Vector) (z : MutBor (List ℕ)) (r : ToldInto) (e : AtExit (promise.from_iter.ended T C D H E) κs)
      → fn.from_iter.Reads.Learnt T L K C D H E κs (u, (v, (s, (w, (z, tt))))) r e
      → Fills C.reads.kind vector (tray_by C.reads v s.now) (vectors.tray w z.now) (cursor u)
      (seen_into (numbered (record { first = u; second = w }) r) (tray_by C.reads v s.now) e.1.1.1.1.0.now)
  from_iter κs u w z r e learnt = law.from_iter_fills _ vector _ _ _ _ learnt.row

-- of a ring
module _ (L : Laws ringed.the_row) (K : IsCopy ringed.the_row) (D : Dict) (H : Clone.Ghosts Ring) (E : Dict) (v : Ring) (s : Bor (List ℕ)) where
  module _ (κs : Lfts 2) (r : Told) where
    pub ring_iter : (e : AtExit (promise.iter.ended ringed.the_row as_ring.ghosts D H E) κs)
        → fn.iter.Reads.Learnt ringed.the_row L K as_ring.ghosts D H E κs (v, (s, tt)) r e
        → Begins ring (rings.tray v s.now) (seen (numbered none r) (rings.tray v s.now))
    ring_iter e learnt = iter ringed.the_row L K as_ring.ghosts D H E v s κs r e learnt

    pub ring_step_front : (u : Cursor) (e : AtExit (promise.step_front.ended ringed.the_row as_ring.ghosts D H E) κs)
        → fn.step_front.Reads.Learnt ringed.the_row L K as_ring.ghosts D H E κs (u, (v, (s, tt))) r e
        → StepsFront ring (rings.tray v s.now) (cursor u) (seen (numbered u r) (rings.tray v s.now))
    ring_step_front u e learnt = step_front ringed.the_row L K as_ring.ghosts D H E v s κs r u e learnt

    pub ring_step_back : (u : Cursor) (e : AtExit (promise.step_back.ended ringed.the_row as_ring.ghosts D H E) κs)
        → fn.step_back.Reads.Learnt ringed.the_row L K as_ring.ghosts D H E κs (u, (v, (s, tt))) r e
        → StepsBack ring (rings.tray v s.now) (cursor u) (seen (numbered u r) (rings.tray v s.now))
    ring_step_back u e learnt = step_back ringed.the_row L K as_ring.ghosts D H E v s κs r u e learnt

    pub ring_peek_front : (u : Cursor) (m : ℕ) (e : AtExit (promise.peek_front.ended ringed.the_row as_ring.ghosts D H E) κs)
        → fn.peek_front.Reads.Learnt ringed.the_row L K as_ring.ghosts D H E κs (u, (v, (s, (m, tt)))) r e
        → PeeksFront ring (rings.tray v s.now) (cursor u) m (seen (numbered u r) (rings.tray v s.now))
    ring_peek_front u m e learnt = peek_front ringed.the_row L K as_ring.ghosts D H E v s κs r u m e learnt

    pub ring_peek_back : (u : Cursor) (m : ℕ) (e : AtExit (promise.peek_back.ended ringed.the_row as_ring.ghosts D H E) κs)
        → fn.peek_back.Reads.Learnt ringed.the_row L K as_ring.ghosts D H E κs (u, (v, (s, (m, tt)))) r e
        → PeeksBack ring (rings.tray v s.now) (cursor u) m (seen (numbered u r) (rings.tray v s.now))
    ring_peek_back u m e learnt = peek_back ringed.the_row L K as_ring.ghosts D H E v s κs r u m e learnt

  pub ring_from_iter : (κs : Lfts 3) (u : Cursor) (w : Vector) (z : MutBor (List ℕ)) (r : ToldInto)
      (e : AtExit (promise.from_iter.ended ringed.the_row as_ring.ghosts D H E) κs)
      → fn.from_iter.Reads.Learnt ringed.the_row L K as_ring.ghosts D H E κs (u, (v, (s, (w, (z, tt))))) r e
      → Fills ring vector (rings.tray v s.now) (vectors.tray w z.now) (cursor u)
      (seen_into (numbered (record { first = u; second = w }) r) (rings.tray v s.now) e.1.1.1.1.0.now)
  ring_from_iter κs u w z r e learnt = from_iter ringed.the_row L K as_ring.ghosts D H E v s κs u w z r e learnt

-- of a vector
module _ (L : Laws vectored.the_row) (K : IsCopy vectored.the_row) (D : Dict) (H : Clone.Ghosts Vector) (E : Dict) (v : Vector) (s : Bor (List ℕ)) where
  module _ (κs : Lfts 2) (r : Told) where
    pub vector_iter : (e : AtExit (promise.iter.ended vectored.the_row as_vector.ghosts D H E) κs)
        → fn.iter.Reads.Learnt vectored.the_row L K as_vector.ghosts D H E κs (v, (s, tt)) r e
        → Begins vector (vectors.tray v s.now) (seen (numbered none r) (vectors.tray v s.now))
    vector_iter e learnt = iter vectored.the_row L K as_vector.ghosts D H E v s κs r e learnt

    pub vector_into_iter : (e : AtExit (promise.into_iter.ended vectored.the_row as_vector.ghosts D H E) κs)
        → fn.into_iter.Reads.Learnt vectored.the_row L K as_vector.ghosts D H E κs (v, (s, tt)) r e
        → Begins vector (vectors.tray v s.now) (seen (numbered none r) (vectors.tray v s.now))
    vector_into_iter e learnt = into_iter vectored.the_row L K as_vector.ghosts D H E v s κs r e learnt

    pub vector_step_front : (u : Cursor) (e : AtExit (promise.step_front.ended vectored.the_row as_vector.ghosts D H E) κs)
        → fn.step_front.Reads.Learnt vectored.the_row L K as_vector.ghosts D H E κs (u, (v, (s, tt))) r e
        → StepsFront vector (vectors.tray v s.now) (cursor u) (seen (numbered u r) (vectors.tray v s.now))
    vector_step_front u e learnt = step_front vectored.the_row L K as_vector.ghosts D H E v s κs r u e learnt

    pub vector_step_back : (u : Cursor) (e : AtExit (promise.step_back.ended vectored.the_row as_vector.ghosts D H E) κs)
        → fn.step_back.Reads.Learnt vectored.the_row L K as_vector.ghosts D H E κs (u, (v, (s, tt))) r e
        → StepsBack vector (vectors.tray v s.now) (cursor u) (seen (numbered u r) (vectors.tray v s.now))
    vector_step_back u e learnt = step_back vectored.the_row L K as_vector.ghosts D H E v s κs r u e learnt

    pub vector_peek_front : (u : Cursor) (m : ℕ) (e : AtExit (promise.peek_front.ended vectored.the_row as_vector.ghosts D H E) κs)
        → fn.peek_front.Reads.Learnt vectored.the_row L K as_vector.ghosts D H E κs (u, (v, (s, (m, tt)))) r e
        → PeeksFront vector (vectors.tray v s.now) (cursor u) m (seen (numbered u r) (vectors.tray v s.now))
    vector_peek_front u m e learnt = peek_front vectored.the_row L K as_vector.ghosts D H E v s κs r u m e learnt

    pub vector_peek_back : (u : Cursor) (m : ℕ) (e : AtExit (promise.peek_back.ended vectored.the_row as_vector.ghosts D H E) κs)
        → fn.peek_back.Reads.Learnt vectored.the_row L K as_vector.ghosts D H E κs (u, (v, (s, (m, tt)))) r e
        → PeeksBack vector (vectors.tray v s.now) (cursor u) m (seen (numbered u r) (vectors.tray v s.now))
    vector_peek_back u m e learnt = peek_back vectored.the_row L K as_vector.ghosts D H E v s κs r u m e learnt

  pub vector_from_iter : (κs : Lfts 3) (u : Cursor) (w : Vector) (z : MutBor (List ℕ)) (r : ToldInto)
      (e : AtExit (promise.from_iter.ended vectored.the_row as_vector.ghosts D H E) κs)
      → fn.from_iter.Reads.Learnt vectored.the_row L K as_vector.ghosts D H E κs (u, (v, (s, (w, (z, tt))))) r e
      → Fills vector vector (vectors.tray v s.now) (vectors.tray w z.now) (cursor u)
      (seen_into (numbered (record { first = u; second = w }) r) (vectors.tray v s.now) e.1.1.1.1.0.now)
  vector_from_iter κs u w z r e learnt = from_iter vectored.the_row L K as_vector.ghosts D H E v s κs u w z r e learnt
