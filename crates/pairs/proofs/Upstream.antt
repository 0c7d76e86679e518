-- Upstream's clauses on two containers of one kind, each from the generated contract of its function, by the table's law of the same name: whichever kind it is.
-- `UpstreamRings` and `UpstreamVectors` say it of either.
use Prim.Native.Nat.{ℕ, ◌<◌}
use mathlib.Core.Path.{◌≡◌}
use mathlib.Core.Bool.{false}
use mathlib.Core.List.{List, [], ◌++◌}
use lib.ListN.{length, get_or, take, drop}
use mir.Syntax.{Dict}
use denote.Ref.{Bor}
use denote.MutBor.{MutBor}
use denote.RattleType.{RattleType}
use denote.Param.Laws.{Laws, IsCopy}
use contract.Lifetimes.{Lfts}
use denote.Triple.Clauses.{AtExit}
use Rattle.std.specs.Prelude.{Result}
use Rattle.std.specs.declared.clone.Clone
use Rattle.table.specs.Tray.{list, invalid}
use Rattle.table.specs.Answers.{numbered}
use Rattle.table.specs.declared.answers.Answer.{Answer}
use Rattle.table.specs.declared.answers.Both.{Both}
use Rattle.table.specs.declared.answers.Refusal.{Refusal}
use Rattle.table.proofs.Theorems.Upstream.{IfRoom}
use Rattle.table.proofs.Theorems.UpstreamTwo as law
use Rattle.table.proofs.Theorems.UpstreamTwo.{IfTakes, IfSplits}
use Rattle.containers.specs.Reading.{Reading, tray_by}
use Rattle.containers.specs.declared.Container
use Rattle.pairs.specs.Seen.{both}
use Rattle.pairs.proofs.append as append·fn
use Rattle.pairs.specs.contracts.append as append·promise
use Rattle.pairs.proofs.split_off as split_off·fn
use Rattle.pairs.specs.contracts.split_off as split_off·promise
use Rattle.pairs.proofs.clone as clone·fn
use Rattle.pairs.specs.contracts.clone as clone·promise

abbrev pub Answered : Type 0 → Type 0
Answered S = Result (Answer (Both S S)) Refusal

-- a container's list, and that it is one
abbrev pub view : {S : Type 0} → Reading S → S → List ℕ → List ℕ
view of v s = list of.kind (tray_by of v s)

abbrev pub Valid : {S : Type 0} → Reading S → S → List ℕ → Type 0
Valid of v s = invalid of.kind (tray_by of v s) ≡ false

-- In what follows v and s are the container named first and its slots, w and z are T and its slots, r is the result, and e the arguments as they are at the
-- return: `e.1.0` are the first's slots then, and the other of e are T's. T is the type of the containers, and C how their states are read; the rest is
-- what a generated contract is stated over beside them.
module _ (T : RattleType) (L : Laws T) (K : IsCopy T) (C : Container.Ghosts T.Denot) (D : Dict) (H : Clone.Ghosts T.Denot) (E : Dict) where
  module _ (κs : Lfts 3) (v w : T.Denot) (s : MutBor (List ℕ)) (z : MutBor (List ℕ)) (r : Answered T.Denot) (e : AtExit (append·promise.ended T C D H E) κs)
      (learnt : append·fn.Reads.Learnt T L K C D H E κs (v, (s, (w, (z, tt)))) r e) where
    pub append_list : (numbered (both v w) r).number ≡ 0 → view C.reads (numbered (both v w) r).state.first e.1.0.now ≡ view C.reads v s.now ++ view C.reads w z.now
    append_list = law.append_list C.reads.kind C.reads.kind _ _ _ learnt.row

    pub append_other : (numbered (both v w) r).number ≡ 0 → view C.reads (numbered (both v w) r).state.second e.1.1.1.0.now ≡ []
    append_other = law.append_other C.reads.kind C.reads.kind _ _ _ learnt.row

    pub append_answers : Valid C.reads v s.now → Valid C.reads w z.now
        → IfRoom (numbered (both v w) r).number (length s.now) (length (view C.reads v s.now)) (length (view C.reads w z.now))
    append_answers ok ok2 = law.append_answers C.reads.kind C.reads.kind _ _ _ ok ok2 learnt.row

  module _ (κs : Lfts 3) (v w : T.Denot) (s : MutBor (List ℕ)) (z : MutBor (List ℕ)) (at : ℕ) (r : Answered T.Denot) (e : AtExit (split_off·promise.ended T C D H E) κs)
      (learnt : split_off·fn.Reads.Learnt T L K C D H E κs (v, (s, (at, (w, (z, tt))))) r e) where
    pub split_off_list : (numbered (both v w) r).number ≡ 0 → view C.reads (numbered (both v w) r).state.first e.1.0.now ≡ take at (view C.reads v s.now)
    split_off_list = law.split_off_list C.reads.kind C.reads.kind _ _ _ _ learnt.row

    pub split_off_other : (numbered (both v w) r).number ≡ 0 → view C.reads (numbered (both v w) r).state.second e.1.1.1.1.0.now ≡ drop at (view C.reads v s.now)
    split_off_other = law.split_off_other C.reads.kind C.reads.kind _ _ _ _ learnt.row

    pub split_off_answers : Valid C.reads v s.now → Valid C.reads w z.now
        → IfSplits (numbered (both v w) r).number (length (view C.reads v s.now)) at (length z.now) (length (view C.reads w z.now))
    split_off_answers ok ok2 = law.split_off_answers C.reads.kind C.reads.kind _ _ _ ok ok2 _ learnt.row

  module _ (κs : Lfts 3) (v w : T.Denot) (s : Bor (List ℕ)) (z : MutBor (List ℕ)) (r : Answered T.Denot) (e : AtExit (clone·promise.ended T C D H E) κs)
      (learnt : clone·fn.Reads.Learnt T L K C D H E κs (v, (s, (w, (z, tt)))) r e) where
    pub clone_list : (numbered (both v w) r).number ≡ 0 → view C.reads (numbered (both v w) r).state.second e.1.1.1.0.now ≡ view C.reads v s.now
    clone_list = law.clone_list C.reads.kind C.reads.kind _ _ _ learnt.row

    pub clone_length : (numbered (both v w) r).number ≡ 0 → length (view C.reads (numbered (both v w) r).state.second e.1.1.1.0.now) ≡ length (view C.reads v s.now)
    clone_length = law.clone_length C.reads.kind C.reads.kind _ _ _ learnt.row

    pub clone_entry : (numbered (both v w) r).number ≡ 0 → (i : ℕ) → i < length (view C.reads v s.now)
        → get_or (view C.reads (numbered (both v w) r).state.second e.1.1.1.0.now) i 0 ≡ get_or (view C.reads v s.now) i 0
    clone_entry = law.clone_entry C.reads.kind C.reads.kind _ _ _ learnt.row

    pub clone_answers : Valid C.reads v s.now → Valid C.reads w z.now
        → IfTakes (numbered (both v w) r).number (length z.now) (length (view C.reads w z.now)) (length (view C.reads v s.now))
    clone_answers ok ok2 = law.clone_answers C.reads.kind C.reads.kind _ _ _ ok ok2 learnt.row
