-- What was written comes back through `read`: of any list of byte strings, quoted, doubled and joined, with any record end behind it, the call that is
-- done gives starts and ends of fields whose own bytes are that list.
use mathlib.Core.Path.{◌≡◌, sym, ap, subst, ◌∙◌}
use mathlib.Core.List.{List, ◌∷◌, ◌++◌}
use mathlib.Core.Logic.{◌⊎◌}
use Prim.Native.Nat.{ℕ}
use lib.ListN.{length}
use contract.Lifetimes.{Lfts}
use denote.Triple.Clauses.{AtExit}
use borrow.Fn.World.{ArgsD, ResD}
use Rattle.slots.specs.Layout.{vector}
use Rattle.table.specs.Tray.{list}
use Rattle.vector.specs.Seen.{tray}
use Rattle.record.specs.Grammar.{Ends, Reads, Fits}
use Rattle.table.specs.Answers.{numbered}
use Rattle.table.specs.declared.answers.Both.{Both}
use Rattle.table.specs.declared.answers.Numbered.{Numbered}
use Rattle.vector.specs.declared.Vector.{Vector}
use Rattle.pairs.specs.Seen.{both}
use Rattle.record.specs.Places.{firsts, lasts}
use Rattle.record.specs.Numbers.{Applies}
use Rattle.record.specs.Undone.{own_bytes}
use Rattle.record.specs.Written.{written}
use Rattle.record.proofs.Theorems.RoundTrip.{written_at, written_reads, round_trip}
use Rattle.record.proofs.Theorems.Numbers.{read_done, read_exactly}
use Rattle.record.specs.contracts.read as read·fn
use Rattle.record.proofs.read.Reads as read·reads

-- From the generated contract: a are the arguments, r is the result, and e the arguments as they are at the return.
module _ (κs : Lfts 3) (a : ArgsD read·fn.signature κs) (r : ResD read·fn.signature κs) (e : AtExit read·fn.ended κs) (learnt : read·reads.Learnt κs a r e) where
  -- the answer as the papers number it
  abbrev n : Numbered (Both Vector Vector)
  n = numbered (both a.1.0 a.1.1.1.0) r

  pub read_back : (f : List ℕ) (fs : List (List ℕ)) (rest : List ℕ) (next : ℕ) → Ends (length (written (f ∷ fs))) rest next → a.0.now ≡ written (f ∷ fs) ++ rest
      → n.number ≡ 0
      → (n.value ≡ next) × (fields : List (ℕ × ℕ)) × (list vector (tray n.state.first e.1.1.0.now) ≡ firsts fields)
      × (list vector (tray n.state.second e.1.1.1.1.0.now) ≡ lasts fields) × (own_bytes a.0.now fields ≡ f ∷ fs)
  read_back f fs rest next ends is done =
      let d = read_done κs a r e learnt done in
      let back = round_trip f fs rest next ends d.fields d.next (subst (λ text. Reads text d.fields d.next) is d.reads) in
      (d.value ∙ back.0, d.fields, d.starts, d.ends, ap (λ text. own_bytes text d.fields) is ∙ back.1)

  -- and it is done, unless 1, 2, 5, 11 or 6 applies
  pub read_back_done : (f : List ℕ) (fs : List (List ℕ)) (rest : List ℕ) (next : ℕ) → Ends (length (written (f ∷ fs))) rest next → a.0.now ≡ written (f ∷ fs) ++ rest
      → ((j : ℕ) → Applies a.0.now (tray a.1.0 a.1.1.0.now) (tray a.1.1.1.0 a.1.1.1.1.0.now) j → (j ≡ 9) ⊎ (j ≡ 10))
      → n.number ≡ 0
  read_back_done f fs rest next ends is only =
      (read_exactly κs a r e learnt only).1 (subst Fits (sym is) (written_at 0 (f ∷ fs), next, written_reads f fs rest next ends))
