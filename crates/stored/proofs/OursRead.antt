-- Each reader is an event of demand 3: a container's one making, and the entries that the text tells enter. Done, the slots hold what is told; refused, nothing.
use Prim.Native.Nat.{ℕ}
use mathlib.Core.Path.{◌≡◌, refl}
use mathlib.Core.Bool.{true}
use mathlib.Core.List.{List, []}
use native.Mathlib.Omega.{arith}
use contract.Lifetimes.{Lfts}
use lib.ListN.{length}
use denote.Triple.Clauses.{AtExit}
use borrow.Fn.World.{ArgsD, ResD}
use Rattle.slots.specs.Layout.{Kind, ring, vector}
use Rattle.table.specs.Tray.{cap, list}
use Rattle.table.specs.Answers.{numbered}
use Rattle.table.specs.Calls.{alike}
use Rattle.table.specs.Does.{Outcome}
use Rattle.table.specs.Ledger.{if_done}
use Rattle.table.specs.Promise.{Holds, Arrives}
use Rattle.table.specs.World.{World, arrived, Ours}
use Rattle.table.proofs.Laws.Keeps.{refused_arrives}
use Rattle.table.proofs.Theorems.Home.{AtHome}
use Rattle.table.proofs.Theorems.AlwaysHome.{HomesMade}
use Rattle.table.proofs.Theorems.Capacity.{SizedMade}
use Rattle.ring.specs.Seen as rings
use Rattle.vector.specs.Seen as vectors
use Rattle.stored.specs.Judge.{told}
use Rattle.stored.specs.Reads.{reads, reading}
use Rattle.stored.proofs.Exactly.{stands_told, standing_valid}
use Rattle.stored.proofs.Given.{reads_either}
use Rattle.stored.proofs.readers as readers
use Rattle.stored.specs.contracts.readers as readers·promise

-- a reading of a kind makes a container of that kind
same_kind : (k k' : Kind) → alike k k' ≡ true → k ≡ k'
same_kind ring ring e = refl
same_kind ring vector e = absurd (let z : ◌≡◌ {A = ℕ} 0 1 = cc in omega arith)
same_kind vector ring e = absurd (let z : ◌≡◌ {A = ℕ} 0 1 = cc in omega arith)
same_kind vector vector e = refl

holds_told : (k : Kind) (text slots : List ℕ) → Holds k (reads k text slots).tray (if_done (reads k text slots).number (list k (told k text)) [])
holds_told k text slots =
    reads_either k text slots (λ o. Holds k o.tray (if_done o.number (list k (told k text)) []))
    (λ m over few. refused_arrives k (list k (told k text)) slots m over)
    (λ few ok same. let v = standing_valid k text (told k text) (stands_told k text ok) in record { good = record { fits = v.fits; headed = v.inside }; listed = refl })

pub reading_arrives : (k : Kind) (text : List ℕ) → Arrives (reading k text)
reading_arrives k text = record { holds = λ k' slots can. rw (← same_kind k k' can) (holds_told k text slots) }

-- an empty ring has head 0
home_told : (k : Kind) (text slots : List ℕ) → AtHome k (reads k text slots).tray
home_told ring text slots =
    reads_either ring text slots (λ (o : Outcome). o.tray.len ≡ 0 → o.tray.head ≡ 0) (λ m over few empty. refl)
    (λ few ok same. (standing_valid ring text (told ring text) (stands_told ring text ok)).home)
home_told vector text slots = tt

pub reading_homes : (k : Kind) (text : List ℕ) → HomesMade (reading k text)
reading_homes k text = record { home = λ k' slots can. home_told k' text slots }

-- and there are as many slots as were lent
pub reading_sized : (k : Kind) (text : List ℕ) → SizedMade (reading k text)
reading_sized k text = record { same = λ k' slots. reads_either k' text slots (λ (o : Outcome). cap o.tray ≡ length slots) (λ m over few. refl) (λ few ok same. same) }

pub ours_read : (w : World) (k : Kind) (text slots : List ℕ) (o : Outcome) → alike k k ≡ true → o ≡ reads k text slots → Ours w (arrived k (reading k text) slots o)
ours_read w k text slots o can e = (can, e, reading_arrives k text)

-- In what follows a are the arguments, r is the result, and e the arguments as they are at the return.
module _ (w : World) (κs : Lfts 2) where
  pub ring_read_ours : (a : ArgsD readers·promise.ring_read.signature κs) (r : ResD readers·promise.ring_read.signature κs) (e : AtExit readers·promise.ring_read.ended κs)
      → readers.ring_read.Reads.Learnt κs a r e → Ours w (arrived ring (reading ring a.0.now) a.1.0.now (rings.seen (numbered rings.bare_ring r) e.1.0.now))
  ring_read_ours a r e learnt = ours_read w ring _ _ _ refl learnt.row

  pub vector_read_ours : (a : ArgsD readers·promise.vector_read.signature κs) (r : ResD readers·promise.vector_read.signature κs) (e : AtExit readers·promise.vector_read.ended κs)
      → readers.vector_read.Reads.Learnt κs a r e → Ours w (arrived vector (reading vector a.0.now) a.1.0.now (vectors.seen (numbered vectors.none r) e.1.0.now))
  vector_read_ours a r e learnt = ours_read w vector _ _ _ refl learnt.row
