-- A record that is read has no more fields than there are slots on either side.
use mathlib.Core.Path.{◌≡◌, refl, sym, ap}
use mathlib.Core.Bool.{Bool, true, false, not}
use mathlib.Core.List.{List, [], ◌∷◌}
use Prim.Native.Nat.{ℕ, ◌≤◌}
use native.Mathlib.Omega.{arith}
use borrow.Author.Tests.{ltb-false, eqb-false, not-true}
use lib.Dec.{eqb, ltb}
use lib.ListN.{length}
use Rattle.slots.specs.Layout.{vector}
use Rattle.table.specs.Tray.{Tray, cap, valid, nowhere}
use Rattle.table.specs.Table.{holding}
use Rattle.table.specs.Does.{Outcome2, refused2}
use Rattle.vector.specs.declared.Vector.{Vector}
use Rattle.vector.specs.Seen.{tray}
use Rattle.std.specs.Prelude.{Ok}
use Rattle.table.specs.declared.answers.Answer.{Answer}
use Rattle.table.specs.declared.answers.Both.{Both}
use Rattle.record.specs.Scan.{scanned}
use Rattle.record.specs.Places.{firsts}
use Rattle.record.specs.Steps.{number_of}
use Rattle.record.specs.Recorded.{longest, first_of, places, records, Records}
use Rattle.record.proofs.Laws.Saying.{length_firsts}

-- by the tests, one after another: what is answered 0 has passed them all
module _ (text : List ℕ) (t t2 : Tray) where
  abbrev by : (b1 b2 b3 b4 b5 b6 b7 b8 : Bool) (number : ℕ) → Outcome2
  by b1 b2 b3 b4 b5 b6 b7 b8 number =
      first_of (refused2 t t2 nowhere) ((b1, 1) ∷ (b2, 2) ∷ (b3, 5) ∷ (b4, 5) ∷ (b5, 11) ∷ (b6, number) ∷ (b7, 6) ∷ (b8, 6) ∷ []) (places text t t2)

  passed : (b1 b2 b3 b4 b5 b6 b7 b8 : Bool) (number : ℕ) → (b6 ≡ true → number ≡ 0 → ⊥) → (by b1 b2 b3 b4 b5 b6 b7 b8 number).number ≡ 0
      → (b7 ≡ false) × (b8 ≡ false) × ((by b1 b2 b3 b4 b5 b6 b7 b8 number).first.len ≡ length (firsts (scanned text).fields))
  passed true b2 b3 b4 b5 b6 b7 b8 number other e = absurd (omega arith)
  passed false true b3 b4 b5 b6 b7 b8 number other e = absurd (omega arith)
  passed false false true b4 b5 b6 b7 b8 number other e = absurd (omega arith)
  passed false false false true b5 b6 b7 b8 number other e = absurd (omega arith)
  passed false false false false true b6 b7 b8 number other e = absurd (omega arith)
  passed false false false false false true b7 b8 number other e = absurd (other refl e)
  passed false false false false false false true b8 number other e = absurd (omega arith)
  passed false false false false false false false true number other e = absurd (omega arith)
  passed false false false false false false false false number other e = (refl, refl, refl)

  fit : (records text t t2).number ≡ 0 → ((records text t t2).first.len ≤ cap t) × ((records text t t2).first.len ≤ cap t2)
  unfolding records
  fit e =
      let n : ℕ = length (scanned text).fields in
      let p = passed (not (valid vector (cap t) 0 t.len)) (not (valid vector (cap t2) 0 t2.len)) (holding t.len) (holding t2.len) (ltb longest (length text))
      (not (eqb (number_of (scanned text).ending) 0)) (ltb (cap t) n) (ltb (cap t2) n) (number_of (scanned text).ending)
      (λ b. eqb-false (number_of (scanned text).ending) 0 (not-true _ b)) e in (
        omega (arith, p.2, length_firsts (scanned text).fields, ltb-false (cap t) n p.0),
        omega (arith, p.2, length_firsts (scanned text).fields, ltb-false (cap t2) n p.1),
      )

module _ (text : List ℕ) (first : Vector) (s : List ℕ) (second : Vector) (z : List ℕ) (a : Answer (Both Vector Vector)) (s' z' : List ℕ) (r : Records text first s second z (Ok a) s' z') where
  pub fits : (a.state.first.len ≤ length s) × (a.state.first.len ≤ length z)
  fits =
      let f = fit text (tray first s) (tray second z) (sym (ap (λ (o : Outcome2). o.number) r.row)) in
      (omega (arith, ap (λ (o : Outcome2). o.first.len) r.row, f.0), omega (arith, ap (λ (o : Outcome2). o.first.len) r.row, f.1))
