-- The call keeps demand 3's rule: refused, it leaves both vectors; done, both were empty, they hold the starts and the ends, and these entered.
use mathlib.Core.Path.{◌≡◌, refl}
use mathlib.Core.Bool.{true, not}
use mathlib.Core.List.{List, [], ◌++◌}
use Prim.Native.Nat.{ℕ, zero, suc, ◌≤◌, ◌<◌}
use native.Mathlib.Omega.{arith}
use borrow.Author.Tests.{ltb-false}
use lib.Dec.{eqb}
use lib.ListN.{length}
use Rattle.slots.specs.Layout.{Kind, ring, vector}
use Rattle.slots.proofs.Placing.{no_entries}
use Rattle.slots.proofs.Relaid.{length_relaid}
use Rattle.table.specs.Tray.{Tray, cap, list, nowhere}
use Rattle.table.specs.Does.{Outcome2, refused2}
use Rattle.table.specs.Ledger.{goes_by2}
use Rattle.table.specs.Promise.{Good, Keeps2, Kept2}
use Rattle.table.proofs.Laws.Keeps.{relay_holds, refused2_keeps}
use Rattle.table.proofs.Theorems.Home.{AtHome}
use Rattle.table.proofs.Theorems.AlwaysHome.{Homes2}
use Rattle.table.proofs.Theorems.Capacity.{Sized2}
use Rattle.record.specs.Scan.{scanned}
use Rattle.record.specs.Places.{firsts, lasts}
use Rattle.record.specs.Steps.{number_of}
use Rattle.record.specs.Recorded.{early_tests, late_tests, places, records, recording}
use Rattle.record.proofs.Laws.Order.{None, by_tests}
use Rattle.record.proofs.Laws.Saying.{not_held, length_firsts, length_lasts}

module _ (text : List ℕ) (t t2 : Tray) (good : Good t) (good2 : Good t2) where
  abbrev Kept : Outcome2 → Type 0
  Kept o = Keeps2 (goes_by2 o.number (recording text).rule) vector vector (list vector t) (list vector t2) o

  kept_refused : (m : ℕ) → 0 < m → Kept (refused2 t t2 nowhere m)
  kept_refused m above = refused2_keeps (recording text).rule vector vector t t2 nowhere m above good good2

  above_nine : not (eqb (number_of (scanned text).ending) 0) ≡ true → 0 < number_of (scanned text).ending
  above_nine e = go (number_of (scanned text).ending) e
    where
      go : (n : ℕ) → not (eqb n 0) ≡ true → 0 < n
      go zero e = absurd (let z : ◌≡◌ {A = ℕ} 0 1 = cc in omega arith)
      go (suc n) e = omega arith

  emptied : (t : Tray) → t.len ≡ 0 → list vector t ≡ []
  emptied t e = rw e (no_entries (λ j. j) t.slots)

  kept_done : None (early_tests (cap t) t.len (cap t2) t2.len (length text) ++ late_tests text (cap t) (cap t2)) → Kept (places text t t2)
  kept_done none =
      let l : list vector t ≡ [] = emptied t (not_held t.len none.1.1.0) in
      let l2 : list vector t2 ≡ [] = emptied t2 (not_held t2.len none.1.1.1.0) in
      let room : length (firsts (scanned text).fields) ≤ cap t = omega (arith, length_firsts (scanned text).fields, ltb-false (cap t) (length (scanned text).fields) none.1.1.1.1.1.1.0) in
      let room2 : length (lasts (scanned text).fields) ≤ cap t2 = omega (arith, length_lasts (scanned text).fields, ltb-false (cap t2) (length (scanned text).fields) none.1.1.1.1.1.1.1.0) in
      record {
        first = rw l (relay_holds vector t (firsts (scanned text).fields) 0 (omega arith) room);
        second = rw l2 (relay_holds vector t2 (lasts (scanned text).fields) 0 (omega arith) room2);
        balanced = λ x. rw (l, l2) (omega arith);
      }

  kept_records : Kept (records text t t2)
  unfolding records
  kept_records =
      by_tests Kept (refused2 t t2 nowhere) (early_tests (cap t) t.len (cap t2) t2.len (length text) ++ late_tests text (cap t) (cap t2)) (places text t t2) (
        λ _. kept_refused 1 (omega arith),
        (
          λ _. kept_refused 2 (omega arith),
          (
            λ _. kept_refused 5 (omega arith),
            (
              λ _. kept_refused 5 (omega arith),
              (
                λ _. kept_refused 11 (omega arith),
                (λ e. kept_refused (number_of (scanned text).ending) (above_nine e), (λ _. kept_refused 6 (omega arith), (λ _. kept_refused 6 (omega arith), tt))),
              ),
            ),
          ),
        ),
      )
      kept_done

pub recording_kept : (text : List ℕ) → Kept2 (recording text)
recording_kept text = record { keeps = keeps }
  where
    keeps : (k k2 : Kind) (t t2 : Tray) → (recording text).has k k2 ≡ true → Good t → Good t2
        → Keeps2 (goes_by2 (records text t t2).number (recording text).rule) k k2 (list k t) (list k2 t2) (records text t t2)
    keeps vector vector t t2 has good good2 = kept_records text t t2 good good2
    keeps vector ring t t2 has good good2 = absurd (let z : ◌≡◌ {A = ℕ} 0 1 = cc in omega arith)
    keeps ring k2 t t2 has good good2 = absurd (let z : ◌≡◌ {A = ℕ} 0 1 = cc in omega arith)

-- it is on vectors alone, so every empty ring is where it was
pub recording_homes : (text : List ℕ) → Homes2 (recording text)
recording_homes text = record { homes = homes }
  where
    homes : (k k2 : Kind) (t t2 : Tray) → (recording text).has k k2 ≡ true → AtHome k t → AtHome k2 t2
        → AtHome k (records text t t2).first × AtHome k2 (records text t t2).second
    homes vector vector t t2 has home home2 = (tt, tt)
    homes vector ring t t2 has home home2 = absurd (let z : ◌≡◌ {A = ℕ} 0 1 = cc in omega arith)
    homes ring k2 t t2 has home home2 = absurd (let z : ◌≡◌ {A = ℕ} 0 1 = cc in omega arith)

-- and it leaves as many slots as it was lent
abbrev Same : (t t2 : Tray) → Outcome2 → Type 0
Same t t2 o = (cap o.first ≡ cap t) × (cap o.second ≡ cap t2)

pub recording_sized : (text : List ℕ) → Sized2 (recording text)
unfolding records
recording_sized text = record { same = λ k k2 t t2. same t t2 }
  where
    refuses : (t t2 : Tray) (m : ℕ) → Same t t2 (refused2 t t2 nowhere m)
    refuses t t2 m = (refl, refl)

    same : (t t2 : Tray) → Same t t2 (records text t t2)
    same t t2 =
        by_tests (Same t t2) (refused2 t t2 nowhere) (early_tests (cap t) t.len (cap t2) t2.len (length text) ++ late_tests text (cap t) (cap t2)) (places text t t2)
        (λ _. refuses t t2 1, (λ _. refuses t t2 2, (λ _. refuses t t2 5, (λ _. refuses t t2 5, (λ _. refuses t t2 11, (λ _. refuses t t2 (number_of (scanned text).ending), (λ _. refuses t t2 6, (λ _. refuses t t2 6, tt))))))))
        (λ none. (length_relaid _ _ _ _ _, length_relaid _ _ _ _ _))
