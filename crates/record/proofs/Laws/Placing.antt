-- What the loop that writes all places goes by: what was written, with the places that are left, is always the whole. The text has a reading, so a field
-- is found at each place.
use mathlib.Core.Path.{◌≡◌, refl, sym, ap, ◌∙◌}
use mathlib.Core.List.{List, [], ◌∷◌}
use Prim.Native.Nat.{ℕ, ◌+◌, ◌-◌, ◌≤◌, ◌<◌}
use native.Mathlib.Nat.{not-suc-le-zero}
use native.Mathlib.Omega.{arith}
use lib.ListN.{length, drop, set, length-drop}
use lib.Seq.{drop-drop}
use Rattle.record.specs.declared.Found.{Found}
use Rattle.std.specs.Prelude.{Option, Some, None}
use Rattle.record.specs.declared.Stop.{Stop}
use Rattle.record.specs.declared.Stop.TheVariants.{Comma, End, Bad}
use Rattle.record.specs.Scan.{Ending, Reading, up_to, unclosed, scanned}
use Rattle.record.specs.Steps.{field_at, stop_of, number_of}
use Rattle.record.proofs.Laws.Spans.{after_field, field_scan}
use Rattle.record.proofs.Laws.Laying.{Laying, none_laid, one_laid}
use Rattle.record.proofs.Laws.Passing.{from, after_stop, step_scan, bounds, comma_inside}

-- the fields of a text
abbrev all : (text : List ℕ) → List (ℕ × ℕ)
all text = (scanned text).fields

-- k fields were written, and the others are read from a place on
pub record Placed (text slots₀ theirs₀ slots theirs : List ℕ) (count at k : ℕ) : Type 0 where
  pub inside : k < count → at ≤ length text
  pub others : k < count → from text at ≡ up_to (drop k (all text)) (scanned text).ending
  pub laid : Laying (all text) slots₀ theirs₀ slots theirs k

pub placed_none : (text slots theirs : List ℕ) (count : ℕ) → Placed text slots theirs slots theirs count 0 0
placed_none text slots theirs count = record { inside = λ _. omega arith; others = λ _. refl; laid = none_laid (all text) slots theirs }

pub at_inside : (text slots₀ theirs₀ slots theirs : List ℕ) (count at k : ℕ) → Placed text slots₀ theirs₀ slots theirs count at k → k < count → at ≤ length text
at_inside text slots₀ theirs₀ slots theirs count at k p h = p.inside h

-- what was read of a field, and of the others behind it
continued : (st : Stop) (at : ℕ) (f : ℕ × ℕ) (later : Reading) (fields : List (ℕ × ℕ)) (ending : Ending) → after_stop st at f later ≡ up_to fields ending
    → (rest : List (ℕ × ℕ)) × (fields ≡ f ∷ rest) × (0 < length rest → (st ≡ Comma) × (later ≡ up_to rest ending))
continued Comma at f later fields ending e = (later.fields, sym (ap (λ (r : Reading). r.fields) e), λ _. (refl, ap (up_to later.fields) (ap (λ (r : Reading). r.ending) e)))
continued (End m) at f later fields ending e = ([], sym (ap (λ (r : Reading). r.fields) e), λ h. absurd (not-suc-le-zero h))
continued Bad at f later fields ending e = ([], sym (ap (λ (r : Reading). r.fields) e), λ h. absurd (not-suc-le-zero h))

module _ (text slots₀ theirs₀ slots theirs : List ℕ) (count at k : ℕ) (p : Placed text slots₀ theirs₀ slots theirs count at k) (h : k < count)
    (r : Option Found) (r_is : r ≡ field_at text at) where
  pub never : number_of (scanned text).ending ≡ 0 → r ≡ None → ⊥
  never read e =
      let x : up_to [] (unclosed at) ≡ up_to (drop k (all text)) (scanned text).ending = sym (field_scan text at ∙ ap (after_field text at) (sym r_is ∙ e)) ∙ p.others h in
      let z : ◌≡◌ {A = ℕ} 10 0 = ap (λ (r : Reading). number_of r.ending) x ∙ read in
      omega arith

  module _ (f : Found) (found : r ≡ Some f) where
    pub place_start_fits : length text ≤ 65535 → f.start < 4294967296
    place_start_fits short = let b = bounds text at f r (p.inside h) r_is found in omega arith

    pub place_end_fits : length text ≤ 65535 → f.end < 4294967296
    place_end_fits short = let b = bounds text at f r (p.inside h) r_is found in omega arith

    pub place_next_fits : length text ≤ 65535 → f.next + 1 < 18446744073709551616
    place_next_fits short = let b = bounds text at f r (p.inside h) r_is found in omega arith

    pub placed_more : count ≡ length (all text) → Placed text slots₀ theirs₀ (set slots k f.start) (set theirs k f.end) count (f.next + 1) (k + 1)
    placed_more counted =
        let x = continued (stop_of f.next (drop f.next text)) f.next (f.start, f.end) (from text (f.next + 1)) (drop k (all text)) (scanned text).ending
        (sym (step_scan text at f (sym r_is ∙ found)) ∙ p.others h) in
        let rest : drop (k + 1) (all text) ≡ x.0 = sym (drop-drop 1 k (all text)) ∙ ap (drop 1) x.1 in
        let split : drop k (all text) ≡ (f.start, f.end) ∷ drop (k + 1) (all text) = x.1 ∙ ap (λ (l : List (ℕ × ℕ)). (f.start, f.end) ∷ l) (sym rest) in
        let size : length x.0 ≡ length (all text) - (k + 1) = ap length (sym rest) ∙ length-drop (k + 1) (all text) in
        let goes : k + 1 < count → (stop_of f.next (drop f.next text) ≡ Comma) × (from text (f.next + 1) ≡ up_to x.0 (scanned text).ending) =
        λ more. x.2 (omega (arith, counted)) in
        record {
          inside = λ more. omega (arith, comma_inside text f.next _ refl (goes more).0);
          others = λ more. (goes more).1 ∙ ap (λ l. up_to l (scanned text).ending) (sym rest);
          laid = one_laid (all text) slots₀ theirs₀ slots theirs k p.laid f.start f.end split;
        }
