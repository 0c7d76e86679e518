-- What the loop over the fields goes by: what was counted and kept, with what is read from the place on, always comes to the same.
use mathlib.Core.Path.{◌≡◌, refl, sym, ap, subst, ◌∙◌}
use mathlib.Core.Bool.{Bool, true, false, cond}
use mathlib.Core.List.{List, [], ◌∷◌}
use Prim.Native.Nat.{ℕ, ◌+◌, ◌-◌, ◌≤◌, ◌<◌}
use native.Mathlib.Numerals.{add-one}
use native.Mathlib.Omega.{arith}
use borrow.Author.Tests.{ltb-true, ltb-false}
use lib.Dec.{ltb}
use lib.ListN.{length, take, drop, set, length-set}
use lib.Seq.{drop-drop, set_out, sets, sets-eq, length-sets, take_at}
use Rattle.std.specs.Prelude.{Option, Some, None, Ok, Err}
use Rattle.record.specs.declared.Found.{Found}
use Rattle.record.specs.declared.Stop.{Stop}
use Rattle.record.specs.declared.Stop.TheVariants.{Comma, End, Bad}
use Rattle.record.specs.declared.Fault.TheVariants.{Stray, Unclosed}
use Rattle.record.specs.declared.kept.Kept.{Kept}
use Rattle.record.specs.Scan.{Ending, Reading, up_to, done, bad, unclosed, more, fresh, scan, scanned}
use Rattle.record.specs.Steps.{field_at, stop_of, place_of, outcome, Judged}
use Rattle.record.proofs.Theorems.Complete.{stops}
use Rattle.record.proofs.Laws.Inside.{place_inside}
use Rattle.record.proofs.Laws.Runs.{none_left}
use Rattle.record.proofs.Laws.Spans.{after_field, field_scan, within, Within}

-- where there is no slot, nothing is set
pub beyond : (kept : List (ℕ × ℕ)) (k : ℕ) (x : ℕ × ℕ) → length kept ≡ 16 → 16 ≤ k → kept ≡ set kept k x
beyond kept k x sixteen h = sym (set_out kept k x (omega arith))

-- what is read where a field has ended
abbrev pub after_stop : Stop → (at : ℕ) (f : ℕ × ℕ) (later : Reading) → Reading
after_stop Comma at f later = more f later
after_stop (End next) at f later = up_to (f ∷ []) (done next)
after_stop Bad at f later = up_to (f ∷ []) (bad at)

pick : (c : Bool) (x y : Stop) (at : ℕ) (f : ℕ × ℕ) (later : Reading) → after_stop (cond c x y) at f later ≡ cond c (after_stop x at f later) (after_stop y at f later)
pick true x y at f later = refl
pick false x y at f later = refl

stops_stop : (s : List ℕ) (f : ℕ × ℕ) (at : ℕ) → stops s f at ≡ after_stop (stop_of at s) at f (scan (drop 1 s) fresh (at + 1))
stops_stop [] f at = refl
stops_stop (b ∷ s) f at = sym (simp pick)

-- from a place on
abbrev pub from : (text : List ℕ) (at : ℕ) → Reading
from text at = scan (drop at text) fresh at

-- a field was found, and what stands behind it
pub step_scan : (text : List ℕ) (at : ℕ) (f : Found) → field_at text at ≡ Some f
    → from text at ≡ after_stop (stop_of f.next (drop f.next text)) f.next (f.start, f.end) (from text (f.next + 1))
step_scan text at f is =
    field_scan text at ∙ ap (after_field text at) is ∙ stops_stop (drop f.next text) (f.start, f.end) f.next
    ∙ ap (λ r. after_stop (stop_of f.next (drop f.next text)) f.next (f.start, f.end) (scan r fresh (f.next + 1))) (drop-drop 1 f.next text)

-- a field lies inside the text, and a comma behind it does too
pub bounds : (text : List ℕ) (at : ℕ) (f : Found) (r : Option Found) → at ≤ length text → r ≡ field_at text at → r ≡ Some f
    → (at ≤ f.start) × (f.start ≤ f.end) × (f.end ≤ f.next) × (f.next ≤ length text)
bounds text at f r h is found = subst (Within text at) (sym is ∙ found) (within text at h)

module _ (text : List ℕ) (at : ℕ) (f : Found) (r : Option Found) (h : at ≤ length text) (is : r ≡ field_at text at) (found : r ≡ Some f) where
  pub next_inside : f.next ≤ length text
  next_inside = (bounds text at f r h is found).3

  pub start_fits : length text ≤ 65535 → f.start < 4294967296
  start_fits short = let b = bounds text at f r h is found in omega arith

  pub end_fits : length text ≤ 65535 → f.end < 4294967296
  end_fits short = let b = bounds text at f r h is found in omega arith

  pub stray_fits : length text ≤ 65535 → f.next < 4294967296
  stray_fits short = let b = bounds text at f r h is found in omega arith

  pub next_fits : length text ≤ 65535 → f.next + 1 < 18446744073709551616
  next_fits short = let b = bounds text at f r h is found in omega arith

pub comma_inside : (text : List ℕ) (n : ℕ) (r : Stop) → r ≡ stop_of n (drop n text) → r ≡ Comma → n < length text
comma_inside text n r is found = go (ltb n (length text)) refl
  where
    go : (c : Bool) → ltb n (length text) ≡ c → n < length text
    go true e = ltb-true n (length text) e
    go false e =
        let x : Comma ≡ End n = sym found ∙ is ∙ ap (stop_of n) (none_left text n (ltb-false n (length text) e)) in
        absurd (let z : ◌≡◌ {A = ℕ} 0 1 = cc in omega arith)

pub less_next : (text : List ℕ) (at : ℕ) (f : Found) (r : Option Found) (st : Stop) → at ≤ length text → r ≡ field_at text at → r ≡ Some f
    → st ≡ stop_of f.next (drop f.next text) → st ≡ Comma → length text - (f.next + 1) < length text - at
less_next text at f r st h is found st_is st_found =
    let b = bounds text at f r h is found in
    let c = comma_inside text f.next st st_is st_found in
    omega arith

-- some fields were counted, and the places of the first sixteen kept
pub record Passed (text : List ℕ) (empty kept : Kept) (at : ℕ) : Type 0 where
  pub inside : at ≤ length text
  pub few : kept.count ≤ at
  pub counted : kept.count + length (from text at).fields ≡ length (scanned text).fields
  pub comes_to : (from text at).ending ≡ (scanned text).ending
  pub sixteen : length kept.places ≡ 16
  pub whole : sets kept.places kept.count (from text at).fields ≡ sets empty.places 0 (scanned text).fields
  pub sixteen_too : length empty.places ≡ 16

-- the places kept, with the count while it is a local
abbrev pub with_count : Kept → ℕ → Kept
with_count kept count = record { places = kept.places; count = count }

pub none_passed : (text : List ℕ) (kept : Kept) → length kept.places ≡ 16 → Passed text kept (with_count kept 0) 0
none_passed text kept sixteen =
    record { inside = omega arith; few = omega arith; counted = omega arith; comes_to = refl; sixteen = sixteen; whole = refl; sixteen_too = sixteen }

-- what was kept of a record with no more than sixteen fields is all of it
all_kept : (l zeros kept : List (ℕ × ℕ)) (count : ℕ) → kept ≡ sets zeros 0 l → count ≡ length l → count ≤ length zeros → take count kept ≡ l
all_kept l zeros kept count is counted fits =
    ap (take count) (is ∙ sets-eq l zeros 0 (omega arith)) ∙ take_at l (drop (0 + length l) zeros) count (sym counted)

judged : (text : List ℕ) (empty kept : Kept) → length text ≤ 65535 → kept.count ≡ length (scanned text).fields → length empty.places ≡ 16
    → kept.places ≡ sets empty.places 0 (scanned text).fields → Judged text kept
judged text empty kept short counted sixteen are = record {
  short = short;
  counted = counted;
  sixteen = ap length are ∙ length-sets empty.places 0 (scanned text).fields ∙ sixteen;
  kept_well = λ few. all_kept (scanned text).fields empty.places kept.places kept.count are counted (omega arith);
}

module _ (text : List ℕ) (empty kept : Kept) (at : ℕ) (p : Passed text empty kept at) (r : Option Found) (r_is : r ≡ field_at text at) where
  -- a quote that is never closed: nothing more is kept
  module _ (unclosed_there : r ≡ None) where
    ends_there : from text at ≡ up_to [] (unclosed at)
    ends_there = field_scan text at ∙ ap (after_field text at) (sym r_is ∙ unclosed_there)

    pub unclosed_outcome : Err (Unclosed at) ≡ outcome (scanned text).ending
    unclosed_outcome = ap outcome (sym (ap (λ (r : Reading). r.ending) ends_there) ∙ p.comes_to)

    pub unclosed_judged : length text ≤ 65535 → Judged text kept
    unclosed_judged short =
        let fields_are : (from text at).fields ≡ [] = ap (λ (r : Reading). r.fields) ends_there in
        judged text empty kept short (omega (arith, p.counted, ap length fields_are)) p.sixteen_too (sym (ap (sets kept.places kept.count) fields_are) ∙ p.whole)

  -- a field, which is kept
  module _ (f : Found) (found : r ≡ Some f) (kept' : Kept) (placed : kept'.places ≡ set kept.places kept.count (f.start, f.end)) (one : kept'.count ≡ kept.count + 1)
      (st : Stop) (st_is : st ≡ stop_of f.next (drop f.next text)) where
    stepped : (x : Stop) → st ≡ x → from text at ≡ after_stop x f.next (f.start, f.end) (from text (f.next + 1))
    stepped x st_x = step_scan text at f (sym r_is ∙ found) ∙ ap (λ x. after_stop x f.next (f.start, f.end) (from text (f.next + 1))) (sym st_is ∙ st_x)

    -- the field's place was kept, and the others' are left
    others : (fields : List (ℕ × ℕ)) → (from text at).fields ≡ (f.start, f.end) ∷ fields → sets kept'.places kept'.count fields ≡ sets empty.places 0 (scanned text).fields
    others fields is = rw (placed, one, add-one kept.count) (sym (ap (sets kept.places kept.count) is) ∙ p.whole)

    -- a comma: one field more
    pub comma_passed : st ≡ Comma → Passed text empty kept' (f.next + 1)
    comma_passed x =
        let step : from text at ≡ more (f.start, f.end) (from text (f.next + 1)) = stepped Comma x in
        let fields_are : (from text at).fields ≡ (f.start, f.end) ∷ (from text (f.next + 1)).fields = ap (λ (r : Reading). r.fields) step in
        let b = bounds text at f r p.inside r_is found in
        let c = comma_inside text f.next st st_is x in
        record {
          inside = omega arith;
          few = omega (arith, one, p.few);
          counted = omega (arith, one, p.counted, ap length fields_are);
          comes_to = sym (ap (λ (r : Reading). r.ending) step) ∙ p.comes_to;
          sixteen = ap length placed ∙ length-set kept.places kept.count (f.start, f.end) ∙ p.sixteen;
          whole = others (from text (f.next + 1)).fields fields_are;
          sixteen_too = p.sixteen_too;
        }

    -- the record's end, or a byte that may not stand there: it was the last
    module _ (ending : Ending) (last : from text at ≡ up_to ((f.start, f.end) ∷ []) ending) where
      last_outcome : outcome ending ≡ outcome (scanned text).ending
      last_outcome = ap outcome (sym (ap (λ (r : Reading). r.ending) last) ∙ p.comes_to)

      last_judged : length text ≤ 65535 → Judged text kept'
      last_judged short =
          let fields_are : (from text at).fields ≡ (f.start, f.end) ∷ [] = ap (λ (r : Reading). r.fields) last in
          judged text empty kept' short (omega (arith, one, p.counted, ap length fields_are)) p.sixteen_too (others [] fields_are)

    module _ (m : ℕ) (x : st ≡ End m) where
      pub end_outcome : Ok m ≡ outcome (scanned text).ending
      end_outcome = last_outcome (done m) (stepped (End m) x)

      pub after_fits : length text ≤ 65535 → m < 4294967296
      after_fits short =
          let last : from text at ≡ up_to ((f.start, f.end) ∷ []) (done m) = stepped (End m) x in
          omega (arith, place_inside text, ap place_of (sym (ap (λ (r : Reading). r.ending) last) ∙ p.comes_to))

      pub end_judged : length text ≤ 65535 → Judged text kept'
      end_judged = last_judged (done m) (stepped (End m) x)

    module _ (x : st ≡ Bad) where
      pub bad_outcome : Err (Stray f.next) ≡ outcome (scanned text).ending
      bad_outcome = last_outcome (bad f.next) (stepped Bad x)

      pub bad_judged : length text ≤ 65535 → Judged text kept'
      bad_judged = last_judged (bad f.next) (stepped Bad x)
