-- A settled answer is the answer whatever comes after the window: a record that a line end ended is the same record, and a byte that may not stand
-- there is at fault all the same. The window was not the input's end.
use mathlib.Core.Path.{◌≡◌, refl, sym, ◌∙◌}
use mathlib.Core.Bool.{Bool, true, false, not, ◌&&◌, ◌||◌}
use mathlib.Core.List.{List, ◌++◌}
use mathlib.Core.Logic.{inr}
use Prim.Native.Nat.{ℕ, ◌+◌, ◌-◌, ◌<◌}
use Rattle.std.specs.Prelude.{Ok, Err}
use native.Mathlib.Omega.{arith}
use borrow.Author.Tests.{eqb-true, eq-eqb, lt-ltb, le-ltb}
use lib.Dec.{eqb, ltb}
use lib.ListN.{length, get_or}
use Rattle.record.specs.Scan.{done, bad, scanned}
use Rattle.record.proofs.Theorems.Decided.{bad_decided, window_done}
use Rattle.record.specs.declared.Fault.TheVariants.{Stray}
use Rattle.import.specs.Settled.{stands, settled}

both : (a b : Bool) → a && b ≡ true → (a ≡ true) × (b ≡ true)
both true b e = (refl, e)
both false b e = absurd (let z : ◌≡◌ {A = ℕ} 0 1 = cc in omega arith)

-- a record that is settled is read the same, with the same fields and the same next place
pub record_whatever : (window others : List ℕ) (next : ℕ) → (scanned window).ending ≡ done next → settled window false (Ok next) ≡ true
    → scanned (window ++ others) ≡ scanned window
unfolding settled
record_whatever window others next e is =
    let some = both (ltb 0 next) (stands window (next - 1) 10) is in
    let lf = both (ltb (next - 1) (length window)) (eqb (get_or window (next - 1) 0) 10) some.1 in
    window_done window next others e (inr (eqb-true (get_or window (next - 1) 0) 10 lf.1))

-- a byte that is settled to be at fault is so whatever follows
pub fault_whatever : (window others : List ℕ) (at : ℕ) → (scanned window).ending ≡ bad at → settled window false (Err (Stray at)) ≡ true
    → scanned (window ++ others) ≡ scanned window
unfolding settled
fault_whatever window others at e is = bad_decided window at others e (λ last cr. alone last cr is)
  where
    alone : at + 1 ≡ length window → get_or window at 0 ≡ 13 → not (stands window at 13) || ltb (at + 1) (length window) ≡ true → ⊥
    alone last cr h =
        let within : at < length window = omega arith in
        let no_more : ltb (at + 1) (length window) ≡ false = le-ltb (at + 1) (length window) (omega arith) in
        let there : stands window at 13 ≡ true = rw (lt-ltb at (length window) within) (eq-eqb (get_or window at 0) 13 cr) in
        let z : ◌≡◌ {A = Bool} false true = sym (rw (there, no_more) refl) ∙ h in
        let n : ◌≡◌ {A = ℕ} 0 1 = cc in omega arith
