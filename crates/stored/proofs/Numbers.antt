-- The writer answers 1 exactly for an invalid container, else 6 exactly for a text too short, and 0 exactly where neither applies; refused, it
-- changes nothing. The argument is the table's: each test says its number's condition, each condition is tested, and the numbers rise.
use Prim.Native.Nat.{ℕ, suc}
use mathlib.Core.Path.{◌≡◌, refl, sym, ap, ◌∙◌}
use mathlib.Core.List.{List}
use mathlib.Core.Logic.{inl, inr}
use native.Mathlib.Omega.{arith}
use borrow.Author.Tests.{ltb-true, lt-ltb}
use lib.ListN.{length}
use contract.Lifetimes.{Lfts}
use denote.Triple.Clauses.{AtExit}
use borrow.Fn.World.{ArgsD, ResD}
use Rattle.slots.specs.Layout.{Kind, ring, vector}
use Rattle.table.specs.Tray.{Tray, cap}
use Rattle.table.specs.Answers.{numbered}
use Rattle.table.proofs.Laws.Refusals.{Settled, settled}
use Rattle.table.proofs.Theorems.Numbers.{Answers, Tests, answers}
use Rattle.digits.specs.Put.{put}
use Rattle.ring.specs.Seen as rings
use Rattle.vector.specs.Seen as vectors
use Rattle.stored.specs.Form.{form, size}
use Rattle.stored.specs.Written.{Written, refusals_text, writes}
use Rattle.stored.specs.Numbers.{AppliesText, invalid_first, too_short}
use Rattle.stored.proofs.Lines.{length_form}
use Rattle.stored.proofs.Writes.{refusing, telling}
use Rattle.stored.specs.contracts.ring_text as ring_text·fn
use Rattle.stored.proofs.ring_text.Reads as ring_text·reads
use Rattle.stored.specs.contracts.vector_text as vector_text·fn
use Rattle.stored.proofs.vector_text.Reads as vector_text·reads

module _ (k : Kind) (t : Tray) (text : List ℕ) where
  text_settled : Settled (λ (w : Written). w.outcome.number) (λ m. refusing t m text) (refusals_text k t text)
      (telling t (size (cap t)) (put text 0 (form k t))) (writes k t text)
  unfolding writes
  text_settled = settled _ _ _ (λ m. refl) refl (refusals_text k t text)

  text_tested : {j : ℕ} → AppliesText k t text j → Tests j (refusals_text k t text)
  text_tested (invalid_first e) = inl (e, omega arith)
  text_tested (too_short h) = inr (inl (lt-ltb _ _ h, omega arith))

  -- w is what is seen of the writer, as its promise says
  module _ (w : Written) (promised : w ≡ writes k t text) where
    pub text_numbers : Answers (AppliesText k t text) w.outcome.number
    text_numbers =
        rw (promised, text_settled.first)
        (answers (AppliesText k t text) (refusals_text k t text) refl (λ e. invalid_first e, (λ e. too_short (ltb-true _ _ e), tt)) (λ j a. text_tested a))

    pub text_refused : (m : ℕ) → w.outcome.number ≡ suc m → w ≡ refusing t (suc m) text
    text_refused = rw promised text_settled.refused

    -- done, its value is the length of the form, which stands at the start of the text
    pub text_done : w.outcome.number ≡ 0 → (w.outcome.value ≡ length (form k t)) × (w.text ≡ put text 0 (form k t))
    text_done e =
        let is : w ≡ telling t (size (cap t)) (put text 0 (form k t)) = promised ∙ text_settled.otherwise (text_settled.clear (rw promised at e)) in
        (ap (λ w. w.outcome.value) is ∙ sym (length_form k t), ap (λ w. w.text) is)

-- From each function's generated contract: a are the arguments, r is the result, and e the arguments as they are at the return.
module _ (κs : Lfts 2) where
  pub ring_text_numbers : (a : ArgsD ring_text·fn.signature κs) (r : ResD ring_text·fn.signature κs) (e : AtExit ring_text·fn.ended κs)
      → ring_text·reads.Learnt κs a r e → Answers (AppliesText ring (rings.tray a.0 a.1.0.now) a.1.1.0.now) (numbered a.0 r).number
  ring_text_numbers a r e learnt = text_numbers _ _ _ _ learnt.row

  pub vector_text_numbers : (a : ArgsD vector_text·fn.signature κs) (r : ResD vector_text·fn.signature κs) (e : AtExit vector_text·fn.ended κs)
      → vector_text·reads.Learnt κs a r e → Answers (AppliesText vector (vectors.tray a.0 a.1.0.now) a.1.1.0.now) (numbered a.0 r).number
  vector_text_numbers a r e learnt = text_numbers _ _ _ _ learnt.row
