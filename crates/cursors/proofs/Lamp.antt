-- A call that answers about a cursor reports no slot (request 10): that is what the column says of it.
use mathlib.Core.Path.{◌≡◌, refl, sym, ◌∙◌}
use Prim.Native.Nat.{ℕ}
use Rattle.std.specs.Prelude.{Result}
use Rattle.slots.specs.Layout.{Kind}
use Rattle.table.specs.Tray.{Tray}
use Rattle.table.specs.Calls.{Look, look, iter, into_iter, step_front, step_back, peek_front, peek_back}
use Rattle.table.specs.Reported.{concerned, no_entry, reported}
use Rattle.table.specs.Answers.{numbered}
use Rattle.table.specs.declared.answers.Answer.{Answer}
use Rattle.table.specs.declared.answers.Refusal.{Refusal}
use Rattle.table.proofs.Theorems.Reported.{reports_none}
use Rattle.cursors.specs.declared.Cursor as code
use Rattle.cursors.specs.Seen.{cursor, none, Starts, Steps}

module _ (k : Kind) (t : Tray) (r : Result (Answer code.Cursor) Refusal) where
  dark : (u : code.Cursor) (q : Look) → concerned t.len (look q) ≡ no_entry → Steps k (look q) t u r → (numbered u r).slot ≡ reported k (look q) t
  dark u q named steps = steps.slot ∙ sym (reports_none k (look q) t _ refl named)

  pub iter_lamp : Starts k (look iter) t r → (numbered none r).slot ≡ reported k (look iter) t
  iter_lamp = dark none iter refl

  pub into_iter_lamp : Starts k (look into_iter) t r → (numbered none r).slot ≡ reported k (look into_iter) t
  into_iter_lamp = dark none into_iter refl

  module _ (u : code.Cursor) where
    pub step_front_lamp : Steps k (look (step_front (cursor u))) t u r → (numbered u r).slot ≡ reported k (look (step_front (cursor u))) t
    step_front_lamp = dark u (step_front (cursor u)) refl

    pub step_back_lamp : Steps k (look (step_back (cursor u))) t u r → (numbered u r).slot ≡ reported k (look (step_back (cursor u))) t
    step_back_lamp = dark u (step_back (cursor u)) refl

    pub peek_front_lamp : (m : ℕ) → Steps k (look (peek_front (cursor u) m)) t u r → (numbered u r).slot ≡ reported k (look (peek_front (cursor u) m)) t
    peek_front_lamp m = dark u (peek_front (cursor u) m) refl

    pub peek_back_lamp : (m : ℕ) → Steps k (look (peek_back (cursor u) m)) t u r → (numbered u r).slot ≡ reported k (look (peek_back (cursor u) m)) t
    peek_back_lamp m = dark u (peek_back (cursor u) m) refl
