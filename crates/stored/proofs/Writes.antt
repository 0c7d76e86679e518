-- The writer's answers, for ring and vector at once.
use mathlib.Core.Path.{◌≡◌, refl, ap, ◌∙◌}
use mathlib.Core.Bool.{true, false}
use mathlib.Core.List.{List}
use Prim.Native.Nat.{ℕ, ◌%◌, ◌≤◌, ◌<◌}
use native.Mathlib.Nat.{mod-eq_of_lt}
use native.Mathlib.Omega.{arith}
use borrow.Author.Tests.{ltb-true, le-ltb, lt-ltb}
use lib.Dec.{ltb}
use lib.ListN.{length}
use Rattle.std.specs.Prelude.{Ok, Err}
use Rattle.slots.specs.Layout.{most, Kind}
use Rattle.table.specs.Tray.{Tray, cap, valid, invalid, nowhere}
use Rattle.table.specs.Does.{gives, refused}
use Rattle.table.specs.declared.answers.Refusal.TheVariants.{Full}
use Rattle.table.proofs.Laws.Valid.{fit}
use Rattle.digits.specs.Put.{put}
use Rattle.stored.specs.Form.{head_in, kind_byte, first_line, slot_lines, size}
use Rattle.stored.specs.Written.{Written, writes}
use Rattle.stored.specs.First.{Puts}
use Rattle.stored.proofs.Lines.{form_put}

-- what a refusal and a done call are seen as
abbrev pub refusing : Tray → (number : ℕ) → List ℕ → Written
refusing t number text = record { outcome = refused t nowhere number; text = text }

abbrev pub telling : Tray → (value : ℕ) → List ℕ → Written
telling t value text = record { outcome = gives value 0 t.head t.len t.slots; text = text }

-- the two refusals, in the order of paper 01
module _ (k : Kind) (t : Tray) (text : List ℕ) where
  pub writes_invalid : invalid k t ≡ true → refusing t 1 text ≡ writes k t text
  unfolding writes
  writes_invalid bad = rw bad refl

  pub writes_full : invalid k t ≡ false → length text < size (cap t) → refusing t 6 text ≡ writes k t text
  unfolding writes
  writes_full ok short = rw (ok, lt-ltb _ _ short) refl

-- done; the value is the text's length, as one of the m numbers that an entry can be
pub write_done : (k : Kind) (t : Tray) (text mid out : List ℕ) (value m : ℕ) → invalid k t ≡ false → size (cap t) ≤ length text
    → mid ≡ put text 0 (first_line (kind_byte k) (cap t) (head_in k t.head) t.len) → out ≡ put mid 17 (slot_lines t.slots)
    → value ≡ size (cap t) % m → ltb (size most) m ≡ true → telling t value out ≡ writes k t text
unfolding writes
write_done k t text mid out value m ok room em eo ev wide =
    let f = fit k t ok in
    let all : value ≡ size (cap t) = ev ∙ mod-eq_of_lt (omega (arith, ltb-true (size most) m wide)) in
    cc (ok, le-ltb _ _ room, eo, all, form_put k t text mid em)

-- what `put_form` tells, with the numbers that the code has
module _ (k : Kind) (h n : ℕ) (slots text : List ℕ) (ok : valid k (length slots) h n ≡ true) where
  fitting : invalid k (record { head = h; len = n; slots = slots }) ≡ false
  fitting = rw ok refl

  pub puts_few : length slots ≤ most
  puts_few = omega (arith, fit k (record { head = h; len = n; slots = slots }) fitting)

  pub puts_full : length text < size (length slots) → Puts k h n slots text (Err Full) text
  puts_full short = writes_full k _ text fitting short

  pub puts_done : h ≡ head_in k h → size (length slots) ≤ length text → (mid out : List ℕ) (value m : ℕ)
      → mid ≡ put text 0 (first_line (kind_byte k) (length slots) h n) → out ≡ put mid 17 (slot_lines slots)
      → value ≡ size (length slots) % m → ltb (size most) m ≡ true → Puts k h n slots text (Ok value) out
  puts_done eh room mid out value m em eo ev wide =
      write_done k (record { head = h; len = n; slots = slots }) text mid out value m fitting room
      (em ∙ ap (λ h. put text 0 (first_line (kind_byte k) (length slots) h n)) eh) eo ev wide
