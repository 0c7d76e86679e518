-- What the writer of the stored form gives: the answer with the container as it was, and the text afterwards.
use Rattle.std.specs.Prelude.{ℕ, Bool, List, [], ◌∷◌, length, ltb}
use Rattle.slots.specs.Layout.{Kind}
use Rattle.table.specs.Tray.{Tray, cap, invalid, nowhere}
use Rattle.table.specs.Table.{Refusal, first_invalid, full}
use Rattle.table.specs.Does.{Outcome, refused, gives, first_refusal}
use Rattle.digits.specs.Put.{put}
use Rattle.stored.specs.Form.{form, size}

-- what is seen of the call: its outcome, and every byte of the lent text
pub record Written : Type 0 where
  pub outcome : Outcome
  pub text : List ℕ

-- 1 for an invalid container, then 6 for a text too short
abbrev pub refusals_text : Kind → Tray → (text : List ℕ) → List (Bool × Refusal)
refusals_text k t text = (invalid k t, first_invalid) ∷ (ltb (length text) (size (cap t)), full) ∷ []

-- where it is refused, nothing is written; else the form, the bytes after it as they were, and its length
unfoldable pub writes : Kind → Tray → (text : List ℕ) → Written
writes k t text =
    first_refusal
    (λ number. record { outcome = refused t nowhere number; text = text })
    (refusals_text k t text)
    (record { outcome = gives (size (cap t)) 0 t.head t.len t.slots; text = put text 0 (form k t) })
