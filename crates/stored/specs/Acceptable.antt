-- Which texts can be read back (request 08), and which container a text stands for: said over the writer's form, with no reader in it.
use Rattle.std.specs.Prelude.{◌≡◌, Bool, true, false, List, ℕ, ◌^◌, ◌≤◌, ◌<◌, length, get_or}
use Rattle.slots.specs.Layout.{most, Kind, ring}
use Rattle.table.specs.Tray.{Tray, cap, valid}
use Rattle.table.specs.Does.{bare}
use Rattle.stored.specs.Form.{head_in, form}

-- the slots hold unsigned 32-bit numbers
abbrev pub Words : List ℕ → Type 0
Words slots = (i : ℕ) → get_or slots i 0 < 2 ^ 32

-- a valid container as the code can have one; a vector has no head, and 0 stands there
pub record Sound (k : Kind) (t : Tray) : Type 0 where
  pub fine : valid k (cap t) t.head t.len ≡ true
  pub headed : t.head ≡ head_in k t.head
  pub words : Words t.slots

-- an empty ring with a head between 1 and c − 1, as older texts have it
pub record Older (h : ℕ) (slots : List ℕ) : Type 0 where
  pub few : length slots ≤ most
  pub other : 0 < h
  pub below : h < length slots
  pub words : Words slots

-- The text stands for the container t of this kind: it is what the writer writes for t; or it is an older text of an empty ring, and t has head 0.
pub data StandsFor (text : List ℕ) : Kind → Tray → Type 0 where
  written : {k : Kind} {t : Tray} → Sound k t → text ≡ form k t → StandsFor text k t
  older : (h : ℕ) (slots : List ℕ) → Older h slots → text ≡ form ring (record { head = h; len = 0; slots = slots }) → StandsFor text ring (bare slots)

-- acceptable for a kind: it stands for some container
pub record Acceptable (k : Kind) (text : List ℕ) : Type 0 where
  pub tray : Tray
  pub stands : StandsFor text k tray

-- a yes for exactly those texts
pub record Exact (b : Bool) (k : Kind) (text : List ℕ) : Type 0 where
  pub yes : b ≡ true → Acceptable k text
  pub no : b ≡ false → Acceptable k text → ⊥
