-- What the code's steps find: how far a run of bytes goes, the field at a place, what stands behind it, and the places kept of the fields. That this
-- comes to what the scan reads is proved (proofs/Laws/Spans, Passing).
use Rattle.std.specs.Prelude.{ℕ, ◌+◌, ◌≤◌, ◌≡◌, Bool, cond, ◌&&◌, Option, Some, None, Result, Ok, Err, List, [], ◌∷◌, eqb, ltb, length, get_or, take, drop}
use Rattle.record.specs.Grammar.{comma, quote, cr, lf}
use Rattle.record.specs.Scan.{Ending, done, bad, unclosed, special, starts, scanned}
use Rattle.table.specs.declared.answers.Refusal.{Refusal}
use Rattle.table.specs.declared.answers.Refusal.TheVariants.{Stray as stray_refused, Unclosed as unclosed_refused, Long as long_refused}
use Rattle.record.specs.declared.Found.{Found}
use Rattle.record.specs.declared.Stop.{Stop}
use Rattle.record.specs.declared.Stop.TheVariants.{Comma, End, Bad}
use Rattle.record.specs.declared.Fault.{Fault}
use Rattle.record.specs.declared.Fault.TheVariants.{Stray, Unclosed, Long}
use Rattle.record.specs.declared.kept.Kept.{Kept}

-- how many bytes come before the first that ends a run
unfoldable pub run : (ends : ℕ → Bool) → List ℕ → ℕ
run ends [] = 0
run ends (b ∷ s) = cond (ends b) 0 (run ends s + 1)

abbrev pub is_quote : (b : ℕ) → Bool
is_quote b = eqb b quote

-- how many bytes of a quoted field come before the quote that closes it
unfoldable mutual
  pub body_run : List ℕ → ℕ
  body_run [] = 0
  body_run (b ∷ s) = cond (is_quote b) (pair_run s) (body_run s + 1)

  pub pair_run : List ℕ → ℕ
  pair_run [] = 0
  pair_run (b ∷ s) = cond (is_quote b) (body_run s + 2) 0

-- the field whose bytes start at a position, between quotes, if they are closed, or not
abbrev pub found : (start end next : ℕ) → Found
found start end next = record { start = start; end = end; next = next }

abbrev pub quoted_at : (start : ℕ) (s : List ℕ) → Option Found
quoted_at start s = cond (ltb (body_run s) (length s)) (Some (found start (start + body_run s) (start + body_run s + 1))) None

abbrev pub plain_at : (start : ℕ) (s : List ℕ) → Option Found
plain_at start s = Some (found start (start + run special s) (start + run special s))

abbrev pub field_at : (text : List ℕ) (at : ℕ) → Option Found
field_at text at = cond (starts quote (drop at text)) (quoted_at (at + 1) (drop (at + 1) text)) (plain_at at (drop at text))

-- what stands behind a field
abbrev pub stop_of : (at : ℕ) (s : List ℕ) → Stop
stop_of at [] = End at
stop_of at (b ∷ s) =
    cond (eqb b comma) Comma
    (cond (eqb b lf) (End (at + 1))
    (cond (eqb b cr && starts lf s) (End (at + 2)) Bad))

-- the number that a reading comes to, and where the next record starts or what goes wrong stands; and both as the code has them
abbrev pub number_of : Ending → ℕ
number_of (done next) = 0
number_of (bad at) = 9
number_of (unclosed at) = 10

abbrev pub place_of : Ending → ℕ
place_of (done next) = next
place_of (bad at) = at
place_of (unclosed at) = at

abbrev pub outcome : Ending → Result ℕ Fault
outcome (done next) = Ok next
outcome (bad at) = Err (Stray at)
outcome (unclosed at) = Err (Unclosed at)

-- the place that is told with a fault; and the refusal that it is
abbrev pub place_told : Fault → ℕ
place_told (Stray at) = at
place_told (Unclosed at) = at
place_told Long = 0

abbrev pub refusal_of : Fault → Refusal
refusal_of (Stray at) = stray_refused
refusal_of (Unclosed at) = unclosed_refused
refusal_of Long = long_refused

-- the position behind the byte at a position of a field, of which two quotes are one
abbrev pub past : (s : List ℕ) (at : ℕ) → ℕ
past s at = cond (eqb (get_or s at 0) quote && starts quote (drop (at + 1) s)) (at + 2) (at + 1)

-- a text was judged: it has so many fields, and the places of the first sixteen were kept
pub record Judged (text : List ℕ) (kept : Kept) : Type 0 where
  pub short : length text ≤ 65535
  pub counted : kept.count ≡ length (scanned text).fields
  pub sixteen : length kept.places ≡ 16
  pub kept_well : kept.count ≤ 16 → take kept.count kept.places ≡ (scanned text).fields
