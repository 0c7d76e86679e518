-- What the functions of the reader tell each other: the numbers of a first line, whether they begin a text of a kind, and the judgement; and those of the writer.
use Rattle.std.specs.Prelude.{ℕ, ◌≡◌, ◌+◌, ◌*◌, ◌/◌, ◌%◌, ◌<◌, Bool, cond, ◌&&◌, List, eqb, Option, Some, None, option_map, Result, MatchResult, ◌≤◌, length, drop}
use Rattle.slots.specs.Layout.{most, Kind, ring, vector}
use Rattle.table.specs.Tray.{nowhere}
use Rattle.table.specs.Does.{refused, gives, bare}
use Rattle.table.specs.declared.answers.Refusal.{Refusal}
use Rattle.table.specs.Answers.{number_in}
use Rattle.lines.specs.Line.{line_at}
use Rattle.stored.specs.declared.kinds.Kind as code
use Rattle.stored.specs.declared.kinds.Kind.TheVariants.{Ring, Vector}
use Rattle.stored.specs.declared.kinds.UnknownKind.{UnknownKind}
use Rattle.stored.specs.declared.judges.First.{First}
use Rattle.stored.specs.Form.{kind_byte}
use Rattle.stored.specs.Judge.{judge, numbers}
use Rattle.stored.specs.Reads.{reads}
use Rattle.stored.specs.Written.{writes}

-- the code's kinds; and the one with this byte, or none has it, and the number is given back
abbrev pub kind_of : code.Kind → Kind
kind_of Ring = ring
kind_of Vector = vector

abbrev pub Decodes : (number : ℕ) → Result code.Kind UnknownKind → Type 0
Decodes number r = MatchResult r (λ kind. kind_byte (kind_of kind) ≡ number) (λ e. (e.0 ≡ number) × (1 < number))

-- sixteen digits as kind, second byte, capacity, head and length: 1, 1, 2, 2 and 2 bytes
abbrev pub parted : (x : ℕ) → First
parted x = record {
  kind = x / 72057594037927936;
  form = x / 281474976710656 % 256;
  cap = x / 4294967296 % 65536;
  head = x / 65536 % 65536;
  len = x % 65536;
}

-- of a text whose first line is none, there are none
unfoldable pub first_of : List ℕ → Option First
first_of text = option_map parted (line_at text 0 16).line

-- they begin a text of so many bytes
abbrev pub begins : First → Kind → (size : ℕ) → Bool
begins f k size = eqb f.kind (kind_byte k) && (eqb f.form 0 && eqb size (17 + 9 * f.cap))

unfoldable pub judged : Kind → List ℕ → Option First
judged k text = cond (judge k text) (first_of text) None

-- a text taken: its first line's numbers, and what its lines say in the slots; or refused, and the slots are as they were
pub record Took (k : Kind) (text before : List ℕ) (f : First) (after : List ℕ) : Type 0 where
  pub first : Some f ≡ judged k text
  pub few : length before ≤ most
  pub same : f.cap ≡ length before
  pub slots : after ≡ numbers (length before) (drop 17 text)

pub record Turned (k : Kind) (text before : List ℕ) (e : Refusal) (after : List ℕ) : Type 0 where
  pub row : reads k text before ≡ refused (bare before) nowhere (number_in e)
  pub stay : after ≡ before

abbrev pub Takes : Kind → (text before : List ℕ) → Result First Refusal → (after : List ℕ) → Type 0
Takes k text before r after = MatchResult r (λ f. Took k text before f after) (λ e. Turned k text before e after)

-- what `put_form` tells of a valid container: done, how long the form is, and refused, its number; the text is as the writer leaves it
abbrev pub Puts : (k : Kind) (h n : ℕ) (slots before : List ℕ) → Result ℕ Refusal → (after : List ℕ) → Type 0
Puts k h n slots before r after =
    MatchResult r
    (λ value. record { outcome = gives value 0 h n slots; text = after } ≡ writes k (record { head = h; len = n; slots = slots }) before)
    (λ e. record { outcome = refused (record { head = h; len = n; slots = slots }) nowhere (number_in e); text = after } ≡ writes k (record { head = h; len = n; slots = slots }) before)
