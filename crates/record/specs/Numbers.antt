-- The numbers that `read` may answer, each by its own condition and the grammar alone; and which is answered: the first that applies, in the order of
-- request 01. And what `judge` answers.
use Rattle.std.specs.Prelude.{ℕ, ◌≤◌, ◌<◌, ◌≡◌, true, List, [], ◌∷◌, ◌⊎◌, length}
use Rattle.slots.specs.Layout.{vector}
use Rattle.table.specs.Tray.{Tray, cap, list, invalid}
use Rattle.table.specs.Does.{Outcome2}
use Rattle.record.specs.Grammar.{Reads}
use Rattle.record.specs.Places.{firsts, lasts}
use Rattle.record.specs.Where.{Bad, Unclosed, BadAt, OpenedAt}

pub data Applies (text : List ℕ) (t t2 : Tray) : ℕ → Type 0 where
  invalid_first : invalid vector t ≡ true → Applies text t t2 1
  invalid_second : invalid vector t2 ≡ true → Applies text t t2 2
  first_taken : (t.len ≡ 0 → ⊥) → Applies text t t2 5
  second_taken : (t2.len ≡ 0 → ⊥) → Applies text t t2 5
  too_long : 65535 < length text → Applies text t t2 11
  not_allowed : Bad text → Applies text t t2 9
  never_closed : Unclosed text → Applies text t t2 10
  few_starts : {fields : List (ℕ × ℕ)} {next : ℕ} → Reads text fields next → cap t < length fields → Applies text t t2 6
  few_ends : {fields : List (ℕ × ℕ)} {next : ℕ} → Reads text fields next → cap t2 < length fields → Applies text t t2 6

-- the first of some numbers that applies, and 0 where none does
abbrev pub First : (applies : ℕ → Type 0) (order : List ℕ) (m : ℕ) → Type 0
First applies [] m = m ≡ 0
First applies (j ∷ rest) m = (applies j × (m ≡ j)) ⊎ ((applies j → ⊥) × First applies rest m)

-- no text is of 9 and of 10
abbrev pub order : List ℕ
order = 1 ∷ 2 ∷ 5 ∷ 11 ∷ 9 ∷ 10 ∷ 6 ∷ []

-- the reading of a text, on two vectors
pub record Read (text : List ℕ) (o : Outcome2) : Type 0 where
  pub fields : List (ℕ × ℕ)
  pub next : ℕ
  pub reads : Reads text fields next
  pub value : o.value ≡ next
  pub starts : list vector o.first ≡ firsts fields
  pub ends : list vector o.second ≡ lasts fields

-- what `judge` answers of a text, by the grammar alone: its number and its value
pub data Judgement (text : List ℕ) : (number value : ℕ) → Type 0 where
  long : 65535 < length text → Judgement text 11 0
  fits : {fields : List (ℕ × ℕ)} {next : ℕ} → length text ≤ 65535 → Reads text fields next → Judgement text 0 next
  wrong : {p : ℕ} → length text ≤ 65535 → Bad text → BadAt text p → Judgement text 9 p
  opened : {p : ℕ} → length text ≤ 65535 → OpenedAt text p → Judgement text 10 p
