-- What the calls on a record give: the number, the value and both vectors afterwards. The order of the refusals is request 01's.
use Rattle.std.specs.Prelude.{ℕ, ◌≡◌, Bool, false, true, not, cond, Result, Ok, Err, List, [], ◌∷◌, ◌++◌, eqb, ltb, length}
use Rattle.slots.specs.Layout.{Kind, ring, vector}
use Rattle.slots.specs.Total.{totalled}
use Rattle.table.specs.Tray.{Tray, cap, list, valid, nowhere}
use Rattle.table.specs.Table.{holding}
use Rattle.table.specs.Does.{Outcome2, refused2, relay}
use Rattle.table.specs.Reported.{no_slot}
use Rattle.table.specs.Ledger.{enters}
use Rattle.table.specs.Promise.{Promise2}
use Rattle.table.specs.Answers.{number_in, numbered}
use Rattle.table.specs.declared.answers.Answer.{Answer}
use Rattle.table.specs.declared.answers.Both.{Both}
use Rattle.table.specs.declared.answers.Refusal.{Refusal}
use Rattle.vector.specs.declared.Vector.{Vector}
use Rattle.vector.specs.Seen.{tray}
use Rattle.containers.specs.Reading.{Reading}
use Rattle.pairs.specs.Seen.{both, seen2}
use Rattle.record.specs.Scan.{scanned}
use Rattle.record.specs.Places.{firsts, lasts}
use Rattle.record.specs.Steps.{number_of, place_of}
use Rattle.record.specs.declared.Fault.{Fault}
use Rattle.record.specs.declared.Fault.TheVariants.{Stray, Unclosed, Long}

-- the most bytes that a text may have
abbrev pub longest : ℕ
longest = 65535

-- an answer on a text alone
pub record Told : Type 0 where
  pub number : ℕ
  pub value : ℕ

abbrev pub told : (number value : ℕ) → Told
told number value = record { number = number; value = value }

-- how `judge` tells it: the number that a text comes to, and the place with it
abbrev pub judged : Result ℕ Fault → Told
judged (Ok next) = told 0 next
judged (Err (Stray at)) = told 9 at
judged (Err (Unclosed at)) = told 10 at
judged (Err Long) = told 11 0

-- The text alone: 11 if it is too long; else the number that it comes to, and where the next record starts or what goes wrong stands.
unfoldable pub judges : (text : List ℕ) → Told
judges text = cond (ltb longest (length text)) (told 11 0) (told (number_of (scanned text).ending) (place_of (scanned text).ending))

-- The first number whose test holds, in the order given; else what is done.
abbrev pub first_of : {A : Type 0} → (ℕ → A) → List (Bool × ℕ) → A → A
first_of refuse [] done = done
first_of refuse (r ∷ rest) done = cond r.0 (refuse r.1) (first_of refuse rest done)

-- either vector invalid; either not empty; the text too long: whatever it says
abbrev pub early_tests : (c n c2 n2 size : ℕ) → List (Bool × ℕ)
early_tests c n c2 n2 size =
    (not (valid vector c 0 n), 1) ∷ (not (valid vector c2 0 n2), 2) ∷ (holding n, 5) ∷ (holding n2, 5) ∷ (ltb longest size, 11) ∷ []

unfoldable pub early : (c n c2 n2 size : ℕ) → ℕ
early c n c2 n2 size = first_of (λ m. m) (early_tests c n c2 n2 size) 0

-- the number of what is refused so, and 0 where nothing is
abbrev pub number_told : {A : Type 0} → Result A Refusal → ℕ
number_told (Ok a) = 0
number_told (Err e) = number_in e

-- 9 or 10, whichever is met first; then no room for the fields in either
abbrev pub late_tests : (text : List ℕ) (c c2 : ℕ) → List (Bool × ℕ)
late_tests text c c2 =
    (not (eqb (number_of (scanned text).ending) 0), number_of (scanned text).ending)
    ∷ (ltb c (length (scanned text).fields), 6) ∷ (ltb c2 (length (scanned text).fields), 6) ∷ []

-- the fields' starts go on the first vector, their ends on the second; the value is where the next record starts
abbrev pub places : (text : List ℕ) (t t2 : Tray) → Outcome2
places text t t2 = record {
  number = 0;
  value = place_of (scanned text).ending;
  moves = 0;
  first = relay vector t (firsts (scanned text).fields) 0;
  second = relay vector t2 (lasts (scanned text).fields) 0;
  cursor = nowhere;
}

-- The record at the start of a text, on two vectors.
unfoldable pub records : (text : List ℕ) (t t2 : Tray) → Outcome2
records text t t2 =
    first_of (refused2 t t2 nowhere)
    (early_tests (cap t) t.len (cap t2) t2.len (length text) ++ late_tests text (cap t) (cap t2))
    (places text t t2)

-- The total n of the vector that the starts go on, once the text was read or refused, and of the one that the ends go on (request 04): read off its list before and
-- after, as `table/Totals` has it of a call on two.
unfoldable pub total_starts : (text : List ℕ) (t t2 : Tray) → (n : ℕ) → ℕ
total_starts text t t2 n = totalled n (list vector t) (list vector (records text t t2).first)

unfoldable pub total_ends : (text : List ℕ) (t t2 : Tray) → (n : ℕ) → ℕ
total_ends text t t2 n = totalled n (list vector t2) (list vector (records text t t2).second)

-- how a vector is read
abbrev pub of_vector : Reading Vector
of_vector = record { kind = vector; head = λ v. 0; size = λ v. v.len; sum = λ v. v.total.sum }

-- The promise of `read` on a text and two vectors whose slots held s and z: its answer a and what the slots hold afterwards. It
-- reports no slot, and each state has the total, as it comes from the one that was given.
pub record Records (text : List ℕ) (first : Vector) (s : List ℕ) (second : Vector) (z : List ℕ) (a : Result (Answer (Both Vector Vector)) Refusal) (s' z' : List ℕ) : Type 0 where
  pub row : seen2 of_vector of_vector (numbered (both first second) a) s' z' ≡ records text (tray first s) (tray second z)
  pub slot : (numbered (both first second) a).slot ≡ no_slot
  pub total : (numbered (both first second) a).state.first.total.sum ≡ total_starts text (tray first s) (tray second z) first.total.sum
  pub total2 : (numbered (both first second) a).state.second.total.sum ≡ total_ends text (tray first s) (tray second z) second.total.sum

-- The call as demand 3 takes it: of two vectors, and the starts and ends enter.
abbrev pub two_vectors : (k k2 : Kind) → Bool
two_vectors vector vector = true
two_vectors vector ring = false
two_vectors ring k2 = false

abbrev pub recording : (text : List ℕ) → Promise2
recording text = record {
  has = two_vectors;
  does = λ k k2 t t2. records text t t2;
  rule = record {
    after = λ l l2. (l ++ firsts (scanned text).fields, l2 ++ lasts (scanned text).fields);
    flow = λ v l l2. enters (firsts (scanned text).fields ++ lasts (scanned text).fields);
  };
}
