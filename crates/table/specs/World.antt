-- Several containers, each made once on its own slots, and what a sequence of calls on them comes to.
use Rattle.std.specs.Prelude.{ℕ, ◌+◌, ◌<◌, ◌≡◌, true, ◌&&◌, List, [], ◌∷◌, ◌++◌, ltb, eqb, length, get_or, set}
use Rattle.slots.specs.Count.{tally}
use Rattle.slots.specs.Layout.{Kind, vector, pos}
use Rattle.table.specs.Tray.{Tray, cap, list}
use Rattle.table.specs.Calls.{Call, Call2, Making}
use Rattle.table.specs.Does.{Outcome, Outcome2, bare}
use Rattle.table.specs.Ledger.{Line, making, call, call_two, Lists}
use Rattle.table.specs.Promise.{Promise, Promise2, Arrival, promise, promise2, arrival, Kept, Kept2, Arrives}

-- a container: its kind, with the state last returned and its whole run of slots
pub record Container : Type 0 where
  pub kind : Kind
  pub tray : Tray

abbrev pub World : Type 0
World = List Container

-- container i
abbrev pub at : World → ℕ → Container
at w i = get_or w i (record { kind = vector; tray = bare [] })

-- What happened, as it was seen: a container was made on these slots; a call was made on container i; a call was made
-- on containers i and j. The outcomes are what was answered, returned and left in the slots.
pub data Event : Type 0 where
  arrived : Kind → Arrival → List ℕ → Outcome → Event
  called : (i : ℕ) → Promise → Outcome → Event
  called_two : (i j : ℕ) → Promise2 → Outcome2 → Event

-- the events of paper 01's calls
abbrev pub make : Kind → Making → List ℕ → Outcome → Event
make k m = arrived k (arrival m)

abbrev pub on : (i : ℕ) → Call → Outcome → Event
on i what = called i (promise what)

abbrev pub on_two : (i j : ℕ) → Call2 → Outcome2 → Event
on_two i j what = called_two i j (promise2 what)

-- The event is one of our calls: it names containers that there are, two different ones if it names two, of a kind that has the call; it
-- got their whole slots and the states last returned; its outcome is what the promise says; and the promise is kept.
abbrev pub Ours : World → Event → Type 0
Ours w (arrived k a slots o) = (a.has k ≡ true) × (o ≡ a.makes k slots) × Arrives a
Ours w (called i p o) = (i < length w) × (p.has (at w i).kind ≡ true) × (o ≡ p.does (at w i).kind (at w i).tray) × Kept p
Ours w (called_two i j p o) =
    (i < length w) × (j < length w) × (i ≡ j → ⊥) × (p.has (at w i).kind (at w j).kind ≡ true)
    × (o ≡ p.does (at w i).kind (at w j).kind (at w i).tray (at w j).tray) × Kept2 p

-- container i with the state and slots that a call left
abbrev pub leaves : World → ℕ → Tray → World
leaves w i t = set w i (record { kind = (at w i).kind; tray = t })

-- the containers after it
abbrev pub step : World → Event → World
step w (arrived k a slots o) = w ++ (record { kind = k; tray = o.tray } ∷ [])
step w (called i p o) = leaves w i o.tray
step w (called_two i j p o) = leaves (leaves w i o.first) j o.second

-- a sequence of steps
abbrev pub AllOurs : World → List Event → Type 0
AllOurs w [] = Unit {0}
AllOurs w (e ∷ es) = Ours w e × AllOurs (step w e) es

abbrev pub run : World → List Event → World
run w [] = w
run w (e ∷ es) = run (step w e) es

-- what the ledger has of an event: the rule, the number and the value, and nothing of a state or a slot
abbrev pub line : Event → Line
line (arrived k a slots o) = making a.begins o.number
line (called i p o) = call i p.rule o.number o.value
line (called_two i j p o) = call_two i j p.rule o.number o.value

abbrev pub lines : List Event → List Line
lines [] = []
lines (e ∷ es) = line e ∷ lines es

-- demand 2's list of a container, and of each: what the slots hold
abbrev pub holds : Container → List ℕ
holds b = list b.kind b.tray

abbrev pub held : World → Lists
held [] = []
held (b ∷ w) = holds b ∷ held w

-- how often x stands in a container's occupied slots, slot by slot
unfoldable pub standing : ℕ → Container → ℕ
standing x b =
    tally (cap b.tray) (λ s.
    ltb (pos b.kind (cap b.tray) b.tray.head s) b.tray.len && eqb x (get_or b.tray.slots s 0))

-- and in all of them
abbrev pub standing_all : ℕ → World → ℕ
standing_all x [] = 0
standing_all x (b ∷ w) = standing x b + standing_all x w
