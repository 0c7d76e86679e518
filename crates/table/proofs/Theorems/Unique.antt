-- One answer: a promise `seen a slots ≡ o` leaves one answer and one content of the slots, and each call has exactly one outcome.
use mathlib.Core.Path.{◌≡◌, refl, sym, ap, ap₂, ◌∙◌}
use mathlib.Core.Bool.{true}
use mathlib.Core.List.{List, [], ◌∷◌}
use Prim.Native.Nat.{ℕ, ◌+◌, ◌<◌}
use lib.ListN.{length}
use Rattle.table.specs.Does.{Outcome, Outcome2, does, does2, made}
use Rattle.slots.specs.Layout.{Kind}
use Rattle.table.specs.Calls.{Call, Call2, Making, has, has2, has_making}
use Rattle.table.specs.Ledger.{entered, handed, dropped}
use Rattle.table.specs.World.{World, Event, arrived, called, called_two, make, on, on_two, at, Ours, step, AllOurs, run, lines, standing_all}
use Rattle.table.proofs.Laws.Keeps.{call_kept, two_kept, made_arrives}
use Rattle.table.proofs.Theorems.Demand3.{demand_3}

-- For any type A of answers whose fields an outcome shows, but for those `beside` the row: `answer` reads the answer back, and what was read is what was seen.
pub one_answer : {A B : Type 0} (seen : A → List ℕ → Outcome) (beside : A → B) (answer : Outcome → B → A)
    → ((a : A) (s : List ℕ) → answer (seen a s) (beside a) ≡ a) → ((a : A) (s : List ℕ) → (seen a s).tray.slots ≡ s)
    → (o : Outcome) (b : B) (a a' : A) (s s' : List ℕ) → seen a s ≡ o → seen a' s' ≡ o → beside a ≡ b → beside a' ≡ b → (a ≡ a') × (s ≡ s')
one_answer seen beside answer back kept o b a a' s s' p q x y = (
  sym (back a s) ∙ ap₂ answer (p ∙ sym q) (x ∙ sym y) ∙ back a' s',
  sym (kept a s) ∙ ap (λ o. o.tray.slots) (p ∙ sym q) ∙ kept a' s',
)

-- the same of a call on two containers
pub one_answer2 : {A B : Type 0} (seen : A → (s s2 : List ℕ) → Outcome2) (beside : A → B) (answer : Outcome2 → B → A)
    → ((a : A) (s s2 : List ℕ) → answer (seen a s s2) (beside a) ≡ a)
    → ((a : A) (s s2 : List ℕ) → (seen a s s2).first.slots ≡ s) → ((a : A) (s s2 : List ℕ) → (seen a s s2).second.slots ≡ s2)
    → (o : Outcome2) (b : B) (a a' : A) (s s2 s' s2' : List ℕ) → seen a s s2 ≡ o → seen a' s' s2' ≡ o → beside a ≡ b → beside a' ≡ b
    → (a ≡ a') × (s ≡ s') × (s2 ≡ s2')
one_answer2 seen beside answer back kept kept2 o b a a' s s2 s' s2' p q x y = (
  sym (back a s s2) ∙ ap₂ answer (p ∙ sym q) (x ∙ sym y) ∙ back a' s' s2',
  sym (kept a s s2) ∙ ap (λ o. o.first.slots) (p ∙ sym q) ∙ kept a' s' s2',
  sym (kept2 a s s2) ∙ ap (λ o. o.second.slots) (p ∙ sym q) ∙ kept2 a' s' s2',
)

-- the event with the outcome that is promised
abbrev pub played : World → Event → Event
played w (arrived k a slots o) = arrived k a slots (a.makes k slots)
played w (called i p o) = called i p (p.does (at w i).kind (at w i).tray)
played w (called_two i j p o) = called_two i j p (p.does (at w i).kind (at w j).kind (at w i).tray (at w j).tray)

-- No call has another outcome.
pub one_outcome : (w : World) (e : Event) → Ours w e → e ≡ played w e
one_outcome w (arrived k a slots o) our = ap (arrived k a slots) our.1
one_outcome w (called i p o) our = ap (called i p) our.2
one_outcome w (called_two i j p o) our = ap (called_two i j p) our.4

-- a making or a call of paper 01, before it is answered
pub data Asked : Type 0 where
  making : Kind → Making → List ℕ → Asked
  one : (i : ℕ) → Call → Asked
  two : (i j : ℕ) → Call2 → Asked

-- it names containers that there are, two different ones if it names two, of a kind that has it
abbrev pub Names : World → Asked → Type 0
Names w (making k m slots) = has_making m k ≡ true
Names w (one i call) = (i < length w) × (has call (at w i).kind ≡ true)
Names w (two i j call) = (i < length w) × (j < length w) × (i ≡ j → ⊥) × (has2 call (at w i).kind (at w j).kind ≡ true)

-- the event that it is, with the outcome of the table
abbrev pub answered : World → Asked → Event
answered w (making k m slots) = make k m slots (made k m slots)
answered w (one i call) = on i call (does (at w i).kind call (at w i).tray)
answered w (two i j call) = on_two i j call (does2 (at w i).kind (at w j).kind call (at w i).tray (at w j).tray)

-- Each call of paper 01 has an outcome.
pub answerable : (w : World) (a : Asked) → Names w a → Ours w (answered w a)
answerable w (making k m slots) n = (n, refl, made_arrives m)
answerable w (one i call) n = (n.0, n.1, refl, call_kept call)
answerable w (two i j call) n = (n.0, n.1, n.2, n.3, refl, two_kept call)

abbrev pub AllName : World → List Asked → Type 0
AllName w [] = Unit {0}
AllName w (a ∷ cs) = Names w a × AllName (step w (answered w a)) cs

abbrev pub play : World → List Asked → List Event
play w [] = []
play w (a ∷ cs) = answered w a ∷ play (step w (answered w a)) cs

pub play_ours : (w : World) (cs : List Asked) → AllName w cs → AllOurs w (play w cs)
play_ours w [] n = tt
play_ours w (a ∷ cs) n = (answerable w a n.0, play_ours (step w (answered w a)) cs n.1)

-- So demand 3 is of every sequence of paper 01's calls: none is left out for want of an outcome, and of none is anything assumed.
pub demand_3_played : (cs : List Asked) → AllName [] cs → (x : ℕ)
    → entered x [] (lines (play [] cs)) ≡ handed x [] (lines (play [] cs)) + dropped x [] (lines (play [] cs)) + standing_all x (run [] (play [] cs))
demand_3_played cs n x = demand_3 (play [] cs) (play_ours [] cs n) x
