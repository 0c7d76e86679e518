-- After any sequence of calls and makings every empty ring has head 0 (request 03): each event leaves so the containers that it names, and touches no other.
-- It holds of paper 01's calls, and of any other whose promise leaves rings so.
use Prim.Native.Nat.{ℕ, ◌<◌}
use mathlib.Core.Path.{◌≡◌, refl, sym, subst⁻¹}
use mathlib.Core.Bool.{Bool, true}
use mathlib.Core.List.{List, [], ◌∷◌, ◌++◌}
use mathlib.Core.Logic.{⊎_elim}
use native.Mathlib.Omega.{arith}
use lib.ListN.{length, set, length-set, length-append, get_or-append}
use lib.Seq.{get_or-set_same, get_or-set_other, get_or_at}
use Rattle.slots.specs.Layout.{Kind}
use Rattle.slots.proofs.Words.{below?, same?}
use Rattle.table.specs.Tray.{Tray}
use Rattle.table.specs.Calls.{Call, Call2, Making}
use Rattle.table.specs.Does.{Outcome, Outcome2}
use Rattle.table.specs.Promise.{Promise, Promise2, Arrival, promise, promise2, arrival, showing}
use Rattle.table.specs.World.{Container, World, at, Event, arrived, called, called_two, Ours, step, AllOurs, run}
use Rattle.table.proofs.Theorems.Home.{AtHome, stays_home, stay_home2, made_home}

-- a promise that leaves an empty ring's head at 0, done or refused
pub record Homes (p : Promise) : Type 0 where
  pub home : (k : Kind) (t : Tray) → p.has k ≡ true → AtHome k t → AtHome k (p.does k t).tray

pub record Homes2 (p : Promise2) : Type 0 where
  pub homes : (k k2 : Kind) (t t2 : Tray) → p.has k k2 ≡ true → AtHome k t → AtHome k2 t2
      → AtHome k (p.does k k2 t t2).first × AtHome k2 (p.does k k2 t t2).second

pub record HomesMade (a : Arrival) : Type 0 where
  pub home : (k : Kind) (slots : List ℕ) → a.has k ≡ true → AtHome k (a.makes k slots).tray

-- PAPER 01'S CALLS are such, all of them
pub call_homes : (call : Call) → Homes (promise call)
call_homes call = record { home = λ k t has was. stays_home k call t _ refl was }

pub two_homes : (call : Call2) → Homes2 (promise2 call)
two_homes call = record { homes = λ k k2 t t2 has was was2. stay_home2 k k2 call t t2 _ refl was was2 }

pub making_homes : (m : Making) → HomesMade (arrival m)
making_homes m = record { home = λ k slots has. made_home k m slots _ refl }

-- and any that leaves everything as it was
pub showing_homes : (has : Kind → Bool) (does : Kind → Tray → Outcome) → ((k : Kind) (t : Tray) → (does k t).tray ≡ t) → Homes (showing has does)
showing_homes has does same = record { home = λ k t kind was. subst⁻¹ (AtHome k) (same k t) was }

-- a sequence of such
abbrev pub Homing : Event → Type 0
Homing (arrived k a slots o) = HomesMade a
Homing (called i p o) = Homes p
Homing (called_two i j p o) = Homes2 p

abbrev pub AllHoming : List Event → Type 0
AllHoming [] = Unit {0}
AllHoming (e ∷ es) = Homing e × AllHoming es

-- every empty ring of the world has head 0
abbrev pub AllHome : World → Type 0
AllHome w = (i : ℕ) → i < length w → AtHome (at w i).kind (at w i).tray

abbrev BoxHome : Container → Type 0
BoxHome b = AtHome b.kind b.tray

home_set : (w : World) (i : ℕ) (b : Container) → i < length w → AllHome w → BoxHome b → AllHome (set w i b)
home_set w i b there home now j lt =
    ⊎_elim
    (λ (e : j ≡ i). rw e (subst⁻¹ BoxHome (get_or-set_same w i b _ there) now))
    (λ (ne : j ≡ i → ⊥). subst⁻¹ BoxHome (get_or-set_other w i j b _ ne) (home j (simp length-set at lt)))
    (same? j i)

home_more : (w : World) (b : Container) → AllHome w → BoxHome b → AllHome (w ++ (b ∷ []))
home_more w b home now j lt =
    ⊎_elim
    (λ (old : j < length w). subst⁻¹ BoxHome (get_or-append w (b ∷ []) _ j old) (home j old))
    (λ new. subst⁻¹ BoxHome (get_or_at w b [] _ j (omega (arith, simp length-append at lt))) now)
    (below? j (length w))

home_step : (w : World) (e : Event) → AllHome w → Ours w e → Homing e → AllHome (step w e)
home_step w (arrived k a slots o) home our h =
    home_more w (record { kind = k; tray = o.tray }) home (subst⁻¹ (λ (o : Outcome). AtHome k o.tray) our.1 (h.home k slots our.0))
home_step w (called i p o) home our h =
    home_set w i (record { kind = (at w i).kind; tray = o.tray }) our.0 home
    (subst⁻¹ (λ (o : Outcome). AtHome (at w i).kind o.tray) our.2 (h.home (at w i).kind (at w i).tray our.1 (home i our.0)))
home_step w (called_two i j p o) home our h =
    let k : Kind = (at w i).kind in
    let k2 : Kind = (at w j).kind in
    let now : AtHome k o.first × AtHome k2 o.second =
    subst⁻¹ (λ (o : Outcome2). AtHome k o.first × AtHome k2 o.second) our.4
    (h.homes k k2 (at w i).tray (at w j).tray our.3 (home i our.0) (home j our.1)) in
    let b : Container = record { kind = k; tray = o.first } in
    let apart : at (set w i b) j ≡ at w j = get_or-set_other w i j b _ (λ e. our.2 (sym e)) in
    home_set (set w i b) j (record { kind = (at (set w i b) j).kind; tray = o.second }) (simp length-set our.1) (home_set w i b our.0 home now.0)
    (subst⁻¹ (λ (c : Container). AtHome c.kind o.second) apart now.1)

from_home : (w : World) (es : List Event) → AllHome w → AllOurs w es → AllHoming es → AllHome (run w es)
from_home w [] home ours hs = home
from_home w (e ∷ es) home ours hs = from_home (step w e) es (home_step w e home ours.0 hs.0) ours.1 hs.1

-- AFTER ANY SEQUENCE, from the makings on, every empty ring has head 0.
pub always_home : (es : List Event) → AllOurs [] es → AllHoming es → AllHome (run [] es)
always_home es ours hs = from_home [] es (λ i lt. absurd (omega arith)) ours hs
