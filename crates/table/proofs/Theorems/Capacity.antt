-- A container keeps its kind and its slots over any sequence of calls: each leaves as many slots as it was lent. It holds of paper 01's calls, of one with an allowance, which 12 leaves as it
-- was, and of any other whose promise says so.
use Prim.Native.Nat.{ℕ, ◌<◌}
use mathlib.Core.Path.{◌≡◌, refl, sym, ap, ◌∙◌}
use mathlib.Core.Bool.{Bool}
use mathlib.Core.List.{List, [], ◌∷◌, ◌++◌}
use mathlib.Core.Logic.{⊎_elim}
use native.Mathlib.Omega.{arith}
use lib.ListN.{length, set, length-set, length-append, get_or-append}
use lib.Seq.{get_or-set_same, get_or-set_other, get_or_at}
use Rattle.slots.specs.Layout.{Kind}
use Rattle.slots.proofs.Relaid.{length_relaid}
use Rattle.slots.proofs.Words.{same?}
use Rattle.table.specs.Tray.{Tray, cap, list, nowhere}
use Rattle.table.specs.Calls.{Call, Call2, Making}
use Rattle.table.specs.Table.{after, after2, begins, makes}
use Rattle.table.specs.Does.{Outcome, refused, done, row_of, refusals_of, does, bare, refusals_made, made}
use Rattle.table.specs.Does.{Outcome2, refused2, done2, row_of2, refusals_of2, does2}
use Rattle.table.specs.Promise.{Promise, Promise2, Arrival, promise, promise2, arrival, showing}
use Rattle.table.specs.Within.{does_within}
use Rattle.table.specs.PromiseWithin.{promise_within}
use Rattle.table.specs.World.{Container, World, at, Event, arrived, called, called_two, Ours, step, AllOurs, run}
use Rattle.table.proofs.Laws.Refusals.{either}
use Rattle.table.proofs.Theorems.Within.{each_way}

-- a promise that leaves as many slots as it was lent, done or refused
pub record Sized (p : Promise) : Type 0 where
  pub same : (k : Kind) (t : Tray) → cap (p.does k t).tray ≡ cap t

pub record Sized2 (p : Promise2) : Type 0 where
  pub same : (k k2 : Kind) (t t2 : Tray) → (cap (p.does k k2 t t2).first ≡ cap t) × (cap (p.does k k2 t t2).second ≡ cap t2)

pub record SizedMade (a : Arrival) : Type 0 where
  pub same : (k : Kind) (slots : List ℕ) → cap (a.makes k slots).tray ≡ length slots

-- PAPER 01'S CALLS are such, all of them
pub call_sized : (call : Call) → Sized (promise call)
unfolding does
call_sized call = record {
  same = λ k t.
      either (λ (o : Outcome). cap o.tray ≡ cap t) (refused t (row_of k call t).given) (refusals_of k call t) (done k t (after call (list k t)) (row_of k call t))
      (λ r. refl)
      (λ clear. length_relaid _ _ _ _ _);
}

pub two_sized : (call : Call2) → Sized2 (promise2 call)
unfolding does2
two_sized call = record {
  same = λ k k2 t t2.
      either (λ (o : Outcome2). (cap o.first ≡ cap t) × (cap o.second ≡ cap t2)) (refused2 t t2 (row_of2 k k2 call t t2).given) (refusals_of2 k k2 call t t2)
      (done2 k k2 t t2 (after2 call (list k t) (list k2 t2)) (row_of2 k k2 call t t2))
      (λ r. (refl, refl))
      (λ clear. (length_relaid _ _ _ _ _, length_relaid _ _ _ _ _));
}

pub making_sized : (m : Making) → SizedMade (arrival m)
unfolding made
making_sized m = record {
  same = λ k slots.
      either (λ (o : Outcome). cap o.tray ≡ length slots) (refused (bare slots) nowhere) (refusals_made m slots) (done k (bare slots) (begins m) (makes (length slots) m))
      (λ r. refl)
      (λ clear. length_relaid _ _ _ _ _);
}

-- and each with an allowance, and one that leaves everything as it was
pub within_sized : (a : ℕ) (call : Call) → Sized (promise_within a call)
unfolding does_within
within_sized a call = record { same = λ k t. each_way (λ (o : Outcome). cap o.tray ≡ cap t) a k call t (λ more. refl) (λ less. (call_sized call).same k t) }

pub showing_sized : (has : Kind → Bool) (does : Kind → Tray → Outcome) → ((k : Kind) (t : Tray) → (does k t).tray ≡ t) → Sized (showing has does)
showing_sized has does same = record { same = λ k t. ap cap (same k t) }

-- a sequence of such
abbrev pub Sizing : Event → Type 0
Sizing (arrived k a slots o) = SizedMade a
Sizing (called i p o) = Sized p
Sizing (called_two i j p o) = Sized2 p

abbrev pub AllSizing : List Event → Type 0
AllSizing [] = Unit {0}
AllSizing (e ∷ es) = Sizing e × AllSizing es

-- container i is of the kind k and has c slots
pub record Stands (w : World) (i : ℕ) (k : Kind) (c : ℕ) : Type 0 where
  pub there : i < length w
  pub kind : (at w i).kind ≡ k
  pub slots : cap (at w i).tray ≡ c

-- a container that is put in its place
abbrev Fits : Kind → ℕ → Container → Type 0
Fits k c b = (b.kind ≡ k) × (cap b.tray ≡ c)

stands_set : (w : World) (i : ℕ) (k : Kind) (c j : ℕ) (b : Container) → Stands w i k c → (i ≡ j → Fits k c b) → Stands (set w j b) i k c
stands_set w i k c j b s fits =
    ⊎_elim
    (λ (e : i ≡ j).
    let is : at (set w j b) i ≡ b = rw (← e) (get_or-set_same w i b _ s.there) in
    record { there = simp length-set s.there; kind = ap (λ (b : Container). b.kind) is ∙ (fits e).0; slots = ap (λ (b : Container). cap b.tray) is ∙ (fits e).1 })
    (λ (ne : i ≡ j → ⊥).
    let is : at (set w j b) i ≡ at w i = get_or-set_other w j i b _ ne in
    record { there = simp length-set s.there; kind = ap (λ (b : Container). b.kind) is ∙ s.kind; slots = ap (λ (b : Container). cap b.tray) is ∙ s.slots })
    (same? i j)

-- EACH EVENT leaves it so
pub stands_step : (w : World) (e : Event) (i : ℕ) (k : Kind) (c : ℕ) → Stands w i k c → Ours w e → Sizing e → Stands (step w e) i k c
stands_step w (arrived k' a slots o) i k c s our sized =
    let b : Container = record { kind = k'; tray = o.tray } in
    let is : at (w ++ (b ∷ [])) i ≡ at w i = get_or-append w (b ∷ []) _ i s.there in
    record {
      there = omega (arith, length-append w (b ∷ []), s.there);
      kind = ap (λ (b : Container). b.kind) is ∙ s.kind;
      slots = ap (λ (b : Container). cap b.tray) is ∙ s.slots;
    }
stands_step w (called j p o) i k c s our sized =
    stands_set w i k c j _ s
    (λ e. (ap (λ j. (at w j).kind) (sym e) ∙ s.kind, ap (λ (o : Outcome). cap o.tray) our.2 ∙ sized.same _ _ ∙ ap (λ j. cap (at w j).tray) (sym e) ∙ s.slots))
stands_step w (called_two j l p o) i k c s our sized =
    let b : Container = record { kind = (at w j).kind; tray = o.first } in
    let apart : at (set w j b) l ≡ at w l = get_or-set_other w j l b _ (λ e. our.2 (sym e)) in
    let first : Stands (set w j b) i k c =
    stands_set w i k c j b s
    (λ e. (ap (λ j. (at w j).kind) (sym e) ∙ s.kind, ap (λ (o : Outcome2). cap o.first) our.4 ∙ (sized.same _ _ _ _).0 ∙ ap (λ j. cap (at w j).tray) (sym e) ∙ s.slots)) in
    stands_set (set w j b) i k c l _ first
    (λ e. (
      ap (λ (b : Container). b.kind) apart ∙ ap (λ l. (at w l).kind) (sym e) ∙ s.kind,
      ap (λ (o : Outcome2). cap o.second) our.4 ∙ (sized.same _ _ _ _).1 ∙ ap (λ l. cap (at w l).tray) (sym e) ∙ s.slots,
    ))

-- AFTER ANY SEQUENCE it is of the same kind and has the same slots.
pub still_stands : (w : World) (es : List Event) (i : ℕ) (k : Kind) (c : ℕ) → Stands w i k c → AllOurs w es → AllSizing es → Stands (run w es) i k c
still_stands w [] i k c s ours sized = s
still_stands w (e ∷ es) i k c s ours sized = still_stands (step w e) es i k c (stands_step w e i k c s ours.0 sized.0) ours.1 sized.1

-- and so from its making on
pub made_stands : (w : World) (k : Kind) (a : Arrival) (slots : List ℕ) (o : Outcome) → Ours w (arrived k a slots o) → SizedMade a
    → Stands (step w (arrived k a slots o)) (length w) k (length slots)
made_stands w k a slots o our sized =
    let b : Container = record { kind = k; tray = o.tray } in
    let is : at (w ++ (b ∷ [])) (length w) ≡ b = get_or_at w b [] _ (length w) refl in
    record {
      there = omega (arith, length-append w (b ∷ []));
      kind = ap (λ (b : Container). b.kind) is;
      slots = ap (λ (b : Container). cap b.tray) is ∙ ap (λ (o : Outcome). cap o.tray) our.1 ∙ sized.same k slots;
    }
