-- Demand 3: each number has entered exactly as often as it was handed out, was dropped, or stands in the occupied slots; counted over model lists
-- that are folded from the calls' rules and answers alone and are what the slots hold.
use Prim.Native.Nat.{ℕ, zero, suc, ◌+◌, ◌<◌}
use mathlib.Core.Path.{◌≡◌, refl, sym, ◌∙◌, ap, subst⁻¹}
use mathlib.Core.List.{List, [], ◌∷◌, ◌++◌}
use native.Mathlib.Nat.{not-suc-le-zero, le_of_suc-le-suc}
use native.Mathlib.Omega.{arith}
use lib.ListN.{length, set, length-set}
use lib.Seq.{get_or-set_other}
use Rattle.slots.specs.Count.{count}
use Rattle.slots.specs.Layout.{Kind}
use Rattle.slots.proofs.Counts.{weigh_append}
use Rattle.slots.proofs.Placing.{placing, tally_entries}
use Rattle.table.specs.Tray.{Tray, cap}
use Rattle.table.specs.Does.{Outcome, Outcome2}
use Rattle.table.specs.Ledger.{goes_by, goes_by2, Lists, list_at, lists_after, flows, modelled, entered, handed, dropped}
use Rattle.table.specs.Promise.{Good, Keeps, Keeps2}
use Rattle.table.specs.World.{Container, World, at, Event, arrived, called, called_two, Ours, step, AllOurs, run, line, lines, holds, held, standing, standing_all}

abbrev container : Kind → Tray → Container
container k t = record { kind = k; tray = t }

-- counting the occupied slots is counting the list
standing_list : (x : ℕ) (b : Container) → Good b.tray → standing x b ≡ count x (holds b)
unfolding standing
standing_list x b good =
    tally_entries _ _ x b.tray.len b.tray.slots (placing b.kind (cap b.tray) b.tray.head good.headed) good.fits

-- every container of the world is good
abbrev AllGood : World → Type 0
AllGood [] = Unit {0}
AllGood (b ∷ w) = Good b.tray × AllGood w

good_at : (w : World) (i : ℕ) → AllGood w → i < length w → Good (at w i).tray
good_at [] i g h = absurd (not-suc-le-zero h)
good_at (b ∷ w) zero g h = g.0
good_at (b ∷ w) (suc i) g h = good_at w i g.1 (le_of_suc-le-suc h)

good_set : (w : World) (i : ℕ) (b : Container) → AllGood w → Good b.tray → AllGood (set w i b)
good_set [] i b g good = tt
good_set (a ∷ w) zero b g good = (good, g.1)
good_set (a ∷ w) (suc i) b g good = (g.0, good_set w i b g.1 good)

good_more : (w : World) (b : Container) → AllGood w → Good b.tray → AllGood (w ++ (b ∷ []))
good_more [] b g good = (good, tt)
good_more (a ∷ w) b g good = (g.0, good_more w b g.1 good)

standing_set : (x : ℕ) (w : World) (i : ℕ) (b : Container) → i < length w → standing_all x (set w i b) + standing x (at w i) ≡ standing_all x w + standing x b
standing_set x [] i b h = absurd (not-suc-le-zero h)
standing_set x (a ∷ w) zero b h = omega arith
standing_set x (a ∷ w) (suc i) b h = omega (arith, standing_set x w i b (le_of_suc-le-suc h))

standing_more : (x : ℕ) (w : World) (b : Container) → standing_all x (w ++ (b ∷ [])) ≡ standing_all x w + standing x b
standing_more x [] b = omega arith
standing_more x (a ∷ w) b = omega (arith, standing_more x w b)

-- what the slots of all of them hold
held_at : (w : World) (i : ℕ) → i < length w → list_at (held w) i ≡ holds (at w i)
held_at [] i h = absurd (not-suc-le-zero h)
held_at (b ∷ w) zero h = refl
held_at (b ∷ w) (suc i) h = held_at w i (le_of_suc-le-suc h)

held_set : (w : World) (i : ℕ) (b : Container) → held (set w i b) ≡ set (held w) i (holds b)
held_set [] i b = refl
held_set (a ∷ w) zero b = refl
held_set (a ∷ w) (suc i) b = ap (λ (ls : Lists). holds a ∷ ls) (held_set w i b)

held_more : (w : World) (b : Container) → held (w ++ (b ∷ [])) ≡ held w ++ (holds b ∷ [])
held_more [] b = refl
held_more (a ∷ w) b = ap (λ (ls : Lists). holds a ∷ ls) (held_more w b)

-- one step of a sequence: the model lists are what the slots hold, and the count balances
record Steps (x : ℕ) (w : World) (e : Event) : Type 0 where
  good : AllGood (step w e)
  modelled : held (step w e) ≡ lists_after (held w) (line e)
  balanced :
      count x (flows (held w) (line e)).entered + standing_all x w
      ≡ count x (flows (held w) (line e)).handed + count x (flows (held w) (line e)).dropped + standing_all x (step w e)

-- an outcome that was promised keeps its rule
steps : (x : ℕ) (w : World) (e : Event) → AllGood w → Ours w e → Steps x w e
steps x w (arrived k a slots o) g our =
    subst⁻¹ (λ o. Steps x w (arrived k a slots o)) our.1 (
    let kept = our.2.holds k slots our.0 in
    let b : Container = container k (a.makes k slots).tray in
    record {
      good = good_more w b g kept.good;
      modelled = held_more w b ∙ ap (λ l. held w ++ (l ∷ [])) kept.listed;
      balanced = omega (arith, standing_more x w b, standing_list x b kept.good, ap (count x) kept.listed);
    })
steps x w (called i p o) g our =
    subst⁻¹ (λ o. Steps x w (called i p o)) our.2 (
    let k : Kind = (at w i).kind in
    let o : Outcome = p.does k (at w i).tray in
    let was : list_at (held w) i ≡ holds (at w i) = held_at w i our.0 in
    let good = good_at w i g our.0 in
    let kept : Keeps (goes_by o.number p.rule) k (list_at (held w) i) o = rw was (our.3.keeps k (at w i).tray our.1 good) in
    let b : Container = container k o.tray in
    record {
      good = good_set w i b g kept.holds.good;
      modelled = held_set w i b ∙ ap (set (held w) i) kept.holds.listed;
      balanced = omega (
        arith,
        kept.balanced x,
        standing_set x w i b our.0,
        standing_list x (at w i) good,
        standing_list x b kept.holds.good,
        ap (count x) was,
        ap (count x) kept.holds.listed,
      );
    })
steps x w (called_two i j p o) g our =
    subst⁻¹ (λ o. Steps x w (called_two i j p o)) our.4 (
    let k : Kind = (at w i).kind in
    let k2 : Kind = (at w j).kind in
    let o : Outcome2 = p.does k k2 (at w i).tray (at w j).tray in
    let was : list_at (held w) i ≡ holds (at w i) = held_at w i our.0 in
    let was2 : list_at (held w) j ≡ holds (at w j) = held_at w j our.1 in
    let good = good_at w i g our.0 in
    let good2 = good_at w j g our.1 in
    let kept : Keeps2 (goes_by2 o.number p.rule) k k2 (list_at (held w) i) (list_at (held w) j) o =
    rw (was, was2) (our.5.keeps k k2 (at w i).tray (at w j).tray our.3 good good2) in
    let b : Container = container k o.first in
    let apart : at (set w i b) j ≡ at w j = get_or-set_other w i j b _ (λ e. our.2 (sym e)) in
    let b2 : Container = container (at (set w i b) j).kind o.second in
    let same : b2 ≡ container k2 o.second = ap (λ (a : Container). container a.kind o.second) apart in
    let there : j < length (set w i b) = simp length-set our.1 in
    let is2 = ap holds same ∙ kept.second.listed in
    record {
      good = good_set (set w i b) j b2 (good_set w i b g kept.first.good) kept.second.good;
      modelled =
          held_set (set w i b) j b2
          ∙ ap (λ (ls : Lists). set ls j (holds b2)) (held_set w i b)
          ∙ ap (λ l. set (set (held w) i l) j (holds b2)) kept.first.listed
          ∙ ap (set (set (held w) i _) j) is2;
      balanced = omega (
        arith,
        simp weigh_append at (kept.balanced x),
        standing_set x w i b our.0,
        standing_set x (set w i b) j b2 there,
        ap (standing x) apart,
        standing_list x (at w i) good,
        standing_list x (at w j) good2,
        standing_list x b kept.first.good,
        standing_list x b2 kept.second.good,
        ap (count x) was,
        ap (count x) was2,
        ap (count x) kept.first.listed,
        ap (count x) is2,
      );
    })

-- from any world whose containers are good
conserved : (x : ℕ) (w : World) (es : List Event) → AllGood w → AllOurs w es
    → entered x (held w) (lines es) + standing_all x w ≡ handed x (held w) (lines es) + dropped x (held w) (lines es) + standing_all x (run w es)
conserved x w [] g ours = omega arith
conserved x w (e ∷ es) g ours =
    let now : Steps x w e = steps x w e g ours.0 in
    let rest = rw now.modelled at (conserved x (step w e) es now.good ours.1) in
    omega (arith, now.balanced, rest)

follow : (w : World) (es : List Event) → AllGood w → AllOurs w es → held (run w es) ≡ modelled (held w) (lines es)
follow w [] g ours = refl
follow w (e ∷ es) g ours =
    let now : Steps 0 w e = steps 0 w e g ours.0 in
    follow (step w e) es now.good ours.1 ∙ ap (λ (ls : Lists). modelled ls (lines es)) now.modelled

-- The model lists, folded from the calls, numbers and values alone, are what the slots hold after any sequence.
pub models : (es : List Event) → AllOurs [] es → held (run [] es) ≡ modelled [] (lines es)
models es ours = follow [] es tt ours

-- DEMAND 3. After any sequence of makings and calls, refused ones among them, each number has entered exactly as often as
-- it was handed out, was dropped, or now stands in the occupied slots, these added together.
pub demand_3 : (es : List Event) → AllOurs [] es → (x : ℕ)
    → entered x [] (lines es) ≡ handed x [] (lines es) + dropped x [] (lines es) + standing_all x (run [] es)
demand_3 es ours x = omega (arith, conserved x [] es tt ours)
