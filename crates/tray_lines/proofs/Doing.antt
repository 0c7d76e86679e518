-- What an operation does to its container and the other, and what a call then does to the four: each is the table's own.
use mathlib.Core.Path.{◌≡◌, ap, ap₂, ◌∙◌}
use mathlib.Core.List.{[], ◌∷◌}
use Prim.Native.Nat.{ℕ}
use Rattle.slots.specs.Layout.{Kind, ring, vector}
use Rattle.table.specs.Tray.{Tray}
use Rattle.table.specs.Calls.{new}
use Rattle.table.specs.Does.{Outcome2, made}
use Rattle.table.specs.World.{World}
use Rattle.ring.specs.declared.Ring.{Ring}
use Rattle.vector.specs.declared.Vector.{Vector}
use Rattle.containers.specs.Reading.{Reading}
use Rattle.tray_lines.specs.declared.lines.RingOp.{RingOp}
use Rattle.tray_lines.specs.declared.lines.VectorOp.{VectorOp}
use Rattle.tray_lines.specs.declared.lines.Which.{Which}
use Rattle.tray_lines.specs.declared.lines.Which.TheVariants.{First, Second}
use Rattle.tray_lines.specs.declared.lines.Call.{Call}
use Rattle.tray_lines.specs.declared.acts.Held.{Held}
use Rattle.tray_lines.specs.declared.acts.Trays.{Trays}
use Rattle.tray_lines.specs.Acts.{Act, one, two, ring_act, vector_act, act_does, event_at, act_slot, reports, Acts, acts_as, acts, free, begun}
use Rattle.tray_lines.specs.Kept.{ring_kept, vector_kept}
use Rattle.tray_lines.specs.Seen.{ring_here, vector_here, world, Did, did_seen, Does, turned, shown}

-- how the calls on two read a ring and a vector
abbrev pub ring_reading : Reading Ring
ring_reading = record { kind = ring; head = λ r. r.head; size = λ r. r.len; sum = λ r. r.total.sum }

abbrev pub vector_reading : Reading Vector
vector_reading = record { kind = vector; head = λ v. 0; size = λ v. v.len; sum = λ v. v.total.sum }

-- two rings and two vectors
abbrev pub four : (t0 t1 t2 t3 : Tray) → World
four t0 t1 t2 t3 =
    record { kind = ring; tray = t0 }
    ∷ record { kind = ring; tray = t1 }
    ∷ record { kind = vector; tray = t2 }
    ∷ record { kind = vector; tray = t3 }
    ∷ []

abbrev pub leaving : Kind → World → Outcome2 → (slot : ℕ) → Acts
leaving k w o slot = record { world = w; answer = reports o.number o.value o.moves slot (record { kind = k; tray = o.first }) }

-- what is done to two of the four is the event on them, whichever two of a kind they are
module _ (t0 t1 t2 t3 : Tray) (o : Outcome2) (n : ℕ) where
  pub on_0 : (a : Act) → o ≡ act_does ring a t0 t1 → n ≡ act_slot ring a t0
      → leaving ring (four o.first o.second t2 t3) o n ≡ acts_as (four t0 t1 t2 t3) (event_at (four t0 t1 t2 t3) 0 1 a) 0 (act_slot ring a t0)
  on_0 (one call) e s = ap₂ (λ (o : Outcome2) n. leaving ring (four o.first o.second t2 t3) o n) e s
  on_0 (two call) e s = ap₂ (λ (o : Outcome2) n. leaving ring (four o.first o.second t2 t3) o n) e s

  pub on_1 : (a : Act) → o ≡ act_does ring a t1 t0 → n ≡ act_slot ring a t1
      → leaving ring (four o.second o.first t2 t3) o n ≡ acts_as (four t0 t1 t2 t3) (event_at (four t0 t1 t2 t3) 1 0 a) 1 (act_slot ring a t1)
  on_1 (one call) e s = ap₂ (λ (o : Outcome2) n. leaving ring (four o.second o.first t2 t3) o n) e s
  on_1 (two call) e s = ap₂ (λ (o : Outcome2) n. leaving ring (four o.second o.first t2 t3) o n) e s

  pub on_2 : (a : Act) → o ≡ act_does vector a t2 t3 → n ≡ act_slot vector a t2
      → leaving vector (four t0 t1 o.first o.second) o n ≡ acts_as (four t0 t1 t2 t3) (event_at (four t0 t1 t2 t3) 2 3 a) 2 (act_slot vector a t2)
  on_2 (one call) e s = ap₂ (λ (o : Outcome2) n. leaving vector (four t0 t1 o.first o.second) o n) e s
  on_2 (two call) e s = ap₂ (λ (o : Outcome2) n. leaving vector (four t0 t1 o.first o.second) o n) e s

  pub on_3 : (a : Act) → o ≡ act_does vector a t3 t2 → n ≡ act_slot vector a t3
      → leaving vector (four t0 t1 o.second o.first) o n ≡ acts_as (four t0 t1 t2 t3) (event_at (four t0 t1 t2 t3) 3 2 a) 3 (act_slot vector a t3)
  on_3 (one call) e s = ap₂ (λ (o : Outcome2) n. leaving vector (four t0 t1 o.second o.first) o n) e s
  on_3 (two call) e s = ap₂ (λ (o : Outcome2) n. leaving vector (four t0 t1 o.second o.first) o n) e s

-- the containers and the answer that the code has once the operation is done
module _ (t : Trays) where
  pub ring_acts : (which : Which) (op : RingOp) (d : Did ℕ) → Does ring ring_here (ring_act op) (turned which t.rings).first (turned which t.rings).second d
      → ◌≡◌ {A = Acts} (record { world = world (record { rings = turned which d.state; vectors = t.vectors }); answer = shown ring_reading ring_kept d }) (acts (world t) (Call.Ring which op))
  unfolding acts
  ring_acts First op d ed = on_0 _ _ _ _ (did_seen ring_here d) d.slot (ring_act op) ed.row ed.slot
  ring_acts Second op d ed = on_1 _ _ _ _ (did_seen ring_here d) d.slot (ring_act op) ed.row ed.slot

  pub vector_acts : (which : Which) (op : VectorOp) (d : Did Unit) → Does vector vector_here (vector_act op) (turned which t.vectors).first (turned which t.vectors).second d
      → ◌≡◌ {A = Acts} (record { world = world (record { rings = t.rings; vectors = turned which d.state }); answer = shown vector_reading vector_kept d }) (acts (world t) (Call.Vector which op))
  unfolding acts
  vector_acts First op d ed = on_2 _ _ _ _ (did_seen vector_here d) d.slot (vector_act op) ed.row ed.slot
  vector_acts Second op d ed = on_3 _ _ _ _ (did_seen vector_here d) d.slot (vector_act op) ed.row ed.slot

-- the four makings
pub four_made : (r0 r1 : Held ℕ) (v2 v3 : Held Unit)
    → (ring_here r0).tray ≡ (made ring new free).tray → (ring_here r1).tray ≡ (made ring new free).tray
    → (vector_here v2).tray ≡ (made vector new free).tray → (vector_here v3).tray ≡ (made vector new free).tray
    → ring_here r0 ∷ ring_here r1 ∷ vector_here v2 ∷ vector_here v3 ∷ [] ≡ begun
unfolding begun
four_made r0 r1 v2 v3 e0 e1 e2 e3 =
    ap (λ x. four x (ring_here r1).tray (vector_here v2).tray (vector_here v3).tray) e0
    ∙ ap (λ x. four (made ring new free).tray x (vector_here v2).tray (vector_here v3).tray) e1
    ∙ ap (λ x. four (made ring new free).tray (made ring new free).tray x (vector_here v3).tray) e2
    ∙ ap (λ x. four (made ring new free).tray (made ring new free).tray (made vector new free).tray x) e3
