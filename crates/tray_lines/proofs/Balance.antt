-- Demand 3 holds of every sequence of lines: each line is one of our calls on the four containers, or none.
use Rattle.std.specs.Prelude.{Result, Ok, Err}
use mathlib.Core.Path.{◌≡◌, refl, sym, ap, ◌∙◌}
use mathlib.Core.Bool.{true, false}
use mathlib.Core.List.{List, [], ◌∷◌, ◌++◌}
use Prim.Native.Nat.{ℕ, ◌+◌, ◌≤◌, ◌<◌}
use native.Mathlib.Omega.{arith}
use lib.ListN.{length}
use Rattle.slots.specs.Layout.{Kind, ring, vector}
use Rattle.table.specs.Tray.{Tray, invalid}
use Rattle.table.specs.Calls.{new}
use Rattle.table.specs.Does.{Outcome2, does, does2, made}
use Rattle.table.specs.Ledger.{modelled, entered, handed, dropped}
use Rattle.table.specs.World.{World, Event, at, make, Ours, AllOurs, run, lines, held, standing_all}
use Rattle.table.proofs.Laws.Keeps.{call_kept, two_kept, made_arrives}
use Rattle.table.proofs.Theorems.Demand3.{demand_3, models}
use Rattle.table.proofs.Theorems.Home.{AtHome, valid_home}
use Rattle.table.proofs.Theorems.StaysValid.{stays_valid, first_stays_valid, second_stays_valid, made_valid}
use Rattle.tray_lines.specs.declared.lines.RingOp.{RingOp}
use Rattle.tray_lines.specs.declared.lines.VectorOp.{VectorOp}
use Rattle.tray_lines.specs.declared.lines.Call.{Call}
use Rattle.tray_lines.specs.declared.lines.Unsaid.{Unsaid}
use Rattle.tray_lines.specs.declared.lines.Which.TheVariants.{First, Second}
use Rattle.tray_lines.specs.Lines.{said}
use Rattle.tray_lines.specs.Acts.{Act, one, two, has_act, ring_act, vector_act, act_does, event_at, event, Acts, acts, free, begun}
use Rattle.tray_lines.specs.Answers.{tells_of, tells}
use Rattle.tray_lines.specs.Runs.{after, events_of, calls, happened}
use Rattle.tray_lines.proofs.Doing.{four, on_0, on_1, on_2, on_3}

-- every operation is one that its kind has
pub ring_has : (op : RingOp) → has_act (ring_act op) ring ≡ true
ring_has (RingOp.PushBack x) = refl
ring_has (RingOp.PushFront x) = refl
ring_has RingOp.PopBack = refl
ring_has RingOp.PopFront = refl
ring_has (RingOp.Insert i x) = refl
ring_has (RingOp.Remove i) = refl
ring_has RingOp.Append = refl
ring_has (RingOp.SplitOff i) = refl
ring_has (RingOp.Truncate k) = refl
ring_has (RingOp.Resize k x) = refl
ring_has RingOp.Clear = refl
ring_has (RingOp.Read i) = refl
ring_has (RingOp.Write i x) = refl

pub vector_has : (op : VectorOp) → has_act (vector_act op) vector ≡ true
vector_has (VectorOp.Push x) = refl
vector_has VectorOp.Pop = refl
vector_has (VectorOp.Insert i x) = refl
vector_has (VectorOp.Remove i) = refl
vector_has (VectorOp.SwapRemove i) = refl
vector_has VectorOp.Append = refl
vector_has (VectorOp.SplitOff i) = refl
vector_has (VectorOp.Truncate k) = refl
vector_has (VectorOp.Resize k x) = refl
vector_has VectorOp.Clear = refl
vector_has (VectorOp.Read i) = refl
vector_has (VectorOp.Write i x) = refl

-- a call on one container of a kind that has it, or on two different ones, is one of ours
ours_at : (w : World) (i j : ℕ) (k : Kind) → i < length w → j < length w → (i ≡ j → ⊥) → (at w i).kind ≡ k → (at w j).kind ≡ k
    → (a : Act) → has_act a k ≡ true → Ours w (event_at w i j a)
ours_at w i j k li lj ne ki kj (one call) h = (li, rw ki h, refl, call_kept call)
ours_at w i j k li lj ne ki kj (two call) h = (li, lj, ne, rw (ki, kj) h, refl, two_kept call)

-- what is done to valid containers leaves them valid
both_valid : (k : Kind) (a : Act) (t t2 : Tray) → invalid k t ≡ false → invalid k t2 ≡ false
    → (invalid k (act_does k a t t2).first ≡ false) × (invalid k (act_does k a t t2).second ≡ false)
both_valid k (one call) t t2 ok ok2 = (stays_valid k call t (does k call t) refl ok, ok2)
both_valid k (two call) t t2 ok ok2 = (
  first_stays_valid k k call t t2 (does2 k k call t t2) refl ok,
  second_stays_valid k k call t t2 (does2 k k call t t2) refl ok2,
)

abbrev Valids : (t0 t1 t2 t3 : Tray) → Type 0
Valids t0 t1 t2 t3 = (invalid ring t0 ≡ false) × (invalid ring t1 ≡ false) × (invalid vector t2 ≡ false) × (invalid vector t3 ≡ false)

-- two rings and two vectors, all valid: so before and after each call
pub record Fours (w : World) : Type 0 where
  pub t0 : Tray
  pub t1 : Tray
  pub t2 : Tray
  pub t3 : Tray
  pub is : w ≡ four t0 t1 t2 t3
  pub valid : Valids t0 t1 t2 t3

-- what a call on the four comes to
record Goes (w : World) (c : Call) : Type 0 where
  ours : Ours w (event w c)
  still : Fours (acts w c).world

goes : (t0 t1 t2 t3 : Tray) → Valids t0 t1 t2 t3 → (c : Call) → Goes (four t0 t1 t2 t3) c
unfolding acts
goes t0 t1 t2 t3 v (Call.Ring First op) = record {
  ours = ours_at (four t0 t1 t2 t3) 0 1 ring (omega arith) (omega arith) (λ e. omega arith) refl refl (ring_act op) (ring_has op);
  still =
      let o : Outcome2 = act_does ring (ring_act op) t0 t1 in
      let ok = both_valid ring (ring_act op) t0 t1 v.0 v.1 in
      record {
        t0 = o.first;
        t1 = o.second;
        t2 = t2;
        t3 = t3;
        is = sym (ap (λ (a : Acts). a.world) (on_0 t0 t1 t2 t3 o _ (ring_act op) refl refl));
        valid = (ok.0, ok.1, v.2, v.3);
      };
}
goes t0 t1 t2 t3 v (Call.Ring Second op) = record {
  ours = ours_at (four t0 t1 t2 t3) 1 0 ring (omega arith) (omega arith) (λ e. omega arith) refl refl (ring_act op) (ring_has op);
  still =
      let o : Outcome2 = act_does ring (ring_act op) t1 t0 in
      let ok = both_valid ring (ring_act op) t1 t0 v.1 v.0 in
      record {
        t0 = o.second;
        t1 = o.first;
        t2 = t2;
        t3 = t3;
        is = sym (ap (λ (a : Acts). a.world) (on_1 t0 t1 t2 t3 o _ (ring_act op) refl refl));
        valid = (ok.1, ok.0, v.2, v.3);
      };
}
goes t0 t1 t2 t3 v (Call.Vector First op) = record {
  ours = ours_at (four t0 t1 t2 t3) 2 3 vector (omega arith) (omega arith) (λ e. omega arith) refl refl (vector_act op) (vector_has op);
  still =
      let o : Outcome2 = act_does vector (vector_act op) t2 t3 in
      let ok = both_valid vector (vector_act op) t2 t3 v.2 v.3 in
      record {
        t0 = t0;
        t1 = t1;
        t2 = o.first;
        t3 = o.second;
        is = sym (ap (λ (a : Acts). a.world) (on_2 t0 t1 t2 t3 o _ (vector_act op) refl refl));
        valid = (v.0, v.1, ok.0, ok.1);
      };
}
goes t0 t1 t2 t3 v (Call.Vector Second op) = record {
  ours = ours_at (four t0 t1 t2 t3) 3 2 vector (omega arith) (omega arith) (λ e. omega arith) refl refl (vector_act op) (vector_has op);
  still =
      let o : Outcome2 = act_does vector (vector_act op) t3 t2 in
      let ok = both_valid vector (vector_act op) t3 t2 v.3 v.2 in
      record {
        t0 = t0;
        t1 = t1;
        t2 = o.second;
        t3 = o.first;
        is = sym (ap (λ (a : Acts). a.world) (on_3 t0 t1 t2 t3 o _ (vector_act op) refl refl));
        valid = (v.0, v.1, ok.1, ok.0);
      };
}

-- a sequence of events that are ours, and where it leads: to four valid containers again
record Leads (w : World) (es : List Event) (to : World) : Type 0 where
  ours : AllOurs w es
  there : run w es ≡ to
  still : Fours to

-- the lines of a run, from any two rings and two vectors on
leads : (w : World) (ls : List (List ℕ)) → Fours w → Leads w (calls w ls) (after w ls)
unfolding acts tells
leads w [] f = record { ours = tt; there = refl; still = f }
leads w (l ∷ ls) f = go (said l) (λ g. leads (tells w l).world ls g)
  where
    go : (s : Result Call Unsaid) → (Fours (tells_of w s).world → Leads (tells_of w s).world (calls (tells_of w s).world ls) (after (tells_of w s).world ls))
        → Leads w (events_of w s ++ calls (tells_of w s).world ls) (after (tells_of w s).world ls)
    go (Ok c) rest =
        let g : Goes w c = rw f.is (goes f.t0 f.t1 f.t2 f.t3 f.valid c) in
        let r = rest g.still in
        record { ours = (g.ours, r.ours); there = r.there; still = r.still }
    go (Err e) rest = rest f

begun_four : Fours begun
unfolding begun
begun_four = record {
  t0 = (made ring new free).tray;
  t1 = (made ring new free).tray;
  t2 = (made vector new free).tray;
  t3 = (made vector new free).tray;
  is = refl;
  valid = (made_valid ring new free _ refl few, made_valid ring new free _ refl few, made_valid vector new free _ refl few, made_valid vector new free _ refl few);
}
  where
    few : length free ≤ 4096
    few = omega arith

-- After any lines every container is valid.
pub lines_valid : (ls : List (List ℕ)) → Fours (after begun ls)
lines_valid ls = (leads begun ls begun_four).still

-- So an empty ring has head 0.
pub lines_home : (ls : List (List ℕ)) → AtHome ring (lines_valid ls).t0 × AtHome ring (lines_valid ls).t1
lines_home ls = let v = (lines_valid ls).valid in (valid_home ring (lines_valid ls).t0 v.0, valid_home ring (lines_valid ls).t1 v.1)

all_ours : (ls : List (List ℕ)) → AllOurs [] (happened ls)
unfolding begun
all_ours ls = (began ring, (began ring, (began vector, (began vector, (leads begun ls begun_four).ours))))
  where
    began : (k : Kind) → Ours [] (make k new free (made k new free))
    began k = (refl, refl, made_arrives new)

ends_there : (ls : List (List ℕ)) → run [] (happened ls) ≡ after begun ls
unfolding begun
ends_there ls = (leads begun ls begun_four).there

-- After any lines, the model lists that are folded from the calls and answers alone are what the slots hold,
pub lines_model : (ls : List (List ℕ)) → held (after begun ls) ≡ modelled [] (lines (happened ls))
lines_model ls = ap held (sym (ends_there ls)) ∙ models (happened ls) (all_ours ls)

-- and each number has entered exactly as often as it was handed out, was dropped, or stands in the occupied slots.
pub lines_balance : (ls : List (List ℕ)) (x : ℕ)
    → entered x [] (lines (happened ls)) ≡ handed x [] (lines (happened ls)) + dropped x [] (lines (happened ls)) + standing_all x (after begun ls)
lines_balance ls x =
    demand_3 (happened ls) (all_ours ls) x
    ∙ ap (λ (w : World). handed x [] (lines (happened ls)) + dropped x [] (lines (happened ls)) + standing_all x w) (ends_there ls)
