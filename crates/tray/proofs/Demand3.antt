-- Demand 3 of every run of `tray`: its calls are chained by their generated contracts, from `start` and `fresh` through all reads of `run` to `ended`.
-- Where `run` says that it stands is where those who feed its bytes stand, so the laws of `tray_lines` hold of it.
use mathlib.Core.Path.{◌≡◌, ap, ◌∙◌}
use mathlib.Core.List.{List, []}
use Prim.Native.Nat.{ℕ, ◌+◌}
use lib.ListN.{length}
use contract.Lifetimes.{Lfts}
use denote.Triple.Clauses.{AtExit}
use borrow.Fn.World.{ArgsD, ResD}
use denote.RattleType.{RattleType}
use denote.Param.Laws.{Laws}
use mir.Syntax.{Dict}
use Rattle.std.specs.declared.io.traits.Read
use Rattle.std.specs.declared.io.traits.Write
use Rattle.table.specs.Ledger.{modelled, entered, handed, dropped}
use Rattle.table.specs.World.{lines, held, standing_all}
use Rattle.tray_lines.specs.declared.feeds.State.{State}
use Rattle.tray_lines.specs.Seen.{world}
use Rattle.tray_lines.specs.Feeds.{Midway, Kept, fresh, feeds, keeping, midway}
use Rattle.tray_lines.specs.Runs.{lines_of, finished, happened}
use Rattle.tray_lines.proofs.Ran as ran
use Rattle.tray_lines.specs.contracts.acts.start as start·fn
use Rattle.tray_lines.proofs.acts.start.Reads as start·reads
use Rattle.tray_lines.specs.contracts.feeds.fresh as fresh·fn
use Rattle.tray_lines.proofs.feeds.fresh.Reads as fresh·reads
use Rattle.tray_lines.specs.contracts.feeds.ended as ended·fn
use Rattle.tray_lines.proofs.feeds.ended.Reads as ended·reads
use Rattle.tray.specs.contracts.run as run·fn
use Rattle.tray.proofs.run.Reads as run·reads

-- What `main` calls, in its order, each with what the one before gave back: `start` gave t, `fresh` s, `run` r, whatever it reads from and writes to.
module _ (κs : Lfts 0) (a : ArgsD start·fn.signature κs) (t : ResD start·fn.signature κs) (e : AtExit start·fn.ended κs) (started : start·reads.Learnt κs a t e)
    (κs2 : Lfts 0) (a2 : ArgsD fresh·fn.signature κs2) (s : ResD fresh·fn.signature κs2) (e2 : AtExit fresh·fn.ended κs2)
    (begin : a2.0 ≡ t) (begun_line : fresh·reads.Learnt κs2 a2 s e2)
    (R W : RattleType) (R-laws : Laws R) (W-laws : Laws W) (R-read : Read.Ghosts R.Denot) (R-dict : Dict) (W-write : Write.Ghosts W.Denot) (W-dict : Dict)
    (κs3 : Lfts 6) (a3 : ArgsD (run·fn.signature R W) κs3) (r : ResD (run·fn.signature R W) κs3) (e3 : AtExit (run·fn.ended R W R-read R-dict W-write W-dict) κs3)
    (from : a3.1.1.0 ≡ s) (read : run·reads.Learnt R W R-laws W-laws R-read R-dict W-write W-dict κs3 a3 r e3) where
  -- some bytes that lead where `run` stands, as many as it counted
  abbrev pub input : List ℕ
  input = read.bytes

  pub all_read : length input ≡ r.0.read
  all_read = read.all

  there : ran.Stands r.0.state input
  there =
      read.state
      ∙ ap (λ (u : State). (feeds keeping (midway u) input).state) from
      ∙ ap (λ (m : Midway Kept). (feeds keeping m input).state) (begun_line ∙ ap (fresh keeping) (ap world begin ∙ started))

  -- DEMAND 3 OF A RUN SO FAR, or of one that ends because its output is closed: of the lines that an LF ended.
  pub demand_3_so_far : (x : ℕ)
      → entered x [] (lines (happened (finished [] input)))
      ≡ handed x [] (lines (happened (finished [] input))) + dropped x [] (lines (happened (finished [] input))) + standing_all x (world r.0.state.trays)
  demand_3_so_far = ran.demand_3_so_far r.0.state input there

  -- DEMAND 3 OF A WHOLE RUN, once `ended` gave z: of all lines.
  module _ (κs4 : Lfts 0) (a4 : ArgsD ended·fn.signature κs4) (z : ResD ended·fn.signature κs4) (e4 : AtExit ended·fn.ended κs4)
      (last : a4.0 ≡ r.0.state) (done : ended·reads.Learnt κs4 a4 z e4) where
    pub demand_3_of_tray : (x : ℕ)
        → entered x [] (lines (happened (lines_of [] input)))
        ≡ handed x [] (lines (happened (lines_of [] input))) + dropped x [] (lines (happened (lines_of [] input))) + standing_all x (world z.trays)
    demand_3_of_tray = ran.demand_3_at_end r.0.state input there κs4 a4 z e4 last done

    -- and the model lists that it counts over are what the slots hold
    pub models_of_tray : held (world z.trays) ≡ modelled [] (lines (happened (lines_of [] input)))
    models_of_tray = ran.models_at_end r.0.state input there κs4 a4 z e4 last done
