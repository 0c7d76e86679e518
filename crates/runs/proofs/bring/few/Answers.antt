-- Nothing is laid at first; each turn lays one number more and adds it.
use Rattle.std.proofs.Common.{◌<◌, length, sym, arith, rules}
use Rattle.slots.proofs.Lays.{lay_none, run_lay_more}
use Rattle.slots.proofs.Totals.{total_none, sum_more}
use Rattle.runs.proofs.bring.few.Goals as goal

pub loop-k-init : goal.loop-k-init
loop-k-init c = record { laid = lay_none _ _ _ _; added = sym total_none; small = omega arith }

pub loop-k-preserved : goal.loop-k-preserved
loop-k-preserved c =
    record {
      laid = search (run_lay_more, rules);
      added = rw c.from-sum.ensures (search (sum_more, rules));
      small = omega (arith, c.type_inv.part c.loop-k.k, c.from-sum.ensures);
    }
