-- Nothing is laid at first; each turn lays one number more and adds both halves of it, and at the end the two sums make the total.
use Rattle.std.proofs.Common.{sym, ◌∙◌, arith, rules}
use Rattle.slots.proofs.Halves.{no_highs, no_wrapped, highs_more, wrapped_more, by_halves}
use Rattle.slots.proofs.Lays.{lay_none, run_lay_more, run_lay_all}
use Rattle.runs.proofs.bring.many.Goals as goal

pub loop-k-init : goal.loop-k-init
loop-k-init c =
    record {
      laid = lay_none _ _ _ _;
      sums = c.none-halves.ensures.0 ∙ no_wrapped;
      highs = c.none-halves.ensures.1 ∙ sym no_highs;
      small = omega (arith, c.none-halves.ensures.1);
    }

pub loop-k-preserved : goal.loop-k-preserved
loop-k-preserved c =
    record {
      laid = search (run_lay_more, rules);
      sums = c.with-halves.ensures.0 ∙ search (wrapped_more, rules);
      highs = c.with-halves.ensures.1 ∙ search (highs_more, rules);
      small = omega (arith, c.with-halves.ensures.1, c.type_inv.part c.loop-k.k);
    }

pub returns : goal.returns
returns c = (search run_lay_all, search (by_halves, rules), omega arith)
