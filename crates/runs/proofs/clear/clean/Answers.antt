-- Nothing is cleared at first; each turn adds both halves of a number and clears its slot, and at the end the two sums make the total.
use Rattle.std.proofs.Common.{sym, ◌∙◌, arith, rules}
use Rattle.slots.proofs.Fills.{fill_none, fill_turn, fill_end}
use Rattle.slots.proofs.Halves.{no_highs, no_wrapped, filled_highs_more, filled_wrapped_more, by_halves}
use Rattle.runs.proofs.clear.clean.Goals as goal

pub loop-slot-init : goal.loop-slot-init
loop-slot-init c =
    record {
      sums = c.none-halves.ensures.0 ∙ no_wrapped;
      highs = c.none-halves.ensures.1 ∙ sym no_highs;
      small = omega (arith, c.none-halves.ensures.1);
      filled = fill_none _ _ _ _;
    }

pub loop-slot-preserved : goal.loop-slot-preserved
loop-slot-preserved c =
    let l = c.loop-slot.invariant in
    record {
      sums = search filled_wrapped_more;
      highs = c.with-halves.ensures.1 ∙ search filled_highs_more;
      small = omega (arith, c.with-halves.ensures.1);
      filled = search (fill_turn, rules);
    }

pub returns : goal.returns
returns c = (search (by_halves, rules), search fill_end, omega arith)
