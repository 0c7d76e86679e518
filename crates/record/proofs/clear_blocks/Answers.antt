-- `clear_blocks` meets its promise: a block without a quote is passed at once.
use Rattle.std.proofs.Common.{arith}
use Rattle.record.specs.Steps.{is_quote}
use Rattle.record.proofs.Laws.Runs.{run_block}
use Rattle.record.proofs.clear_blocks.Goals as goal

pub loop-i-preserved : goal.loop-i-preserved
loop-i-preserved c = (
  omega arith,
  run_block is_quote c.args.text.now c.loop-i.i _ 16 _ c.quote_among.result c.loop-i.invariant.1 c.loop-i.invariant.0 c.loop-i-test.true c.quote_among.ensures c.if-not-quote_among.true
      (omega arith),
)
