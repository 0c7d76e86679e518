-- `next_quote` meets its promise: the library's search finds the next quote behind the blocks that were passed.
use Rattle.std.proofs.Common.{◌∙◌}
use Rattle.record.specs.Steps.{is_quote}
use Rattle.record.proofs.Laws.Runs.{found_end}
use Rattle.record.proofs.next_quote.Goals as goal

pub returns : goal.returns
returns c =
    found_end is_quote c.args.text.now c.clear_blocks-i.result c.unwrap_or.result c.first_quote.result c.clear_blocks-i.ensures.0 c.first_quote.ensures c.unwrap_or.ensures
    ∙ c.clear_blocks-i.ensures.1
