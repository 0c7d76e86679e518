-- The pieces, one behind another.
use Rattle.std.proofs.Common.{rules}
use Rattle.show.proofs.Drawn.{entry_last, entry_more}
use Rattle.show.proofs.rows.put_entry.Goals as goal

pub returns-then-more : goal.returns-then-more
returns-then-more c = search (entry_more, rules)

pub returns : goal.returns
returns c = search (entry_last, rules)
