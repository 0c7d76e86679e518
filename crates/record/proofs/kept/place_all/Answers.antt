-- `place_all` meets its promise: of a text that reads well each field is found again, and none is unclosed.
use Rattle.std.proofs.Common.{rules}
use Rattle.record.proofs.Laws.Placing.{never, place_end_fits, place_next_fits, placed_more}
use Rattle.record.proofs.Laws.Laying.{starts_laid, ends_laid}
use Rattle.record.proofs.kept.place_all.Goals as goal

pub unreachable-requires : goal.unreachable-requires
unreachable-requires c = search (never, rules)

pub overflow_cast-theirs : goal.overflow_cast-theirs
overflow_cast-theirs c = search (place_end_fits, rules)

pub overflow_add-at : goal.overflow_add-at
overflow_add-at c = record { fits = search (place_next_fits, rules) }

pub loop-k-preserved : goal.loop-k-preserved
loop-k-preserved c = search (placed_more, rules)

pub returns-clause-slots_after : goal.returns-clause-slots_after
returns-clause-slots_after c = search (starts_laid, rules)

pub returns-clause-theirs_after : goal.returns-clause-theirs_after
returns-clause-theirs_after c = search (ends_laid, rules)
