-- `lay` meets its promise: one place more, and in the end all of them.
use Rattle.std.proofs.Common.{rules, arith}
use Rattle.record.proofs.Laws.Laying.{kept_laid, starts_kept, ends_kept}
use Rattle.record.proofs.kept.Kept.lay.Goals as goal

pub loop-k-preserved : goal.loop-k-preserved
loop-k-preserved c =
    kept_laid c.args.self.now.places c.args.self.now.count c.args.slots.now c.args.theirs.now c.loop-k.slots c.loop-k.theirs c.loop-k.k c.loop-k.invariant (omega arith) (0, 0)
    c.loop-k-test.true

pub returns-clause-slots_after : goal.returns-clause-slots_after
returns-clause-slots_after c = search (starts_kept, rules)

pub returns-clause-theirs_after : goal.returns-clause-theirs_after
returns-clause-theirs_after c = search (ends_kept, rules)
