-- `settle` meets its promise: the late refusals in their order, and what is laid into the slots where there is room.
use Rattle.std.proofs.Common.{rules, refl, arith}
use Rattle.record.proofs.Laws.Saying.{passed_on, late_refused, few_starts, few_ends, few_slots_law, few_slots_too, placed}
use Rattle.record.proofs.settle.Goals as goal

pub returns-in_err-at : goal.returns-in_err-at
returns-in_err-at c =
    passed_on c.args.text.now c.args.first c.args.second c.args.slots.now c.args.theirs.now c.from_residual.ensures.1
    (late_refused c.args.text.now c.args.first c.args.second c.args.slots.now c.args.theirs.now 0 c.requires.value refl c.args.ending c.requires.ending _ (search rules) (omega arith) (omega arith))

pub returns-then-slots-kept : goal.returns-then-slots-kept
returns-then-slots-kept c =
    few_starts c.args.text.now c.args.first c.args.second c.args.slots.now c.args.theirs.now 0 c.requires.value refl c.args.ending c.requires.ending c.in_ok-at.at c.in_ok-at.was
    c.args.kept.now c.requires.judged c.if-slots-kept.true (omega arith) (omega arith)

pub returns-then-theirs-kept : goal.returns-then-theirs-kept
returns-then-theirs-kept c =
    few_ends c.args.text.now c.args.first c.args.second c.args.slots.now c.args.theirs.now 0 c.requires.value refl c.args.ending c.requires.ending c.in_ok-at.at c.in_ok-at.was
    c.args.kept.now c.requires.judged c.if-slots-kept.false c.if-theirs-kept.true (omega arith) (omega arith)

pub enter-requires-clause-room : goal.enter-requires-clause-room
enter-requires-clause-room c = search (few_slots_law, few_slots_too, rules)

pub returns : goal.returns
returns c =
    placed c.args.text.now c.args.first c.args.second c.args.slots.now c.args.theirs.now 0 c.requires.value refl c.args.ending c.requires.ending c.in_ok-at.at c.in_ok-at.was
    c.args.kept.now c.requires.judged c.if-slots-kept.false c.enter.result c.enter.new.slots c.enter.new.theirs c.if-theirs-kept.false
    c.enter.ensures.slots_after c.enter.ensures.theirs_after c.enter.ensures.value
