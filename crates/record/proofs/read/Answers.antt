-- `read` meets its promise: what is refused early; else the text is judged, and settled by what it comes to.
use Rattle.std.proofs.Common.{rules, refl, arith}
use Rattle.record.proofs.Laws.Saying.{passed_on, early_err, short}
use Rattle.record.proofs.read.Goals as goal

pub returns-in_err-refusal : goal.returns-in_err-refusal
returns-in_err-refusal c =
    passed_on c.args.text.now c.args.first c.args.second c.args.slots.now c.args.theirs.now c.from_residual.ensures.1
    (early_err c.args.text.now c.args.first c.args.second c.args.slots.now c.args.theirs.now _ refl _ (search (c.in_err-refusal.ensures, rules)) (omega arith) (omega arith))

pub pass-ending-requires : goal.pass-ending-requires
pass-ending-requires c = short c.args.text.now c.args.first c.args.second c.args.slots.now c.args.theirs.now 0 c.in_ok-refusal.ensures refl
