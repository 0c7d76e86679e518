-- Line after line.
use Rattle.std.proofs.Common.{rules, sym, ap, ◌∙◌}
use Rattle.std.specs.Prelude.{is_some}
use Rattle.lines.specs.declared.Lines.{Lines}
use Rattle.stored.proofs.Judging.{lines_none, lines_turn, lines_stop, lines_end}
use Rattle.stored.proofs.judges.are_lines.Goals as goal

pub loop-slot-init : goal.loop-slot-init
loop-slot-init c = search (lines_none, rules)

pub loop-slot-preserved : goal.loop-slot-preserved
loop-slot-preserved c =
    let n = c.next_line.ensures in
    let turn = lines_turn _ _ _ _ _ c.loop-slot.invariant.1 c.loop-slot-test.true (ap is_some (sym n.0) ∙ c.if-is_none.ensures) in
    (ap (λ (l : Lines). l.text) n.1 ∙ c.loop-slot.invariant.0, rw n.1 turn)

pub returns-then-is_none : goal.returns-then-is_none
returns-then-is_none c = lines_stop _ _ _ _ _ c.loop-slot.invariant.1 c.loop-slot-test.true (ap is_some (sym c.next_line.ensures.0) ∙ c.if-is_none.ensures)

pub returns : goal.returns
returns c = search (lines_end, rules)
