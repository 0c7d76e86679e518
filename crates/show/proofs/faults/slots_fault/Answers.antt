-- The fault of the lines that are left is always that of all.
use Rattle.std.proofs.Common.{rules}
use native.Mathlib.Omega.{arith}
use Rattle.std.proofs.lemmas.Result.{err_from_is_err_and}
use Rattle.show.proofs.Finding.{line_long, slots_turn, slots_stop, slots_more, slots_end}
use Rattle.show.proofs.faults.slots_fault.Goals as goal

pub returns-in_err-line_fault : goal.returns-in_err-line_fault
returns-in_err-line_fault c =
    let p = err_from_is_err_and c.from_residual.result c.from_residual.ensures.1 in
    rw (p.1, p.2) (slots_stop _ _ _ _ c.loop-line.invariant _ _ (omega arith) c.line_fault.ensures c.in_err-line_fault.was)

pub slice_bounds-rest-count : goal.slice_bounds-rest-count
slice_bounds-rest-count c = omega (arith, line_long _ _ _ _ c.line_fault.ensures c.in_ok-line_fault.was)

pub slice_bounds-rest-start : goal.slice_bounds-rest-start
slice_bounds-rest-start c = omega (arith, line_long _ _ _ _ c.line_fault.ensures c.in_ok-line_fault.was)

pub loop-line-preserved : goal.loop-line-preserved
loop-line-preserved c = slots_turn _ _ _ _ c.loop-line.invariant _ _ c.line_fault.ensures c.in_ok-line_fault.was (omega arith)

pub returns-then-is_empty : goal.returns-then-is_empty
returns-then-is_empty c = search (slots_end, rules)

pub returns : goal.returns
returns c = search (slots_more, rules)
