-- Past a line without a fault, the first one has its numbers.
use Rattle.std.proofs.Common.{rules}
use native.Mathlib.Omega.{arith}
use Rattle.show.proofs.Finding.{line_was, line_long}
use Rattle.show.proofs.faults.find.Goals as goal

pub first_fault-requires : goal.first_fault-requires
first_fault-requires c = line_was _ _ _ _ c.line_fault.ensures c.in_ok-line_fault.was

pub field_at-cap-requires : goal.field_at-cap-requires
field_at-cap-requires c = (line_was _ _ _ _ c.line_fault.ensures c.in_ok-line_fault.was, search rules)

pub slice_bounds-slots_fault-count : goal.slice_bounds-slots_fault-count
slice_bounds-slots_fault-count c = omega (arith, line_long _ _ _ _ c.line_fault.ensures c.in_ok-line_fault.was)

pub slice_bounds-slots_fault-start : goal.slice_bounds-slots_fault-start
slice_bounds-slots_fault-start c = omega (arith, line_long _ _ _ _ c.line_fault.ensures c.in_ok-line_fault.was)
