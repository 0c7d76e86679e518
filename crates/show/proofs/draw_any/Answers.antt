-- The first line has its numbers, and the slots are as many as it says.
use Rattle.std.proofs.Common.{rules}
use native.Mathlib.Omega.{arith}
use Rattle.show.proofs.Holding.{none_line, none_small, drawable, kind_known}
use Rattle.show.proofs.draw_any.Goals as goal

pub field_at-kind-requires : goal.field_at-kind-requires
field_at-kind-requires g c = (search (none_line, rules), search rules)

pub field_at-cap-requires : goal.field_at-cap-requires
field_at-cap-requires g c = (search (none_line, rules), search rules)

pub slice_bounds-part-end : goal.slice_bounds-part-end
slice_bounds-part-end g c = omega (arith, none_small _ c.requires _ c.field_at-cap.ensures.0)

pub draw_container-requires : goal.draw_container-requires
draw_container-requires g c = search (drawable, rules)

pub unreachable-requires : goal.unreachable-requires
unreachable-requires g c = kind_known _ c.requires _ c.field_at-kind.ensures.0 c.in-Err.ensures.1
