-- Each container has its kind and its place in it.
use Rattle.std.proofs.Common.{rules}
use Rattle.digits.specs.Rows.{under}
use Rattle.tray_lines.specs.Lines.{call_says}
use Rattle.tray_lines.proofs.Says.{unknown, said_ok, said_err}
use Rattle.tray_lines.proofs.lines.call_said.Goals as goal

pub returns-in_err-ring_op-in-0 : goal.returns-in_err-ring_op-in-0
unfolding under call_says
returns-in_err-ring_op-in-0 c = rw c.in-0.is (search (said_err, rules))

pub returns-in_ok-ring_op-in-0 : goal.returns-in_ok-ring_op-in-0
unfolding under call_says
returns-in_ok-ring_op-in-0 c = rw c.in-0.is (said_ok _ _ _ _ c.ring_op.ensures (c.in_ok-ring_op-in-0.was))

pub returns-in_err-ring_op-in-1 : goal.returns-in_err-ring_op-in-1
unfolding under call_says
returns-in_err-ring_op-in-1 c = rw c.in-1.is (search (said_err, rules))

pub returns-in_ok-ring_op-in-1 : goal.returns-in_ok-ring_op-in-1
unfolding under call_says
returns-in_ok-ring_op-in-1 c = rw c.in-1.is (said_ok _ _ _ _ c.ring_op-in-1.ensures (c.in_ok-ring_op-in-1.was))

pub returns-in_err-vector_op-in-2 : goal.returns-in_err-vector_op-in-2
unfolding under call_says
returns-in_err-vector_op-in-2 c = rw c.in-2.is (search (said_err, rules))

pub returns-in_ok-vector_op-in-2 : goal.returns-in_ok-vector_op-in-2
unfolding under call_says
returns-in_ok-vector_op-in-2 c = rw c.in-2.is (said_ok _ _ _ _ c.vector_op.ensures (c.in_ok-vector_op-in-2.was))

pub returns-in_err-vector_op-in-3 : goal.returns-in_err-vector_op-in-3
unfolding under call_says
returns-in_err-vector_op-in-3 c = rw c.in-3.is (search (said_err, rules))

pub returns-in_ok-vector_op-in-3 : goal.returns-in_ok-vector_op-in-3
unfolding under call_says
returns-in_ok-vector_op-in-3 c = rw c.in-3.is (said_ok _ _ _ _ c.vector_op-in-3.ensures (c.in_ok-vector_op-in-3.was))

pub returns-in_default : goal.returns-in_default
unfolding under call_says
returns-in_default c = search (unknown, rules)
