-- `ring_read` meets its promise: refused, or the state, every slot and the total.
use Rattle.stored.specs.Reads.{RingRead}
use Rattle.stored.proofs.Taking.{passed_on, ring_turned, len_fits, out_few, ring_head_fits, ring_done}
use Rattle.stored.proofs.readers.ring_read.Goals as goal

pub returns-in_err-first : goal.returns-in_err-first
returns-in_err-first c = passed_on (λ a. RingRead c.args.text.now c.args.slots.now a c.take.new.slots) c.from_residual.ensures.1 (ring_turned _ _ _ _ c.in_err-first.ensures)

pub ring_total-total-requires : goal.ring_total-total-requires
ring_total-total-requires c =
    let took = c.in_ok-first.ensures in
    (out_few _ _ _ _ _ took, len_fits _ _ _ _ _ took, ring_head_fits _ _ _ _ took _ c.home-head.ensures)

pub returns : goal.returns
returns c = ring_done _ _ _ _ c.in_ok-first.ensures _ c.home-head.ensures _ _ c.ring_total-total.ensures c.done.ensures
