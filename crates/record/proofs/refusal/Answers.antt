-- `refusal` meets its promise: the tests in their order.
use Rattle.record.specs.Recorded.{early}
use Rattle.record.proofs.Laws.Saying.{tests}
use Rattle.record.proofs.refusal.Goals as goal

pub returns-then-invalid_vector : goal.returns-then-invalid_vector
unfolding early
returns-then-invalid_vector c = search tests depth 9

pub returns-then-invalid_vector-2 : goal.returns-then-invalid_vector-2
unfolding early
returns-then-invalid_vector-2 c = search tests depth 9

pub returns-then-len-ne0 : goal.returns-then-len-ne0
unfolding early
returns-then-len-ne0 c = search tests depth 9

pub returns-then-count-ne0 : goal.returns-then-count-ne0
unfolding early
returns-then-count-ne0 c = search tests depth 9

pub returns-then-size-gt65535 : goal.returns-then-size-gt65535
unfolding early
returns-then-size-gt65535 c = search tests depth 9

pub returns : goal.returns
unfolding early
returns c = search tests depth 9
