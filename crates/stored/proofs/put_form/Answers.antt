-- `put_form` meets its promise: the test of paper 01, then the first line and the slots' lines.
use mathlib.Core.Path.{refl}
use native.Mathlib.Omega.{arith}
use Rattle.stored.proofs.Writes.{puts_few, puts_full, puts_done}
use Rattle.stored.proofs.put_form.Goals as goal

pub overflow_mul-size : goal.overflow_mul-size
overflow_mul-size c = omega (arith, puts_few _ _ _ _ c.args.text.now c.requires.0)

pub overflow_add-size : goal.overflow_add-size
overflow_add-size c = omega (arith, puts_few _ _ _ _ c.args.text.now c.requires.0)

pub returns-then-text-size : goal.returns-then-text-size
returns-then-text-size c = puts_full _ _ _ _ _ c.requires.0 c.if-text-size.true

pub returns : goal.returns
returns c = puts_done _ _ _ _ _ c.requires.0 c.requires.1 (omega arith) _ _ _ _ c.put_first.ensures c.put_slots.ensures c.word.ensures refl
