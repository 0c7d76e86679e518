-- `say_field` meets its promise: the field's text is written where there is room for it.
use native.Mathlib.Omega.{arith}
use Rattle.import.proofs.takes.say_field.Goals as goal

pub returns : goal.returns
returns g c = record {
  at = c.room.new.self.at;
  wrote = λ fit ordered inside short. rw (c.own_text-n.ensures.own fit ordered inside (omega arith), c.room.ensures.1) at c.put_field-page.ensures.0;
}
