-- `judge` meets its promise: what the library tells of a place lies in the text, and a record has bytes.
use Rattle.import.proofs.Fields.{refused_inside, fault_inside, next_some, next_inside}
use Rattle.import.proofs.takes.judge.Goals as goal

pub returns-in_err-next-clause-inside : goal.returns-in_err-next-clause-inside
returns-in_err-next-clause-inside c = refused_inside _ _ _ c.from_residual.ensures.1 (fault_inside c.args.text.now _ c.in_err-next.ensures c.requires.1)

pub returns-clause-inside : goal.returns-clause-inside
returns-clause-inside c = (next_some c.args.text.now _ c.in_ok-next.ensures c.requires.1 c.requires.0, next_inside c.args.text.now _ c.in_ok-next.ensures c.requires.1)
