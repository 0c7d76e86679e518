-- `put_byte` meets its promise: both sides make the same test, and each arm writes what it says.
use borrow.Author.Rules.{rules}
use Rattle.import.proofs.Writing.{shown_hex, shown_plain}
use Rattle.import.proofs.prints.put_byte.Goals as goal

pub returns-then-b : goal.returns-then-b
returns-then-b c = search (shown_hex, rules)

pub returns : goal.returns
returns c = search (shown_plain, rules)
