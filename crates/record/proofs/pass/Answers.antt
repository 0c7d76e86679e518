-- `pass` meets its promise: a field is kept and passed, and the last one, a byte that may not stand there or a quote that is never closed tells what the text comes to.
use Rattle.std.proofs.Common.{rules, refl, ◌+◌}
use Rattle.record.proofs.Laws.Passing.{with_count, start_fits, end_fits, next_inside, comma_passed, after_fits}
use Rattle.record.proofs.Laws.Passing.{end_outcome, end_judged, bad_outcome, bad_judged, unclosed_outcome, unclosed_judged}
use Rattle.record.proofs.pass.Goals as goal

pub keep-requires : goal.keep-requires
keep-requires c = (search (start_fits, rules), search (end_fits, rules))

pub behind-requires : goal.behind-requires
behind-requires c = search (next_inside, rules)

pub loop-f-preserved : goal.loop-f-preserved
loop-f-preserved c = search (comma_passed, rules)

pub overflow_cast-result : goal.overflow_cast-result
overflow_cast-result c = record {
  fits =
      after_fits c.args.text.now _ _ c.loop-f.at c.loop-f.invariant c.field.result c.field.ensures c.in-Some.f c.in-Some.is (with_count c.keep.new.self (c.loop-f.count + 1))
      c.keep.ensures refl c.behind.result c.behind.ensures c.in-End.after c.in-End.is c.requires;
}

pub returns-in-End-clause-ending : goal.returns-in-End-clause-ending
returns-in-End-clause-ending c =
    end_outcome c.args.text.now _ _ c.loop-f.at c.loop-f.invariant c.field.result c.field.ensures c.in-Some.f c.in-Some.is (with_count c.keep.new.self (c.loop-f.count + 1))
    c.keep.ensures refl c.behind.result c.behind.ensures c.in-End.after c.in-End.is

pub returns-in-End-clause-judged : goal.returns-in-End-clause-judged
returns-in-End-clause-judged c = search (end_judged, rules)

pub returns-in-Bad-clause-ending : goal.returns-in-Bad-clause-ending
returns-in-Bad-clause-ending c =
    bad_outcome c.args.text.now _ _ c.loop-f.at c.loop-f.invariant c.field.result c.field.ensures c.in-Some.f c.in-Some.is (with_count c.keep.new.self (c.loop-f.count + 1))
    c.keep.ensures refl c.behind.result c.behind.ensures c.in-Bad.is

pub returns-in-Bad-clause-judged : goal.returns-in-Bad-clause-judged
returns-in-Bad-clause-judged c = search (bad_judged, rules)

pub returns-clause-ending : goal.returns-clause-ending
returns-clause-ending c = search (unclosed_outcome, rules)

pub returns-clause-judged : goal.returns-clause-judged
returns-clause-judged c = search (unclosed_judged, rules)
