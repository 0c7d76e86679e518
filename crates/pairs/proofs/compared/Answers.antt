-- `compared` meets its promise: a ring with head 0 has its positions in its first slots.
use mathlib.Core.Path.{◌≡◌, refl, sym}
use borrow.Author.Tests.{eqb-true}
use Rattle.slots.specs.Layout.{vector}
use Rattle.table.proofs.Laws.Valid.{and_left, and_right}
use Rattle.pairs.proofs.Told.{ringed}
use Rattle.pairs.proofs.compared.Goals as goal

pub returns-then-head-start : goal.returns-then-head-start
returns-then-head-start c =
    let first : c.args.head ≡ 0 = eqb-true _ _ (and_left _ _ c.if-head-start.true) in
    let second : c.args.start ≡ 0 = eqb-true _ _ (and_right _ _ c.if-head-start.true) in
    rw (first, second) (rw (sym (ringed vector 0 c.args.count c.args.slots.now refl c.requires.3), sym (ringed vector 0 c.args.count c.args.theirs.now refl c.requires.4)) c.firsts.ensures)
