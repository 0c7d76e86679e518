-- `same` meets its promise: the lengths differ, or the entries were compared, run by run.
use mathlib.Core.Path.{refl, sym, ◌∙◌}
use Rattle.table.specs.Calls.{same}
use Rattle.table.proofs.Laws.Valid.{state}
use Rattle.table.proofs.Laws.Equal.{longer_done, same_done}
use Rattle.containers.specs.Reading.{tray_by}
use Rattle.containers.proofs.Homes.{home}
use Rattle.pairs.proofs.Told.{alike_of, yes_is_1, is_invalid, second_is_invalid, kept}
use Rattle.pairs.proofs.same.Goals as goal

pub returns-then-is_invalid : goal.returns-then-is_invalid
returns-then-is_invalid g c = is_invalid _ _ same _ _ _ _ refl c.total.ensures.1 c.total-2.ensures.1 (sym c.is_invalid.ensures.is ∙ c.if-is_invalid.true)

pub returns-then-is_invalid-2 : goal.returns-then-is_invalid-2
returns-then-is_invalid-2 g c =
    second_is_invalid _ _ same _ _ _ _ refl c.total.ensures.1 c.total-2.ensures.1 (sym c.is_invalid.ensures.is ∙ c.if-is_invalid.false)
    (sym c.is_invalid-2.ensures.is ∙ c.if-is_invalid-2.true)

pub returns-then-len-count : goal.returns-then-len-count
returns-then-len-count g c =
    let ok = sym c.is_invalid.ensures.is ∙ c.if-is_invalid.false in
    let ok2 = sym c.is_invalid-2.ensures.is ∙ c.if-is_invalid-2.false in
    kept _ _ same _ _ _ _ refl c.total.ensures.1 c.total-2.ensures.1 _ _ c.telling.ensures
    (λ o. longer_done _ _ (tray_by g.A.Container.reads c.args.first c.args.slots.now) (tray_by g.B.Container.reads c.args.second c.args.theirs.now) o ok ok2
    (home _ _ (g.met.A.Container.headed c.args.first) ok) (home _ _ (g.met.B.Container.headed c.args.second) ok2) (λ e. c.if-len-count.true (cc (e, c.len-len.ensures, c.len-count.ensures))))

pub compared-alike-requires : goal.compared-alike-requires
compared-alike-requires g c = omega state

pub returns : goal.returns
returns g c =
    let ok = sym c.is_invalid.ensures.is ∙ c.if-is_invalid.false in
    let ok2 = sym c.is_invalid-2.ensures.is ∙ c.if-is_invalid-2.false in
    let headed = g.met.A.Container.headed c.args.first in
    let headed2 = g.met.B.Container.headed c.args.second in
    kept _ _ same _ _ _ _ refl c.total.ensures.1 c.total-2.ensures.1 _ _ c.telling-2.ensures
    (λ o eo. same_done _ _ (tray_by g.A.Container.reads c.args.first c.args.slots.now) (tray_by g.B.Container.reads c.args.second c.args.theirs.now) o ok ok2
    (home _ _ headed ok) (home _ _ headed2 ok2) c.compared-alike.result (cc (c.if-len-count.false, c.len-len.ensures, c.len-count.ensures))
    (alike_of _ _ _ _ _ _ _ _ headed headed2 (omega state) (omega state) (rw (c.head.ensures, c.head-2.ensures, c.len-len.ensures) at c.compared-alike.ensures))
    (cc (eo, c.from.ensures, yes_is_1 c.compared-alike.result)))
