-- `append` meets its promise: T is empty, or its run goes over behind the entries, which adds it up.
use mathlib.Core.Path.{refl, sym, ◌∙◌}
use mathlib.Core.List.{[]}
use native.Mathlib.Omega.{arith}
use borrow.Author.Tests.{lt-ltb}
use Rattle.table.specs.Table.{full}
use Rattle.table.specs.Calls.{append}
use Rattle.table.specs.declared.answers.Refusal.TheVariants.{Full}
use Rattle.slots.proofs.Lays.{lay_all}
use Rattle.table.proofs.Laws.Valid.{state}
use Rattle.table.proofs.Laws.Done.{home_of_none}
use Rattle.table.proofs.Laws.Totalling.{goes_over}
use Rattle.table.proofs.Laws.Done2.{append_none_done, append_done}
use Rattle.containers.specs.Reading.{tray_by}
use Rattle.containers.proofs.Homes.{home}
use Rattle.pairs.proofs.Told.{is_invalid, second_is_invalid, stopped, kept, changed_to}
use Rattle.pairs.proofs.append.Goals as goal

pub returns-then-is_invalid : goal.returns-then-is_invalid
returns-then-is_invalid g c = is_invalid _ _ append _ _ _ _ refl c.total-ours.ensures.1 c.total-other.ensures.1 (sym c.is_invalid.ensures.is ∙ c.if-is_invalid.true)

pub returns-then-is_invalid-2 : goal.returns-then-is_invalid-2
returns-then-is_invalid-2 g c =
    second_is_invalid _ _ append _ _ _ _ refl c.total-ours.ensures.1 c.total-other.ensures.1 (sym c.is_invalid.ensures.is ∙ c.if-is_invalid.false)
    (sym c.is_invalid-2.ensures.is ∙ c.if-is_invalid-2.true)

pub overflow_sub-cap : goal.overflow_sub-cap
overflow_sub-cap g c = omega state

pub returns-then-cap-len : goal.returns-then-cap-len
returns-then-cap-len g c =
    stopped _ _ append _ _ _ _ refl c.total-ours.ensures.1 c.total-other.ensures.1 Full [] _ full [] refl refl (sym c.is_invalid.ensures.is ∙ c.if-is_invalid.false)
    (sym c.is_invalid-2.ensures.is ∙ c.if-is_invalid-2.false) tt (lt-ltb _ _ (omega (arith, c.if-cap-len.true, c.len-len.ensures, c.len-count.ensures)))

pub returns-then-count-eq0 : goal.returns-then-count-eq0
returns-then-count-eq0 g c =
    let ok = sym c.is_invalid.ensures.is ∙ c.if-is_invalid.false in
    let ok2 = sym c.is_invalid-2.ensures.is ∙ c.if-is_invalid-2.false in
    kept _ _ append _ _ _ _ refl c.total-ours.ensures.1 c.total-other.ensures.1 _ _ c.telling.ensures
    (λ o. append_none_done _ _ (tray_by g.C.Container.reads c.args.first c.args.slots.now) (tray_by g.C.Container.reads c.args.second c.args.theirs.now) o ok ok2
    (home _ _ (g.met.C.Container.headed c.args.first) ok) (home _ _ (g.met.C.Container.headed c.args.second) ok2) (cc))

pub take_over-sum-requires : goal.take_over-sum-requires
take_over-sum-requires g c = omega state

pub returns : goal.returns
returns g c =
    let ok = sym c.is_invalid.ensures.is ∙ c.if-is_invalid.false in
    let ok2 = sym c.is_invalid-2.ensures.is ∙ c.if-is_invalid-2.false in
    let over = c.take_over-sum.ensures in
    let joined = c.left-joined.ensures in
    let emptied = c.left-emptied.ensures in
    changed_to _ _ append _ _ _ _ refl c.total-ours.ensures.1 c.total-other.ensures.1 _ _ _ _ _ _ c.telling-2.ensures
    (λ o eo. append_done _ _ (tray_by g.C.Container.reads c.args.first c.args.slots.now) (tray_by g.C.Container.reads c.args.second c.args.theirs.now) o ok ok2 c.take_over-sum.new.slots c.take_over-sum.new.theirs
    (omega (arith, c.if-cap-len.false, c.len-len.ensures, c.len-count.ensures))
    (rw (sym c.len-len.ensures, sym c.len-count.ensures) (lay_all _ _ _ _ _ _ over.0)) (rw (sym c.len-count.ensures) over.1)
    (cc (eo, joined.head, joined.size, emptied.head, emptied.size, home_of_none g.C.Container.reads.kind 0 (g.C.Container.reads.head c.args.second) refl, c.len-len.ensures, c.len-count.ensures)))
    (goes_over _ _ _ _ _ _ (cc (joined.sum, c.more.ensures, over.2, c.total-ours.ensures.0, c.len-count.ensures))
    (cc (emptied.sum, c.less.ensures, over.2, c.total-other.ensures.0, c.len-count.ensures)))
