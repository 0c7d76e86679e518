-- `clone` meets its promise: nothing is copied, or the list is, to slots from 0 on, and added up on the way.
use mathlib.Core.Path.{◌≡◌, refl, sym, ◌∙◌}
use mathlib.Core.List.{[], ◌∷◌}
use native.Mathlib.Omega.{arith}
use borrow.Author.Tests.{lt-ltb}
use Rattle.table.proofs.Laws.Valid.{state}
use Rattle.containers.specs.Reading.{tray_by}
use Rattle.containers.proofs.Homes.{home}
use Rattle.pairs.proofs.Told.{bare, holds, free, is_invalid, second_is_invalid, stopped, kept, changed_to}
use Rattle.table.specs.Table.{taken, full}
use Rattle.table.specs.Calls.{clone}
use Rattle.table.specs.declared.answers.Refusal.TheVariants.{Taken, Full}
use Rattle.table.proofs.Laws.Done.{no_head_law}
use Rattle.table.proofs.Laws.Done2.{clone_none_done, clone_done}
use Rattle.table.proofs.Laws.Totalling.{copies}
use Rattle.pairs.proofs.clone.Goals as goal

pub returns-then-is_invalid : goal.returns-then-is_invalid
returns-then-is_invalid g c = is_invalid _ _ clone _ _ _ _ refl c.total-ours.ensures.1 c.total-other.ensures.1 (sym c.is_invalid.ensures.is ∙ c.if-is_invalid.true)

pub returns-then-is_invalid-2 : goal.returns-then-is_invalid-2
returns-then-is_invalid-2 g c =
    second_is_invalid _ _ clone _ _ _ _ refl c.total-ours.ensures.1 c.total-other.ensures.1 (sym c.is_invalid.ensures.is ∙ c.if-is_invalid.false)
    (sym c.is_invalid-2.ensures.is ∙ c.if-is_invalid-2.true)

pub returns-then-count-ne0 : goal.returns-then-count-ne0
returns-then-count-ne0 g c =
    stopped _ _ clone _ _ _ _ refl c.total-ours.ensures.1 c.total-other.ensures.1 Taken [] _ taken _ refl refl (sym c.is_invalid.ensures.is ∙ c.if-is_invalid.false)
    (sym c.is_invalid-2.ensures.is ∙ c.if-is_invalid-2.false) tt
    (holds _ (omega (arith, c.if-count-ne0.true, c.len-count.ensures)))

pub returns-then-room-len : goal.returns-then-room-len
returns-then-room-len g c =
    stopped _ _ clone _ _ _ _ refl c.total-ours.ensures.1 c.total-other.ensures.1 Full (_ ∷ []) _ full [] refl refl (sym c.is_invalid.ensures.is ∙ c.if-is_invalid.false)
    (sym c.is_invalid-2.ensures.is ∙ c.if-is_invalid-2.false)
    (free _ (omega (arith, c.if-count-ne0.false, c.len-count.ensures)), tt) (lt-ltb _ _ (omega (arith, c.if-room-len.true, c.len-len.ensures, c.len-count.ensures)))

pub returns-then-len-eq0 : goal.returns-then-len-eq0
returns-then-len-eq0 g c =
    let ok = sym c.is_invalid.ensures.is ∙ c.if-is_invalid.false in
    let ok2 = sym c.is_invalid-2.ensures.is ∙ c.if-is_invalid-2.false in
    kept _ _ clone _ _ _ _ refl c.total-ours.ensures.1 c.total-other.ensures.1 _ _ c.telling.ensures
    (λ o. clone_none_done _ _ (tray_by g.C.Container.reads c.args.first c.args.slots.now) (tray_by g.C.Container.reads c.args.second c.args.theirs.now) o ok ok2 (home _ _ (g.met.C.Container.headed c.args.first) ok) (home _ _ (g.met.C.Container.headed c.args.second) ok2) (cc) (cc))

pub bring-sum-requires : goal.bring-sum-requires
bring-sum-requires g c = omega state

pub returns : goal.returns
returns g c =
    let ok = sym c.is_invalid.ensures.is ∙ c.if-is_invalid.false in
    let ok2 = sym c.is_invalid-2.ensures.is ∙ c.if-is_invalid-2.false in
    let over = c.bring-sum.ensures in
    let copy = c.left-copy.ensures in
    let none : g.C.Container.reads.size c.args.second ≡ 0 = cc (c.if-count-ne0.false, c.len-count.ensures) in
    let empty : g.C.Container.reads.head c.args.second ≡ 0 = bare _ (tray_by g.C.Container.reads c.args.second c.args.theirs.now) (g.met.C.Container.headed c.args.second) ok2 none in
    changed_to _ _ clone _ _ _ _ refl c.total-ours.ensures.1 c.total-other.ensures.1 _ _ _ _ _ _ c.telling-2.ensures
    (λ o eo. clone_done _ _ (tray_by g.C.Container.reads c.args.first c.args.slots.now) (tray_by g.C.Container.reads c.args.second c.args.theirs.now) o ok ok2
    (home _ _ (g.met.C.Container.headed c.args.first) ok) c.bring-sum.new.theirs none (omega (arith, c.if-room-len.false, c.len-len.ensures))
    (rw (sym c.len-len.ensures) over.0) (cc (eo, copy.head, copy.size, empty, no_head_law g.C.Container.reads.kind c.len-len.result, c.len-len.ensures)))
    (copies _ _ _ c.bring-sum.result.sum _ _ _ _ c.total-ours.ensures.1 none (cc (over.1, c.len-len.ensures)) (cc (copy.sum, c.more.ensures, c.total-other.ensures.0)))
