-- `split_off` meets its promise: nothing goes over, or the run from `at` on, which is filled and added up.
use mathlib.Core.Path.{◌≡◌, refl, sym, ◌∙◌}
use Prim.Native.Nat.{◌-◌}
use mathlib.Core.List.{[], ◌∷◌}
use native.Mathlib.Omega.{arith}
use borrow.Author.Tests.{lt-ltb, le-ltb}
use Rattle.table.proofs.Laws.Valid.{state}
use Rattle.containers.specs.Reading.{tray_by}
use Rattle.containers.proofs.Homes.{home}
use Rattle.pairs.proofs.Told.{bare, holds, free, is_invalid, second_is_invalid, stopped, kept, changed_to}
use Rattle.table.specs.Table.{beyond, taken, full}
use Rattle.table.specs.Calls.{split_off}
use Rattle.table.specs.declared.answers.Refusal.TheVariants.{Beyond, Taken, Full}
use Rattle.table.proofs.Laws.Done.{no_head_law}
use Rattle.table.proofs.Laws.Done2.{split_none_done, split_done}
use Rattle.table.proofs.Laws.Totalling.{splits}
use Rattle.pairs.proofs.split_off.Goals as goal

pub returns-then-is_invalid : goal.returns-then-is_invalid
returns-then-is_invalid g c = is_invalid _ _ (split_off c.args.at) _ _ _ _ refl c.total-ours.ensures.1 c.total-other.ensures.1 (sym c.is_invalid.ensures.is ∙ c.if-is_invalid.true)

pub returns-then-is_invalid-2 : goal.returns-then-is_invalid-2
returns-then-is_invalid-2 g c =
    second_is_invalid _ _ (split_off c.args.at) _ _ _ _ refl c.total-ours.ensures.1 c.total-other.ensures.1 (sym c.is_invalid.ensures.is ∙ c.if-is_invalid.false)
    (sym c.is_invalid-2.ensures.is ∙ c.if-is_invalid-2.true)

pub returns-then-len-at : goal.returns-then-len-at
returns-then-len-at g c =
    stopped _ _ (split_off c.args.at) _ _ _ _ refl c.total-ours.ensures.1 c.total-other.ensures.1 Beyond [] _ beyond _ refl refl (sym c.is_invalid.ensures.is ∙ c.if-is_invalid.false)
    (sym c.is_invalid-2.ensures.is ∙ c.if-is_invalid-2.false) tt
    (lt-ltb _ _ (omega (arith, c.if-len-at.true, c.len-len.ensures)))

pub returns-then-count-ne0 : goal.returns-then-count-ne0
returns-then-count-ne0 g c =
    stopped _ _ (split_off c.args.at) _ _ _ _ refl c.total-ours.ensures.1 c.total-other.ensures.1 Taken (_ ∷ []) _ taken _ refl refl (sym c.is_invalid.ensures.is ∙ c.if-is_invalid.false)
    (sym c.is_invalid-2.ensures.is ∙ c.if-is_invalid-2.false) (le-ltb _ _ (omega (arith, c.if-len-at.false, c.len-len.ensures)), tt)
    (holds _ (omega (arith, c.if-count-ne0.true, c.len-count.ensures)))

pub overflow_sub-len : goal.overflow_sub-len
overflow_sub-len g c = omega state

pub returns-then-room-len : goal.returns-then-room-len
returns-then-room-len g c =
    stopped _ _ (split_off c.args.at) _ _ _ _ refl c.total-ours.ensures.1 c.total-other.ensures.1 Full (_ ∷ _ ∷ []) _ full [] refl refl (sym c.is_invalid.ensures.is ∙ c.if-is_invalid.false)
    (sym c.is_invalid-2.ensures.is ∙ c.if-is_invalid-2.false) (le-ltb _ _ (omega (arith, c.if-len-at.false, c.len-len.ensures)), (free _ (omega (arith, c.if-count-ne0.false, c.len-count.ensures)), tt))
    (lt-ltb _ _ (omega (arith, c.if-room-len.true, c.len-len.ensures)))

pub returns-then-len-at-2 : goal.returns-then-len-at-2
returns-then-len-at-2 g c =
    let ok = sym c.is_invalid.ensures.is ∙ c.if-is_invalid.false in
    let ok2 = sym c.is_invalid-2.ensures.is ∙ c.if-is_invalid-2.false in
    kept _ _ (split_off c.args.at) _ _ _ _ refl c.total-ours.ensures.1 c.total-other.ensures.1 _ _ c.telling.ensures
    (λ o. split_none_done _ _ (tray_by g.C.Container.reads c.args.first c.args.slots.now) (tray_by g.C.Container.reads c.args.second c.args.theirs.now) o ok ok2
    (home _ _ (g.met.C.Container.headed c.args.first) ok) (home _ _ (g.met.C.Container.headed c.args.second) ok2) c.args.at (omega (arith, c.if-len-at.false, c.len-len.ensures))
    (cc) (omega (arith, c.if-len-at-2.true, c.len-len.ensures)))

pub take_over-sum-requires : goal.take_over-sum-requires
take_over-sum-requires g c = omega state

pub returns : goal.returns
returns g c =
    let ok = sym c.is_invalid.ensures.is ∙ c.if-is_invalid.false in
    let ok2 = sym c.is_invalid-2.ensures.is ∙ c.if-is_invalid-2.false in
    let over = c.take_over-sum.ensures in
    let keeps = c.left-kept.ensures in
    let rest = c.left-rest.ensures in
    let none : g.C.Container.reads.size c.args.second ≡ 0 = cc (c.if-count-ne0.false, c.len-count.ensures) in
    let empty : g.C.Container.reads.head c.args.second ≡ 0 = bare _ (tray_by g.C.Container.reads c.args.second c.args.theirs.now) (g.met.C.Container.headed c.args.second) ok2 none in
    changed_to _ _ (split_off c.args.at) _ _ _ _ refl c.total-ours.ensures.1 c.total-other.ensures.1 _ _ _ _ _ _ c.telling-2.ensures
    (λ o eo. split_done _ _ (tray_by g.C.Container.reads c.args.first c.args.slots.now) (tray_by g.C.Container.reads c.args.second c.args.theirs.now) o ok ok2 c.args.at
    c.take_over-sum.new.theirs c.take_over-sum.new.slots (omega (arith, c.if-len-at.false, c.len-len.ensures)) none (omega (arith, c.if-room-len.false, c.len-len.ensures))
    (rw (sym c.len-len.ensures) over.1) (rw (empty, c.len-len.ensures) at over.0)
    (cc (eo, keeps.head, keeps.size, rest.head, rest.size, empty, no_head_law g.C.Container.reads.kind (c.len-len.result - c.args.at), c.len-len.ensures)))
    (splits _ _ _ c.args.at _ _ _ _ _ none (cc (keeps.sum, c.less.ensures, over.2, c.total-ours.ensures.0, c.len-len.ensures))
    (cc (rest.sum, c.more.ensures, over.2, c.total-other.ensures.0, c.len-len.ensures)))
