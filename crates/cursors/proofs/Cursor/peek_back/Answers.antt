-- `Cursor::peek_back` meets its promise: the slot of that many positions before back holds the entry.
use mathlib.Core.Path.{refl, sym, ◌∙◌}
use native.Mathlib.Omega.{arith}
use Rattle.table.specs.Table.{beyond}
use Rattle.containers.specs.Reading.{tray_by}
use Rattle.table.specs.Calls.{peek_back}
use Rattle.table.specs.declared.answers.Refusal.TheVariants.{Beyond}
use borrow.Author.Tests.{le-leb}
use Rattle.table.proofs.Laws.Valid.{state}
use Rattle.table.proofs.Laws.Stops.{in_order, in_reach}
use Rattle.table.proofs.Laws.Walks.{peek_back_done}
use Rattle.containers.proofs.Homes.{home}
use Rattle.cursors.proofs.Told.{is_invalid, by_first, by_second, is_shown}
use Rattle.cursors.specs.Seen.{cursor}
use Rattle.cursors.proofs.Cursor.peek_back.Goals as goal

pub returns-then-is_invalid : goal.returns-then-is_invalid
returns-then-is_invalid g c = is_invalid _ _ _ (peek_back (cursor c.args.self) c.args.k) refl (sym c.is_invalid.ensures.is ∙ c.if-is_invalid.true)

pub returns-then-astray : goal.returns-then-astray
returns-then-astray g c =
    by_first _ _ _ (peek_back (cursor c.args.self) c.args.k) refl Beyond _ beyond _ refl refl (sym c.is_invalid.ensures.is ∙ c.if-is_invalid.false) cc

pub returns-then-back-front : goal.returns-then-back-front
returns-then-back-front g c =
    by_second _ _ _ (peek_back (cursor c.args.self) c.args.k) refl Beyond _ _ beyond beyond _ refl refl (sym c.is_invalid.ensures.is ∙ c.if-is_invalid.false) (cc)
    (le-leb _ _ c.if-back-front.true)

pub slot-at-requires : goal.slot-at-requires
slot-at-requires g c = omega state

pub returns : goal.returns
returns g c =
    let ok = sym c.is_invalid.ensures.is ∙ c.if-is_invalid.false in
    let ordered = in_order _ _ _ _ c.astray.ensures c.if-astray.false in
    let fits = in_reach _ _ _ _ c.astray.ensures c.if-astray.false in
    is_shown _ _ _ _ _ _ _ c.telling.ensures
    (λ o. peek_back_done _ (tray_by g.C.Container.reads c.args.over c.args.slots.now) o ok (home _ _ (g.met.C.Container.headed c.args.over) ok)
    (cursor c.args.self) _ ordered (omega (arith, fits, c.len.ensures)) _ c.if-back-front.false c.slot-at.ensures.0)
