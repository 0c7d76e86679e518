-- `Cursor::step_back` meets its promise: the slot before position back holds the entry, and back moves one back.
use mathlib.Core.Path.{refl}
use Rattle.containers.specs.Reading.{tray_by}
use Rattle.table.specs.Calls.{step_back}
use Rattle.table.proofs.Laws.Valid.{state}
use Rattle.table.proofs.Laws.Stops.{valid_past, ordered_past, within_past, apart_past}
use Rattle.table.proofs.Laws.Walks.{step_back_done}
use Rattle.containers.proofs.Homes.{home}
use Rattle.cursors.proofs.Told.{has_no_step, is_shown}
use Rattle.cursors.specs.Seen.{cursor}
use Rattle.cursors.proofs.Cursor.step_back.Goals as goal

pub returns-then-has_no_step : goal.returns-then-has_no_step
returns-then-has_no_step g c = has_no_step _ _ _ (step_back (cursor c.args.self)) refl _ _ refl c.has_no_step.ensures.0 c.if-has_no_step.true c.no_step.ensures

pub slot-at-requires : goal.slot-at-requires
slot-at-requires g c = omega state

pub returns : goal.returns
returns g c =
    let go = c.has_no_step.ensures.0 in
    let on = c.if-has_no_step.false in
    let ok = valid_past _ _ _ _ _ _ go on in
    is_shown _ _ _ _ _ _ _ c.telling.ensures
    (λ o. step_back_done _ (tray_by g.C.Container.reads c.args.over c.args.slots.now) o ok (home _ _ (g.met.C.Container.headed c.args.over) ok)
    (cursor c.args.self) _ (ordered_past _ _ _ _ _ _ _ go on) (within_past _ _ _ _ _ _ _ go on) (apart_past _ _ _ _ _ _ _ go on) c.slot-at.ensures.0)
