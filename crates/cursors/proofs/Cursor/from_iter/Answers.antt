-- `Cursor::from_iter` meets its promise: nothing remains, or the run that remains is copied to T and added up on the way, a law for each.
use mathlib.Core.Path.{sym, ◌∙◌}
use native.Mathlib.Omega.{arith}
use borrow.Author.Tests.{ne_eqb, eq-eqb, lt-ltb}
use Rattle.table.proofs.Laws.Valid.{state}
use Rattle.table.proofs.Laws.Stops.{in_order, in_reach}
use Rattle.table.proofs.Laws.Refusals.{not_holds}
use Rattle.cursors.proofs.Told.{takes_of_none, takes_to_none, takes_beyond, takes_to_taken, takes_too_many, takes_nothing, takes_rest}
use Rattle.cursors.proofs.Cursor.from_iter.Goals as goal

pub returns-then-is_invalid : goal.returns-then-is_invalid
returns-then-is_invalid g c = takes_of_none _ _ _ _ _ (omega arith) (sym c.is_invalid.ensures.is ∙ c.if-is_invalid.true)

pub returns-then-invalid_vector : goal.returns-then-invalid_vector
returns-then-invalid_vector g c =
    takes_to_none _ _ _ _ _ (omega arith) (sym c.is_invalid.ensures.is ∙ c.if-is_invalid.false) (sym c.invalid_vector.ensures.is ∙ c.if-invalid_vector.true)

pub returns-then-astray : goal.returns-then-astray
returns-then-astray g c =
    takes_beyond _ _ _ _ _ (omega arith) (sym c.is_invalid.ensures.is ∙ c.if-is_invalid.false) (sym c.invalid_vector.ensures.is ∙ c.if-invalid_vector.false) (cc)

pub returns-then-held-ne0 : goal.returns-then-held-ne0
returns-then-held-ne0 g c =
    takes_to_taken _ _ _ _ _ (omega arith) (sym c.is_invalid.ensures.is ∙ c.if-is_invalid.false) (sym c.invalid_vector.ensures.is ∙ c.if-invalid_vector.false) (cc)
    (search ne_eqb)

pub returns-then-room-back : goal.returns-then-room-back
returns-then-room-back g c =
    takes_too_many _ _ _ _ _ (omega arith) (sym c.is_invalid.ensures.is ∙ c.if-is_invalid.false) (sym c.invalid_vector.ensures.is ∙ c.if-invalid_vector.false) (cc)
    (search (eq-eqb, not_holds)) (lt-ltb _ _ c.if-room-back.true)

pub returns-then-front-back : goal.returns-then-front-back
returns-then-front-back g c =
    takes_nothing _ _ _ _ _ (omega arith) (sym c.is_invalid.ensures.is ∙ c.if-is_invalid.false) (sym c.invalid_vector.ensures.is ∙ c.if-invalid_vector.false)
    (g.met.C.Container.headed c.args.over) (in_order _ _ _ _ c.astray.ensures c.if-astray.false)
    (omega (arith, in_reach _ _ _ _ c.astray.ensures c.if-astray.false, c.len.ensures))
    c.if-held-ne0.false _ c.if-front-back.true c.telling.ensures

pub bring-by-requires : goal.bring-by-requires
bring-by-requires g c = omega state

pub returns : goal.returns
returns g c =
    takes_rest _ _ _ _ _ (omega arith) (sym c.is_invalid.ensures.is ∙ c.if-is_invalid.false) (sym c.invalid_vector.ensures.is ∙ c.if-invalid_vector.false)
    (g.met.C.Container.headed c.args.over) (in_order _ _ _ _ c.astray.ensures c.if-astray.false)
    (omega (arith, in_reach _ _ _ _ c.astray.ensures c.if-astray.false, c.len.ensures))
    c.if-held-ne0.false _ _ _ _ _ (omega arith) c.bring-by.ensures.0 c.bring-by.ensures.1 c.more.ensures c.state-second.ensures c.telling-2.ensures
