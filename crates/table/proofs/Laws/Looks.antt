-- What a call that changes nothing shows, as the proof of its function finds it: o is what is seen, and each premise a fact that the code's steps
-- tell. One law for all of them; the rest only name the tests that were passed.
use mathlib.Core.Path.{◌≡◌, refl, ap, ◌∙◌}
use mathlib.Core.Bool.{Bool, true, false, cond}
use Prim.Native.Nat.{ℕ, ◌-◌, ◌%◌, ◌≤◌, ◌<◌}
use native.Mathlib.Nat.{mod-eq_of_lt}
use native.Mathlib.Omega.{arith}
use borrow.Author.Tests.{ltb-true, lt-leb, le-ltb}
use lib.Dec.{ltb, eqb}
use lib.ListN.{get_or}
use mir.Val.{bool_byte}
use Rattle.slots.specs.Layout.{most, Kind, vector, place}
use Rattle.table.specs.Tray.{Tray, cap, list, invalid, Cursor}
use Rattle.table.specs.Calls.{Look, look, len, is_empty, read, reserve, range}
use Rattle.table.specs.Table.{look_row}
use Rattle.table.specs.Does.{Outcome, gives, row_of, does}
use Rattle.table.proofs.Laws.Refusals.{Clear, inside}
use Rattle.table.proofs.Laws.Valid.{fit}
use Rattle.table.proofs.Laws.Done.{Homed, done_is, many, still, at, as_it_was}

yes_is_1 : (b : Bool) → bool_byte b ≡ cond b 1 0
yes_is_1 true = refl
yes_is_1 false = refl

-- the container as it was, with this value and cursor
abbrev pub shows : Tray → (value : ℕ) → Cursor → Outcome
shows t value u = record { number = 0; value = value; moves = 0; tray = record { head = t.head; len = t.len; slots = t.slots }; cursor = u }

module _ (k : Kind) (t : Tray) (o : Outcome) (ok : invalid k t ≡ false) (home : Homed k t) where
  pub look_done : (q : Look) → Clear (row_of k (look q) t).refusals
      → o ≡ shows t (look_row (cap t) t.len (list k t) q).value (look_row (cap t) t.len (list k t) q).cursor → o ≡ does k (look q) t
  look_done q clear eo =
      cc (eo, home, done_is k t (look q) ok clear, many k t, still k t, as_it_was k t ok)

  -- the length as one of the m numbers that an entry can be, which are enough whatever its width
  pub len_done : (value m : ℕ) → value ≡ t.len % m → ltb most m ≡ true → o ≡ gives value 0 t.head t.len t.slots → o ≡ does k (look len) t
  len_done value m ev wide eo =
      let f = fit k t ok in
      let all : value ≡ t.len = ev ∙ mod-eq_of_lt (omega (arith, ltb-true most m wide)) in
      look_done len tt (rw all at eo)

  pub read_done : (i s : ℕ) → i < t.len → s ≡ place k (cap t) t.head i
      → o ≡ gives (get_or t.slots s 0) 0 t.head t.len t.slots → o ≡ does k (look (read i)) t
  read_done i s h es eo = look_done (read i) (lt-leb _ _ h, tt) (rw (at k t i s h es) eo)

  -- a yes or a no, as the code makes a number of it
  pub empty_done : (value : ℕ) → value ≡ bool_byte (eqb t.len 0) → o ≡ gives value 0 t.head t.len t.slots → o ≡ does k (look is_empty) t
  empty_done value ev eo = look_done is_empty tt (eo ∙ ap (λ x. gives x 0 t.head t.len t.slots) (ev ∙ yes_is_1 (eqb t.len 0)))

  -- room for m more
  pub reserve_done : (m : ℕ) → m ≤ cap t - t.len → o ≡ gives 0 0 t.head t.len t.slots → o ≡ does k (look (reserve m)) t
  reserve_done m room eo = look_done (reserve m) (le-ltb _ _ room, tt) eo

  pub range_done : (a b : ℕ) → a ≤ b → b ≤ t.len → o ≡ gives 0 0 t.head t.len t.slots → o ≡ does k (look (range a b)) t
  range_done a b le fits eo = look_done (range a b) (inside a b t.len le fits, tt) eo

-- A vector's position is its slot.
pub vector_read_done : (t : Tray) (o : Outcome) → invalid vector t ≡ false → Homed vector t → (i : ℕ) → i < t.len
    → o ≡ gives (get_or t.slots i 0) 0 t.head t.len t.slots → o ≡ does vector (look (read i)) t
vector_read_done t o ok home i h eo = read_done vector t o ok home i i h refl eo
