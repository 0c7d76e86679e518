-- A call that is done leaves the list that the table says, wherever the ring wraps, with the row's value, head and cursor, and the count
-- of entries moved; and each slot holds, in paper 01's three clauses, its entry, 0, or what it held.
use Prim.Native.Nat.{ℕ, ◌≤◌, ◌<◌}
use mathlib.Core.Path.{◌≡◌, refl}
use mathlib.Core.List.{List}
use lib.ListN.{length, get_or}
use Rattle.slots.specs.Layout.{Kind, place, pos}
use Rattle.slots.specs.Moves.{moved}
use Rattle.slots.proofs.Relaid.{relaid_entry, relaid_emptied, relaid_untouched}
use Rattle.table.specs.Tray.{Tray, cap, list}
use Rattle.table.specs.Calls.{Call, Call2, Making}
use Rattle.table.specs.Table.{Row, Row2, after, after2, begins, makes}
use Rattle.table.specs.Does.{Outcome, head_after, relay, done, row_of, does, bare, made}
use Rattle.table.specs.Does.{Outcome2, done2, row_of2, does2}
use Rattle.table.proofs.Laws.Keeps.{relay_list}
use Rattle.table.proofs.Theorems.Refused.{call_settled, call_clear, two_settled, two_clear, made_settled, made_clear}
use Rattle.table.proofs.Theorems.StaysValid.{Leaves, call_leaves, two_leave, made_leaves}

-- The tray t has come to be the tray now, whose list is l and whose head is h. The last three say what each slot s holds: its position was
-- pos .. t.head s, among t.len entries, and is pos .. now.head s.
pub record Afterwards (k : Kind) (t : Tray) (l : List ℕ) (h : ℕ) (now : Tray) : Type 0 where
  pub listed : list k now ≡ l
  pub head : now.head ≡ h
  pub len : now.len ≡ length l
  pub entry : (s : ℕ) → s < cap t → pos k (cap t) now.head s < length l → get_or now.slots s 0 ≡ get_or l (pos k (cap t) now.head s) 0
  pub emptied : (s : ℕ) → s < cap t → length l ≤ pos k (cap t) now.head s → pos k (cap t) t.head s < t.len → get_or now.slots s 0 ≡ 0
  pub untouched : (s : ℕ) → s < cap t → length l ≤ pos k (cap t) now.head s → t.len ≤ pos k (cap t) t.head s
      → get_or now.slots s 0 ≡ get_or t.slots s 0

relay_after : (k : Kind) (t : Tray) (l : List ℕ) (h : ℕ) → Leaves k t l h → Afterwards k t l (head_after k (length l) h) (relay k t l h)
relay_after k t l h left = record {
  listed = relay_list k t l h left.inside left.room;
  head = refl;
  len = refl;
  entry = relaid_entry _ _ t.len l t.slots;
  emptied = relaid_emptied _ _ t.len l t.slots;
  untouched = relaid_untouched _ _ t.len l t.slots;
}

-- what a done call on one container, or a making, tells: l is the list afterwards, r the row
pub record Listed (k : Kind) (t : Tray) (l : List ℕ) (r : Row) (o : Outcome) : Type 0 where
  pub tray : Afterwards k t l (head_after k (length l) r.head) o.tray
  pub value : o.value ≡ r.value
  pub moves : o.moves ≡ moved (place k (cap t) t.head) (place k (cap t) o.tray.head) r.carry t.len
  pub cursor : o.cursor ≡ r.cursor

done_listed : (k : Kind) (t : Tray) (l : List ℕ) (r : Row) → Leaves k t l r.head → Listed k t l r (done k t l r)
done_listed k t l r left = record { tray = relay_after k t l r.head left; value = refl; moves = refl; cursor = refl }

-- A call on one container. Here and below o is what is seen of a call, as its promise says.
pub call_listed : (k : Kind) (call : Call) (t : Tray) (o : Outcome) → o ≡ does k call t → o.number ≡ 0 → Listed k t (after call (list k t)) (row_of k call t) o
call_listed k call t o promised zero =
    let clear = call_clear k call t o promised zero in
    rw (promised, (call_settled k call t).otherwise clear) (done_listed k t _ _ (call_leaves k call t clear))

-- A making.
pub made_listed : (k : Kind) (m : Making) (slots : List ℕ) (o : Outcome) → o ≡ made k m slots → o.number ≡ 0
    → Listed k (bare slots) (begins m) (makes (length slots) m) o
made_listed k m slots o promised zero =
    let clear = made_clear k m slots o promised zero in
    rw (promised, (made_settled k m slots).otherwise clear) (done_listed k (bare slots) _ _ (made_leaves k m slots clear))

-- A call on two: both lists, and T's head.
pub record Listed2 (k k2 : Kind) (t t2 : Tray) (ls : List ℕ × List ℕ) (r : Row2) (o : Outcome2) : Type 0 where
  pub first : Afterwards k t ls.0 (head_after k (length ls.0) t.head) o.first
  pub second : Afterwards k2 t2 ls.1 (head_after k2 (length ls.1) r.head2) o.second
  pub value : o.value ≡ r.value
  pub moves : o.moves ≡ moved (place k (cap t) t.head) (place k (cap t) o.first.head) r.carry t.len
  pub cursor : o.cursor ≡ r.cursor

pub two_listed : (k k2 : Kind) (call : Call2) (t t2 : Tray) (o : Outcome2) → o ≡ does2 k k2 call t t2 → o.number ≡ 0
    → Listed2 k k2 t t2 (after2 call (list k t) (list k2 t2)) (row_of2 k k2 call t t2) o
two_listed k k2 call t t2 o promised zero =
    let clear = two_clear k k2 call t t2 o promised zero in
    let left = two_leave k k2 call t t2 clear in
    let now : Listed2 k k2 t t2 (after2 call (list k t) (list k2 t2)) (row_of2 k k2 call t t2) (done2 k k2 t t2 (after2 call (list k t) (list k2 t2)) (row_of2 k k2 call t t2)) =
    record { first = relay_after k t _ _ left.first; second = relay_after k2 t2 _ _ left.second; value = refl; moves = refl; cursor = refl } in
    rw (promised, (two_settled k k2 call t t2).otherwise clear) now
