-- What every call that is done has in common, for ring and vector at once: how many entries, which, slots that stay, and that an emptied ring's head
-- makes no difference to slots and moves.
use mathlib.Core.Path.{◌≡◌, refl, sym, ap, ◌∙◌}
use mathlib.Core.Bool.{Bool, true, false, cond}
use mathlib.Core.List.{List, [], ◌∷◌}
use Prim.Native.Nat.{ℕ, suc, ◌+◌, ◌-◌, ◌≤◌, ◌<◌}
use mathlib.Core.Logic.{⊎_elim}
use native.Mathlib.Omega.{arith}
use borrow.Author.Tests.{eq-eqb, ne_eqb}
use lib.Dec.{eqb}
use lib.ListN.{length, get_or}
use Rattle.slots.specs.Lists.{insert_at, remove_at}
use Rattle.slots.specs.Layout.{Kind, ring, vector, place, pos, relaid}
use Rattle.slots.specs.Moves.{Carried, moved, stay}
use Rattle.slots.proofs.Words.{same?, length_insert, length_remove}
use Rattle.slots.proofs.Placing.{length_entries, entry}
use Rattle.slots.proofs.Relaid.{relaid_same, relaid_none}
use Rattle.slots.proofs.Moves.{moved_stay, moved_gone}
use Rattle.table.specs.Tray.{Tray, cap, list, invalid}
use Rattle.table.specs.Calls.{Call, Call2}
use Rattle.table.specs.Table.{Row, after, after2}
use Rattle.table.specs.Does.{Outcome, refused, head_after, shifted, row_of, row_of2, refusals_of, done, does}
use Rattle.table.proofs.Theorems.Carrying.{Carries, carried, carried2, none_carried, on}
use Rattle.table.proofs.Laws.Refusals.{Clear, clear_of}
use Rattle.table.proofs.Laws.Valid.{fit, ring_facts}

module _ (k : Kind) (t : Tray) where
  pub many : length (list k t) ≡ t.len
  many = length_entries _ _ _

  pub still : moved (place k (cap t) t.head) (place k (cap t) t.head) stay t.len ≡ 0
  still = moved_stay _ t.len

  pub at : (i s : ℕ) → i < t.len → s ≡ place k (cap t) t.head i → get_or (list k t) i 0 ≡ get_or t.slots s 0
  at i s h es = entry _ _ _ i h ∙ ap (λ s. get_or t.slots s 0) (sym es)

  pub longer : (i x : ℕ) → i ≤ t.len → length (insert_at (list k t) i x) ≡ t.len + 1
  longer i x h = length_insert (list k t) i x (omega (arith, many)) ∙ ap (λ n. n + 1) many

  pub shorter : (i : ℕ) → i < t.len → length (remove_at (list k t) i) ≡ t.len - 1
  shorter i h = length_remove (list k t) i (omega (arith, many)) ∙ ap (λ n. n - 1) many

pub as_it_was : (k : Kind) (t : Tray) → invalid k t ≡ false
    → t.slots ≡ relaid (pos k (cap t) t.head) (pos k (cap t) t.head) t.len (list k t) t.slots
as_it_was k t ok = relaid_same _ _ _ _ (fit k t ok).placed (fit k t ok).fits

-- THE HEAD AFTERWARDS. Where something is left a ring's is the row's, and 0 stays 0.
pub head_kept : (n h : ℕ) → (n ≡ 0 → ⊥) → head_after ring n h ≡ h
head_kept n h some = rw (ne_eqb n 0 some)

pub no_head_law : (k : Kind) (n : ℕ) → head_after k n 0 ≡ 0
no_head_law ring n = either_way (eqb n 0)
  where
    either_way : (b : Bool) → ◌≡◌ {A = ℕ} (cond b 0 0) 0
    either_way true = refl
    either_way false = refl
no_head_law vector n = refl

-- an emptied ring's is 0
pub home_of_none : (k : Kind) (n h : ℕ) → n ≡ 0 → head_after k n h ≡ 0
home_of_none ring n h none = rw (eq-eqb n 0 none)
home_of_none vector n h none = refl

-- a row's head that is a slot stays one
pub head_in : (k : Kind) (n h m : ℕ) → h ≤ m → head_after k n h ≤ m
head_in ring n h m p = either_way (eqb n 0)
  where
    either_way : (b : Bool) → cond b 0 h ≤ m
    either_way true = omega arith
    either_way false = p
head_in vector n h m p = omega arith

-- so does one that is a slot where a valid ring's is
pub head_left : (k : Kind) (t : Tray) → invalid k t ≡ false → (n h : ℕ) → (t.head ≤ cap t - 1 → h ≤ cap t - 1) → head_after k n h ≤ cap t - 1
head_left ring t ok n h step = head_in ring n h _ (step (ring_facts (cap t) t.head t.len ok).inside)
head_left vector t ok n h step = omega arith

-- a valid ring keeps its head while it does not shrink
pub head_stays : (t : Tray) → invalid ring t ≡ false → (m : ℕ) → t.len ≤ m → head_after ring m t.head ≡ t.head
head_stays t ok m more =
    ⊎_elim
    (λ (none : m ≡ 0). home_of_none ring m t.head none ∙ sym ((ring_facts (cap t) t.head t.len ok).home (omega arith)))
    (λ (some : m ≡ 0 → ⊥). head_kept m t.head some)
    (same? m 0)

-- the head is the one that a list as long leaves: what leaves the list and the row's head leaves the state
abbrev pub Homed : Kind → Tray → Type 0
Homed k t = head_after k t.len t.head ≡ t.head

-- a valid ring's is
pub homed : (t : Tray) → invalid ring t ≡ false → Homed ring t
homed t ok = head_stays t ok t.len (omega arith)

-- AN EMPTIED RING. Its head is 0 and not the row's, but nothing stands anywhere: no slot and no count of moves tells the two heads apart.
pub rested_slots : (k : Kind) (c h n : ℕ) (was : ℕ → ℕ) (l slots : List ℕ)
    → relaid was (pos k c (head_after k (length l) h)) n l slots ≡ relaid was (pos k c h) n l slots
rested_slots ring c h n was [] slots = relaid_none was _ _ n slots
rested_slots ring c h n was (x ∷ l) slots = rw (head_kept (suc (length l)) h (λ e. omega arith))
rested_slots vector c h n was l slots = refl

pub rested_moves : (k : Kind) (c h : ℕ) (was : ℕ → ℕ) (carry : ℕ → Carried) (l l' : List ℕ) → Carries carry l l'
    → moved was (place k c (head_after k (length l') h)) carry (length l) ≡ moved was (place k c h) carry (length l)
rested_moves ring c h was carry l [] true_of =
    let all = none_carried carry l [] true_of refl in
    moved_gone was _ carry (length l) all ∙ sym (moved_gone was _ carry (length l) all)
rested_moves ring c h was carry l (x ∷ l') true_of = rw (head_kept (suc (length l')) h (λ e. omega arith))
rested_moves vector c h was carry l l' true_of = refl

-- A CALL THAT IS DONE: on a valid container, and no refusal of its row stops it.
pub done_is : (k : Kind) (t : Tray) (call : Call) → invalid k t ≡ false → Clear (row_of k call t).refusals
    → does k call t ≡ done k t (after call (list k t)) (row_of k call t)
unfolding does
done_is k t call ok clear =
    let all : Clear (refusals_of k call t) = (ok, clear) in
    clear_of (refused t (row_of k call t).given) (refusals_of k call t) (done k t (after call (list k t)) (row_of k call t)) all

-- its carrying is true of its lists, and so is that of a call on two, of the first
pub row_carries : (k : Kind) (t : Tray) (call : Call) → Clear (row_of k call t).refusals → Carries (row_of k call t).carry (list k t) (after call (list k t))
row_carries k t call clear =
    let clear_on : Clear (on (cap t) t.head (list k t) call).refusals = rw (many k t) clear in
    rw (many k t) at (carried (cap t) t.head (list k t) call clear_on)

pub row_carries2 : (k k2 : Kind) (t t2 : Tray) (call : Call2) → Carries (row_of2 k k2 call t t2).carry (list k t) (after2 call (list k t) (list k2 t2)).0
row_carries2 k k2 t t2 call = rw (many k t, many k2 t2) at (carried2 (cap t) t.head (cap t2) t2.head call (list k t) (list k2 t2))

-- what it gives, with positions counted from the row's own head
abbrev pub plainly : Kind → Tray → (l : List ℕ) → Row → Outcome
plainly k t l r = record {
  number = 0;
  value = r.value;
  moves = moved (place k (cap t) t.head) (place k (cap t) r.head) r.carry t.len;
  tray = record {
    head = head_after k (length l) r.head;
    len = length l;
    slots = relaid (pos k (cap t) t.head) (pos k (cap t) r.head) t.len l t.slots;
  };
  cursor = r.cursor;
}

pub shifted_plainly : (k : Kind) (t : Tray) (l : List ℕ) (head : ℕ) (carry : ℕ → Carried) → Carries carry (list k t) l
    → shifted k t l head carry ≡ moved (place k (cap t) t.head) (place k (cap t) head) carry t.len
shifted_plainly k t l head carry c = rw (many k t) at (rested_moves k (cap t) head (place k (cap t) t.head) carry (list k t) l c)

-- an emptied ring's outcome is the same whichever of the two heads its slots and moves are counted from
rests : (k : Kind) (t : Tray) (l : List ℕ) (r : Row) → Carries r.carry (list k t) l → done k t l r ≡ plainly k t l r
rests k t l r c =
    rw (rested_slots k (cap t) r.head t.len (pos k (cap t) t.head) l t.slots, shifted_plainly k t l r.head r.carry c)

pub done_plainly : (k : Kind) (t : Tray) (call : Call) → invalid k t ≡ false → Clear (row_of k call t).refusals
    → does k call t ≡ plainly k t (after call (list k t)) (row_of k call t)
done_plainly k t call ok clear = done_is k t call ok clear ∙ rests k t (after call (list k t)) (row_of k call t) (row_carries k t call clear)
