-- Paper 01's promises are kept: after each call, each making and each call on two the state fits its slots, the slots hold the list that the table says,
-- and each number's count balances. Done or refused alike.
use Prim.Native.Nat.{ℕ, zero, suc, ◌-◌, ◌≤◌, ◌<◌}
use mathlib.Core.Path.{◌≡◌, refl}
use mathlib.Core.Bool.{Bool, true, false, cond}
use mathlib.Core.List.{List, []}
use native.Mathlib.Omega.{arith}
use lib.ListN.{length}
use Rattle.slots.specs.Count.{marks}
use Rattle.slots.specs.Layout.{Kind, place, itself}
use Rattle.slots.proofs.Counts.{weigh_append}
use Rattle.slots.proofs.Placing.{placing, length_entries, no_entries}
use Rattle.slots.proofs.Relaid.{length_relaid, entries_relaid}
use Rattle.table.specs.Tray.{Tray, cap, list, Cursor, nowhere}
use Rattle.table.specs.Calls.{Call, Call2, Making, new, with_capacity, from_elem}
use Rattle.table.specs.Table.{number_of, row, row2, makes, after, after2, begins}
use Rattle.table.specs.Does.{Outcome, refused, refused2, head_after, relay, done, done2, row_of, row_of2, refusals_of, refusals_of2, refusals_made, does, does2, bare, made}
use Rattle.table.specs.Ledger.{Rule, Rule2, leaving, rule, rule2, if_done, goes_by, goes_by2}
use Rattle.table.specs.Promise.{Promise, Promise2, promise, promise2, arrival, showing, unless, unless2, Good, Holds, Keeps, Keeps2, Kept, Kept2, Arrives}
use Rattle.table.proofs.Laws.Refusals.{Clear, either, above_zero}
use Rattle.table.proofs.Laws.Done.{head_in}
use Rattle.table.proofs.Laws.Rows.{kept, made_room, kept2, headed, headed2}

-- The slots that a done call leaves hold the list l, wherever the ring wraps.
module _ (k : Kind) (t : Tray) (l : List ℕ) (head : ℕ) (ok : head_after k (length l) head ≤ cap t - 1) (room : length l ≤ cap t) where
  pub relay_list : list k (relay k t l head) ≡ l
  relay_list = rw length_relaid (entries_relaid _ _ _ t.len l t.slots (placing k (cap t) (head_after k (length l) head) ok) room)

  pub relay_holds : Holds k (relay k t l head) l
  relay_holds = record { good = record { fits = rw length_relaid room; headed = rw length_relaid ok }; listed = relay_list }

-- A refusal keeps any rule, whatever its number: it leaves all as it was.
pub refused_keeps : (r : Rule) (k : Kind) (t : Tray) (u : Cursor) (number : ℕ) → 0 < number → Good t → Keeps (goes_by number r) k (list k t) (refused t u number)
refused_keeps r k t u zero above good = absurd (omega arith)
refused_keeps r k t u (suc m) above good = record { holds = record { good = good; listed = refl }; balanced = λ x. refl }

pub refused2_keeps : (r : Rule2) (k k2 : Kind) (t t2 : Tray) (u : Cursor) (number : ℕ) → 0 < number → Good t → Good t2
    → Keeps2 (goes_by2 number r) k k2 (list k t) (list k2 t2) (refused2 t t2 u number)
refused2_keeps r k k2 t t2 u zero above good good2 = absurd (omega arith)
refused2_keeps r k k2 t t2 u (suc m) above good good2 =
    record { first = record { good = good; listed = refl }; second = record { good = good2; listed = refl }; balanced = λ x. refl }

-- So a call that may be refused with a further number is kept where the plain one is.
module _ (number : ℕ) (above : 0 < number) where
  pub unless_kept : (test : Kind → Tray → Bool) {p : Promise} → Kept p → Kept (unless number test p)
  unless_kept test {p} kept = record { keeps = λ k t has good. go k t good (test k t) (kept.keeps k t has good) }
    where
      go : (k : Kind) (t : Tray) → Good t → (b : Bool) → Keeps (goes_by (p.does k t).number p.rule) k (list k t) (p.does k t)
          → Keeps (goes_by (cond b (refused t nowhere number) (p.does k t)).number p.rule) k (list k t) (cond b (refused t nowhere number) (p.does k t))
      go k t good true plain = refused_keeps p.rule k t nowhere number above good
      go k t good false plain = plain

  pub unless2_kept : (test : (k k2 : Kind) (t t2 : Tray) → Bool) {p : Promise2} → Kept2 p → Kept2 (unless2 number test p)
  unless2_kept test {p} kept = record { keeps = λ k k2 t t2 has good good2. go k k2 t t2 good good2 (test k k2 t t2) (kept.keeps k k2 t t2 has good good2) }
    where
      go : (k k2 : Kind) (t t2 : Tray) → Good t → Good t2 → (b : Bool)
          → Keeps2 (goes_by2 (p.does k k2 t t2).number p.rule) k k2 (list k t) (list k2 t2) (p.does k k2 t t2)
          → Keeps2 (goes_by2 (cond b (refused2 t t2 nowhere number) (p.does k k2 t t2)).number p.rule) k k2 (list k t) (list k2 t2)
          (cond b (refused2 t t2 nowhere number) (p.does k k2 t t2))
      go k k2 t t2 good good2 true plain = refused2_keeps p.rule k k2 t t2 nowhere number above good good2
      go k k2 t t2 good good2 false plain = plain

-- A call that leaves everything as it was keeps its rule, done or refused.
goes_leaving : (number : ℕ) → leaving ≡ goes_by number leaving
goes_leaving zero = refl
goes_leaving (suc m) = refl

pub showing_kept : (has : Kind → Bool) (does : Kind → Tray → Outcome) → ((k : Kind) (t : Tray) → (does k t).tray ≡ t) → Kept (showing has does)
showing_kept has does same = record {
  keeps = λ k t kind good.
      rw (← goes_leaving (does k t).number) (record { holds = rw (same k t) (record { good = good; listed = refl }); balanced = λ x. refl });
}

-- A call on one container.
call_keeps : (call : Call) (k : Kind) (t : Tray) → Good t → Keeps (goes_by (does k call t).number (rule call)) k (list k t) (does k call t)
unfolding does
call_keeps call k t good =
    either (λ o. Keeps (goes_by o.number (rule call)) k (list k t) o) (refused t (row_of k call t).given) (refusals_of k call t) (done k t (after call (list k t)) (row_of k call t))
    (λ r. refused_keeps (rule call) k t _ (number_of r) (above_zero r) good)
    (λ clear.
    let n_is : length (list k t) ≡ t.len = length_entries (place k (cap t) t.head) t.len t.slots in
    let within : length (list k t) ≤ cap t = omega (arith, good.fits) in
    let none : Clear (row (cap t) t.head (length (list k t)) (list k t) call).refusals = rw n_is clear.1 in
    let head_ok : (row_of k call t).head ≤ cap t - 1 = rw n_is at (headed call (cap t) t.head (list k t) good.headed within none) in
    record {
      holds = relay_holds k t (after call (list k t)) _ (head_in k _ _ _ head_ok) (kept itself (cap t) t.head call (list k t) within none).room;
      balanced = λ x. rw n_is at (kept (marks x) (cap t) t.head call (list k t) within none).balance;
    })

pub call_kept : (call : Call) → Kept (promise call)
call_kept call = record { keeps = λ k t has good. call_keeps call k t good }

-- state 0, 0 holds nothing
pub bare_list : (k : Kind) (slots : List ℕ) → list k (bare slots) ≡ []
bare_list k slots = no_entries _ slots

-- A refused making, whatever its number.
pub refused_arrives : (k : Kind) (l slots : List ℕ) (number : ℕ) → 0 < number → Holds k (bare slots) (if_done number l [])
refused_arrives k l slots zero above = absurd (omega arith)
refused_arrives k l slots (suc m) above = record { good = record { fits = omega arith; headed = omega arith }; listed = bare_list k slots }

-- A making.
made_holds : (m : Making) (k : Kind) (slots : List ℕ) → Holds k (made k m slots).tray (if_done (made k m slots).number (begins m) [])
unfolding made
made_holds m k slots =
    either (λ o. Holds k o.tray (if_done o.number (begins m) [])) (refused (bare slots) nowhere) (refusals_made m slots) (done k (bare slots) (begins m) (makes (length slots) m))
    (λ r. refused_arrives k (begins m) slots (number_of r) (above_zero r))
    (λ clear. relay_holds k (bare slots) (begins m) (makes (length slots) m).head (head_in k _ _ _ (start m)) (made_room (length slots) m clear.1))
  where
    start : (m : Making) → (makes (length slots) m).head ≤ length slots - 1
    start new = omega arith
    start (with_capacity k) = omega arith
    start (from_elem k y) = omega arith

pub made_arrives : (m : Making) → Arrives (arrival m)
made_arrives m = record { holds = λ k slots has. made_holds m k slots }

-- A call on two containers.
two_keep : (call : Call2) (k k2 : Kind) (t t2 : Tray) → Good t → Good t2
    → Keeps2 (goes_by2 (does2 k k2 call t t2).number (rule2 call)) k k2 (list k t) (list k2 t2) (does2 k k2 call t t2)
unfolding does2
two_keep call k k2 t t2 good good2 =
    let l : List ℕ = list k t in
    let l2 : List ℕ = list k2 t2 in
    either (λ o. Keeps2 (goes_by2 o.number (rule2 call)) k k2 l l2 o)
    (refused2 t t2 (row_of2 k k2 call t t2).given) (refusals_of2 k k2 call t t2) (done2 k k2 t t2 (after2 call l l2) (row_of2 k k2 call t t2))
    (λ r. refused2_keeps (rule2 call) k k2 t t2 _ (number_of r) (above_zero r) good good2)
    (λ clear.
    let n_is : length l ≡ t.len = length_entries (place k (cap t) t.head) t.len t.slots in
    let n2_is : length l2 ≡ t2.len = length_entries (place k2 (cap t2) t2.head) t2.len t2.slots in
    let none : Clear (row2 (cap t) t.head (length l) l (cap t2) t2.head (length l2) l2 call).refusals = rw (n_is, n2_is) clear.1.1 in
    let within : length l ≤ cap t = omega (arith, good.fits) in
    let within2 : length l2 ≤ cap t2 = omega (arith, good2.fits) in
    let rooms = kept2 itself (cap t) t.head (cap t2) t2.head call l l2 within within2 none in
    let head2 = headed2 call (cap t) t.head t.len l (cap t2) t2.head t2.len l2 good2.headed in
    record {
      first = relay_holds k t (after2 call l l2).0 t.head (head_in k _ _ _ good.headed) rooms.room;
      second = relay_holds k2 t2 (after2 call l l2).1 _ (head_in k2 _ _ _ head2) rooms.room2;
      balanced = λ x. rw (weigh_append (marks x) l l2, weigh_append) (kept2 (marks x) (cap t) t.head (cap t2) t2.head call l l2 within within2 none).balance;
    })

pub two_kept : (call : Call2) → Kept2 (promise2 call)
two_kept call = record { keeps = λ k k2 t t2 has good good2. two_keep call k k2 t t2 good good2 }
