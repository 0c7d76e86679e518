-- A total that was the sum of the entries is their sum after any call and any sequence of calls, exactly; and totals that differ by d go on to differ by d: along a sequence only the
-- first list and the last tell.
use Prim.Native.Nat.{ℕ, ◌+◌, ◌*◌, ◌%◌, ◌^◌, ◌≤◌, ◌<◌}
use mathlib.Core.Path.{◌≡◌, refl, sym, ap, ◌∙◌}
use mathlib.Core.List.{List, [], ◌∷◌}
use native.Mathlib.Omega.{arith}
use lib.ListN.{length, set, drop, length-set, get_or-append}
use lib.Seq.{get_or-set_same, get_or-set_other, get_or_at}
use Rattle.slots.specs.Layout.{Kind, place}
use Rattle.slots.specs.Total.{total, changed, totalled}
use Rattle.slots.proofs.Totals.{total_none, total_empty, same_change, no_change}
use Rattle.table.specs.Tray.{Tray, cap, list, Cursor}
use Rattle.table.specs.Calls.{Call, Making, Call2, append, split_off, clone, from_iter}
use Rattle.table.specs.Table.{remaining}
use Rattle.table.specs.Does.{Outcome, Outcome2, does, does2, made}
use Rattle.table.specs.Promise.{Promise, Promise2, Arrival}
use Rattle.table.specs.World.{Container, World, at, Event, arrived, called, called_two, step, run, holds}
use Rattle.table.specs.Totals.{total_after, total_made, total_first, total_second}
use Rattle.table.proofs.Laws.Totalling.{first_is, second_is, goes_over, splits, copies}
use Rattle.table.proofs.Theorems.Listed.{two_listed}

-- EXACTLY. So many entries of 32 bits add up to less than 2 to the 64th.
abbrev pub Small : List ℕ → Type 0
Small [] = Unit {0}
Small (x ∷ l) = (x < 2 ^ 32) × Small l

few_sum : (l : List ℕ) → Small l → total l ≤ 2 ^ 32 * length l
unfolding total
few_sum [] small = omega arith
few_sum (x ∷ l) small = omega (arith, few_sum l small.1, small.0)

pub small_sum : (l : List ℕ) → length l ≤ 4096 → Small l → total l < 2 ^ 64
small_sum l few small = omega (arith, few_sum l small)

-- a total that was the sum is the sum
pub stays_sum : (n : ℕ) (before after : List ℕ) → n ≡ total before → total after < 2 ^ 64 → totalled n before after ≡ total after
unfolding changed
stays_sum n before after e small = omega arith

-- a total that was off by d stays off by d
pub stays_off : (n d : ℕ) (before after : List ℕ) → totalled ((n + d) % 2 ^ 64) before after ≡ (totalled n before after + d) % 2 ^ 64
unfolding changed
stays_off n d before after = omega arith

-- by the promise of a call, of a making, of a call on two: n' is the total that it gives
pub call_sum : (k : Kind) (call : Call) (t : Tray) (o : Outcome) (n n' : ℕ) → o ≡ does k call t → n' ≡ total_after k call t n → n ≡ total (list k t) → total (list k o.tray) < 2 ^ 64
    → n' ≡ total (list k o.tray)
unfolding total_after
call_sum k call t o n n' e is right exact = is ∙ rw e (stays_sum n _ _ right (rw e at exact))

pub made_sum : (k : Kind) (m : Making) (slots : List ℕ) (o : Outcome) (n' : ℕ) → o ≡ made k m slots → n' ≡ total_made k m slots → total (list k o.tray) < 2 ^ 64
    → n' ≡ total (list k o.tray)
unfolding total_made
made_sum k m slots o n' e is exact = is ∙ rw e (stays_sum 0 _ _ (sym total_none) (rw e at exact))

module _ (k k2 : Kind) (call : Call2) (t t2 : Tray) (o : Outcome2) (e : o ≡ does2 k k2 call t t2) where
  pub first_sum : (n n' : ℕ) → n' ≡ total_first k k2 call t t2 n → n ≡ total (list k t) → total (list k o.first) < 2 ^ 64 → n' ≡ total (list k o.first)
  unfolding total_first
  first_sum n n' is right exact = is ∙ rw e (stays_sum n _ _ right (rw e at exact))

  pub second_sum : (n n' : ℕ) → n' ≡ total_second k k2 call t t2 n → n ≡ total (list k2 t2) → total (list k2 o.second) < 2 ^ 64 → n' ≡ total (list k2 o.second)
  unfolding total_second
  second_sum n n' is right exact = is ∙ rw e (stays_sum n _ _ right (rw e at exact))

-- TWO STEPS are one: the list between them does not tell.
pub steps_join : (n : ℕ) (first between last : List ℕ) → totalled (totalled n first between) between last ≡ totalled n first last
unfolding changed
steps_join n first between last = omega arith

below_2_64 : (n : ℕ) (before after : List ℕ) → totalled n before after < 2 ^ 64
unfolding changed
below_2_64 n before after = omega arith

-- ANY SEQUENCE. The total n of container i along it: at each event as the lists before and after say.
abbrev pub total_along : World → (i n : ℕ) → List Event → ℕ
total_along w i n [] = n
total_along w i n (e ∷ es) = total_along (step w e) i (totalled n (holds (at w i)) (holds (at (step w e) i))) es

pub along_is : (w : World) (i n : ℕ) (es : List Event) → n < 2 ^ 64 → total_along w i n es ≡ totalled n (holds (at w i)) (holds (at (run w es) i))
along_is w i n [] small = no_change n _ small
along_is w i n (e ∷ es) small =
    along_is (step w e) i _ es (below_2_64 n (holds (at w i)) (holds (at (step w e) i)))
    ∙ steps_join n (holds (at w i)) (holds (at (step w e) i)) (holds (at (run (step w e) es) i))

-- So it is what the calls promise. The container that a call names comes to hold the list of the outcome, which is the list that the promise's total is counted from; any other stays, and
-- with it its total.
module _ (w : World) (i : ℕ) (there : i < length w) where
  pub named_holds : (p : Promise) (o : Outcome) → holds (at (step w (called i p o)) i) ≡ list (at w i).kind o.tray
  named_holds p o = ap holds (get_or-set_same w i (record { kind = (at w i).kind; tray = o.tray }) _ there)

  pub other_stays : (j : ℕ) → (i ≡ j → ⊥) → (p : Promise) (o : Outcome) → at (step w (called j p o)) i ≡ at w i
  other_stays j apart p o = get_or-set_other w j i (record { kind = (at w j).kind; tray = o.tray }) _ apart

  pub first_holds : (j : ℕ) → (i ≡ j → ⊥) → (p : Promise2) (o : Outcome2) → holds (at (step w (called_two i j p o)) i) ≡ list (at w i).kind o.first
  first_holds j apart p o =
      let b : Container = record { kind = (at w i).kind; tray = o.first } in
      ap holds (get_or-set_other (set w i b) j i (record { kind = (at (set w i b) j).kind; tray = o.second }) _ apart ∙ get_or-set_same w i b _ there)

  pub second_holds : (j : ℕ) → (i ≡ j → ⊥) → (p : Promise2) (o : Outcome2) → holds (at (step w (called_two j i p o)) i) ≡ list (at w i).kind o.second
  second_holds j apart p o =
      let b : Container = record { kind = (at w j).kind; tray = o.first } in
      ap holds (get_or-set_same (set w j b) i (record { kind = (at (set w j b) i).kind; tray = o.second }) _ (simp length-set there))
      ∙ ap (λ (c : Container). list c.kind o.second) (get_or-set_other w j i b _ apart)

  pub beside_stays : (j l : ℕ) → (i ≡ j → ⊥) → (i ≡ l → ⊥) → (p : Promise2) (o : Outcome2) → at (step w (called_two j l p o)) i ≡ at w i
  beside_stays j l apart apart2 p o =
      let b : Container = record { kind = (at w j).kind; tray = o.first } in
      get_or-set_other (set w j b) l i (record { kind = (at (set w j b) l).kind; tray = o.second }) _ apart2 ∙ get_or-set_other w j i b _ apart

  pub older_stays : (k : Kind) (a : Arrival) (slots : List ℕ) (o : Outcome) → at (step w (arrived k a slots o)) i ≡ at w i
  older_stays k a slots o = get_or-append w (record { kind = k; tray = o.tray } ∷ []) _ i there

-- the one that is made
pub made_holds : (w : World) (k : Kind) (a : Arrival) (slots : List ℕ) (o : Outcome) → holds (at (step w (arrived k a slots o)) (length w)) ≡ list k o.tray
made_holds w k a slots o = ap holds (get_or_at w (record { kind = k; tray = o.tray }) [] _ (length w) refl)

-- The sum of the entries at the start is the sum at the end, exactly.
pub always_sum : (w : World) (i n : ℕ) (es : List Event) → n ≡ total (holds (at w i)) → n < 2 ^ 64 → total (holds (at (run w es) i)) < 2 ^ 64
    → total_along w i n es ≡ total (holds (at (run w es) i))
always_sum w i n es e small exact = along_is w i n es small ∙ stays_sum n _ _ e exact

-- Two runs of the same calls, from totals that differ by d.
pub always_off : (w : World) (i n d : ℕ) (es : List Event) → n < 2 ^ 64 → total_along w i ((n + d) % 2 ^ 64) es ≡ (total_along w i n es + d) % 2 ^ 64
always_off w i n d es small =
    along_is w i _ es (omega arith) ∙ stays_off n d (holds (at w i)) (holds (at (run w es) i)) ∙ ap (λ m. (m + d) % 2 ^ 64) (sym (along_is w i n es small))

-- ON TWO CONTAINERS. What goes over leaves the one's total and comes to the other's: the entries, and not T's total. T is empty where it only gets some.
module _ (k k2 : Kind) (t t2 : Tray) (o : Outcome2) (n n2 : ℕ) (zero : o.number ≡ 0) where
  pub appended : o ≡ does2 k k2 append t t2
      → (total_first k k2 append t t2 n ≡ changed n (total (list k2 t2)) 0) × (total_second k k2 append t t2 n2 ≡ changed n2 0 (total (list k2 t2)))
  appended e =
      let c = goes_over (list k t) (list k2 t2) n n2 _ _ refl refl in
      (sym (first_is k k2 append t t2 o n n2 e _ _ zero c), sym (second_is k k2 append t t2 o n n2 e _ _ zero c))

  pub split_off_law : (i : ℕ) → o ≡ does2 k k2 (split_off i) t t2 → t2.len ≡ 0
      → (total_first k k2 (split_off i) t t2 n ≡ changed n 0 (total (drop i (list k t)))) × (total_second k k2 (split_off i) t t2 n2 ≡ changed n2 (total (drop i (list k t))) 0)
  split_off_law i e empty =
      let c = splits (list k t) (place k2 (cap t2) t2.head) t2.len i n n2 _ _ t2.slots empty refl refl in
      (sym (first_is k k2 (split_off i) t t2 o n n2 e _ _ zero c), sym (second_is k k2 (split_off i) t t2 o n n2 e _ _ zero c))

  pub cloned : o ≡ does2 k k2 clone t t2 → t2.len ≡ 0 → n < 2 ^ 64
      → (total_first k k2 clone t t2 n ≡ n) × (total_second k k2 clone t t2 n2 ≡ changed n2 (total (list k t)) 0)
  cloned e empty small =
      let c = copies (list k t) (place k2 (cap t2) t2.head) t2.len _ n n2 _ t2.slots small empty refl refl in
      (sym (first_is k k2 clone t t2 o n n2 e _ _ zero c), sym (second_is k k2 clone t t2 o n n2 e _ _ zero c))

  pub taken : (u : Cursor) → o ≡ does2 k k2 (from_iter u) t t2 → length (list k2 t2) ≡ 0 → n < 2 ^ 64
      → (total_first k k2 (from_iter u) t t2 n ≡ n) × (total_second k k2 (from_iter u) t t2 n2 ≡ changed n2 (total (remaining u (list k t))) 0)
  unfolding total_first total_second
  taken u e empty small =
      let now = two_listed k k2 (from_iter u) t t2 o e zero in
      let first = ap (λ (o : Outcome2). list k o.first) (sym e) ∙ now.first.listed in
      let second = ap (λ (o : Outcome2). list k2 o.second) (sym e) ∙ now.second.listed in
      (rw first (sym (no_change n _ small)), rw second (same_change n2 _ _ _ _ (omega (arith, total_empty (list k2 t2) empty))))
