-- A refusal is a refused outcome, and an answer gives its numbers: the rules of this crate's own types.
use mathlib.Core.Path.{◌≡◌, refl, sym, ap, ◌∙◌}
use mathlib.Core.Bool.{Bool, true, false, not, cond, ◌&&◌}
use mathlib.Core.List.{List}
use Prim.Native.Nat.{ℕ, ◌*◌, ◌^◌, ◌<◌}
use native.Mathlib.Omega.{arith}
use borrow.Author.Tests.{eq-eqb, le-leb, ltb-false}
use lib.Dec.{ltb}
use lib.ListN.{length}
use Rattle.std.specs.Prelude.{Result, Ok, Err, IsErrAnd}
use Rattle.std.proofs.lemmas.Result.{err_from_is_err_and}
use Rattle.slots.specs.Layout.{vector}
use Rattle.table.specs.Tray.{list, nowhere, valid}
use Rattle.table.specs.Calls.{Call, Making, from_elem, look, read, write, push, pop, remove, swap_remove}
use Rattle.table.specs.Does.{gives, refused, bare, row_of, does, made}
use Rattle.table.specs.Ledger.{flow}
use Rattle.table.specs.Reported.{concerned, no_slot, slot_for, told_slot}
use Rattle.table.specs.Answers.{number_in, told, lit, numbered}
use Rattle.table.specs.declared.answers.Answer.{Answer}
use Rattle.table.specs.declared.answers.Refusal.{Refusal}
use Rattle.table.specs.declared.answers.Refusal.TheVariants.{Invalid, Beyond, Empty, Full}
use Rattle.table.proofs.Laws.Stops.{stops, valid_past, below_past}
use Rattle.table.specs.Tested.{Tested, Stopped}
use Rattle.table.proofs.Laws.Valid.{vector_facts}
use Rattle.table.proofs.Laws.Done.{Homed}
use Rattle.table.proofs.Laws.Numbered.{refused_slot}
use Rattle.table.proofs.Laws.Reporting.{none_reported, slot_reported}
use Rattle.table.proofs.Laws.Totalling.{total_is, bare_total, filled_total, one_flows, run_flows}
use Rattle.table.proofs.Laws.Refusals
use Rattle.table.proofs.Theorems.Totals.{Changes, same_total}
use Rattle.vector.specs.declared.Vector.{Vector}
use Rattle.vector.specs.Seen.{tray, seen, Meets, Makes}
use Rattle.vector.specs.Tested.{Passes, Stops}

-- a refusal that a test of the state gave, and the call passes on
pub passed_on : {call : Call} {v : Vector} {s : List ℕ} {a : Result (Answer Vector) Refusal} {e : Refusal} → IsErrAnd a (λ y. y ≡ e) → Meets call v s (Err e) s → Meets call v s a s
passed_on {a = a} is m = let p = err_from_is_err_and a is in rw (p.1, p.2) m

module _ (call : Call) (v : Vector) (s : List ℕ) where
  -- a refused call leaves all as it was
  pub refuses : (e : Refusal) → refused (tray v s) nowhere (number_in e) ≡ does vector call (tray v s) → v.total.sum < 2 ^ 64 → Meets call v s (Err e) s
  refuses e is small = record {
    row = is;
    slot = none_reported vector call (tray v s) _ is (refused_slot e _);
    total = same_total vector call (tray v s) _ v.total.sum is refl small;
  }

  -- a call that only looks leaves all as it was too: w is the state that the code puts into its answer
  pub looks : (a : Answer Vector) (value : ℕ) (w : Vector) → a ≡ told value 0 w → w.len ≡ v.len → gives value 0 0 v.len s ≡ does vector call (tray v s)
      → no_slot ≡ told_slot vector call (tray v s) (gives value 0 0 v.len s) → w.total.sum ≡ v.total.sum → v.total.sum < 2 ^ 64 → Meets call v s (Ok a) s
  looks a value w is many e none kept small = record {
    row = ap (λ a. seen (numbered v (Ok a)) s) is ∙ ap (λ n. gives value 0 0 n s) many ∙ e;
    slot = ap (λ a. a.slot) is ∙ none_reported vector call (tray v s) _ e none;
    total = ap (λ a. a.state.total.sum) is ∙ kept ∙ same_total vector call (tray v s) _ v.total.sum e refl small;
  }

  pub looks_lit : (a b : Answer Vector) (at value : ℕ) (w : Vector) → a ≡ lit at b → b ≡ told value 0 w → w.len ≡ v.len
      → gives value 0 0 v.len s ≡ does vector call (tray v s) → at ≡ slot_for vector (length s) 0 0 (concerned v.len call) → w.total.sum ≡ v.total.sum
      → v.total.sum < 2 ^ 64 → Meets call v s (Ok a) s
  looks_lit a b at value w is said many e stood kept small =
      let whole : a ≡ lit at (told value 0 w) = is ∙ ap (lit at) said in
      record {
        row = ap (λ a. seen (numbered v (Ok a)) s) whole ∙ ap (λ n. gives value 0 0 n s) many ∙ e;
        slot = ap (λ a. a.slot) whole ∙ slot_reported vector call (tray v s) _ e refl at stood;
        total = ap (λ a. a.state.total.sum) whole ∙ kept ∙ same_total vector call (tray v s) _ v.total.sum e refl small;
      }

  -- a done call that is about no entry
  pub meets : (z : List ℕ) (a : Answer Vector) (value moves : ℕ) (after : Vector) → a ≡ told value moves after
      → gives value moves 0 after.len z ≡ does vector call (tray v s) → no_slot ≡ told_slot vector call (tray v s) (gives value moves 0 after.len z)
      → Changes (flow call value (list vector (tray v s))) v.total.sum after.total.sum → Meets call v s (Ok a) z
  meets z a value moves after is e none c = record {
    row = ap (λ a. seen (numbered v (Ok a)) z) is ∙ e;
    slot = ap (λ a. a.slot) is ∙ none_reported vector call (tray v s) _ e none;
    total = ap (λ a. a.state.total.sum) is ∙ total_is vector call (tray v s) _ _ _ e refl c;
  }

  -- one that reports the slot that the call has used
  pub meets_lit : (z : List ℕ) (a b : Answer Vector) (at value moves : ℕ) (after : Vector) → a ≡ lit at b → b ≡ told value moves after
      → gives value moves 0 after.len z ≡ does vector call (tray v s) → at ≡ slot_for vector (length s) 0 0 (concerned v.len call)
      → Changes (flow call value (list vector (tray v s))) v.total.sum after.total.sum → Meets call v s (Ok a) z
  meets_lit z a b at value moves after is said e stood c =
      let whole : a ≡ lit at (told value moves after) = is ∙ ap (lit at) said in
      record {
        row = ap (λ a. seen (numbered v (Ok a)) z) whole ∙ e;
        slot = ap (λ a. a.slot) whole ∙ slot_reported vector call (tray v s) _ e refl at stood;
        total = ap (λ a. a.state.total.sum) whole ∙ total_is vector call (tray v s) _ _ _ e refl c;
      }

-- a refused making, and one that is done and puts no entry in
module _ (m : Making) (s : List ℕ) where
  pub makes_none : (e : Refusal) → refused (bare s) nowhere (number_in e) ≡ made vector m s → Makes m s (Err e) s
  makes_none e is = record { row = is; slot = refl; total = bare_total vector m s _ 0 is refl refl }

  pub makes_bare : (a : Answer Vector) (v : Vector) → a ≡ told 0 0 v → v.len ≡ 0 → v.total.sum ≡ 0 → gives 0 0 0 0 s ≡ made vector m s → Makes m s (Ok a) s
  makes_bare a v is bare zero e = record {
    row = ap (λ a. seen (numbered v (Ok a)) s) is ∙ ap (λ n. gives 0 0 0 n s) bare ∙ e;
    slot = ap (λ a. a.slot) is;
    total = ap (λ a. a.state.total.sum) is ∙ bare_total vector m s _ v.total.sum e refl zero;
  }

-- one that is done and fills slots
pub makes_filled : (i x : ℕ) (s z : List ℕ) (a : Answer Vector) (v : Vector) → a ≡ told 0 0 v → v.len ≡ i → v.total.sum ≡ i * x → v.total.sum < 2 ^ 64
    → gives 0 0 0 i z ≡ made vector (from_elem i x) s → Makes (from_elem i x) s (Ok a) z
makes_filled i x s z a v is many sum small e = record {
  row = ap (λ a. seen (numbered v (Ok a)) z) is ∙ ap (λ n. gives 0 0 0 n z) many ∙ e;
  slot = ap (λ a. a.slot) is;
  total = ap (λ a. a.state.total.sum) is ∙ filled_total vector i x s _ v.total.sum e refl sum small;
}

pub home : (v : Vector) (slots : List ℕ) → Homed vector (tray v slots)
home v slots = refl

-- WHAT A TEST TELLS that stops a call before its work: past it
module _ (c n a b : ℕ) (p : Passes c n a b) where
  pub past_valid : not (valid vector c 0 n) ≡ false
  past_valid = p.right

  pub past_below : a < b
  past_below = p.below

pub past_some : (c n : ℕ) → Passes c n 0 n → n ≡ 0 → ⊥
past_some c n p none = omega (arith, p.below)

passes : (c n a b : ℕ) → not (valid vector c 0 n) ≡ false → a < b → Passes c n a b
passes c n a b right below = let v = vector_facts c n right in record { right = right; below = below; small = v.small; fits = v.fits }

pub tested_passes : (c n : ℕ) (b : Bool) → Tested vector c 0 n b → b ≡ false → Passes c n 0 1
tested_passes c n b t go = passes c n 0 1 (sym t.is ∙ go) (omega arith)

pub stopped_passes : (c n a b : ℕ) (s : Bool) → Stopped vector c 0 n (ltb a b) s → s ≡ false → Passes c n a b
stopped_passes c n a b s t go = passes c n a b (valid_past vector c 0 n (ltb a b) s t go) (below_past vector c 0 n a b s t go)

-- and where it stops one: the state is none, or the call's own condition fails, by the table's test p of it
first_of_two : (v q : Bool) (why e : Refusal) (p : Bool) (A : Type 0) (refuse : ℕ → A) (o : A) → e ≡ cond v why Invalid → v && q ≡ false → (q ≡ false → p ≡ true)
    → refuse (number_in e) ≡ cond (not v) (refuse 1) (cond p (refuse (number_in why)) o)
first_of_two true q why e p A refuse o is fails other = rw (is, other fails) refl
first_of_two false q why e p A refuse o is fails other = rw is refl

first_alone : (v : Bool) (e : Refusal) (A : Type 0) (refuse : ℕ → A) (o : A) → e ≡ cond v Invalid Invalid → v && true ≡ false
    → refuse (number_in e) ≡ cond (not v) (refuse 1) o
first_alone true e A refuse o is fails = let z : ◌≡◌ {A = Bool} true false = fails in cc
first_alone false e A refuse o is fails = rw is refl

module _ (v : Vector) (s : List ℕ) (e : Refusal) where
  pub stops_invalid : (call : Call) → Stops (length s) v.len 0 1 Invalid e → (row_of vector call (tray v s)).given ≡ nowhere
      → refused (tray v s) nowhere (number_in e) ≡ does vector call (tray v s)
  unfolding does
  stops_invalid call t none = rw none (first_alone _ e _ (refused (tray v s) nowhere) _ t.is t.fails)

  pub stops_read : (i : ℕ) → Stops (length s) v.len i v.len Beyond e → refused (tray v s) nowhere (number_in e) ≡ does vector (look (read i)) (tray v s)
  unfolding does
  stops_read i t = first_of_two _ _ _ e _ _ (refused (tray v s) nowhere) _ t.is t.fails (λ f. le-leb v.len i (ltb-false i v.len f))

  pub stops_write : (i x : ℕ) → Stops (length s) v.len i v.len Beyond e → refused (tray v s) nowhere (number_in e) ≡ does vector (write i x) (tray v s)
  unfolding does
  stops_write i x t = first_of_two _ _ _ e _ _ (refused (tray v s) nowhere) _ t.is t.fails (λ f. le-leb v.len i (ltb-false i v.len f))

  pub stops_remove : (i : ℕ) → Stops (length s) v.len i v.len Beyond e → refused (tray v s) nowhere (number_in e) ≡ does vector (remove i) (tray v s)
  unfolding does
  stops_remove i t = first_of_two _ _ _ e _ _ (refused (tray v s) nowhere) _ t.is t.fails (λ f. le-leb v.len i (ltb-false i v.len f))

  pub stops_swap_remove : (i : ℕ) → Stops (length s) v.len i v.len Beyond e → refused (tray v s) nowhere (number_in e) ≡ does vector (swap_remove i) (tray v s)
  unfolding does
  stops_swap_remove i t = first_of_two _ _ _ e _ _ (refused (tray v s) nowhere) _ t.is t.fails (λ f. le-leb v.len i (ltb-false i v.len f))

  pub stops_pop : Stops (length s) v.len 0 v.len Empty e → refused (tray v s) nowhere (number_in e) ≡ does vector pop (tray v s)
  unfolding does
  stops_pop t = first_of_two _ _ _ e _ _ (refused (tray v s) nowhere) _ t.is t.fails (λ f. eq-eqb v.len 0 (omega (arith, ltb-false 0 v.len f)))

  pub stops_push : (x : ℕ) → Stops (length s) v.len v.len (length s) Full e → refused (tray v s) nowhere (number_in e) ≡ does vector (push x) (tray v s)
  unfolding does
  stops_push x t = first_of_two _ _ _ e _ _ (refused (tray v s) nowhere) _ t.is t.fails (λ f. le-leb (length s) v.len (ltb-false v.len (length s) f))

pub ruleset tests = (past_valid, past_below, past_some, stops, Refusals.tests)

pub ruleset stopped = (stops_invalid, stops_read, stops_write, stops_remove, stops_swap_remove, stops_pop, stops_push)

pub ruleset refusals = (refuses, makes_none, stopped, past_valid, past_below, stops, Refusals.refusals)

-- of a call that leaves the state as it was, and of one that reports a slot beside
pub ruleset stays = (looks, home, tests)

pub ruleset stays_lit = (looks_lit, home, tests)

-- of one that changes the state, likewise
pub ruleset shown = (meets, makes_bare, makes_filled, home, run_flows, tests)

pub ruleset shown_lit = (meets_lit, home, one_flows, tests)
