-- A call as demand 3 takes it: the kinds that have it, the outcome that it promises, and its rule in the ledger; and when it is that its outcomes
-- keep the rule. Paper 01's calls are such promises, and a crate above may add others.
use Rattle.std.specs.Prelude.{ℕ, ◌+◌, ◌-◌, ◌≤◌, ◌≡◌, Bool, true, cond, List, [], ◌++◌}
use Rattle.slots.specs.Count.{count}
use Rattle.slots.specs.Layout.{Kind}
use Rattle.table.specs.Tray.{Tray, cap, list, nowhere}
use Rattle.table.specs.Calls.{Call, Call2, Making, has, has2, has_making}
use Rattle.table.specs.Table as table
use Rattle.table.specs.Does.{Outcome, Outcome2, refused, refused2, does, does2, made}
use Rattle.table.specs.Ledger.{Flow, Rule, Rule2, leaving, rule, rule2, if_done, goes_by, goes_by2}

-- a call on one container
pub record Promise : Type 0 where
  pub has : Kind → Bool
  pub does : Kind → Tray → Outcome
  pub rule : Rule

-- a call on two
pub record Promise2 : Type 0 where
  pub has : Kind → Kind → Bool
  pub does : (k k2 : Kind) (t t2 : Tray) → Outcome2
  pub rule : Rule2

-- a container's one making on these slots; the list that it begins with enters
pub record Arrival : Type 0 where
  pub has : Kind → Bool
  pub makes : Kind → (slots : List ℕ) → Outcome
  pub begins : List ℕ

-- those of paper 01
abbrev pub promise : Call → Promise
promise call = record { has = has call; does = λ k t. does k call t; rule = rule call }

abbrev pub promise2 : Call2 → Promise2
promise2 call = record { has = has2 call; does = λ k k2 t t2. does2 k k2 call t t2; rule = rule2 call }

abbrev pub arrival : Making → Arrival
arrival m = record { has = has_making m; makes = λ k slots. made k m slots; begins = table.begins m }

-- a call that shows something and leaves everything as it was
abbrev pub showing : (has : Kind → Bool) (does : Kind → Tray → Outcome) → Promise
showing has does = record { has = has; does = does; rule = leaving }

-- the same call, but refused with a further number where the test says so
abbrev pub unless : (number : ℕ) (test : Kind → Tray → Bool) → Promise → Promise
unless number test p = record { has = p.has; does = λ k t. cond (test k t) (refused t nowhere number) (p.does k t); rule = p.rule }

abbrev pub unless2 : (number : ℕ) (test : (k k2 : Kind) (t t2 : Tray) → Bool) → Promise2 → Promise2
unless2 number test p = record {
  has = p.has;
  does = λ k k2 t t2. cond (test k k2 t t2) (refused2 t t2 nowhere number) (p.does k k2 t t2);
  rule = p.rule;
}

-- the state fits the slots, of which there may be more than 4,096
pub record Good (t : Tray) : Type 0 where
  pub fits : t.len ≤ cap t
  pub headed : t.head ≤ cap t - 1

-- and they hold this list
pub record Holds (k : Kind) (t : Tray) (l : List ℕ) : Type 0 where
  pub good : Good t
  pub listed : list k t ≡ l

-- each number: as often as it entered or stood in l, it was handed out, was dropped or stands in l'
abbrev pub Balances : Flow → (l l' : List ℕ) → Type 0
Balances f l l' = (x : ℕ) → count x f.entered + count x l ≡ count x f.handed + count x f.dropped + count x l'

-- An outcome keeps the rule that it goes by, l being the list before: the slots hold the list that the rule says, and the rule balances.
pub record Keeps (r : Rule) (k : Kind) (l : List ℕ) (o : Outcome) : Type 0 where
  pub holds : Holds k o.tray (r.after l)
  pub balanced : Balances (r.flow o.value l) l (r.after l)

pub record Keeps2 (r : Rule2) (k k2 : Kind) (l l2 : List ℕ) (o : Outcome2) : Type 0 where
  pub first : Holds k o.first (r.after l l2).0
  pub second : Holds k2 o.second (r.after l l2).1
  pub balanced : Balances (r.flow o.value l l2) (l ++ l2) ((r.after l l2).0 ++ (r.after l l2).1)

-- A promise is kept where every outcome that it promises keeps its rule, done or refused.
pub record Kept (p : Promise) : Type 0 where
  pub keeps : (k : Kind) (t : Tray) → p.has k ≡ true → Good t → Keeps (goes_by (p.does k t).number p.rule) k (list k t) (p.does k t)

pub record Kept2 (p : Promise2) : Type 0 where
  pub keeps : (k k2 : Kind) (t t2 : Tray) → p.has k k2 ≡ true → Good t → Good t2
      → Keeps2 (goes_by2 (p.does k k2 t t2).number p.rule) k k2 (list k t) (list k2 t2) (p.does k k2 t t2)

pub record Arrives (a : Arrival) : Type 0 where
  pub holds : (k : Kind) (slots : List ℕ) → a.has k ≡ true → Holds k (a.makes k slots).tray (if_done (a.makes k slots).number a.begins [])
