-- Every run of `tray`: its calls are chained by their generated contracts, from the four makings on, whatever bytes are read and however they are cut.
-- What it answers is what its lines are answered, and demand 3 holds of it.
use mathlib.Core.Path.{◌≡◌, refl, sym, ap, ◌∙◌}
use mathlib.Core.List.{List, [], ◌∷◌, ◌++◌}
use Prim.Native.Nat.{ℕ, ◌+◌}
use lib.ListN.{length, take, drop, take-append-drop}
use lib.Seq.{take-append_seam}
use contract.Lifetimes.{Lfts}
use denote.Triple.Clauses.{AtExit}
use borrow.Fn.World.{ArgsD, ResD}
use Rattle.digits.proofs.Puts.{put_read}
use Rattle.table.specs.Ledger.{modelled, entered, handed, dropped}
use Rattle.table.specs.World.{World, lines, held, standing_all}
use Rattle.tray_lines.specs.declared.acts.Trays.{Trays}
use Rattle.tray_lines.specs.declared.feeds.State.{State}
use Rattle.tray_lines.specs.Seen.{world}
use Rattle.tray_lines.specs.Acts.{begun}
use Rattle.tray_lines.specs.Answers.{Tells, tells}
use Rattle.tray_lines.specs.Feeds.{Midway, Feeds, Kept, fresh, feeds, keeping, ends, midway, Ends, ends_into, ended_seen, written, Fills, room, fills}
use Rattle.tray_lines.specs.Runs.{lines_of, finished, answered, after, happened}
use Rattle.tray_lines.proofs.Fed.{feeds_fit, written_is}
use Rattle.tray_lines.proofs.Blocks.{then, feeds_join, run_so_far, run_answers}
use Rattle.tray_lines.proofs.Balance.{lines_model, lines_balance}
use Rattle.tray_lines.specs.contracts.acts.start as start·fn
use Rattle.tray_lines.proofs.acts.start.Reads as start·reads
use Rattle.tray_lines.specs.contracts.answers.tell as tell·fn
use Rattle.tray_lines.proofs.answers.tell.Reads as tell·reads
use Rattle.tray_lines.specs.contracts.feeds.fresh as fresh·fn
use Rattle.tray_lines.proofs.feeds.fresh.Reads as fresh·reads
use Rattle.tray_lines.specs.contracts.feeds.feed as feed·fn
use Rattle.tray_lines.proofs.feeds.feed.Reads as feed·reads
use Rattle.tray_lines.specs.contracts.feeds.ended as ended·fn
use Rattle.tray_lines.proofs.feeds.ended.Reads as ended·reads

-- `start` was called, and then `tell` for each line, with the containers last returned. In what follows a are a call's arguments, r is its
-- result, and e the arguments as they are at the return.
pub data Told : Trays → List (List ℕ) → Type 1 where
  started : (κs : Lfts 0) (a : ArgsD start·fn.signature κs) (r : ResD start·fn.signature κs) (e : AtExit start·fn.ended κs)
      → start·reads.Learnt κs a r e → Told r []
  line : {t : Trays} {ls : List (List ℕ)} (κs : Lfts 1) (a : ArgsD tell·fn.signature κs) (r : ResD tell·fn.signature κs) (e : AtExit tell·fn.ended κs)
      → Told t ls → a.0 ≡ t → tell·reads.Learnt κs a r e → Told r.trays (ls ++ (a.1.0.now ∷ []))

after_more : (w : World) (ls : List (List ℕ)) (l : List ℕ) → after w (ls ++ (l ∷ [])) ≡ (tells (after w ls) l).world
after_more w [] l = refl
after_more w (k ∷ ls) l = after_more (tells w k).world ls l

told_after : {t : Trays} {ls : List (List ℕ)} → Told t ls → world t ≡ after begun ls
told_after (started κs a r e learnt) = learnt
told_after (line {t} {ls} κs a r e before same learnt) =
    ap (λ (x : Tells). x.world) learnt
    ∙ ap (λ (u : Trays). (tells (world u) a.1.0.now).world) same
    ∙ ap (λ (w : World). (tells w a.1.0.now).world) (told_after before)
    ∙ sym (after_more begun ls a.1.0.now)

-- the balance of some lines, where the program stands after them
balance : (ls : List (List ℕ)) {w : World} → w ≡ after begun ls → (x : ℕ)
    → entered x [] (lines (happened ls)) ≡ handed x [] (lines (happened ls)) + dropped x [] (lines (happened ls)) + standing_all x w
balance ls e x =
    lines_balance ls x
    ∙ ap (λ (w : World). handed x [] (lines (happened ls)) + dropped x [] (lines (happened ls)) + standing_all x w) (sym e)

-- DEMAND 3 OF ANY LINES THAT ARE TOLD.
pub demand_3_of_lines : {t : Trays} {ls : List (List ℕ)} → Told t ls → (x : ℕ)
    → entered x [] (lines (happened ls)) ≡ handed x [] (lines (happened ls)) + dropped x [] (lines (happened ls)) + standing_all x (world t)
demand_3_of_lines {t} {ls} told x = balance ls (told_after told) x

-- `start` and `fresh` were called, and then `feed`, any number of times, with the state last returned: the bytes that were taken, and those
-- that were answered.
pub data Fed : State → (input out : List ℕ) → Type 1 where
  started : (κs : Lfts 0) (a : ArgsD start·fn.signature κs) (t : ResD start·fn.signature κs) (e : AtExit start·fn.ended κs)
      → start·reads.Learnt κs a t e
      → (κs2 : Lfts 0) (a2 : ArgsD fresh·fn.signature κs2) (r : ResD fresh·fn.signature κs2) (e2 : AtExit fresh·fn.ended κs2)
      → a2.0 ≡ t → fresh·reads.Learnt κs2 a2 r e2 → Fed r [] []
  block : {s : State} {input out : List ℕ} (κs : Lfts 2) (a : ArgsD feed·fn.signature κs) (r : ResD feed·fn.signature κs) (e : AtExit feed·fn.ended κs)
      → Fed s input out → a.0 ≡ s → feed·reads.Learnt κs a r e
      → Fed r.state (input ++ take r.took a.1.0.now) (out ++ take r.count e.1.1.0.now)

-- the bytes that a call took, and those that it put
taken : (k : ℕ) (l : List ℕ) → take (length (take k l)) l ≡ take k l
taken k l = ap (take (length (take k l))) (sym (take-append-drop k l)) ∙ take-append_seam (take k l) (drop k l)

-- the state after a run of bytes, and what was answered
abbrev fed_to : (s : State) (input out : List ℕ) → Type 0
fed_to s input out = feeds keeping (fresh keeping begun) input ≡ record { state = midway s; out = out }

fed_is : {s : State} {input out : List ℕ} → Fed s input out → fed_to s input out
unfolding feeds fills
fed_is (started κs a t e made κs2 a2 r e2 same learnt) =
    ap (λ (m : Midway Kept). record { state = m; out = [] })
    (ap (fresh keeping) (sym (ap world same ∙ made)) ∙ sym learnt)
fed_is (block {s} {input} {out} κs a r e before same learnt) =
    let given : List ℕ = a.1.0.now in
    let text : List ℕ = a.1.1.0.now in
    let part : List ℕ = take (room given text) given in
    let f : Feeds Kept = feeds keeping (midway s) part in
    let is : ◌≡◌ {A = Fills} (record { state = midway r.state; took = r.took; count = r.count; out = e.1.1.0.now }) (fills (midway s) given text) =
    learnt ∙ ap (λ (u : State). fills (midway u) given text) same
    in
    let took : take r.took given ≡ part = ap (λ (x : Fills). take x.took given) is ∙ taken (room given text) given in
    let put : take r.count e.1.1.0.now ≡ f.out = ap (λ (x : Fills). take x.count x.out) is ∙ put_read text f.out (feeds_fit (midway s) given text) in
    let state : midway r.state ≡ f.state = ap (λ (x : Fills). x.state) is in
    let old : fed_to s input out = fed_is before in
    ap (λ (l : List ℕ). feeds keeping (fresh keeping begun) (input ++ l)) took
    ∙ feeds_join keeping (fresh keeping begun) input part
    ∙ ap (λ (x : Feeds Kept). then x (feeds keeping x.state part)) old
    ∙ cc (put, state)

-- WHERE THE PROGRAM STANDS after some bytes, whatever took it there: the lines that an LF ended have made its world, and demand 3 holds of it. That it
-- stands there is promised by `run` of the program `tray`, and follows of whoever calls `feed` (`fed_there`).
abbrev pub Stands : (s : State) (input : List ℕ) → Type 0
Stands s input = midway s ≡ (feeds keeping (fresh keeping begun) input).state

pub fed_there : {s : State} {input out : List ℕ} → Fed s input out → Stands s input
fed_there fed = sym (ap (λ (f : Feeds Kept). f.state) (fed_is fed))

module _ (s : State) (input : List ℕ) (there : Stands s input) where
  pub world_so_far : world s.trays ≡ after begun (finished [] input)
  world_so_far = ap (λ (m : Midway Kept). m.world) there ∙ (run_so_far begun input).1

  pub demand_3_so_far : (x : ℕ)
      → entered x [] (lines (happened (finished [] input)))
      ≡ handed x [] (lines (happened (finished [] input))) + dropped x [] (lines (happened (finished [] input))) + standing_all x (world s.trays)
  demand_3_so_far x = balance (finished [] input) world_so_far x

  -- At the end, where `ended` is called: the last line counts too, if it isn't empty.
  module _ (κs : Lfts 0) (a : ArgsD ended·fn.signature κs) (r : ResD ended·fn.signature κs) (e : AtExit ended·fn.ended κs)
      (same : a.0 ≡ s) (learnt : ended·reads.Learnt κs a r e) where
    finish : ◌≡◌ {A = Ends} (ended_seen r) (ends_into (ends keeping (feeds keeping (fresh keeping begun) input).state))
    finish = learnt ∙ ap (λ (u : State). ends_into (ends keeping (midway u))) same ∙ ap (λ (m : Midway Kept). ends_into (ends keeping m)) there

    last_answer : written r.answer ≡ (ends keeping (feeds keeping (fresh keeping begun) input).state).text
    last_answer = ap (λ (x : Ends). written x.answer) finish ∙ written_is (ends keeping (feeds keeping (fresh keeping begun) input).state).text

    pub world_at_end : world r.trays ≡ after begun (lines_of [] input)
    world_at_end = ap (λ (x : Ends). x.world) finish ∙ (run_answers begun input).1

    pub demand_3_at_end : (x : ℕ)
        → entered x [] (lines (happened (lines_of [] input)))
        ≡ handed x [] (lines (happened (lines_of [] input))) + dropped x [] (lines (happened (lines_of [] input))) + standing_all x (world r.trays)
    demand_3_at_end x = balance (lines_of [] input) world_at_end x

    -- and the model lists that it counts over are what the slots hold
    pub models_at_end : held (world r.trays) ≡ modelled [] (lines (happened (lines_of [] input)))
    models_at_end = ap held world_at_end ∙ lines_model (lines_of [] input)

-- WHAT IS ANSWERED to bytes that are fed: the lines that an LF ended, in their order; and at the end, the last line's answer among them, all lines.
module _ {s : State} {input out : List ℕ} (fed : Fed s input out) where
  fed_out : (feeds keeping (fresh keeping begun) input).out ≡ out
  fed_out = ap (λ (f : Feeds Kept). f.out) (fed_is fed)

  pub answers_so_far : out ≡ answered begun (finished [] input)
  answers_so_far = sym fed_out ∙ (run_so_far begun input).0

  pub tray_answers : (κs : Lfts 0) (a : ArgsD ended·fn.signature κs) (r : ResD ended·fn.signature κs) (e : AtExit ended·fn.ended κs)
      → a.0 ≡ s → ended·reads.Learnt κs a r e → out ++ written r.answer ≡ answered begun (lines_of [] input)
  tray_answers κs a r e same learnt = cc (last_answer s input (fed_there fed) κs a r e same learnt, fed_out, (run_answers begun input).0)
