-- THERE AND BACK (request 08): reading what was written gives back the container with its total worked out, and writing what was read gives the same bytes, or an older text's with head 0. What
-- the readers give is what `Reading` says, which names no reader, and nothing else is.
use mathlib.Core.Path.{◌≡◌, refl, sym, ap, ◌∙◌}
use mathlib.Core.Bool.{Bool, true, false}
use mathlib.Core.List.{List}
use Prim.Native.Nat.{ℕ, ◌≤◌, ◌<◌}
use native.Mathlib.Omega.{arith}
use borrow.Author.Tests.{le-ltb, ne_eqb, ltb-true, ltb-false, eqb-true, eqb-false}
use lib.Dec.{ltb, eqb}
use lib.ListN.{length}
use Rattle.slots.specs.Layout.{most, Kind, ring, vector}
use Rattle.slots.specs.Total.{total}
use Rattle.table.specs.Tray.{Tray, cap, list, valid, nowhere}
use Rattle.table.specs.Does.{Outcome, refused, bare}
use Rattle.digits.specs.Put.{put}
use Rattle.stored.specs.Form.{form, size}
use Rattle.stored.specs.Written.{writes}
use Rattle.stored.specs.Acceptable.{Sound, Older, StandsFor, written, older, Acceptable, Exact}
use Rattle.stored.specs.Reading.{Reading}
use Rattle.stored.specs.Judge.{told, judge, judge_by}
use Rattle.stored.specs.Reads.{reads, total_read}
use Rattle.stored.proofs.Lines.{length_form}
use Rattle.stored.proofs.Exactly.{accepts, tells, emptied, home_valid, stands_told, standing_valid, judge_exact}
use Rattle.stored.proofs.Given.{reads_over, reads_other, reads_room, reads_done, given, reads_either}

-- a text that stands for t, read into as many slots
pub reads_it : (k : Kind) (text slots : List ℕ) (t : Tray) → StandsFor text k t → cap t ≡ length slots → reads k text slots ≡ given t
reads_it k text slots t s same =
    let is = tells k text t s in
    let few : length slots ≤ most = omega (arith, standing_valid k text t s) in
    reads_done k text slots few (accepts k text t s) (ap cap is ∙ same) ∙ ap given is

-- READING WHAT WAS WRITTEN gives back every slot, head and length, with the total worked out
pub read_written : (k : Kind) (t : Tray) (slots : List ℕ) → Sound k t → cap t ≡ length slots → reads k (form k t) slots ≡ given t
read_written k t slots s same = reads_it k (form k t) slots t (written s refl) same

pub total_written : (k : Kind) (t : Tray) (slots : List ℕ) → Sound k t → cap t ≡ length slots → total_read k (form k t) slots ≡ total (list k t)
unfolding total_read
total_written k t slots s same = ap (λ (o : Outcome). total (list k o.tray)) (read_written k t slots s same)

-- a reading that was done gives the container that the text stands for
pub record Done (k : Kind) (text slots : List ℕ) (o : Outcome) : Type 0 where
  pub stands : StandsFor text k o.tray
  pub many : cap o.tray ≡ length slots

pub read_done : (k : Kind) (text slots : List ℕ) → (reads k text slots).number ≡ 0 → Done k text slots (reads k text slots)
read_done k text slots = reads_either k text slots (λ o. o.number ≡ 0 → Done k text slots o)
    (λ m over few zero. absurd (omega arith))
    (λ few ok same zero. record { stands = stands_told k text ok; many = same })

-- and one that was refused leaves state 0, 0 and every slot as it was
pub read_refused : (k : Kind) (text slots : List ℕ) → 0 < (reads k text slots).number → reads k text slots ≡ refused (bare slots) nowhere (reads k text slots).number
read_refused k text slots =
    reads_either k text slots (λ o. 0 < o.number → o ≡ refused (bare slots) nowhere o.number) (λ m over few some. refl) (λ few ok same above. absurd (omega arith))

written_text : (k : Kind) (t : Tray) (buffer : List ℕ) → valid k (cap t) t.head t.len ≡ true → size (cap t) ≤ length buffer → (writes k t buffer).text ≡ put buffer 0 (form k t)
unfolding writes
written_text k t buffer ok room = rw (ok, le-ltb _ _ room)

-- WRITING WHAT WAS READ gives the same bytes, wherever there is room for them
pub write_read : (k : Kind) (t : Tray) (text slots buffer : List ℕ) → Sound k t → text ≡ form k t → cap t ≡ length slots → length text ≤ length buffer
    → (writes k (reads k text slots).tray buffer).text ≡ put buffer 0 text
write_read k t text slots buffer s e same room =
    let is : (reads k text slots).tray ≡ t = ap (λ (o : Outcome). o.tray) (reads_it k text slots t (written s e) same) in
    ap (λ t. (writes k t buffer).text) is
    ∙ written_text k t buffer s.fine (omega (arith, length_form k t, ap length e))
    ∙ ap (put buffer 0) (sym e)

-- but for an older text, for which it gives the text with head 0
pub write_older : (h : ℕ) (old text slots buffer : List ℕ) → Older h old → text ≡ form ring (emptied h old) → length old ≡ length slots → length text ≤ length buffer
    → (writes ring (reads ring text slots).tray buffer).text ≡ put buffer 0 (form ring (emptied 0 old))
unfolding valid
write_older h old text slots buffer o e same room =
    let s : StandsFor text ring (bare old) = older h old o e in
    let is : (reads ring text slots).tray ≡ bare old = ap (λ (o : Outcome). o.tray) (reads_it ring text slots (bare old) s same) in
    ap (λ t. (writes ring t buffer).text) is
    ∙ written_text ring (bare old) buffer (home_valid (length old) (omega (arith, o.below)) o.few) (omega (arith, length_form ring (emptied h old), ap length e))

-- THE READERS GIVE WHAT `Reading` SAYS
refuses : (k : Kind) (text : List ℕ) (j : Bool) → judge k text ≡ j → (Acceptable k text → ⊥) → judge k text ≡ false
refuses k text true e none = absurd (none ((judge_exact k text).yes e))
refuses k text false e none = e

pub reads_right : (k : Kind) (text slots : List ℕ) → Reading k text slots (reads k text slots)
reads_right k text slots = record {
  over = reads_over k text slots;
  other = λ few none. reads_other k text slots few (refuses k text (judge k text) refl none);
  room = λ few t s ne. reads_room k text slots few (accepts k text t s) (λ q. ne (sym (ap cap (tells k text t s)) ∙ q));
  done = λ few t s same. reads_it k text slots t s same;
}

-- AND NOTHING ELSE: one outcome meets it
pub reads_only : (k : Kind) (text slots : List ℕ) (o : Outcome) → Reading k text slots o → o ≡ reads k text slots
reads_only k text slots o r = go (ltb most (length slots)) refl (judge k text) refl
  where
    fits : (same : Bool) → eqb (cap (told k text)) (length slots) ≡ same → length slots ≤ most → judge k text ≡ true → o ≡ reads k text slots
    fits true e few ok = r.done few (told k text) (stands_told k text ok) (eqb-true _ _ e) ∙ sym (reads_done k text slots few ok (eqb-true _ _ e))
    fits false e few ok = r.room few (told k text) (stands_told k text ok) (eqb-false _ _ e) ∙ sym (reads_room k text slots few ok (eqb-false _ _ e))

    go : (big : Bool) → ltb most (length slots) ≡ big → (j : Bool) → judge k text ≡ j → o ≡ reads k text slots
    go true e j ej = r.over (ltb-true _ _ e) ∙ sym (reads_over k text slots (ltb-true _ _ e))
    go false e true ej = fits (eqb (cap (told k text)) (length slots)) refl (ltb-false _ _ e) ej
    go false e false ej = r.other (ltb-false _ _ e) ((judge_exact k text).no ej) ∙ sym (reads_other k text slots (ltb-false _ _ e) ej)

-- BY A KIND NUMBER: 0 is a ring, 1 a vector, and any other a no
pub by_number : (kind : ℕ) (text : List ℕ) → (kind ≡ 0 → Exact (judge_by kind text) ring text) × (kind ≡ 1 → Exact (judge_by kind text) vector text)
    × ((kind ≡ 0 → ⊥) → (kind ≡ 1 → ⊥) → judge_by kind text ≡ false)
unfolding judge_by
by_number kind text = (λ e. rw e (judge_exact ring text), λ e. rw e (judge_exact vector text), λ n0 n1. rw (ne_eqb kind 0 n0, ne_eqb kind 1 n1))
