-- THERE AND BACK BY THE CONTRACTS (request 08): what a writer wrote, its reader reads back, every slot, head and length, with the total worked out whatever it was; and what a reader read, the
-- writer writes again as it was. Only the generated contracts are used, and that a slot holds a number of 32 bits.
use Prim.Native.Nat.{ℕ, ◌≤◌}
use mathlib.Core.Path.{◌≡◌, refl, sym, ap, ◌∙◌}
use mathlib.Core.Bool.{true}
use mathlib.Core.List.{List}
use native.Mathlib.Omega.{arith}
use borrow.Author.Tests.{ltb-false, not-false}
use contract.Lifetimes.{Lfts}
use lib.ListN.{length, take}
use denote.Triple.Clauses.{AtExit}
use borrow.Fn.World.{ArgsD, ResD}
use Rattle.slots.specs.Layout.{Kind, ring, vector}
use Rattle.slots.specs.Total.{total}
use Rattle.table.specs.Tray.{Tray, cap, list, valid}
use Rattle.table.specs.Does.{Outcome}
use Rattle.table.specs.Answers.{numbered}
use Rattle.table.proofs.Laws.Refusals.{either, above_zero}
use Rattle.digits.specs.Put.{put}
use Rattle.digits.proofs.Puts.{put_read}
use Rattle.ring.specs.Seen as rings
use Rattle.vector.specs.Seen as vectors
use Rattle.stored.specs.Form.{head_in, form, size}
use Rattle.stored.specs.Written.{Written, refusals_text, writes}
use Rattle.stored.specs.Acceptable.{Words, Sound}
use Rattle.stored.specs.Reads.{reads, total_read}
use Rattle.stored.proofs.Lines.{length_form}
use Rattle.stored.proofs.Writes.{refusing, telling}
use Rattle.stored.proofs.Given.{given}
use Rattle.stored.proofs.Trip.{read_written, total_written, write_read}
use Rattle.stored.specs.contracts.ring_text as ring_text·fn
use Rattle.stored.proofs.ring_text.Reads as ring_text·reads
use Rattle.stored.specs.contracts.vector_text as vector_text·fn
use Rattle.stored.proofs.vector_text.Reads as vector_text·reads
use Rattle.stored.proofs.readers as readers
use Rattle.stored.specs.contracts.readers as readers·promise

-- a text that was written, and the room that it had
pub record Wrote (k : Kind) (t : Tray) (text : List ℕ) (w : Written) : Type 0 where
  pub fine : valid k (cap t) t.head t.len ≡ true
  pub room : size (cap t) ≤ length text
  pub bytes : w.text ≡ put text 0 (form k t)

wrote : (k : Kind) (t : Tray) (text : List ℕ) → (writes k t text).outcome.number ≡ 0 → Wrote k t text (writes k t text)
unfolding writes
wrote k t text =
    either (λ (w : Written). w.outcome.number ≡ 0 → Wrote k t text w) (λ m. refusing t m text) (refusals_text k t text) (telling t (size (cap t)) (put text 0 (form k t)))
    (λ r e. absurd (omega (arith, above_zero r)))
    (λ clear e. record { fine = not-false _ clear.0; room = ltb-false _ _ clear.1.0; bytes = refl })

-- READ BACK: the bytes that were written, in slots as many as the container has
module _ (k : Kind) (t : Tray) (headed : t.head ≡ head_in k t.head) (words : Words t.slots) (text after bytes slots : List ℕ)
    (done : (writes k t text).outcome.number ≡ 0) (left : after ≡ (writes k t text).text) (these : bytes ≡ take (size (cap t)) after) (same : cap t ≡ length slots) where
  sound : Sound k t
  sound = record { fine = (wrote k t text done).fine; headed = headed; words = words }

  formed : bytes ≡ form k t
  formed =
      let w = wrote k t text done in
      let long = length_form k t in
      these ∙ ap (take (size (cap t))) (left ∙ w.bytes) ∙ ap (λ n. take n (put text 0 (form k t))) (sym long) ∙ put_read text (form k t) (omega (arith, w.room))

  pub back : reads k bytes slots ≡ given t
  back = ap (λ b. reads k b slots) formed ∙ read_written k t slots sound same

  pub back_total : total_read k bytes slots ≡ total (list k t)
  back_total = ap (λ b. total_read k b slots) formed ∙ total_written k t slots sound same

-- In what follows a are the arguments of the writer, r is its result and e the arguments as they are at the return; b, s and f those of the reader.
module _ (κs κs2 : Lfts 2) where
  pub ring_there_and_back : (a : ArgsD ring_text·fn.signature κs) (r : ResD ring_text·fn.signature κs) (e : AtExit ring_text·fn.ended κs)
      (b : ArgsD readers·promise.ring_read.signature κs2) (s : ResD readers·promise.ring_read.signature κs2) (f : AtExit readers·promise.ring_read.ended κs2)
      → ring_text·reads.Learnt κs a r e → readers.ring_read.Reads.Learnt κs2 b s f → (numbered a.0 r).number ≡ 0 → Words a.1.0.now
      → b.0.now ≡ take (size (length a.1.0.now)) e.1.1.0.now → length a.1.0.now ≡ length b.1.0.now
      → ((numbered rings.bare_ring s).number ≡ 0) × ((numbered rings.bare_ring s).state.head ≡ a.0.head) × ((numbered rings.bare_ring s).state.len ≡ a.0.len) × (f.1.0.now ≡ a.1.0.now)
      × ((numbered rings.bare_ring s).state.total.sum ≡ total (list ring (rings.tray a.0 a.1.0.now)))
  ring_there_and_back a r e b s f p q done words these same =
      let t : Tray = rings.tray a.0 a.1.0.now in
      let ok : (writes ring t a.1.1.0.now).outcome.number ≡ 0 = sym (ap (λ (w : Written). w.outcome.number) p.row) ∙ done in
      let left = ap (λ (w : Written). w.text) p.row in
      let is : rings.seen (numbered rings.bare_ring s) f.1.0.now ≡ given t = q.row ∙ back ring t refl words a.1.1.0.now e.1.1.0.now b.0.now b.1.0.now ok left these same in (
        ap (λ (o : Outcome). o.number) is,
        ap (λ (o : Outcome). o.tray.head) is,
        ap (λ (o : Outcome). o.tray.len) is,
        ap (λ (o : Outcome). o.tray.slots) is,
        q.total ∙ back_total ring t refl words a.1.1.0.now e.1.1.0.now b.0.now b.1.0.now ok left these same,
      )

  pub vector_there_and_back : (a : ArgsD vector_text·fn.signature κs) (r : ResD vector_text·fn.signature κs) (e : AtExit vector_text·fn.ended κs)
      (b : ArgsD readers·promise.vector_read.signature κs2) (s : ResD readers·promise.vector_read.signature κs2) (f : AtExit readers·promise.vector_read.ended κs2)
      → vector_text·reads.Learnt κs a r e → readers.vector_read.Reads.Learnt κs2 b s f → (numbered a.0 r).number ≡ 0 → Words a.1.0.now
      → b.0.now ≡ take (size (length a.1.0.now)) e.1.1.0.now → length a.1.0.now ≡ length b.1.0.now
      → ((numbered vectors.none s).number ≡ 0) × ((numbered vectors.none s).state.len ≡ a.0.len) × (f.1.0.now ≡ a.1.0.now) × ((numbered vectors.none s).state.total.sum ≡ total (list vector (vectors.tray a.0 a.1.0.now)))
  vector_there_and_back a r e b s f p q done words these same =
      let t : Tray = vectors.tray a.0 a.1.0.now in
      let ok : (writes vector t a.1.1.0.now).outcome.number ≡ 0 = sym (ap (λ (w : Written). w.outcome.number) p.row) ∙ done in
      let left = ap (λ (w : Written). w.text) p.row in
      let is : vectors.seen (numbered vectors.none s) f.1.0.now ≡ given t = q.row ∙ back vector t refl words a.1.1.0.now e.1.1.0.now b.0.now b.1.0.now ok left these same in (
        ap (λ (o : Outcome). o.number) is,
        ap (λ (o : Outcome). o.tray.len) is,
        ap (λ (o : Outcome). o.tray.slots) is,
        q.total ∙ back_total vector t refl words a.1.1.0.now e.1.1.0.now b.0.now b.1.0.now ok left these same,
      )

  -- WRITTEN AGAIN: the container that was read of a text that some sound container has, into any text with room
  pub ring_back_and_there : (b : ArgsD readers·promise.ring_read.signature κs2) (s : ResD readers·promise.ring_read.signature κs2) (f : AtExit readers·promise.ring_read.ended κs2)
      (a : ArgsD ring_text·fn.signature κs) (r : ResD ring_text·fn.signature κs) (e : AtExit ring_text·fn.ended κs)
      → readers.ring_read.Reads.Learnt κs2 b s f → ring_text·reads.Learnt κs a r e → (t : Tray) → Sound ring t → b.0.now ≡ form ring t → cap t ≡ length b.1.0.now
      → a.0 ≡ (numbered rings.bare_ring s).state → a.1.0.now ≡ f.1.0.now → length b.0.now ≤ length a.1.1.0.now → e.1.1.0.now ≡ put a.1.1.0.now 0 b.0.now
  ring_back_and_there b s f a r e q p t sound is same state slots room =
      let tray : rings.tray a.0 a.1.0.now ≡ (reads ring b.0.now b.1.0.now).tray =
      ap (λ r. rings.tray r a.1.0.now) state ∙ ap (rings.tray (numbered rings.bare_ring s).state) slots ∙ ap (λ (o : Outcome). o.tray) q.row in
      ap (λ (w : Written). w.text) p.row
      ∙ ap (λ t. (writes ring t a.1.1.0.now).text) tray
      ∙ write_read ring t b.0.now b.1.0.now a.1.1.0.now sound is same room

  pub vector_back_and_there : (b : ArgsD readers·promise.vector_read.signature κs2) (s : ResD readers·promise.vector_read.signature κs2) (f : AtExit readers·promise.vector_read.ended κs2)
      (a : ArgsD vector_text·fn.signature κs) (r : ResD vector_text·fn.signature κs) (e : AtExit vector_text·fn.ended κs)
      → readers.vector_read.Reads.Learnt κs2 b s f → vector_text·reads.Learnt κs a r e → (t : Tray) → Sound vector t → b.0.now ≡ form vector t → cap t ≡ length b.1.0.now
      → a.0 ≡ (numbered vectors.none s).state → a.1.0.now ≡ f.1.0.now → length b.0.now ≤ length a.1.1.0.now → e.1.1.0.now ≡ put a.1.1.0.now 0 b.0.now
  vector_back_and_there b s f a r e q p t sound is same state slots room =
      let tray : vectors.tray a.0 a.1.0.now ≡ (reads vector b.0.now b.1.0.now).tray =
      ap (λ v. vectors.tray v a.1.0.now) state ∙ ap (vectors.tray (numbered vectors.none s).state) slots ∙ ap (λ (o : Outcome). o.tray) q.row in
      ap (λ (w : Written). w.text) p.row
      ∙ ap (λ t. (writes vector t a.1.1.0.now).text) tray
      ∙ write_read vector t b.0.now b.1.0.now a.1.1.0.now sound is same room
