-- The writer's promise leaves one answer and one content of the text: from each function's generated contract.
use mathlib.Core.Path.{◌≡◌, refl, sym, ap, ap₂, ◌∙◌}
use mathlib.Core.List.{List}
use Prim.Native.Nat.{ℕ}
use contract.Lifetimes.{Lfts}
use Rattle.slots.proofs.Twice.{Twice}
use Rattle.runs.specs.declared.total.Total.{Total}
use Rattle.table.specs.Answers.{numbered}
use Rattle.table.specs.declared.answers.Numbered.{Numbered}
use Rattle.table.proofs.Laws.Numbered.{same_answer}
use Rattle.ring.specs.declared.Ring.{Ring}
use Rattle.ring.specs.Seen as rings
use Rattle.vector.specs.declared.Vector.{Vector}
use Rattle.vector.specs.Seen as vectors
use Rattle.stored.specs.Written.{Written}
use Rattle.stored.specs.Seen.{seen_ring, seen_vector}
use Rattle.stored.specs.contracts.ring_text as ring_text·fn
use Rattle.stored.proofs.ring_text.Reads as ring_text·reads
use Rattle.stored.specs.contracts.vector_text as vector_text·fn
use Rattle.stored.proofs.vector_text.Reads as vector_text·reads

-- `read` gives the answer back from what is seen of it and from what is not, the slot that it reports and the total
one : {A B : Type 0} (seen : A → List ℕ → Written) (beside : A → B) (read : Written → B → A) → ((a : A) (text : List ℕ) → read (seen a text) (beside a) ≡ a)
    → ((a : A) (text : List ℕ) → (seen a text).text ≡ text)
    → (w : Written) (b : B) (a a' : A) (text text' : List ℕ) → seen a text ≡ w → seen a' text' ≡ w → beside a ≡ b → beside a' ≡ b → (a ≡ a') × (text ≡ text')
one seen beside read back kept w b a a' text text' p q x y = (
  sym (back a text) ∙ ap₂ read (p ∙ sym q) (x ∙ sym y) ∙ back a' text',
  sym (kept a text) ∙ ap (λ (w : Written). w.text) (p ∙ sym q) ∙ kept a' text',
)

abbrev ring_back : Written → ℕ × Total → Numbered Ring
ring_back w b = record {
  number = w.outcome.number;
  value = w.outcome.value;
  moves = w.outcome.moves;
  slot = b.0;
  state = rings.state w.outcome.tray.head w.outcome.tray.len b.1;
}

abbrev vector_back : Written → ℕ × Total → Numbered Vector
vector_back w b = record {
  number = w.outcome.number;
  value = w.outcome.value;
  moves = w.outcome.moves;
  slot = b.0;
  state = vectors.state w.outcome.tray.len b.1;
}

module _ (κs : Lfts 2) where
  pub ring_text_once : Twice ring_text·fn.ended κs (ring_text·reads.Learnt κs) (λ r e r' e'. (r ≡ r') × (e.1.1.0.now ≡ e'.1.1.0.now))
  ring_text_once a r r' e e' p q =
      let same =
      one {B = ℕ × Total} (λ n text. seen_ring n a.1.0.now text) (λ n. (n.slot, n.state.total)) ring_back (λ n text. refl) (λ n text. refl)
      _ _ (numbered a.0 r) (numbered a.0 r') _ _ p.row q.row (ap₂ (λ n t. (n, t)) p.slot p.total) (ap₂ (λ n t. (n, t)) q.slot q.total) in
      (same_answer a.0 r r' same.0, same.1)

  pub vector_text_once : Twice vector_text·fn.ended κs (vector_text·reads.Learnt κs) (λ r e r' e'. (r ≡ r') × (e.1.1.0.now ≡ e'.1.1.0.now))
  vector_text_once a r r' e e' p q =
      let same =
      one {B = ℕ × Total} (λ n text. seen_vector n a.1.0.now text) (λ n. (n.slot, n.state.total)) vector_back (λ n text. refl) (λ n text. refl)
      _ _ (numbered a.0 r) (numbered a.0 r') _ _ p.row q.row (ap₂ (λ n t. (n, t)) p.slot p.total) (ap₂ (λ n t. (n, t)) q.slot q.total) in
      (same_answer a.0 r r' same.0, same.1)
