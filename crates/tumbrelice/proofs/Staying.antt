-- Which words of a state stay, so that they need not be stored: a call that is done and whose row leaves the head leaves it, but for an emptied ring's; a write leaves the length too.
use Prim.Native.Nat.{ℕ}
use mathlib.Core.Path.{◌≡◌, refl, sym, ap, ap₂, ◌∙◌}
use mathlib.Core.List.{List, [], ◌∷◌}
use lib.ListN.{length, get_or, length-set}
use Rattle.slots.specs.Layout.{Kind, ring, vector}
use Rattle.table.specs.Tray.{Tray, list}
use Rattle.table.specs.Calls.{Call, write}
use Rattle.table.specs.Table.{after}
use Rattle.table.specs.Does.{Outcome, does, row_of, relay, head_after}
use Rattle.table.proofs.Laws.Done.{many, done_is, homed, home_of_none, head_kept}
use Rattle.table.proofs.Theorems.Refused.{call_clear}
use Rattle.table.specs.declared.answers.Numbered.{Numbered}
use Rattle.ring.specs.declared.Ring.{Ring}
use Rattle.ring.specs.Seen as rings
use Rattle.vector.specs.declared.Vector.{Vector}
use Rattle.vector.specs.Seen as vectors
use Rattle.tumbrelice.specs.Heard.{ring_in, ring_out, vector_in, vector_out, unless_refused, ring_tray, vector_tray}
use Rattle.tumbrelice.proofs.Numbers.{RingMeets, VectorMeets}
use Rattle.tumbrelice.proofs.Words.{done_leaves}

-- THE STORES: a number that is written as it was read is not stored.
module _ (st after : List ℕ) (m : ℕ) (done : m ≡ 0) where
  pub emptied_out : (r : Ring) → (m ≡ 0 → r.head ≡ head_after ring r.len (get_or st 0 0)) → r.len ≡ 0 → after ≡ 0 ∷ 0 ∷ r.total.sum ∷ []
      → after ≡ unless_refused m (ring_out r) st
  emptied_out r rests none e =
      done_leaves m _ st after done (e ∙ ap₂ (λ h n. h ∷ n ∷ r.total.sum ∷ []) (sym (rests done ∙ home_of_none ring r.len (get_or st 0 0) none)) (sym none))

  pub rested_out : (r : Ring) → (m ≡ 0 → r.head ≡ head_after ring r.len (get_or st 0 0)) → (r.len ≡ 0 → ⊥)
      → after ≡ get_or st 0 0 ∷ r.len ∷ r.total.sum ∷ [] → after ≡ unless_refused m (ring_out r) st
  rested_out r rests some e =
      done_leaves m _ st after done (e ∙ ap (λ h. h ∷ r.len ∷ r.total.sum ∷ []) (sym (rests done ∙ head_kept r.len (get_or st 0 0) some)))

  pub weighed_out : (r : Ring) → (m ≡ 0 → (r.head ≡ get_or st 0 0) × (r.len ≡ get_or st 1 0)) → after ≡ get_or st 0 0 ∷ get_or st 1 0 ∷ r.total.sum ∷ []
      → after ≡ unless_refused m (ring_out r) st
  weighed_out r rests e =
      done_leaves m _ st after done (e ∙ ap₂ (λ h n. h ∷ n ∷ r.total.sum ∷ []) (sym (rests done).0) (sym (rests done).1))

  pub vector_weighed_out : (v : Vector) → (m ≡ 0 → v.len ≡ get_or st 0 0) → after ≡ get_or st 0 0 ∷ v.total.sum ∷ [] → after ≡ unless_refused m (vector_out v) st
  vector_weighed_out v rests e = done_leaves m _ st after done (e ∙ ap (λ n. n ∷ v.total.sum ∷ []) (sym (rests done)))

-- where a call that is done leaves the container
laid : (k : Kind) (call : Call) (t : Tray) (o : Outcome) → o ≡ does k call t → o.number ≡ 0 → o.tray ≡ relay k t (after call (list k t)) (row_of k call t).head
laid k call t o e zero =
    let clear = call_clear k call t o e zero in
    ap (λ o. o.tray) (e ∙ done_is k t call clear.0 clear.1)

pub head_rests : (call : Call) (st s s' : List ℕ) (r : Ring) (a : Numbered Ring) → RingMeets call r s a s' → r ≡ ring_in st
    → ((t : Tray) → (row_of ring call t).head ≡ t.head) → a.number ≡ 0 → a.state.head ≡ head_after ring a.state.len (get_or st 0 0)
head_rests call st s s' r a e er rests zero =
    let e' : RingMeets call (ring_in st) s a s' = rw er at e in
    let is = laid ring call (ring_tray st s) (rings.seen a s') e'.row zero in
    let head : a.state.head ≡ head_after ring (length (after call (list ring (ring_tray st s)))) (row_of ring call (ring_tray st s)).head = ap (λ (t : Tray). t.head) is in
    let len : a.state.len ≡ length (after call (list ring (ring_tray st s))) = ap (λ (t : Tray). t.len) is in
    head ∙ ap₂ (head_after ring) (sym len) (rests (ring_tray st s))

written_len : (k : Kind) (i x : ℕ) (t : Tray) (o : Outcome) → o ≡ does k (write i x) t → o.number ≡ 0 → o.tray.len ≡ t.len
written_len k i x t o e zero = ap (λ (t : Tray). t.len) (laid k (write i x) t o e zero) ∙ length-set (list k t) i x ∙ many k t

module _ (i x : ℕ) (st s s' : List ℕ) (r : Ring) (a : Numbered Ring) (e : RingMeets (write i x) r s a s') (er : r ≡ ring_in st) (zero : a.number ≡ 0) where
  written : RingMeets (write i x) (ring_in st) s a s'
  written = rw er at e

  pub ring_written_len : a.state.len ≡ get_or st 1 0
  ring_written_len = written_len ring i x (ring_tray st s) (rings.seen a s') written.row zero

  pub ring_written_head : a.state.head ≡ get_or st 0 0
  ring_written_head =
      let ok = (call_clear ring (write i x) (ring_tray st s) (rings.seen a s') written.row zero).0 in
      head_rests (write i x) st s s' r a e er (λ t. refl) zero ∙ ap (λ n. head_after ring n (get_or st 0 0)) ring_written_len ∙ homed (ring_tray st s) ok

pub ruleset ring_written = (ring_written_len, ring_written_head)

pub vector_written : (i x : ℕ) (n s s' : List ℕ) (v : Vector) (a : Numbered Vector) → VectorMeets (write i x) v s a s' → v ≡ vector_in n → a.number ≡ 0
    → a.state.len ≡ get_or n 0 0
vector_written i x n s s' v a e ev zero =
    let e' : VectorMeets (write i x) (vector_in n) s a s' = rw ev at e in
    written_len vector i x (vector_tray n s) (vectors.seen a s') e'.row zero
