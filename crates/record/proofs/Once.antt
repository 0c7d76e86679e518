-- One answer: any two results that meet a call's generated contract on the same arguments are the same, and so is all that they leave in what the
-- call may write.
use mathlib.Core.Path.{◌≡◌, refl, sym, ap, ◌∙◌}
use contract.Lifetimes.{Lfts}
use Prim.Native.Nat.{ℕ}
use Rattle.slots.proofs.Twice.{Twice}
use Rattle.table.specs.Reported.{no_slot}
use Rattle.table.proofs.Theorems.Unique.{one_answer2}
use Rattle.vector.specs.declared.Vector.{Vector}
use Rattle.vector.specs.Seen.{tray, state}
use Rattle.table.specs.Answers.{numbered}
use Rattle.table.specs.declared.answers.Both.{Both}
use Rattle.table.specs.declared.answers.Numbered.{Numbered}
use Rattle.table.proofs.Laws.Numbered.{same_answer}
use Rattle.pairs.specs.Seen.{both, seen2}
use Rattle.record.specs.Recorded.{of_vector, total_starts, total_ends}
use Rattle.record.specs.Unquoted.{Unquoted}
use Rattle.record.proofs.Laws.Telling.{judged_back, numbered_back}
use Rattle.record.specs.contracts.read as read·fn
use Rattle.record.proofs.read.Reads as read·reads
use Rattle.record.specs.contracts.texts.judge as judge·fn
use Rattle.record.proofs.texts.judge.Reads as judge·reads
use Rattle.record.proofs.texts as texts
use Rattle.record.specs.contracts.texts as texts·promise
use Rattle.record.proofs.RefusalFromFault.from as refusal_from·fn
use Rattle.record.specs.contracts.RefusalFromFault.from as refusal_from·promise
use Rattle.record.proofs.U32FromFault.from as place_from·fn
use Rattle.record.specs.contracts.U32FromFault.from as place_from·promise

-- In what follows a are the arguments, r and r' are results, and e and e' the arguments as they are at the return.
module _ (κs : Lfts 3) where
  pub read_once : Twice read·fn.ended κs (read·reads.Learnt κs) (λ r e r' e'. (r ≡ r') × (e.1.1.0.now ≡ e'.1.1.0.now) × (e.1.1.1.1.0.now ≡ e'.1.1.1.1.0.now))
  read_once a r r' e e' p q =
      let t = tray a.1.0 a.1.1.0.now in
      let t2 = tray a.1.1.1.0 a.1.1.1.1.0.now in
      let given = both a.1.0 a.1.1.1.0 in
      let same =
      one_answer2 {A = Numbered (Both Vector Vector)} {B = ℕ × ℕ × ℕ} (seen2 of_vector of_vector) (λ n. (n.slot, n.state.first.total.sum, n.state.second.total.sum))
      (λ o b. record { number = o.number; value = o.value; moves = o.moves; slot = b.0; state = both (state o.first.len (record { sum = b.1 })) (state o.second.len (record { sum = b.2 })) })
      (λ n s s2. refl) (λ n s s2. refl) (λ n s s2. refl) _
      (no_slot, total_starts a.0.now t t2 a.1.0.total.sum, total_ends a.0.now t t2 a.1.1.1.0.total.sum) (numbered given r) (numbered given r') _ _ _ _ p.row q.row
      (cc (p.slot, p.total, p.total2)) (cc (q.slot, q.total, q.total2)) in
      (same_answer given r r' same.0, same.1, same.2)

module _ (κs : Lfts 1) where
  pub judge_once : Twice judge·fn.ended κs (judge·reads.Learnt κs) (λ r e r' e'. r ≡ r')
  judge_once a r r' e e' p q = judged_back r r' (p ∙ sym q)

module _ (κs : Lfts 2) where
  pub field_text_once : Twice texts·promise.field_text.ended κs (texts.field_text.Reads.Learnt κs) (λ r e r' e'. (r ≡ r') × (e.1.1.1.0.now ≡ e'.1.1.1.0.now))
  field_text_once a r r' e e' p q =
      let same = p.row ∙ sym q.row in
      (numbered_back r r' (ap (λ (u : Unquoted). u.answer) same), ap (λ (u : Unquoted). u.out) same)

module _ (κs : Lfts 0) where
  pub refusal_from_once : Twice refusal_from·promise.ended κs (refusal_from·fn.Reads.Learnt κs) (λ r e r' e'. r ≡ r')
  refusal_from_once a r r' e e' p q = p ∙ sym q

  pub place_from_once : Twice place_from·promise.ended κs (place_from·fn.Reads.Learnt κs) (λ r e r' e'. r ≡ r')
  place_from_once a r r' e e' p q = p ∙ sym q
