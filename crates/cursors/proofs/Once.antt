-- One answer: any two results that meet a call's generated contract on the same arguments are the same, and so are the contents that from_iter leaves
-- in T's slots.
use Prim.Native.Nat.{ℕ}
use mathlib.Core.Path.{◌≡◌, sym, ap, ap₂, ◌∙◌}
use mathlib.Core.List.{List}
use mir.Syntax.{Dict}
use denote.RattleType.{RattleType}
use denote.Param.Laws.{Laws, IsCopy}
use contract.Lifetimes.{Lfts}
use Rattle.std.specs.Prelude.{Result}
use Rattle.std.specs.declared.clone.Clone
use Rattle.slots.proofs.Twice.{Twice}
use Rattle.slots.specs.Layout.{Kind}
use Rattle.table.specs.Tray.{Tray, Cursor}
use Rattle.table.specs.Calls.{Call, Call2}
use Rattle.table.specs.Does.{Outcome, Outcome2}
use Rattle.table.specs.declared.answers.Answer.{Answer}
use Rattle.table.specs.declared.answers.Both.{Both}
use Rattle.table.specs.declared.answers.Refusal.{Refusal}
use Rattle.table.proofs.Laws.Numbered.{same_answer}
use Rattle.vector.specs.declared.Vector.{Vector}
use Rattle.vector.specs.Seen.{state}
use Rattle.containers.specs.declared.Container
use Rattle.cursors.specs.declared.Cursor as code
use Rattle.cursors.specs.Seen.{Steps, Takes}
use Rattle.cursors.proofs.Cursor as fn
use Rattle.cursors.specs.contracts.Cursor as promise

again : Cursor → code.Cursor
again u = record { front = u.front; back = u.back }

-- every promise of this crate is of one of these two forms: of a call that answers about a cursor, and of from_iter
one : {k : Kind} {call : Call} {t : Tray} (u : code.Cursor) (r r' : Result (Answer code.Cursor) Refusal) → Steps k call t u r → Steps k call t u r' → r ≡ r'
unfolding again
one u r r' p q =
    same_answer u r r'
    (ap₂ (λ (o : Outcome) n. record { number = o.number; value = o.value; moves = o.moves; slot = n; state = again o.cursor }) (p.row ∙ sym q.row) (p.slot ∙ sym q.slot))

one_into : {k : Kind} {call : Call2} {t : Tray} (u : code.Cursor) (w : Vector) {z : List ℕ} (r r' : Result (Answer (Both code.Cursor Vector)) Refusal) (s2 s2' : List ℕ)
    → Takes k call t u w z r s2 → Takes k call t u w z r' s2' → (r ≡ r') × (s2 ≡ s2')
unfolding again
one_into u w r r' s2 s2' p q =
    let rows = p.row ∙ sym q.row in
    let beside = ap₂ {C = ℕ × ℕ} (λ n m. (n, m)) (p.slot ∙ sym q.slot) (p.total ∙ sym q.total) in (
      same_answer (record { first = u; second = w }) r r'
          (ap₂ (λ (o : Outcome2) (b : ℕ × ℕ). record {
            number = o.number;
            value = o.value;
            moves = o.moves;
            slot = b.0;
            state = record { first = again o.cursor; second = state o.second.len (record { sum = b.1 }) };
          }) rows beside),
      ap (λ (o : Outcome2). o.second.slots) rows,
    )

-- T is the type of the container, and C how its states are read; the rest is what a generated contract is stated over beside them. In what follows a are the
-- arguments, r and r' are results, and e and e' the arguments as they are at the return.
module _ (T : RattleType) (L : Laws T) (K : IsCopy T) (C : Container.Ghosts T.Denot) (D : Dict) (H : Clone.Ghosts T.Denot) (E : Dict) where
  module _ (κs : Lfts 2) where
    pub iter_once : Twice (promise.iter.ended T C D H E) κs (fn.iter.Reads.Learnt T L K C D H E κs) (λ r e r' e'. r ≡ r')
    iter_once a r r' e e' p q = one _ r r' p q

    pub into_iter_once : Twice (promise.into_iter.ended T C D H E) κs (fn.into_iter.Reads.Learnt T L K C D H E κs) (λ r e r' e'. r ≡ r')
    into_iter_once a r r' e e' p q = one _ r r' p q

    pub step_front_once : Twice (promise.step_front.ended T C D H E) κs (fn.step_front.Reads.Learnt T L K C D H E κs) (λ r e r' e'. r ≡ r')
    step_front_once a r r' e e' p q = one _ r r' p q

    pub step_back_once : Twice (promise.step_back.ended T C D H E) κs (fn.step_back.Reads.Learnt T L K C D H E κs) (λ r e r' e'. r ≡ r')
    step_back_once a r r' e e' p q = one _ r r' p q

    pub peek_front_once : Twice (promise.peek_front.ended T C D H E) κs (fn.peek_front.Reads.Learnt T L K C D H E κs) (λ r e r' e'. r ≡ r')
    peek_front_once a r r' e e' p q = one _ r r' p q

    pub peek_back_once : Twice (promise.peek_back.ended T C D H E) κs (fn.peek_back.Reads.Learnt T L K C D H E κs) (λ r e r' e'. r ≡ r')
    peek_back_once a r r' e e' p q = one _ r r' p q

  module _ (κs : Lfts 3) where
    pub from_iter_once : Twice (promise.from_iter.ended T C D H E) κs (fn.from_iter.Reads.Learnt T L K C D H E κs)
        (λ r e r' e'. (r ≡ r') × (e.1.1.1.1.0.now ≡ e'.1.1.1.1.0.now))
    from_iter_once a r r' e e' p q = one_into _ _ r r' _ _ p q
