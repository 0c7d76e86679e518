-- One answer: any two results that meet a public function's generated contract on the same arguments are the same, and so are the texts that they
-- come with.
use mathlib.Core.Path.{◌≡◌, refl, sym, ap, ap₂, ◌∙◌}
use contract.Lifetimes.{Lfts}
use Rattle.slots.proofs.Twice.{Twice}
use Prim.Native.Nat.{ℕ}
use Rattle.table.specs.Tray.{Tray}
use Rattle.table.specs.Does.{Outcome2}
use Rattle.table.specs.World.{World, at}
use Rattle.tray_lines.specs.declared.acts.Held.{Held}
use Rattle.tray_lines.specs.declared.acts.Trays.{Trays}
use Rattle.tray_lines.specs.declared.feeds.State.{State}
use Rattle.tray_lines.specs.Seen.{world, acted_seen}
use Rattle.tray_lines.specs.Acts.{Acts}
use Rattle.tray_lines.specs.Answers.{Tells, told_seen}
use Rattle.tray_lines.specs.Feeds.{Midway, Kept, midway, Ends, ended_seen, Fills}
use Rattle.tray_lines.proofs.lines as lines·fn
use Rattle.tray_lines.specs.contracts.lines as lines·promise
use Rattle.tray_lines.proofs.lines.U8FromUnsaid.from as number_from·fn
use Rattle.tray_lines.specs.contracts.lines.U8FromUnsaid.from as number_from·promise
use Rattle.tray_lines.proofs.acts as acts·fn
use Rattle.tray_lines.specs.contracts.acts as acts·promise
use Rattle.tray_lines.proofs.answers as answers·fn
use Rattle.tray_lines.specs.contracts.answers as answers·promise
use Rattle.tray_lines.proofs.feeds as feeds·fn
use Rattle.tray_lines.specs.contracts.feeds as feeds·promise

-- what is seen of a result gives the result back
once : {A B : Type 0} (seen : A → B) (back : B → A) → ((a : A) → back (seen a) ≡ a) → (o : B) (a a' : A) → seen a ≡ o → seen a' ≡ o → a ≡ a'
once seen back is o a a' p q = sym (is a) ∙ ap back (p ∙ sym q) ∙ is a'

abbrev ring_of : Tray → Held ℕ
ring_of t = record { head = t.head; len = t.len; slots = t.slots }

abbrev vector_of : Tray → Held Unit
vector_of t = record { head = tt; len = t.len; slots = t.slots }

abbrev trays_of : World → Trays
trays_of w = record {
  rings = record { first = ring_of (at w 0).tray; second = ring_of (at w 1).tray };
  vectors = record { first = vector_of (at w 2).tray; second = vector_of (at w 3).tray };
}

abbrev state_of : Midway Kept → State
state_of m = record { trays = trays_of m.world; line = m.line.bytes; count = m.line.count }

-- In what follows a are the arguments, r and r' are results, and e and e' the arguments as they are at the return.
module _ (κs : Lfts 0) where
  pub start_once : Twice acts·promise.start.ended κs (acts·fn.start.Reads.Learnt κs) (λ r e r' e'. r ≡ r')
  start_once a r r' e e' p q = once world trays_of (λ t. refl) _ r r' p q

  pub on_ring_once : Twice acts·promise.on_ring.ended κs (acts·fn.on_ring.Reads.Learnt κs) (λ r e r' e'. r ≡ r')
  on_ring_once a r r' e e' p q =
      ap₂ (λ (o : Outcome2) n. record { number = o.number; value = o.value; moves = o.moves; slot = n; state = record { first = ring_of o.first; second = ring_of o.second } })
      (p.row ∙ sym q.row) (p.slot ∙ sym q.slot)

  pub on_vector_once : Twice acts·promise.on_vector.ended κs (acts·fn.on_vector.Reads.Learnt κs) (λ r e r' e'. r ≡ r')
  on_vector_once a r r' e e' p q =
      ap₂ (λ (o : Outcome2) n. record { number = o.number; value = o.value; moves = o.moves; slot = n; state = record { first = vector_of o.first; second = vector_of o.second } })
      (p.row ∙ sym q.row) (p.slot ∙ sym q.slot)

  pub act_once : Twice acts·promise.act.ended κs (acts·fn.act.Reads.Learnt κs) (λ r e r' e'. r ≡ r')
  act_once a r r' e e' p q = once acted_seen (λ (x : Acts). record { trays = trays_of x.world; answer = x.answer }) (λ d. refl) _ r r' p q

  pub fresh_once : Twice feeds·promise.fresh.ended κs (feeds·fn.fresh.Reads.Learnt κs) (λ r e r' e'. r ≡ r')
  fresh_once a r r' e e' p q = once midway state_of (λ s. refl) _ r r' p q

  pub ended_once : Twice feeds·promise.ended.ended κs (feeds·fn.ended.Reads.Learnt κs) (λ r e r' e'. r ≡ r')
  ended_once a r r' e e' p q = once ended_seen (λ (x : Ends). record { trays = trays_of x.world; answer = x.answer }) (λ s. refl) _ r r' p q

  pub number_from_once : Twice number_from·promise.ended κs (number_from·fn.Reads.Learnt κs) (λ r e r' e'. r ≡ r')
  number_from_once a r r' e e' p q = p ∙ sym q

module _ (κs : Lfts 1) where
  pub parse_once : Twice lines·promise.parse.ended κs (lines·fn.parse.Reads.Learnt κs) (λ r e r' e'. r ≡ r')
  parse_once a r r' e e' p q = p ∙ sym q

  pub tell_once : Twice answers·promise.tell.ended κs (answers·fn.tell.Reads.Learnt κs) (λ r e r' e'. r ≡ r')
  tell_once a r r' e e' p q = once told_seen (λ (x : Tells). record { trays = trays_of x.world; answer = x.text }) (λ t. refl) _ r r' p q

module _ (κs : Lfts 2) where
  pub feed_once : Twice feeds·promise.feed.ended κs (feeds·fn.feed.Reads.Learnt κs) (λ r e r' e'. (r ≡ r') × (e.1.1.0.now ≡ e'.1.1.0.now))
  feed_once a r r' e e' p q = (
    ap (λ (x : Fills). record { state = state_of x.state; took = x.took; count = x.count }) (p ∙ sym q),
    ap (λ (x : Fills). x.out) (p ∙ sym q),
  )
