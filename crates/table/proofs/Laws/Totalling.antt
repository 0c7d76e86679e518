-- The total in an answer: what the code added and subtracted is what the call put in and took out, so the total is the one that its clause says.
use Prim.Native.Nat.{ℕ, ◌-◌, ◌*◌, ◌^◌, ◌≤◌, ◌<◌}
use mathlib.Core.Path.{◌≡◌, sym, ap, ◌∙◌}
use mathlib.Core.List.{List, [], ◌∷◌}
use native.Mathlib.Omega.{arith}
use lib.ListN.{length, drop, replicate, drop_of_length-le}
use Rattle.slots.specs.Layout.{Kind, entries}
use Rattle.slots.specs.Total.{total, changed, totalled}
use Rattle.slots.proofs.Placing.{length_entries}
use Rattle.slots.proofs.Lays.{entries_until}
use Rattle.slots.proofs.Totals.{total_none, total_one, total_empty, total_append, total_split, total_replicate, same_change, no_change, all_put}
use Rattle.table.specs.Tray.{Tray, list, Cursor}
use Rattle.table.specs.Calls.{Call, resize, Call2, append, split_off, clone, from_iter, Making, from_elem}
use Rattle.table.specs.Table.{after2, remaining}
use Rattle.table.specs.Does.{Outcome, Outcome2, does, does2, made, bare}
use Rattle.table.specs.Ledger.{enters, hands, drops, flow}
use Rattle.table.specs.Totals.{total_after, total_made, total_first, total_second}
use Rattle.table.proofs.Laws.Keeps.{bare_list}
use Rattle.table.proofs.Theorems.Listed.{two_listed, made_listed}
use Rattle.table.proofs.Theorems.Totals.{Changes, by_ledger}

-- A call on one container that is done, with its value.
pub total_is : (k : Kind) (call : Call) (t : Tray) (o : Outcome) (n n' : ℕ) → o ≡ does k call t → o.number ≡ 0
    → Changes (flow call o.value (list k t)) n n' → n' ≡ total_after k call t n
total_is k call t o n n' e zero c = c.is ∙ sym (by_ledger k call t o n e zero).is

-- THE FLOWS, as a proof finds them.
pub put_one : (x n n' : ℕ) → n' ≡ changed n x 0 → Changes (enters (x ∷ [])) n n'
put_one x n n' e = record { is = e ∙ same_change n _ _ _ _ (omega (arith, total_none, total_one x)) }

pub took_one : (v n n' : ℕ) → n' ≡ changed n 0 v → Changes (hands v) n n'
took_one v n n' e = record { is = e ∙ same_change n _ _ _ _ (omega (arith, total_none, total_one v)) }

pub put_and_took : (x v n n' : ℕ) → n' ≡ changed n x v → Changes (record { entered = x ∷ []; handed = v ∷ []; dropped = [] }) n n'
put_and_took x v n n' e = record { is = e ∙ same_change n _ _ _ _ (omega (arith, total_none, total_one x, total_one v)) }

pub put_all : (s : List ℕ) (d n n' : ℕ) → d ≡ total s → n' ≡ changed n d 0 → Changes (enters s) n n'
put_all s d n n' sum e = record { is = e ∙ same_change n _ _ _ _ (omega (arith, total_none)) }

pub took_all : (l : List ℕ) (d n n' : ℕ) → d ≡ total l → n' ≡ changed n 0 d → Changes (drops l) n n'
took_all l d n n' sum e = record { is = e ∙ same_change n _ _ _ _ (omega (arith, total_none)) }

-- a resize to fewer, and to more
module _ (place : ℕ → ℕ) (i m x n n' : ℕ) (s : List ℕ) where
  pub cut_short : (d : ℕ) → i < m → d ≡ total (drop i (entries place m s)) → n' ≡ changed n 0 d → Changes (flow (resize i x) 0 (entries place m s)) n n'
  cut_short d lt sum e =
      let none_more : i - length (entries place m s) ≡ 0 = omega (arith, length_entries place m s) in
      record { is = e ∙ rw none_more (same_change n _ _ _ _ (omega (arith, total_none))) }

  pub put_more : (d : ℕ) → m ≤ i → d ≡ (i - m) * x → n' ≡ changed n d 0 → Changes (flow (resize i x) 0 (entries place m s)) n n'
  put_more d le sum e =
      let long : length (entries place m s) ≡ m = length_entries place m s in
      let none_dropped : drop i (entries place m s) ≡ [] = drop_of_length-le (entries place m s) {i = i} (omega arith) in
      record { is = e ∙ rw (none_dropped, long) (same_change n _ _ _ _ (omega (arith, total_none, total_replicate (i - m) x))) }

-- of one entry, and of a run of them
pub ruleset one_flows = (put_one, took_one, put_and_took)

pub ruleset run_flows = (put_all, took_all, cut_short, put_more)

-- A making that leaves no entries, done or refused, and one that is done and fills the slots with i times x.
pub bare_total : (k : Kind) (m : Making) (slots : List ℕ) (o : Outcome) (n : ℕ) → o ≡ made k m slots → o.tray ≡ bare slots → n ≡ 0 → n ≡ total_made k m slots
unfolding total_made
bare_total k m slots o n e same zero =
    let now : list k (made k m slots).tray ≡ [] = ap (λ o. list k o.tray) (sym e) ∙ ap (list k) same ∙ bare_list k slots in
    rw now (zero ∙ no_change 0 _ (omega arith))

pub filled_total : (k : Kind) (i x : ℕ) (slots : List ℕ) (o : Outcome) (n : ℕ) → o ≡ made k (from_elem i x) slots → o.number ≡ 0 → n ≡ i * x → n < 2 ^ 64
    → n ≡ total_made k (from_elem i x) slots
unfolding total_made
filled_total k i x slots o n e zero is small =
    let now : list k (made k (from_elem i x) slots).tray ≡ replicate i x = ap (λ o. list k o.tray) (sym e) ∙ (made_listed k _ slots o e zero).tray.listed in
    rw (now, total_replicate, total_none) (is ∙ all_put _ (omega arith))

-- A call on two that is done: the totals of the first and of T come to be n' and n2'.
pub record Changes2 (call : Call2) (l l2 : List ℕ) (n n2 n' n2' : ℕ) : Type 0 where
  pub is : n' ≡ totalled n l (after2 call l l2).0
  pub is2 : n2' ≡ totalled n2 l2 (after2 call l l2).1

module _ (k k2 : Kind) (call : Call2) (t t2 : Tray) (o : Outcome2) (n n2 : ℕ) (e : o ≡ does2 k k2 call t t2) where
  pub first_is : (n' n2' : ℕ) → o.number ≡ 0 → Changes2 call (list k t) (list k2 t2) n n2 n' n2' → n' ≡ total_first k k2 call t t2 n
  unfolding total_first
  first_is n' n2' zero c =
      let now : list k (does2 k k2 call t t2).first ≡ (after2 call (list k t) (list k2 t2)).0 = ap (λ o. list k o.first) (sym e) ∙ (two_listed k k2 call t t2 o e zero).first.listed in
      rw now c.is

  pub second_is : (n' n2' : ℕ) → o.number ≡ 0 → Changes2 call (list k t) (list k2 t2) n n2 n' n2' → n2' ≡ total_second k k2 call t t2 n2
  unfolding total_second
  second_is n' n2' zero c =
      let now : list k2 (does2 k k2 call t t2).second ≡ (after2 call (list k t) (list k2 t2)).1 = ap (λ o. list k2 o.second) (sym e) ∙ (two_listed k k2 call t t2 o e zero).second.listed in
      rw now c.is2

  -- one that leaves a container as it was, done or refused
  pub first_same : o.first ≡ t → n < 2 ^ 64 → n ≡ total_first k k2 call t t2 n
  unfolding total_first
  first_same same small =
      let now : (does2 k k2 call t t2).first ≡ t = ap (λ o. o.first) (sym e) ∙ same in
      rw now (no_change n _ small)

  pub second_same : o.second ≡ t2 → n2 < 2 ^ 64 → n2 ≡ total_second k k2 call t t2 n2
  unfolding total_second
  second_same same small =
      let now : (does2 k k2 call t t2).second ≡ t2 = ap (λ o. o.second) (sym e) ∙ same in
      rw now (no_change n2 _ small)

-- T's entries go over, as they add up: not T's total
pub goes_over : (l l2 : List ℕ) (n n2 n' n2' : ℕ) → n' ≡ changed n (total l2) 0 → n2' ≡ changed n2 0 (total l2) → Changes2 append l l2 n n2 n' n2'
goes_over l l2 n n2 n' n2' e e2 = record {
  is = e ∙ same_change n _ _ _ _ (omega (arith, total_append l l2));
  is2 = e2 ∙ same_change n2 _ _ _ _ (omega (arith, total_none));
}

-- to T, which is empty, go the entries from position i on
pub splits : (l : List ℕ) (place : ℕ → ℕ) (m i n n2 n' n2' : ℕ) (z : List ℕ) → m ≡ 0 → n' ≡ changed n 0 (total (drop i l)) → n2' ≡ changed n2 (total (drop i l)) 0
    → Changes2 (split_off i) l (entries place m z) n n2 n' n2'
splits l place m i n n2 n' n2' z empty e e2 = record {
  is = e ∙ same_change n _ _ _ _ (omega (arith, total_split i l));
  is2 = e2 ∙ same_change n2 _ _ _ _ (omega (arith, total_empty (entries place m z) (length_entries place m z ∙ empty)));
}

-- to T, which is empty, a copy
pub copies : (l : List ℕ) (place : ℕ → ℕ) (m d n n2 n2' : ℕ) (z : List ℕ) → n < 2 ^ 64 → m ≡ 0 → d ≡ total l → n2' ≡ changed n2 d 0 → Changes2 clone l (entries place m z) n n2 n n2'
copies l place m d n n2 n2' z small empty sum e2 = record {
  is = no_change n _ small;
  is2 = e2 ∙ same_change n2 _ _ _ _ (omega (arith, total_empty (entries place m z) (length_entries place m z ∙ empty)));
}

-- to T, which is empty, what remains of a cursor: the entries up to its back, from its front on
pub copies_rest : (u : Cursor) (place place2 : ℕ → ℕ) (m m2 d n n2 n2' : ℕ) (s z : List ℕ) → n < 2 ^ 64 → u.back ≤ m → m2 ≡ 0
    → d ≡ total (drop u.front (entries place u.back s)) → n2' ≡ changed n2 d 0 → Changes2 (from_iter u) (entries place m s) (entries place2 m2 z) n n2 n n2'
copies_rest u place place2 m m2 d n n2 n2' s z small fits empty sum e2 =
    let l : List ℕ = entries place m s in
    let rest : remaining u l ≡ drop u.front (entries place u.back s) = entries_until place m u.front u.back s fits in
    record {
      is = no_change n _ small;
      is2 = e2 ∙ same_change n2 _ _ _ _ (omega (arith, ap total rest, total_empty (entries place2 m2 z) (length_entries place2 m2 z ∙ empty)));
    }
