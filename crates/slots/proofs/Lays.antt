-- Numbers laid over any placing: a loop's turn, a ring's run made of runs of slots, another ring's entries, and what the longer list makes of the
-- slots.
use Rattle.std.proofs.Common.{◌≡◌, ℕ, ◌+◌, ◌-◌, ◌%◌, ◌<◌, ◌≤◌, List, [], ◌++◌, length, get_or, take, drop, set, replicate, sym, refl, ap, ◌∙◌, ⊎_elim, mod-eq_of_lt, arith, length-append, length-drop, length-set, length-take, get_or-drop, take_all, get_or-take, get_or-append-add, ext_get_or, drop_at}
use native.Mathlib.Nat.{add-mod_right}
use lib.ListN.{get_or-replicate, get_or-append}
use Rattle.slots.specs.Layout.{Kind, ring, vector, place, slot_of, pos_of, itself, entries, relaid}
use Rattle.slots.specs.Shift.{Reach, Filled}
use Rattle.slots.specs.Copy.{Laid}
use Rattle.slots.proofs.Words.{below?}
use Rattle.slots.proofs.Placing.{Placing, off_run, placing, seen, unseen, slot_inside, slot_slot, length_entries, entry}
use Rattle.slots.proofs.Relaid.{laid}
use Rattle.slots.proofs.Shifts.{at_each}
use Rattle.slots.proofs.Runs.{slot_run, slot_wraps}

pub lay_none : (place : ℕ → ℕ) (at : ℕ) (s old : List ℕ) → Laid place at 0 s old old
lay_none place at s old = record { long = refl; low = λ p h. refl; held = λ e h. absurd (omega arith); high = λ p h g. refl }

-- a fill lays the same number again and again
pub fill_lays : (place : ℕ → ℕ) (at count x : ℕ) (old new : List ℕ) → Filled place at (at + count) x old new → Laid place at count (replicate count x) old new
fill_lays place at count x old new m = record {
  long = m.long;
  low = m.low;
  held = λ e h. m.filled (at + e) (omega arith) (omega arith) ∙ sym (get_or-replicate count e x 0 h);
  high = m.high;
}

-- one more number
pub run_lay_more : (s u₀ u : List ℕ) (at count k : ℕ) → Laid itself at k s u₀ u → k < count → at + count ≤ length u₀
    → Laid itself at (k + 1) s u₀ (set u (at + k) (get_or s k 0))
run_lay_more s u₀ u at count k m l t =
    let p = placing vector (length u₀) 0 (omega arith) in
    let x : ℕ = get_or s k 0 in
    record {
      long = length-set u (at + k) x ∙ m.long;
      low = λ j h. unseen u p m.long (at + k) j x (omega arith) (omega arith) (omega arith) ∙ m.low j h;
      held = λ j h.
          ⊎_elim
          (λ (lt : j < k). unseen u p m.long (at + k) (at + j) x (omega arith) (omega arith) (omega arith) ∙ m.held j lt)
          (λ (le : k ≤ j). let e : j ≡ k = omega arith in rw e (seen u p m.long (at + k) x (omega arith)))
          (below? j k);
      high = λ j h g. unseen u p m.long (at + k) j x (omega arith) g (omega arith) ∙ m.high j (omega arith) g;
    }

pub run_lay_all : (s u₀ u : List ℕ) (at count k : ℕ) → Laid itself at k s u₀ u → k ≤ count → count ≤ k → Laid itself at count s u₀ u
run_lay_all s u₀ u at count k m l t = let e : k ≡ count = omega arith in rw e at m

-- a part of a list from a on, as a lent `&s[a..]` reads: number e of it is number a + e of the list
abbrev pub from_on : ℕ → List ℕ → List ℕ
from_on a s = take (length s - a) (drop a s)

pub get_d_on : (a : ℕ) (s : List ℕ) (e : ℕ) → e < length s - a → get_or (from_on a s) e 0 ≡ get_or s (a + e) 0
get_d_on a s e h = get_or-take (length s - a) (drop a s) e 0 h ∙ get_or-drop a s e 0

-- the same numbers from another list
lay_same : (place : ℕ → ℕ) (at count : ℕ) (s s' old new : List ℕ) → ((e : ℕ) → e < count → get_or s e 0 ≡ get_or s' e 0) → Laid place at count s old new
    → Laid place at count s' old new
lay_same place at count s s' old new same m = record { long = m.long; low = m.low; held = λ e h. m.held e h ∙ same e h; high = m.high }

-- two that meet are one
lay_join : (place : ℕ → ℕ) (at a count : ℕ) (s old mid new : List ℕ) → a ≤ count → at + count ≤ length old → Laid place at a s old mid
    → Laid place (at + a) (count - a) (drop a s) mid new → Laid place at count s old new
lay_join place at a count s old mid new ha room m n = record {
  long = n.long ∙ m.long;
  low = λ p h. n.low p (omega arith) ∙ m.low p h;
  held = λ e h.
      ⊎_elim
      (λ (lt : e < a). n.low (at + e) (omega arith) ∙ m.held e lt)
      (λ (ge : a ≤ e).
      let q : at + e ≡ at + a + (e - a) = omega arith in
      let r : a + (e - a) ≡ e = omega arith in
      rw q (n.held (e - a) (omega arith)) ∙ get_or-drop a s (e - a) 0 ∙ ap (λ k. get_or s k 0) r)
      (below? e a);
  high = λ p h g. n.high p (omega arith) (omega (arith, m.long)) ∙ m.high p (omega arith) g;
}

-- one list behind another
pub lay_append : (place : ℕ → ℕ) (at : ℕ) (a b old mid new : List ℕ) → at + (length a + length b) ≤ length old → Laid place at (length a) a old mid
    → Laid place (at + length a) (length b) b mid new → Laid place at (length a + length b) (a ++ b) old new
lay_append place at a b old mid new fits m n =
    let rest : length a + length b - length a ≡ length b = omega arith in
    lay_join place at (length a) (length a + length b) (a ++ b) old mid new (omega arith) fits
    (lay_same place at (length a) a (a ++ b) old mid (λ e h. sym (get_or-append a b 0 e h)) m)
    (rw (rest, drop_at a b (length a) refl) n)

-- a run of slots that holds a run of positions: positions at + e, e < count, stand in slots a + e
lay_run : (place pos : ℕ → ℕ) (s old new : List ℕ) → Placing (length old) place pos → (at count a : ℕ) → at + count ≤ length old
    → a + count ≤ length old → ((e : ℕ) → e < count → place (at + e) ≡ a + e) → Laid itself a count s old new → Laid place at count s old new
lay_run place pos s old new p at count a fits room run m =
    let off = off_run old new p at count a fits run m.low m.high in
    record {
      long = m.long;
      low = λ j h. off j (omega arith) (λ q r. omega arith);
      held = λ e h. rw (run e h) (m.held e h);
      high = λ j h g. off j g (λ q r. omega arith);
    }

-- The two ways of a ring's, as a proof finds them: a is the slot of the first position.
module _ (h at count a : ℕ) (s old new : List ℕ) (reach : Reach (length old) h at (at + count)) (start : a ≡ slot_of (length old) h at) where
  ringed : Placing (length old) (slot_of (length old) h) (pos_of (length old) h)
  ringed = placing ring _ h (omega arith)

  within : a < length old
  within = rw start (slot_inside (length old) h at reach.inside)

  before : (e : ℕ) → e < length old - a → slot_of (length old) h (at + e) ≡ a + e
  before e lt = rw start (slot_run (length old) h at e (omega arith))

  pub lay_straight : count ≤ length old - a → Laid itself a count s old new → Laid (slot_of (length old) h) at count s old new
  lay_straight le m =
      let w = within in
      lay_run (slot_of (length old) h) _ s old new ringed at count a reach.last (omega arith) (λ e lt. before e (omega arith)) m

  pub lay_around : (mid : List ℕ) → length old - a < count → Laid itself a (length old - a) s old mid
      → count ≤ length s → Laid itself 0 (count - (length old - a)) (from_on (length old - a) s) mid new → Laid (slot_of (length old) h) at count s old new
  lay_around mid past m enough m' =
      let w = within in
      let place : ℕ → ℕ = slot_of (length old) h in
      let gap : ℕ = length old - a in
      let r = reach.last in
      let first : Laid place at gap s old mid = lay_run place _ s old mid ringed at gap a (omega arith) (omega arith) before m in
      let again : Placing (length mid) place (pos_of (length old) h) = rw m.long ringed in
      let more : Laid place (at + gap) (count - gap) (drop gap s) mid new =
      lay_run place _ (drop gap s) mid new again (at + gap) (count - gap) 0 (omega (arith, m.long)) (omega (arith, m.long))
      (λ e lt. ap place (let q : at + gap + e ≡ at + (gap + e) = omega arith in q) ∙ slot_wraps (length old) h at (gap + e) e (omega arith) (omega arith) ∙ omega arith)
      (lay_same itself 0 (count - gap) _ _ mid new (λ e h. get_d_on gap s e (omega arith) ∙ sym (get_or-drop gap s e 0)) m') in
      lay_join place at gap count s old mid new (omega arith) r first more

-- a ring's entries stand in the slots from its head on, and past the last from slot 0 on
pub slot_near : (c h e : ℕ) → h + e < c → slot_of c h e ≡ h + e
unfolding slot_of
slot_near c h e lt = mod-eq_of_lt lt

pub slot_far : (c h e k : ℕ) → h + e ≡ k + c → k < c → slot_of c h e ≡ k
unfolding slot_of
slot_far c h e k q lt = ap (λ k. k % c) q ∙ add-mod_right k c ∙ mod-eq_of_lt lt

-- The two ways of carrying another ring's entries.
module _ (h at first count : ℕ) (theirs old new : List ℕ) (inside : first < length theirs) (fits : count ≤ length theirs) where
  near : (e : ℕ) → e < count → e < length theirs - first → get_or (from_on first theirs) e 0 ≡ get_or (entries (slot_of (length theirs) first) count theirs) e 0
  near e g lt =
      get_d_on first theirs e lt ∙ ap (λ s. get_or theirs s 0) (sym (slot_near (length theirs) first e (omega arith))) ∙ sym (entry _ count theirs e g)

  pub carry_straight : count ≤ length theirs - first → Laid (slot_of (length old) h) at count (from_on first theirs) old new
      → Laid (slot_of (length old) h) at count (entries (slot_of (length theirs) first) count theirs) old new
  carry_straight le m = lay_same _ at count _ _ old new (λ e g. near e g (omega arith)) m

  pub carry_around : (mid : List ℕ) → length theirs - first < count → Reach (length old) h at (at + count)
      → Laid (slot_of (length old) h) at (length theirs - first) (from_on first theirs) old mid
      → Laid (slot_of (length mid) h) (at + (length theirs - first)) (count - (length theirs - first)) theirs mid new
      → Laid (slot_of (length old) h) at count (entries (slot_of (length theirs) first) count theirs) old new
  carry_around mid past reach m m' =
      let place : ℕ → ℕ = slot_of (length old) h in
      let gap : ℕ = length theirs - first in
      let all : List ℕ = entries (slot_of (length theirs) first) count theirs in
      let far : (e : ℕ) → e < count - gap → get_or theirs e 0 ≡ get_or (drop gap all) e 0 =
      λ e g.
      ap (λ s. get_or theirs s 0) (sym (slot_far (length theirs) first (gap + e) e (omega arith) (omega arith)))
      ∙ sym (get_or-drop gap all e 0 ∙ entry _ count theirs (gap + e) (omega arith)) in
      let more : Laid place (at + gap) (count - gap) theirs mid new = rw m.long at m' in
      lay_join place at gap count all old mid new (omega arith) reach.last
      (lay_same place at gap _ _ old mid (λ e g. near e (omega arith) g) m) (lay_same place (at + gap) (count - gap) _ _ mid new far more)

-- a part of a ring's list is the list of a ring whose head is the part's first slot
pub entries_part : (c h n i m : ℕ) (s : List ℕ) → i + m ≤ n → take m (drop i (entries (slot_of c h) n s)) ≡ entries (slot_of c (slot_of c h i)) m s
entries_part c h n i m s fits =
    let l : List ℕ = entries (slot_of c h) n s in
    let long : length (take m (drop i l)) ≡ m = simp (length-take, length-drop, length_entries) (omega arith) in
    ext_get_or 0 _ _ (long ∙ sym (length_entries _ m s))
    (λ j lt.
    get_or-take m (drop i l) j 0 (omega arith)
    ∙ get_or-drop i l j 0
    ∙ entry _ n s (i + j) (omega arith)
    ∙ ap (λ k. get_or s k 0) (sym (slot_slot c h i j))
    ∙ sym (entry _ m s j (omega arith)))

pub entries_rest : (c h n i : ℕ) (s : List ℕ) → i ≤ n → drop i (entries (slot_of c h) n s) ≡ entries (slot_of c (slot_of c h i)) (n - i) s
entries_rest c h n i s fits =
    sym (take_all (n - i) (drop i (entries (slot_of c h) n s)) (simp (length-drop, length_entries) (omega arith))) ∙ entries_part c h n i (n - i) s (omega arith)

-- what stands from position i on before position b
pub entries_until : (place : ℕ → ℕ) (n i b : ℕ) (s : List ℕ) → b ≤ n → take (b - i) (drop i (entries place n s)) ≡ drop i (entries place b s)
entries_until place n i b s fits =
    let l : List ℕ = entries place n s in
    let long : length (take (b - i) (drop i l)) ≡ b - i = simp (length-take, length-drop, length_entries) (omega arith) in
    ext_get_or 0 _ _ (long ∙ sym (simp (length-drop, length_entries) refl))
    (λ j lt.
    get_or-take (b - i) (drop i l) j 0 (omega arith)
    ∙ get_or-drop i l j 0
    ∙ entry place n s (i + j) (omega arith)
    ∙ sym (get_or-drop i (entries place b s) j 0 ∙ entry place b s (i + j) (omega arith)))

-- what is laid from another ring's positions from i up to n, the first of which stands in slot a; and where these are all of them
pub lay_from : (place : ℕ → ℕ) (at c h i n a : ℕ) (s old new : List ℕ) → i ≤ n → a ≡ slot_of c h i → Laid place at (n - i) (entries (slot_of c a) (n - i) s) old new
    → Laid place at (n - i) (drop i (entries (slot_of c h) n s)) old new
lay_from place at c h i n a s old new le e m = rw (entries_rest c h n i s le, ← e) m

pub lay_all : (place : ℕ → ℕ) (at n : ℕ) (s old new : List ℕ) → Laid place at (n - 0) s old new → Laid place at n s old new
lay_all place at n s old new m = let all : n - 0 ≡ n = omega arith in rw all at m

-- with head 0 a ring's position is its slot, as a vector's is
lay_ringed : (at count : ℕ) (s old new : List ℕ) → at + count ≤ length old → Laid itself at count s old new → Laid (slot_of (length old) 0) at count s old new
lay_ringed at count s old new fits m =
    let plain : (j : ℕ) → j < length old → slot_of (length old) 0 j ≡ j = λ j h. slot_near (length old) 0 j (omega arith) ∙ omega arith in
    record {
      long = m.long;
      low = λ j h. rw (plain j (omega arith)) (m.low j h);
      held = λ e h. rw (plain (at + e) (omega arith)) (m.held e h);
      high = λ j h g. rw (plain j g) (m.high j h g);
    }

pub lay_placed : (k : Kind) (count : ℕ) (s old new : List ℕ) → count ≤ length old → Laid itself 0 count s old new → Laid (place k (length old) 0) 0 count s old new
lay_placed ring count s old new fits m = lay_ringed 0 count s old new (omega arith) m
lay_placed vector count s old new fits m = m

-- a part of a vector's entries, or the rest of them: its slots from i on
pub lay_part : (place : ℕ → ℕ) (at n i m : ℕ) (s old new : List ℕ) → n ≤ length s → i + m ≤ n → Laid place at m (from_on i s) old new
    → Laid place at m (take m (drop i (entries itself n s))) old new
lay_part place at n i m s old new fits part laid =
    lay_same place at m _ _ old new
    (λ e h.
    get_d_on i s e (omega arith)
    ∙ sym (get_or-take m (drop i (entries itself n s)) e 0 h ∙ get_or-drop i (entries itself n s) e 0 ∙ entry itself n s (i + e) (omega arith))) laid

pub lay_rest : (place : ℕ → ℕ) (at n i : ℕ) (s old new : List ℕ) → n ≤ length s → i ≤ n → Laid place at (n - i) (from_on i s) old new
    → Laid place at (n - i) (drop i (entries itself n s)) old new
lay_rest place at n i s old new fits le m =
    rw (take_all (n - i) (drop i (entries itself n s)) (simp (length-drop, length_entries) (omega arith))) at (lay_part place at n i (n - i) s old new fits (omega arith) m)

-- Laying leaves one content of the slots.
pub one_lay : (place pos : ℕ → ℕ) (at count : ℕ) (s old a b : List ℕ) → Placing (length old) place pos → Laid place at count s old a → Laid place at count s old b → a ≡ b
one_lay place pos at count s old a b p m m' =
    at_each place pos (length old) a b p m.long m'.long (λ j l.
    ⊎_elim
    (λ low. m.low j low ∙ sym (m'.low j low))
    (λ (ge : at ≤ j).
    ⊎_elim
    (λ (lt : j < at + count). let e : j ≡ at + (j - at) = omega arith in rw e (m.held (j - at) (omega arith) ∙ sym (m'.held (j - at) (omega arith))))
    (λ high. m.high j high l ∙ sym (m'.high j high l))
    (below? j (at + count)))
    (below? j at))

-- The list joined with s.
pub relaid_append : (place pos : ℕ → ℕ) (n count : ℕ) (s slots out : List ℕ) → Placing (length slots) place pos → length s ≡ count → n + count ≤ length slots
    → Laid place n count s slots out → out ≡ relaid pos pos n (entries place n slots ++ s) slots
relaid_append place pos n count s slots out p all fits m =
    let l : List ℕ = entries place n slots in
    let many : length l ≡ n = length_entries place n slots in
    let long : length (l ++ s) ≡ n + length s = length-append l s ∙ ap (λ k. k + length s) many in
    laid pos pos place n _ slots out p m.long
    (λ j h lt.
    ⊎_elim
    (λ (less : j < n). m.low j less ∙ sym (get_or-append l s 0 j (omega arith) ∙ entry place n slots j less))
    (λ (ge : n ≤ j).
    let q : j ≡ n + (j - n) = omega arith in
    let q' : length l + (j - n) ≡ j = omega arith in
    ap (λ k. get_or out (place k) 0) q ∙ m.held (j - n) (omega arith) ∙ sym (ap (λ k. get_or (l ++ s) k 0) (sym q') ∙ get_or-append-add l s (j - n) 0))
    (below? j n))
    (λ j h le w. absurd (let k = (rw (p.back j h) at w) in omega arith))
    (λ j h le w. m.high j (omega arith) h)

-- An empty list filled with s: no slot was occupied, whatever the head was.
pub relaid_fresh : (was place pos : ℕ → ℕ) (count : ℕ) (s slots out : List ℕ) → Placing (length slots) place pos → length s ≡ count
    → Laid place 0 count s slots out → out ≡ relaid was pos 0 s slots
relaid_fresh was place pos count s slots out p all m =
    laid was pos place 0 s slots out p m.long
    (λ j h lt. let q : j ≡ 0 + j = omega arith in ap (λ k. get_or out (place k) 0) q ∙ m.held j (omega arith))
    (λ j h le w. absurd (omega arith))
    (λ j h le w. m.high j (omega arith) h)

-- All entries gone, wherever the head is put.
pub relaid_clear : (was place next now : ℕ → ℕ) (n : ℕ) (slots out : List ℕ) → Placing (length slots) place was → Placing (length slots) next now
    → Filled place 0 n 0 slots out → out ≡ relaid was now n [] slots
relaid_clear was place next now n slots out p q m =
    laid was now next n [] slots out q m.long
    (λ j h lt. absurd (omega arith))
    (λ j h le w. rw (p.forth (next j) (q.inside j h)) at (m.filled (was (next j)) (omega arith) w))
    (λ j h le w. rw (p.forth (next j) (q.inside j h)) at (m.high (was (next j)) w (p.below (next j) (q.inside j h))))
