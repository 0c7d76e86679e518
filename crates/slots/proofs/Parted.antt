-- A ring's positions as two runs of its slots: one that ends at the last slot or before, and one from slot 0, which may be empty.
use Rattle.std.proofs.Common.{◌≡◌, ℕ, ◌+◌, ◌-◌, ◌<◌, ◌≤◌, List, ◌++◌, length, get_or, take, drop, set, sym, ap, ◌∙◌, ⊎_elim, arith, append-nil, length-drop, length-take, take-take, ext_get_or}
use Rattle.slots.specs.Layout.{vector, slot_of, itself, entries}
use Rattle.slots.specs.Shift.{MovedDown, MovedUp, Filled, Reach, Span, Parted}
use Rattle.slots.specs.Copy.{Laid}
use Rattle.slots.specs.Total.{total}
use Rattle.slots.proofs.Words.{below?}
use Rattle.slots.proofs.Placing.{placing, length_entries, entry}
use Rattle.slots.proofs.Runs.{down_straight, down_around, up_straight, up_around}
use Rattle.slots.proofs.Fills.{fill_none, fill_straight, fill_around, one_fill}
use Rattle.slots.proofs.Lays.{from_on, lay_none, lay_straight, lay_around, lay_append, one_lay}
use Rattle.slots.proofs.Compares.{entries_first, ring_straight, ring_around}
use Rattle.slots.proofs.Totals.{ring_from, total_append}
use Rattle.slots.proofs.Brings.{lent}

-- What is read: the entries are those of the one run and then those of the other.
module _ (h from to start end rest : ℕ) (s : List ℕ) (reach : Reach (length s) h from to) (p : Parted (length s) h from to start end rest) where
  -- the first of so many
  first_run : (n : ℕ) → n ≤ length s - start → entries itself n (from_on start s) ≡ take n (drop start s)
  first_run n le =
      entries_first n (from_on start s) (simp (length-take, length-drop) (omega arith)) ∙ take-take n (length s - start) (drop start s) (omega arith)

  begun : drop from (entries (slot_of (length s) h) to s) ≡ entries (slot_of (length s) start) (to - from) s
  begun = ring_from h from to start s reach.ordered reach.last p.first p.inside

  pub runs_are : take (end - start) (drop start s) ++ take rest s ≡ drop from (entries (slot_of (length s) h) to s)
  runs_are =
      ⊎_elim
      (λ (some : 0 < rest).
      let e : end ≡ length s = p.around some in
      let q : rest ≡ to - from - (length s - start) = omega arith in
      rw (e, q)
      (sym
      (begun
      ∙ ring_around start (to - from) s (omega arith) (omega arith) (omega arith)
      ∙ ap (λ l. l ++ entries itself (to - from - (length s - start)) s) (first_run (length s - start) (omega arith))
      ∙ ap (λ l. take (length s - start) (drop start s) ++ l) (entries_first (to - from - (length s - start)) s (omega arith)))))
      (λ (none : rest ≤ 0).
      let n : end - start ≡ to - from = omega arith in
      let z : rest ≡ 0 = omega arith in
      rw (n, z)
      (append-nil _ ∙ sym (begun ∙ ring_straight start (to - from) s (omega arith) (omega arith) (omega arith) ∙ first_run (to - from) (omega arith))))
      (below? 0 rest)

  pub sum_parted : (a b : ℕ) → a ≡ total (take (end - start) (drop start s)) → b ≡ total (take rest s) → a + b ≡ total (drop from (entries (slot_of (length s) h) to s))
  sum_parted a b e e2 = rw (e, e2) (sym (total_append _ _) ∙ ap total runs_are)

  -- one run alone
  pub sum_one : rest ≡ 0 → (a : ℕ) → a ≡ total (drop start (entries itself end s)) → a ≡ total (drop from (entries (slot_of (length s) h) to s))
  sum_one none a e = e ∙ ap total (sym (lent start end s p.run p.fits)) ∙ ap total (sym (append-nil _) ∙ (rw none at runs_are))

  -- the second run added up after the first was filled, which left it as it was
  pub sum_parted_filled : (a b x : ℕ) (mid : List ℕ) → Filled itself start end x s mid → a ≡ total (drop start (entries itself end s))
      → b ≡ total (drop 0 (entries itself rest mid)) → a + b ≡ total (drop from (entries (slot_of (length s) h) to s))
  sum_parted_filled a b x mid m e e2 =
      let few : rest ≤ start = ⊎_elim (λ (some : 0 < rest). let q = p.around some in omega arith) (λ (none : rest ≤ 0). omega arith) (below? 0 rest) in
      let same : entries itself rest mid ≡ entries itself rest s =
      ext_get_or 0 _ _ (length_entries itself rest mid ∙ sym (length_entries itself rest s))
      (λ j g. let lt : j < rest = (rw (length_entries _ rest mid) at g) in entry itself rest mid j lt ∙ m.low j (omega arith) ∙ sym (entry itself rest s j lt)) in
      sum_parted a b (e ∙ ap total (sym (lent start end s p.run p.fits))) (e2 ∙ ap total (same ∙ entries_first rest s (omega arith)))

  pub bring_parted : (old mid new : List ℕ) → to - from ≤ length old
      → Laid itself 0 (length (take (end - start) (drop start s))) (take (end - start) (drop start s)) old mid
      → Laid itself (end - start) (length (take rest s)) (take rest s) mid new
      → Laid itself 0 (to - from) (drop from (entries (slot_of (length s) h) to s)) old new
  bring_parted old mid new room m n =
      let long : length (take (end - start) (drop start s)) ≡ end - start = simp (length-take, length-drop) (omega arith) in
      let more : length (take rest s) ≡ rest = simp length-take (omega arith) in
      let behind : end - start ≡ 0 + length (take (end - start) (drop start s)) = omega (arith, long) in
      let all : length (take (end - start) (drop start s)) + length (take rest s) ≡ to - from = omega (arith, long, more) in
      rw (← runs_are) (rw all at (lay_append itself 0 _ _ old mid new (omega (arith, long, more)) m (rw behind at n)))

-- What is written: a run of slots is a run of positions, which may be all of them.
module _ (h from to start end rest x : ℕ) (old new : List ℕ) (reach : Reach (length old) h from to) (p : Parted (length old) h from to start end rest) where
  pub fill_one : rest ≡ 0 → Filled itself start end x old new → Filled (slot_of (length old) h) from to x old new
  fill_one none m =
      let e : end ≡ start + (to - from) = omega arith in
      fill_straight h from to start x old new reach p.first (omega arith) (rw e at m)

-- the same of numbers that are laid
module _ (h at count start end rest : ℕ) (s old new : List ℕ) (reach : Reach (length old) h at (at + count)) (p : Parted (length old) h at (at + count) start end rest) where
  pub lay_one : rest ≡ 0 → Laid itself start (end - start) s old new → Laid (slot_of (length old) h) at count s old new
  lay_one none m =
      let e : end - start ≡ count = omega arith in
      lay_straight h at count start s old new reach p.first (omega arith) (rw e at m)

-- Past the last slot a second run goes on at slot 0, and it may be empty.
module _ (h from to start end rest : ℕ) (old mid new : List ℕ) (reach : Reach (length old) h from to) (p : Parted (length old) h from to start end rest) where
  pub fill_parted : (x : ℕ) → Filled itself start end x old mid → Filled itself 0 rest x mid new → Filled (slot_of (length old) h) from to x old new
  fill_parted x m n =
      ⊎_elim
      (λ (some : 0 < rest).
      let e : end ≡ length old = p.around some in
      let q : rest ≡ to - from - (length old - start) = omega arith in
      fill_around h from to start x old new reach p.first mid (omega arith) (rw e at m) (rw q at n))
      (λ (none : rest ≤ 0).
      let z : rest ≡ 0 = omega arith in
      let same : new ≡ mid = one_fill itself itself 0 0 x mid new mid (placing vector (length mid) 0 (omega arith)) (rw z at n) (fill_none itself 0 x mid) in
      rw same (fill_one h from to start end rest x old mid reach p z m))
      (below? 0 rest)

-- the same of numbers that are laid
module _ (h at count start end rest : ℕ) (s old mid new : List ℕ) (reach : Reach (length old) h at (at + count)) (p : Parted (length old) h at (at + count) start end rest) where
  pub lay_parted : count ≤ length s → Laid itself start (end - start) s old mid → Laid itself 0 rest (from_on (end - start) s) mid new → Laid (slot_of (length old) h) at count s old new
  lay_parted enough m n =
      ⊎_elim
      (λ (some : 0 < rest).
      let e : end ≡ length old = p.around some in
      let q : rest ≡ count - (length old - start) = omega arith in
      lay_around h at count start s old new reach p.first mid (omega arith) (rw e at m) enough (rw (e, q) at n))
      (λ (none : rest ≤ 0).
      let z : rest ≡ 0 = omega arith in
      let same : new ≡ mid = one_lay itself itself 0 0 _ mid new mid (placing vector (length mid) 0 (omega arith)) (rw z at n) (lay_none itself 0 _ mid) in
      rw same (lay_one h at count start end rest s old mid reach p z m))
      (below? 0 rest)

-- Shifts of the positions from .. to and of position `to`: of one run, or of two and across from the last slot to slot 0.
module _ (h from to start end rest : ℕ) (old new : List ℕ) (span : Span (length old) h from to) (p : Parted (length old) h from (to + 1) start end rest) where
  pub down_one : rest ≡ 0 → MovedDown itself start (end - 1) old new → MovedDown (slot_of (length old) h) from to old new
  down_one none m =
      let e : end - 1 ≡ start + (to - from) = omega arith in
      down_straight h from to start old new span p.first (omega arith) (rw e at m)

  pub down_two : (mid : List ℕ) → 0 < rest → MovedDown itself start (end - 1) old mid → MovedDown itself 0 (rest - 1) (set mid (end - 1) (get_or mid 0 0)) new
      → MovedDown (slot_of (length old) h) from to old new
  down_two mid some m n =
      let e : end ≡ length old = p.around some in
      let q : rest - 1 ≡ to - from - (length old - start) = omega arith in
      down_around h from to start old new span p.first (omega arith) mid (rw e at m) (rw (e, q) at n)

  pub up_one : rest ≡ 0 → MovedUp itself start (end - 1) old new → MovedUp (slot_of (length old) h) from to old new
  up_one none m =
      let e : end - 1 ≡ start + (to - from) = omega arith in
      up_straight h from to start old new span p.first (omega arith) (rw e at m)

  pub up_two : (mid : List ℕ) → 0 < rest → MovedUp itself 0 (rest - 1) old mid → MovedUp itself start (end - 1) (set mid 0 (get_or mid (end - 1) 0)) new
      → MovedUp (slot_of (length old) h) from to old new
  up_two mid some m n =
      let e : end ≡ length old = p.around some in
      let q : rest - 1 ≡ to - from - (length old - start) = omega arith in
      up_around h from to start old new span p.first (omega arith) mid (rw q at m) (rw e at n)
