-- What a comparison by runs tells: two lists agree number by number, block by block or half by half, and a ring's entries stand in one part of its
-- slots or in two that meet at slot 0.
use Rattle.std.proofs.Common.{◌≡◌, ℕ, ◌+◌, ◌-◌, ◌<◌, ◌≤◌, Bool, true, false, ◌&&◌, eqb, List, [], ◌∷◌, ◌++◌, length, get_or, take, drop, sym, refl, ap, ◌∙◌, ⊎_elim, add-one, arith, length-append, length-drop, length-take-le, get_or-drop, get_or-take, take-suc, take-take, take_at, get_or-append-add, ext_get_or, take-add, drop_at, eqb-true}
use borrow.Author.Tests.{eqb-false}
use lib.ListN.{get_or-append}
use Rattle.slots.specs.Layout.{slot_of, itself, entries}
use Rattle.slots.specs.Compare.{Tells}
use Rattle.slots.proofs.Words.{below?}
use Rattle.slots.proofs.Placing.{length_entries, entry, slot_slot}
use Rattle.slots.proofs.Lays.{from_on, get_d_on, slot_near, slot_far}

tells_yes : (l l2 : List ℕ) → l ≡ l2 → Tells true l l2
tells_yes l l2 e = record { yes = λ t. e; no = λ f. absurd (let z : ◌≡◌ {A = ℕ} 0 1 = cc in omega arith) }

tells_no : (l l2 : List ℕ) → (l ≡ l2 → ⊥) → Tells false l l2
tells_no l l2 ne = record { yes = λ t. cc; no = λ f. ne }

-- A comparison tells one thing.
pub one_tells : (b b' : Bool) (l l2 : List ℕ) → Tells b l l2 → Tells b' l l2 → b ≡ b'
one_tells true true l l2 m m' = refl
one_tells true false l l2 m m' = absurd (m'.no refl (m.yes refl))
one_tells false true l l2 m m' = absurd (m.no refl (m'.yes refl))
one_tells false false l l2 m m' = refl

-- Lists that are not as long as each other differ.
pub tells_long : (l l2 : List ℕ) → (length l ≡ length l2 → ⊥) → Tells false l l2
tells_long l l2 ne = tells_no l l2 (λ e. ne (ap length e))

-- Two lists that are joined, of which the halves were compared.
join_differs : (l l2 r r2 : List ℕ) → length l ≡ length l2 → (l ≡ l2 → ⊥) → l ++ r ≡ l2 ++ r2 → ⊥
join_differs l l2 r r2 long ne q = ne (sym (take_at l r (length l2) long) ∙ ap (take (length l2)) q ∙ take_at l2 r2 (length l2) refl)

join_rest : (l l2 r r2 : List ℕ) → length l ≡ length l2 → l ++ r ≡ l2 ++ r2 → r ≡ r2
join_rest l l2 r r2 long q = sym (drop_at l r (length l2) long) ∙ ap (drop (length l2)) q ∙ drop_at l2 r2 (length l2) refl

tells_join : (a b : Bool) (l l2 r r2 : List ℕ) → length l ≡ length l2 → Tells a l l2 → Tells b r r2 → Tells (a && b) (l ++ r) (l2 ++ r2)
tells_join false b l l2 r r2 long m m2 = tells_no _ _ (join_differs l l2 r r2 long (m.no refl))
tells_join true true l l2 r r2 long m m2 = let e = m.yes refl in let e2 = m2.yes refl in tells_yes _ _ (cc)
tells_join true false l l2 r r2 long m m2 = tells_no _ _ (λ q. m2.no refl (join_rest l l2 r r2 long q))

-- as many of each list are as long; where they agree, so do fewer
as_many : (k : ℕ) (s s2 : List ℕ) → k ≤ length s → k ≤ length s2 → length (take k s) ≡ length (take k s2)
as_many k s s2 fits fits2 = length-take-le k s fits ∙ sym (length-take-le k s2 fits2)

fewer : (n k : ℕ) (s s2 : List ℕ) → k ≤ n → take n s ≡ take n s2 → take k s ≡ take k s2
fewer n k s s2 le e = sym (take-take k n s le) ∙ ap (take k) e ∙ take-take k n s2 le

-- NUMBER BY NUMBER, n of each
tells_number : (x y : ℕ) → Tells (eqb x y) (x ∷ []) (y ∷ [])
tells_number x y = go (eqb x y) refl
  where
    go : (b : Bool) → eqb x y ≡ b → Tells b (x ∷ []) (y ∷ [])
    go true e = tells_yes _ _ (ap (λ z. z ∷ []) (eqb-true x y e))
    go false e = tells_no _ _ (λ q. eqb-false x y e (cc))

-- A BLOCK of w numbers from at on, of which the first j were compared
pub block_none : (at : ℕ) (s s2 : List ℕ) → Tells true (take 0 (drop at s)) (take 0 (drop at s2))
block_none at s s2 = tells_yes _ _ refl

pub block_more : (w at j : ℕ) (s s2 : List ℕ) (a : Bool) → at + w ≤ length s → at + w ≤ length s2 → j < w → Tells a (take j (drop at s)) (take j (drop at s2))
    → Tells (a && eqb (get_or s (at + j) 0) (get_or s2 (at + j) 0)) (take (j + 1) (drop at s)) (take (j + 1) (drop at s2))
block_more w at j s s2 a fits fits2 lt m =
    let more : (l : List ℕ) → at + w ≤ length l → take (j + 1) (drop at l) ≡ take j (drop at l) ++ (get_or l (at + j) 0 ∷ []) =
    λ l fits. rw add-one (take-suc (drop at l) j 0 (omega (arith, length-drop at l)) ∙ ap (λ x. take j (drop at l) ++ (x ∷ [])) (get_or-drop at l j 0)) in
    let long = as_many j (drop at s) (drop at s2) (omega (arith, length-drop at s)) (omega (arith, length-drop at s2)) in
    rw (more s fits, more s2 fits2) (tells_join a _ _ _ _ _ long m (tells_number _ _))

pub block_all : (w at j : ℕ) (s s2 : List ℕ) (a : Bool) → j ≤ w → w ≤ j → Tells a (take j (drop at s)) (take j (drop at s2)) → Tells a (take w (drop at s)) (take w (drop at s2))
block_all w at j s s2 a le ge m = let q : j ≡ w = omega arith in rw q at m

-- the last w of the first n numbers, where the k before are known to agree, whatever both share
last_block : (w n k : ℕ) (s s2 : List ℕ) → n ≤ length s → n ≤ length s2 → (b : Bool) → w ≤ n → n - w ≤ k → take k s ≡ take k s2
    → Tells b (take w (drop (n - w) s)) (take w (drop (n - w) s2)) → Tells b (take n s) (take n s2)
last_block w n k s s2 fits fits2 b enough past e m =
    let last : ℕ = n - w in
    let whole : n ≡ last + w = omega arith in
    let all : (l : List ℕ) → take n l ≡ take last l ++ take w (drop last l) = λ l. ap (λ i. take i l) whole ∙ take-add last w l in
    rw (all s, all s2) (tells_join true b _ _ _ _ (as_many last s s2 (omega arith) (omega arith)) (tells_yes _ _ (fewer k last s s2 past e)) m)

-- up to eight, by two blocks of four
pub short_two : (n : ℕ) (s s2 : List ℕ) (a b : Bool) → n ≤ length s → n ≤ length s2 → 4 ≤ n → n ≤ 8 → Tells a (take 4 (drop 0 s)) (take 4 (drop 0 s2))
    → Tells b (take 4 (drop (n - 4) s)) (take 4 (drop (n - 4) s2)) → Tells (a && b) (take n s) (take n s2)
short_two n s s2 false b fits fits2 enough few m m2 = tells_no _ _ (λ e. m.no refl (fewer n 4 s s2 enough e))
short_two n s s2 true b fits fits2 enough few m m2 = last_block 4 n 4 s s2 fits fits2 b enough (omega arith) (m.yes refl) m2

-- a vector's entries are its first slots
pub entries_first : (n : ℕ) (s : List ℕ) → n ≤ length s → entries itself n s ≡ take n s
entries_first n s fits =
    ext_get_or 0 _ _ (length_entries _ n s ∙ sym (length-take-le n s fits))
    (λ j g. let lt : j < n = (rw (length_entries _ n s) at g) in entry itself n s j lt ∙ sym (get_or-take n s j 0 lt))

-- BLOCK BY BLOCK, of the first n numbers: those before k agree
module _ (n : ℕ) (s s2 : List ℕ) (fits : n ≤ length s) (fits2 : n ≤ length s2) where
  pub firsts_short : (b : Bool) → Tells b (take n s) (take n s2) → Tells b (entries itself n s) (entries itself n s2)
  firsts_short b m = rw (entries_first n s fits, entries_first n s2 fits2) m

  -- one block more
  module _ (k : ℕ) (a : Bool) (lt : k < n - 8) (m : Tells a (take 8 (drop k s)) (take 8 (drop k s2))) where
    pub firsts_more : take k s ≡ take k s2 → a ≡ true → take (k + 8) s ≡ take (k + 8) s2
    firsts_more e t = let q = m.yes t in take-add k 8 s ∙ (cc) ∙ sym (take-add k 8 s2)

    pub firsts_differ : a ≡ false → Tells false (entries itself n s) (entries itself n s2)
    firsts_differ f =
        firsts_short false (tells_no _ _ (λ e.
        m.no f (join_rest (take k s) (take k s2) _ _ (as_many k s s2 (omega arith) (omega arith))
        (sym (take-add k 8 s) ∙ fewer n (k + 8) s s2 (omega arith) e ∙ take-add k 8 s2))))

  -- the last block, and all before it
  pub firsts_last : (k : ℕ) (b : Bool) → 8 ≤ n → n - 8 ≤ k → take k s ≡ take k s2 → Tells b (take 8 (drop (n - 8) s)) (take 8 (drop (n - 8) s2))
      → Tells b (entries itself n s) (entries itself n s2)
  firsts_last k b enough past e m = firsts_short b (last_block 8 n k s s2 fits fits2 b enough past e m)

-- RUN BY RUN. Entries are those up to position g, then those from it on, wherever each run stands.
entries_parted : (place p p2 : ℕ → ℕ) (n g : ℕ) (s u u2 : List ℕ) → g ≤ n → ((j : ℕ) → j < g → get_or s (place j) 0 ≡ get_or u (p j) 0)
    → ((j : ℕ) → j < n - g → get_or s (place (g + j)) 0 ≡ get_or u2 (p2 j) 0) → entries place n s ≡ entries p g u ++ entries p2 (n - g) u2
entries_parted place p p2 n g s u u2 le near far =
    let first : length (entries p g u) ≡ g = length_entries p g u in
    let long : length (entries p g u ++ entries p2 (n - g) u2) ≡ n = length-append (entries p g u) _ ∙ omega (arith, length_entries p2 (n - g) u2) in
    ext_get_or 0 _ _ (length_entries place n s ∙ sym long)
    (λ j h.
    let lt : j < n = (rw (length_entries place n s) at h) in
    entry place n s j lt
    ∙ ⊎_elim
    (λ (less : j < g). near j less ∙ sym (get_or-append (entries p g u) _ 0 j (omega arith) ∙ entry p g u j less))
    (λ (ge : g ≤ j).
    let q : g + (j - g) ≡ j = omega arith in
    let q2 : length (entries p g u) + (j - g) ≡ j = omega arith in
    ap (λ i. get_or s (place i) 0) (sym q)
    ∙ far (j - g) (omega arith)
    ∙ sym (ap (λ i. get_or (entries p g u ++ entries p2 (n - g) u2) i 0) (sym q2) ∙ get_or-append-add (entries p g u) _ (j - g) 0 ∙ entry p2 (n - g) u2 (j - g) (omega arith)))
    (below? j g))

-- a part's, cut at g
pub part_parted : (n g : ℕ) (s : List ℕ) → g ≤ n → n ≤ length s → entries itself n s ≡ entries itself g s ++ entries itself (n - g) (from_on g s)
part_parted n g s le fits = entries_parted itself itself itself n g s s (from_on g s) le (λ j h. refl) (λ j h. sym (get_d_on g s j (omega arith)))

-- a ring's, cut at g: the rest are those of a ring whose head is that position's slot
ring_parted : (c h n g : ℕ) (s : List ℕ) → g ≤ n → entries (slot_of c h) n s ≡ entries (slot_of c h) g s ++ entries (slot_of c (slot_of c h g)) (n - g) s
ring_parted c h n g s le = entries_parted (slot_of c h) _ _ n g s s s le (λ j h. refl) (λ j lt. ap (λ i. get_or s i 0) (sym (slot_slot c h g j)))

module _ (h n : ℕ) (s : List ℕ) (inside : h ≤ length s) (fits : n ≤ length s) where
  near : (j : ℕ) → j < length s - h → get_or s (slot_of (length s) h j) 0 ≡ get_or (from_on h s) j 0
  near j lt = ap (λ i. get_or s i 0) (slot_near (length s) h j (omega arith)) ∙ sym (get_d_on h s j lt)

  -- a ring's that reach no further than the last slot, and those that do
  pub ring_straight : n ≤ length s - h → entries (slot_of (length s) h) n s ≡ entries itself n (from_on h s)
  ring_straight le =
      ext_get_or 0 _ _ (length_entries _ n s ∙ sym (length_entries itself n (from_on h s)))
      (λ j g. let lt : j < n = (rw (length_entries _ n s) at g) in entry _ n s j lt ∙ near j (omega arith) ∙ sym (entry itself n (from_on h s) j lt))

  pub ring_around : length s - h < n → entries (slot_of (length s) h) n s ≡ entries itself (length s - h) (from_on h s) ++ entries itself (n - (length s - h)) s
  ring_around past =
      entries_parted (slot_of (length s) h) itself itself n (length s - h) s (from_on h s) s (omega arith) near
      (λ j lt. ap (λ i. get_or s i 0) (slot_far (length s) h (length s - h + j) j (omega arith) (omega arith)))

-- halves of entries: the first ones agree and the second ones were compared, or the first ones differ
module _ (a : Bool) (p q : ℕ → ℕ) (g : ℕ) (s z : List ℕ) (m : Tells a (entries p g s) (entries q g z)) where
  halves : (b : Bool) (r r2 : List ℕ) → a ≡ true → Tells b r r2 → Tells b (entries p g s ++ r) (entries q g z ++ r2)
  halves b r r2 t m2 = tells_join true b _ _ _ _ (length_entries p g s ∙ sym (length_entries q g z)) (rw t at m) m2

  apart : (r r2 : List ℕ) → a ≡ false → Tells false (entries p g s ++ r) (entries q g z ++ r2)
  apart r r2 f = tells_no _ _ (join_differs _ _ r r2 (length_entries p g s ∙ sym (length_entries q g z)) (m.no f))

-- A ring and a part, as a proof finds them.
module _ (h n : ℕ) (s part : List ℕ) (inside : h ≤ length s) (fits : n ≤ length s) (enough : n ≤ length part) where
  pub with_run : (b : Bool) → n ≤ length s - h → Tells b (entries itself n (from_on h s)) (entries itself n part)
      → Tells b (entries (slot_of (length s) h) n s) (entries itself n part)
  with_run b le m = rw (ring_straight h n s inside fits le) m

  module _ (a : Bool) (past : length s - h < n) (m : Tells a (entries itself (length s - h) (from_on h s)) (entries itself (length s - h) part)) where
    pub with_around : (b : Bool) → a ≡ true → Tells b (entries itself (n - (length s - h)) s) (entries itself (n - (length s - h)) (from_on (length s - h) part))
        → Tells b (entries (slot_of (length s) h) n s) (entries itself n part)
    with_around b t m2 = rw (ring_around h n s inside fits past, part_parted n (length s - h) part (omega arith) enough) (halves a _ _ _ _ _ m b _ _ t m2)

    pub with_apart : a ≡ false → Tells false (entries (slot_of (length s) h) n s) (entries itself n part)
    with_apart f =
        rw (ring_around h n s inside fits past, part_parted n (length s - h) part (omega arith) enough)
        (apart a _ _ _ _ _ m _ _ f)

-- Two rings, in the same way: what is cut is the other ring's, at its last slot.
module _ (h f n : ℕ) (s z : List ℕ) (inside : f ≤ length z) (fits : n ≤ length z) where
  pub rings_run : (b : Bool) → n ≤ length z - f → Tells b (entries (slot_of (length s) h) n s) (entries itself n (from_on f z))
      → Tells b (entries (slot_of (length s) h) n s) (entries (slot_of (length z) f) n z)
  rings_run b le m = rw (ring_straight f n z inside fits le) m

  module _ (a : Bool) (past : length z - f < n) (m : Tells a (entries (slot_of (length s) h) (length z - f) s) (entries itself (length z - f) (from_on f z))) where
    pub rings_around : (b : Bool) (start : ℕ) → a ≡ true → start ≡ slot_of (length s) h (length z - f)
        → Tells b (entries (slot_of (length s) start) (n - (length z - f)) s) (entries itself (n - (length z - f)) z)
        → Tells b (entries (slot_of (length s) h) n s) (entries (slot_of (length z) f) n z)
    rings_around b start t e m2 =
        rw (ring_parted (length s) h n (length z - f) s (omega arith), ring_around f n z inside fits past) (halves a _ _ _ _ _ m b _ _ t (rw e at m2))

    pub rings_apart : a ≡ false → Tells false (entries (slot_of (length s) h) n s) (entries (slot_of (length z) f) n z)
    rings_apart differ =
        rw (ring_parted (length s) h n (length z - f) s (omega arith), ring_around f n z inside fits past)
        (apart a _ _ _ _ _ m _ _ differ)
