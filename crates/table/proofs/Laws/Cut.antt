-- What truncate, resize, clear and extend_from_slice do where they are done, as the proof of each function finds it: o is what is seen, and each
-- premise a fact that the code's steps tell.
use mathlib.Core.Path.{◌≡◌, refl, sym, ap₂, ◌∙◌}
use mathlib.Core.Bool.{false}
use mathlib.Core.List.{List, ◌++◌, append-nil}
use Prim.Native.Nat.{ℕ, ◌+◌, ◌-◌, ◌≤◌, ◌<◌}
use native.Mathlib.Omega.{arith}
use borrow.Author.Tests.{le-ltb}
use lib.ListN.{length, take, replicate, length-take, length-append, length-replicate}
use lib.Seq.{take_all}
use Rattle.slots.specs.Layout.{Kind, ring, vector, place, itself, slot_of}
use Rattle.slots.specs.Moves.{moved, kept}
use Rattle.slots.specs.Shift.{Filled}
use Rattle.slots.specs.Copy.{Laid}
use Rattle.slots.proofs.Placing.{placing}
use Rattle.slots.proofs.Moves.{moved_kept, moved_none}
use Rattle.slots.proofs.Fills.{fill_none, relaid_take}
use Rattle.slots.proofs.Lays.{relaid_append, relaid_clear, fill_lays}
use Rattle.table.specs.Tray.{Tray, cap, list, invalid}
use Rattle.table.specs.Calls.{truncate, resize, clear, extend}
use Rattle.table.specs.Does.{Outcome, gives, head_after, does}
use Rattle.table.proofs.Laws.Valid.{fit}
use Rattle.table.proofs.Laws.Done.{Homed, home_of_none, no_head_law, head_stays, done_plainly, many, still, as_it_was}

module _ (k : Kind) (t : Tray) (o : Outcome) (ok : invalid k t ≡ false) where
  keeps : (i : ℕ) → moved (place k (cap t) t.head) (place k (cap t) t.head) (kept i) t.len ≡ 0
  keeps i = moved_kept (place k (cap t) t.head) i t.len

  -- the list with no more than i entries is not cut, and one with more is
  whole : (i : ℕ) → t.len ≤ i → take i (list k t) ≡ list k t
  whole i h = take_all i (list k t) (omega (arith, many k t))

  cut : (i : ℕ) → i < t.len → length (take i (list k t)) ≡ i
  cut i h = simp (length-take, many k t) (omega arith)

  pub truncate_same_done : Homed k t → (i : ℕ) → t.len ≤ i → o ≡ gives 0 0 t.head t.len t.slots → o ≡ does k (truncate i) t
  truncate_same_done home i h eo =
      cc (eo, home, done_plainly k t (truncate i) ok tt, whole i h, many k t, keeps i, as_it_was k t ok)

  pub truncate_done : (i : ℕ) (u : List ℕ) → i < t.len → Filled (place k (cap t) t.head) i t.len 0 t.slots u
      → o ≡ gives 0 0 (head_after k i t.head) i u → o ≡ does k (truncate i) t
  truncate_done i u h m eo =
      let f = fit k t ok in
      cc (
        eo,
        done_plainly k t (truncate i) ok tt,
        cut i h,
        keeps i,
        relaid_take _ _ t.len i t.slots u f.placed f.fits (omega arith) m,
      )

  -- resize to fewer, to more, to as many
  pub resize_cut_done : (i x : ℕ) (u : List ℕ) → i ≤ cap t → i < t.len → Filled (place k (cap t) t.head) i t.len 0 t.slots u
      → o ≡ gives 0 0 (head_after k i t.head) i u → o ≡ does k (resize i x) t
  resize_cut_done i x u fits h m eo =
      let f = fit k t ok in
      let no_more : i - length (list k t) ≡ 0 = omega (arith, many k t) in
      cc (
        eo,
        done_plainly k t (resize i x) ok (le-ltb _ _ fits, tt),
        cut i h,
        no_more,
        append-nil (take i (list k t)),
        keeps i,
        relaid_take _ _ t.len i t.slots u f.placed f.fits (omega arith) m,
      )

  resize_more : (i x : ℕ) (u : List ℕ) → i ≤ cap t → t.len < i → Filled (place k (cap t) t.head) t.len i x t.slots u
      → o ≡ gives 0 0 (head_after k i t.head) i u → o ≡ does k (resize i x) t
  resize_more i x u fits h m eo =
      let f = fit k t ok in
      let more : ℕ = i - t.len in
      let sum : t.len + more ≡ i = omega arith in
      let long : length (list k t ++ replicate more x) ≡ i = simp (length-append, many k t, length-replicate) (omega arith) in
      cc (
        eo,
        done_plainly k t (resize i x) ok (le-ltb _ _ fits, tt),
        whole i (omega arith),
        many k t,
        long,
        keeps i,
        relaid_append _ _ t.len more (replicate more x) t.slots u f.placed (length-replicate more x) (omega arith)
            (fill_lays _ t.len more x t.slots u (rw sum m)),
      )

  pub resize_same_done : Homed k t → (i x : ℕ) → i ≤ cap t → t.len ≤ i → i ≤ t.len → o ≡ gives 0 0 t.head t.len t.slots → o ≡ does k (resize i x) t
  resize_same_done home i x fits h le eo =
      let no_more : i - length (list k t) ≡ 0 = omega (arith, many k t) in
      cc (
        eo,
        home,
        done_plainly k t (resize i x) ok (le-ltb _ _ fits, tt),
        whole i h,
        no_more,
        append-nil (list k t),
        many k t,
        keeps i,
        as_it_was k t ok,
      )

  -- all gone, and the head at 0
  pub clear_done : (u : List ℕ) → Filled (place k (cap t) t.head) 0 t.len 0 t.slots u → o ≡ gives 0 0 0 0 u → o ≡ does k clear t
  clear_done u m eo =
      cc (
        eo,
        done_plainly k t clear ok tt,
        no_head_law k 0,
        moved_none (place k (cap t) t.head) (place k (cap t) 0) t.len,
        relaid_clear _ _ _ _ t.len t.slots u (fit k t ok).placed (placing k (cap t) 0 (omega arith)) m,
      )

  -- nothing to clear: the head is 0 already
  pub clear_none_done : Homed k t → t.len ≡ 0 → o ≡ gives 0 0 t.head t.len t.slots → o ≡ does k clear t
  clear_none_done home none eo =
      clear_done t.slots (rw none (fill_none _ _ _ _)) (eo ∙ ap₂ (λ h n. gives 0 0 h n t.slots) (sym home ∙ home_of_none k t.len t.head none) none)

  pub extend_done : (s u : List ℕ) → length s ≤ cap t - t.len → Laid (place k (cap t) t.head) t.len (length s) s t.slots u
      → o ≡ gives 0 0 (head_after k (t.len + length s) t.head) (t.len + length s) u → o ≡ does k (extend s) t
  extend_done s u room m eo =
      let f = fit k t ok in
      let long : length (list k t ++ s) ≡ t.len + length s = simp (length-append, many k t) in
      cc (
        eo,
        done_plainly k t (extend s) ok (le-ltb _ _ room, tt),
        long,
        still k t,
        relaid_append _ _ t.len (length s) s t.slots u f.placed refl (omega (arith, f.fits)) m,
      )

-- Where something stands afterwards, a ring's head stays and a vector has none.
pub resize_more_done : (t : Tray) (o : Outcome) → invalid ring t ≡ false → (i x : ℕ) (u : List ℕ) → i ≤ cap t → t.len < i
    → Filled (slot_of (cap t) t.head) t.len i x t.slots u → o ≡ gives 0 0 t.head i u → o ≡ does ring (resize i x) t
resize_more_done t o ok i x u fits h m eo = resize_more ring t o ok i x u fits h m (rw (head_stays t ok i (omega arith)) eo)

pub vector_resize_grown : (t : Tray) (o : Outcome) → invalid vector t ≡ false → (i x : ℕ) (u : List ℕ) → i ≤ cap t → t.len < i
    → Filled itself t.len i x t.slots u → o ≡ gives 0 0 0 i u → o ≡ does vector (resize i x) t
vector_resize_grown t o ok i x u fits h m eo = resize_more vector t o ok i x u fits h m eo
