-- What the loops over bytes go by: what is left of a text decides how far a run goes, whatever byte ends it.
use mathlib.Core.Path.{◌≡◌, refl, sym, ap, ◌∙◌}
use mathlib.Core.Bool.{Bool, true, false, cond, ◌||◌}
use mathlib.Core.List.{List, [], ◌∷◌}
use Prim.Native.Nat.{ℕ, zero, suc, ◌+◌, ◌-◌, ◌≤◌, ◌<◌}
use native.Mathlib.Numerals.{add-one}
use native.Mathlib.Omega.{arith}
use borrow.Author.Tests.{ltb-true, ltb-false}
use lib.Dec.{eqb, ltb}
use lib.ListN.{length, get_or, take, drop, drop_of_length-le, length-drop}
use Rattle.std.proofs.lemmas.List.{take_all}
use lib.Seq.{drop-cons, drop-drop}
use Rattle.record.specs.Grammar.{quote}
use Rattle.record.specs.Scan.{starts}
use Rattle.std.specs.List.{list_any, position, position_or_len}
use Rattle.std.specs.Prelude.{Option, Some, None, unwrap_or}
use Rattle.std.proofs.lemmas.List.Recursion.{is_position_or_len}
use Rattle.record.specs.Steps.{run, is_quote, body_run, pair_run}

pub left : (s : List ℕ) (i : ℕ) → i < length s → drop i s ≡ get_or s i 0 ∷ drop (i + 1) s
left s i h = rw (add-one, drop-cons s i 0)

pub none_left : (s : List ℕ) (i : ℕ) → length s ≤ i → drop i s ≡ []
none_left s i h = drop_of_length-le s {i = i} h

no_two : true ≡ false → ⊥
no_two e = let z : ◌≡◌ {A = ℕ} 0 1 = cc in omega arith

-- the byte at a position
pub stands_at : (s : List ℕ) (i b : ℕ) → i < length s → eqb (get_or s i 0) b ≡ starts b (drop i s)
stands_at s i b h = sym (ap (starts b) (left s i h))

pub stands_none : (s : List ℕ) (i b : ℕ) → length s ≤ i → false ≡ starts b (drop i s)
stands_none s i b h = sym (ap (starts b) (none_left s i h))

-- a byte that stands somewhere stands inside
pub inside : (s : List ℕ) (i b : ℕ) → starts b (drop i s) ≡ true → i < length s
inside s i b e = go (ltb i (length s)) refl
  where
    go : (c : Bool) → ltb i (length s) ≡ c → i < length s
    go true p = ltb-true i (length s) p
    go false p = absurd (no_two (sym e ∙ sym (stands_none s i b (ltb-false i (length s) p))))

-- a run is what the library's search by position counts
pub run_is : (ends : ℕ → Bool) (s : List ℕ) → run ends s ≡ position_or_len ends s
unfolding run
run_is ends s = is_position_or_len (run ends) ends refl (λ b s. go (ends b) (run ends s)) s
  where
    go : (c : Bool) (n : ℕ) → cond c 0 (n + 1) ≡ cond c 0 (1 + n)
    go true n = refl
    go false n = omega arith

pub run_short : (ends : ℕ → Bool) (s : List ℕ) → run ends s ≤ length s
unfolding run
run_short ends [] = omega arith
run_short ends (b ∷ s) = go (ends b) (run_short ends s)
  where
    go : (c : Bool) → run ends s ≤ length s → cond c 0 (run ends s + 1) ≤ suc (length s)
    go true h = omega arith
    go false h = omega arith

-- the library's search by position, with the length where nothing is found
run_left : (ends : ℕ → Bool) (s : List ℕ) → unwrap_or (position ends s) (length s) ≡ run ends s
run_left ends s = go (ltb (position_or_len ends s) (length s)) refl
  where
    go : (c : Bool) → ltb (position_or_len ends s) (length s) ≡ c → unwrap_or (cond c (Some (position_or_len ends s)) None) (length s) ≡ run ends s
    go true e = sym (run_is ends s)
    go false e = omega (arith, ltb-false _ _ e, run_is ends s, run_short ends s)

-- the rest of a text, as the code lends it
rest : (s : List ℕ) (i : ℕ) → i ≤ length s → take (length s - i) (drop i s) ≡ drop i s
rest s i h = take_all (length s - i) (drop i s) (omega (arith, length-drop i s))

pub found_end : (ends : ℕ → Bool) (s : List ℕ) (i n : ℕ) (o : Option ℕ) → i ≤ length s → o ≡ position ends (take (length s - i) (drop i s)) → n ≡ unwrap_or o (length s - i)
    → i + n ≡ i + run ends (drop i s)
found_end ends s i n o h found e =
    let size : length s - i ≡ length (drop i s) = omega (arith, length-drop i s) in
    ap (λ n. i + n) (e ∙ rw (found, rest s i h, size) (run_left ends (drop i s)))

-- a byte that does not end a run, one that does, and the end of the text
module _ (ends : ℕ → Bool) (s : List ℕ) (i v : ℕ) (is : i + run ends (drop i s) ≡ v) where
  pub run_turn : i < length s → ends (get_or s i 0) ≡ false → i + 1 + run ends (drop (i + 1) s) ≡ v
  unfolding run
  run_turn h goes_on =
      let one : run ends (drop i s) ≡ run ends (drop (i + 1) s) + 1 = ap (run ends) (left s i h) ∙ rw goes_on refl in
      omega arith

  pub run_stop : i < length s → ends (get_or s i 0) ≡ true → i ≡ v
  unfolding run
  run_stop h stops =
      let none : run ends (drop i s) ≡ 0 = ap (run ends) (left s i h) ∙ rw stops refl in
      omega arith

  pub run_over : length s ≤ i → i ≡ v
  unfolding run
  run_over h =
      let none : run ends (drop i s) ≡ 0 = ap (run ends) (none_left s i h) in
      omega arith

-- a block of bytes none of which ends it is passed at once
none_among : (ends : ℕ → Bool) (k : ℕ) (s : List ℕ) → k ≤ length s → list_any ends (take k s) ≡ false → run ends s ≡ k + run ends (drop k s)
unfolding run
none_among ends zero s h e = omega arith
none_among ends (suc k) [] h e = absurd (omega arith)
none_among ends (suc k) (b ∷ s) h e = go (ends b) refl (none_among ends k s (omega arith))
  where
    go : (c : Bool) → ends b ≡ c → (list_any ends (take k s) ≡ false → run ends s ≡ k + run ends (drop k s)) → run ends (b ∷ s) ≡ suc k + run ends (drop k s)
    go true p later = absurd (no_two (sym (ap (λ c. c || list_any ends (take k s)) p) ∙ e))
    go false p later = let rest = later (sym (ap (λ c. c || list_any ends (take k s)) p) ∙ e) in rw p (omega arith)

pub run_block : (ends : ℕ → Bool) (s : List ℕ) (i v k n : ℕ) (d : Bool) → i + run ends (drop i s) ≡ v → i ≤ length s → k ≤ length s - i
    → d ≡ list_any ends (take n (drop i s)) → d ≡ false → n ≡ k → i + k + run ends (drop (i + k) s) ≡ v
run_block ends s i v k n d is low h e clear same_size =
    let block : run ends (drop i s) ≡ k + run ends (drop k (drop i s)) =
    none_among ends k (drop i s) (omega (arith, length-drop i s)) (sym (e ∙ ap (λ n. list_any ends (take n (drop i s))) same_size) ∙ clear) in
    let same : run ends (drop k (drop i s)) ≡ run ends (drop (i + k) s) = ap (run ends) (drop-drop k i s) in
    omega arith

-- Between quotes: a run without a quote, then a quote and another one, or the quote that closes the field.
none_passed : (n : ℕ) (s : List ℕ) → n ≡ 0 → body_run s ≡ n + body_run (drop n s)
none_passed n s e = rw e (omega arith)

body_run_law : (s : List ℕ) → body_run s ≡ run is_quote s + body_run (drop (run is_quote s) s)
unfolding body_run run
body_run_law [] = refl
body_run_law (b ∷ s) = go (is_quote b) refl (body_run_law s)
  where
    go : (c : Bool) → is_quote b ≡ c → body_run s ≡ run is_quote s + body_run (drop (run is_quote s) s)
        → body_run (b ∷ s) ≡ run is_quote (b ∷ s) + body_run (drop (run is_quote (b ∷ s)) (b ∷ s))
    go true e later = none_passed (run is_quote (b ∷ s)) (b ∷ s) (rw e refl)
    go false e later = rw (e, add-one (run is_quote s)) (omega (arith, later))

-- where the next quote stands the rest of the body is counted from there
pub body_from : (s : List ℕ) (i j v : ℕ) → i + body_run (drop i s) ≡ v → j ≡ i + run is_quote (drop i s) → j + body_run (drop j s) ≡ v
body_from s i j v is e =
    let later : body_run (drop (run is_quote (drop i s)) (drop i s)) ≡ body_run (drop j s) = ap body_run (drop-drop (run is_quote (drop i s)) i s ∙ rw e refl) in
    omega (arith, body_run_law (drop i s))

quote_ends : (s : List ℕ) → run is_quote s < length s → starts quote (drop (run is_quote s) s) ≡ true
unfolding run
quote_ends [] h = absurd (omega arith)
quote_ends (b ∷ s) h = go (is_quote b) refl (quote_ends s)
  where
    go : (c : Bool) → is_quote b ≡ c → (run is_quote s < length s → starts quote (drop (run is_quote s) s) ≡ true)
        → starts quote (drop (run is_quote (b ∷ s)) (b ∷ s)) ≡ true
    go true e later = rw e e
    go false e later = rw (e, add-one (run is_quote s)) (later (omega (arith, rw e at h)))

-- a run ends inside the text, at a quote or at the end
pub run_inside : (ends : ℕ → Bool) (s : List ℕ) (i j : ℕ) → i ≤ length s → j ≡ i + run ends (drop i s) → (i ≤ j) × (j ≤ length s)
run_inside ends s i j h e = let short = run_short ends (drop i s) in let size = length-drop i s in (omega arith, omega arith)

pub quote_there : (s : List ℕ) (i j : ℕ) → j ≡ i + run is_quote (drop i s) → j < length s → starts quote (drop j s) ≡ true
quote_there s i j e h =
    let size = length-drop i s in
    let there = quote_ends (drop i s) (omega arith) in
    let place : drop (run is_quote (drop i s)) (drop i s) ≡ drop j s = drop-drop (run is_quote (drop i s)) i s ∙ rw e refl in
    sym (ap (starts quote) place) ∙ there

pair_of : (s : List ℕ) (i : ℕ) → i < length s → starts quote (drop i s) ≡ true → body_run (drop i s) ≡ pair_run (drop (i + 1) s)
unfolding body_run
pair_of s i h e = ap body_run (left s i h) ∙ rw (stands_at s i quote h ∙ e) refl

pair_none : (s : List ℕ) → starts quote s ≡ false → pair_run s ≡ 0
unfolding pair_run
pair_none [] e = refl
pair_none (b ∷ s) e = rw e refl

pair_some : (s : List ℕ) (i : ℕ) → starts quote (drop i s) ≡ true → i < length s → pair_run (drop i s) ≡ body_run (drop (i + 1) s) + 2
unfolding pair_run
pair_some s i e h = ap pair_run (left s i h) ∙ rw (stands_at s i quote h ∙ e) refl

-- The loop stands at a quote, or at the end of the text, and the body that is left comes to v.
pub record Quoted (s : List ℕ) (i v : ℕ) : Type 0 where
  pub inside : i ≤ length s
  pub there : i < length s → starts quote (drop i s) ≡ true
  pub left : i + body_run (drop i s) ≡ v

-- from where the next quote was looked for
at_next : (s : List ℕ) (i j v : ℕ) → i ≤ length s → i + body_run (drop i s) ≡ v → j ≡ i + run is_quote (drop i s) → Quoted s j v
at_next s i j v h is e = record { inside = (run_inside is_quote s i j h e).1; there = quote_there s i j e; left = body_from s i j v is e }

pub quoted_first : (s : List ℕ) (i j : ℕ) → i ≤ length s → j ≡ i + run is_quote (drop i s) → Quoted s j (i + body_run (drop i s))
quoted_first s i j h e = at_next s i j (i + body_run (drop i s)) h refl e

quoted_over : (s : List ℕ) (i v : ℕ) → Quoted s i v → length s ≤ i → i ≡ v
unfolding body_run
quoted_over s i v q h =
    let none : body_run (drop i s) ≡ 0 = ap body_run (none_left s i h) in
    omega (arith, q.left)

quoted_last : (s : List ℕ) (i v : ℕ) → Quoted s i v → i < length s → starts quote (drop (i + 1) s) ≡ false → i ≡ v
quoted_last s i v q h single =
    let none : body_run (drop i s) ≡ 0 = pair_of s i h (q.there h) ∙ pair_none _ single in
    omega (arith, q.left)

module _ (s : List ℕ) (i v : ℕ) (q : Quoted s i v) (d : Bool) (e : d ≡ starts quote (drop (i + 1) s)) where
  pub quoted_stop : d ≡ false → i ≡ v
  quoted_stop single = go (ltb i (length s)) refl
    where
      go : (c : Bool) → ltb i (length s) ≡ c → i ≡ v
      go true p = quoted_last s i v q (ltb-true i (length s) p) (sym e ∙ single)
      go false p = quoted_over s i v q (ltb-false i (length s) p)

  module _ (double : d ≡ true) where
    second : i + 1 < length s
    second = inside s (i + 1) quote (sym e ∙ double)

    pub pair_inside : i + 2 ≤ length s
    pair_inside = omega (arith, second)

    module _ (j : ℕ) (found : j ≡ i + 2 + run is_quote (drop (i + 2) s)) where
      pub quoted_again : Quoted s j v
      quoted_again =
          let same : i + 1 + 1 ≡ i + 2 = omega arith in
          let two : body_run (drop i s) ≡ body_run (drop (i + 2) s) + 2 =
          pair_of s i (omega (arith, second)) (q.there (omega (arith, second))) ∙ pair_some s (i + 1) (sym e ∙ double) second ∙ ap (λ n. body_run (drop n s) + 2) same in
          at_next s (i + 2) j v pair_inside (omega (arith, q.left)) found

      pub quoted_less : length s - j < length s - i
      quoted_less = omega (arith, second, (run_inside is_quote s (i + 2) j pair_inside found).0)
