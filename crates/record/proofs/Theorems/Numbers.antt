-- What `read` and `judge` answer, by the grammar alone. `read` answers the first number of its order that applies, and 0 exactly where none does: then
-- the text has a reading, and its starts, its ends and where the next record starts are on the vectors and in the value. Refused, it leaves all as
-- it was. The argument: each test is its number's condition, since the scan is the grammar.
use mathlib.Core.Path.{◌≡◌, refl, sym, ap, ◌∙◌}
use mathlib.Core.Bool.{Bool, true, false, not, cond}
use mathlib.Core.List.{List, [], ◌∷◌, ◌++◌}
use mathlib.Core.Logic.{◌↔◌, ◌⊎◌, inl, inr, ⊎_elim}
use Prim.Native.Nat.{ℕ, zero, suc, ◌≤◌}
use native.Mathlib.Omega.{arith}
use borrow.Author.Tests.{ltb-true, ltb-false}
use lib.Dec.{eqb, ltb}
use lib.ListN.{length}
use contract.Lifetimes.{Lfts}
use denote.Triple.Clauses.{AtExit}
use borrow.Fn.World.{ArgsD, ResD}
use Rattle.slots.specs.Layout.{vector}
use Rattle.table.specs.Tray.{Tray, cap, valid, invalid, nowhere}
use Rattle.table.specs.Table.{holding}
use Rattle.table.specs.Does.{Outcome2, refused2}
use Rattle.table.proofs.Laws.Keeps.{relay_list}
use Rattle.vector.specs.Seen.{tray}
use Rattle.table.specs.Answers.{numbered as in_numbers}
use Rattle.table.specs.declared.answers.Both.{Both}
use Rattle.table.specs.declared.answers.Numbered.{Numbered}
use Rattle.vector.specs.declared.Vector.{Vector}
use Rattle.pairs.specs.Seen.{both, seen2}
use Rattle.record.specs.Grammar.{Fits}
use Rattle.record.specs.Scan.{Ending, done, bad, unclosed, scanned}
use Rattle.record.specs.Places.{firsts, lasts}
use Rattle.record.specs.Steps.{number_of, place_of}
use Rattle.record.specs.Recorded.{of_vector, longest, told, judged, judges, first_of, early_tests, late_tests, places, records}
use Rattle.record.specs.Numbers.{Applies, invalid_first, invalid_second, first_taken, second_taken, too_long, not_allowed, never_closed, few_starts, few_ends, First, order, Read, Judgement, long, fits, wrong, opened}
use Rattle.record.proofs.Laws.Order.{by_tests}
use Rattle.record.proofs.Laws.Saying.{not_held, length_firsts, length_lasts}
use Rattle.record.proofs.Theorems.Complete.{complete}
use Rattle.record.proofs.Theorems.Refused.{ending_done, ending_bad, ending_unclosed}
use Rattle.record.proofs.Theorems.Where.{bad_at_iff, unclosed_at_iff}
use Rattle.record.specs.contracts.texts.judge as judge·fn
use Rattle.record.proofs.texts.judge.Reads as judge·reads
use Rattle.record.specs.contracts.read as read·fn
use Rattle.record.proofs.read.Reads as read·reads

-- a test that says whether a number applies
settle : (P : ℕ → Type 0) (rest : List ℕ) (j m : ℕ) (b : Bool) → (b ≡ true → P j) → (b ≡ false → P j → ⊥) → First P rest m → First P (j ∷ rest) (cond b j m)
settle P rest j m true applies none later = inl (applies refl, refl)
settle P rest j m false applies none later = inr (none refl, later)

-- two tests of one number
settle_two : (P : ℕ → Type 0) (rest : List ℕ) (j m : ℕ) (b c : Bool) → (b ≡ true → P j) → (c ≡ true → P j) → (b ≡ false → c ≡ false → P j → ⊥) → First P rest m
    → First P (j ∷ rest) (cond b j (cond c j m))
settle_two P rest j m true c p q none later = inl (p refl, refl)
settle_two P rest j m false true p q none later = inl (q refl, refl)
settle_two P rest j m false false p q none later = inr (none refl refl, later)

held : (n : ℕ) → holding n ≡ true → n ≡ 0 → ⊥
held zero e z = let x : ◌≡◌ {A = ℕ} 0 1 = cc in omega arith
held (suc n) e z = omega arith

module _ (text : List ℕ) (t t2 : Tray) where
  P : ℕ → Type 0
  P = Applies text t t2

  no_first : invalid vector t ≡ false → P 1 → ⊥
  unfolding P
  no_first e (invalid_first h) = let z : ◌≡◌ {A = ℕ} 0 1 = cc in omega arith

  no_second : invalid vector t2 ≡ false → P 2 → ⊥
  unfolding P
  no_second e (invalid_second h) = let z : ◌≡◌ {A = ℕ} 0 1 = cc in omega arith

  no_taken : holding t.len ≡ false → holding t2.len ≡ false → P 5 → ⊥
  unfolding P
  no_taken e e2 (first_taken h) = h (not_held t.len e)
  no_taken e e2 (second_taken h) = h (not_held t2.len e2)

  no_length : ltb longest (length text) ≡ false → P 11 → ⊥
  unfolding P
  no_length e (too_long h) = let low = ltb-false longest (length text) e in omega arith

  is_valid : valid vector (cap t) 0 t.len ≡ valid vector (cap t) t.head t.len
  unfolding valid
  is_valid = refl

  is_valid2 : valid vector (cap t2) 0 t2.len ≡ valid vector (cap t2) t2.head t2.len
  unfolding valid
  is_valid2 = refl

  -- what the text comes to
  few : (next : ℕ) → (scanned text).ending ≡ done next → ltb (cap t) (length (scanned text).fields) ≡ true → P 6
  unfolding P
  few next e h = few_starts (ending_done text next e) (ltb-true (cap t) (length (scanned text).fields) h)

  few2 : (next : ℕ) → (scanned text).ending ≡ done next → ltb (cap t2) (length (scanned text).fields) ≡ true → P 6
  unfolding P
  few2 next e h = few_ends (ending_done text next e) (ltb-true (cap t2) (length (scanned text).fields) h)

  enough : ltb (cap t) (length (scanned text).fields) ≡ false → ltb (cap t2) (length (scanned text).fields) ≡ false → P 6 → ⊥
  unfolding P
  enough e e2 (few_starts {fields} {next} r h) =
      let same : length (scanned text).fields ≡ length fields = ap (λ r. length r.fields) (complete text fields next r) in
      let low = ltb-false (cap t) (length (scanned text).fields) e in omega arith
  enough e e2 (few_ends {fields} {next} r h) =
      let same : length (scanned text).fields ≡ length fields = ap (λ r. length r.fields) (complete text fields next r) in
      let low = ltb-false (cap t2) (length (scanned text).fields) e2 in omega arith

  no_bad : (next : ℕ) → (scanned text).ending ≡ done next → P 9 → ⊥
  unfolding P
  no_bad next e (not_allowed h) = h.no_fit ((scanned text).fields, next, ending_done text next e)

  no_unclosed : (next : ℕ) → (scanned text).ending ≡ done next → P 10 → ⊥
  unfolding P
  no_unclosed next e (never_closed h) = h.no_fit ((scanned text).fields, next, ending_done text next e)

  not_both : (p : ℕ) → (scanned text).ending ≡ unclosed p → P 9 → ⊥
  unfolding P
  not_both p e (not_allowed h) = h.not_with_quote (ending_unclosed text p e).with_quote

  late : (x : Ending) → (scanned text).ending ≡ x
      → First P (9 ∷ 10 ∷ 6 ∷ []) (cond (not (eqb (number_of x) 0)) (number_of x)
      (cond (ltb (cap t) (length (scanned text).fields)) 6 (cond (ltb (cap t2) (length (scanned text).fields)) 6 0)))
  unfolding P
  late (done next) e =
      inr (
        no_bad next e,
        inr (
          no_unclosed next e,
          settle_two P [] 6 0 (ltb (cap t) (length (scanned text).fields)) (ltb (cap t2) (length (scanned text).fields)) (few next e) (few2 next e) enough refl,
        ),
      )
  late (bad p) e = inl (not_allowed (ending_bad text p e), refl)
  late (unclosed p) e = inr (not_both p e, inl (never_closed (ending_unclosed text p e), refl))

  numbered : First P order (first_of (λ m. m) (early_tests (cap t) t.len (cap t2) t2.len (length text) ++ late_tests text (cap t) (cap t2)) 0)
  unfolding P
  numbered =
      settle P (2 ∷ 5 ∷ 11 ∷ 9 ∷ 10 ∷ 6 ∷ []) 1 _ (not (valid vector (cap t) 0 t.len)) (λ e. invalid_first (ap not (sym is_valid) ∙ e)) (λ e. no_first (ap not (sym is_valid) ∙ e))
      (settle P (5 ∷ 11 ∷ 9 ∷ 10 ∷ 6 ∷ []) 2 _ (not (valid vector (cap t2) 0 t2.len)) (λ e. invalid_second (ap not (sym is_valid2) ∙ e)) (λ e. no_second (ap not (sym is_valid2) ∙ e))
      (settle_two P (11 ∷ 9 ∷ 10 ∷ 6 ∷ []) 5 _ (holding t.len) (holding t2.len) (λ e. first_taken (held t.len e)) (λ e. second_taken (held t2.len e)) no_taken
      (settle P (9 ∷ 10 ∷ 6 ∷ []) 11 _ (ltb longest (length text)) (λ e. too_long (ltb-true longest (length text) e)) no_length
      (late (scanned text).ending refl))))

  -- the number of the outcome is that number
  number_of_law : (ts : List (Bool × ℕ)) → (first_of (refused2 t t2 nowhere) ts (places text t t2)).number ≡ first_of (λ m. m) ts 0
  number_of_law [] = refl
  number_of_law (b ∷ ts) = go b.0 (number_of_law ts)
    where
      go : (c : Bool) → (first_of (refused2 t t2 nowhere) ts (places text t t2)).number ≡ first_of (λ m. m) ts 0
          → (cond c (refused2 t t2 nowhere b.1) (first_of (refused2 t t2 nowhere) ts (places text t t2))).number ≡ cond c b.1 (first_of (λ m. m) ts 0)
      go true later = refl
      go false later = later

  pub records_numbers : First (Applies text t t2) order (records text t t2).number
  unfolding P records
  records_numbers = rw (number_of_law (early_tests (cap t) t.len (cap t2) t2.len (length text) ++ late_tests text (cap t) (cap t2))) numbered

  -- refused, all is as it was
  pub records_refused : ((records text t t2).number ≡ 0 → ⊥) → records text t t2 ≡ refused2 t t2 nowhere (records text t t2).number
  unfolding records
  records_refused =
      by_tests (λ (o : Outcome2). (o.number ≡ 0 → ⊥) → o ≡ refused2 t t2 nowhere o.number) (refused2 t t2 nowhere)
      (early_tests (cap t) t.len (cap t2) t2.len (length text) ++ late_tests text (cap t) (cap t2)) (places text t t2)
      (λ _ _. refl, (λ _ _. refl, (λ _ _. refl, (λ _ _. refl, (λ _ _. refl, (λ _ _. refl, (λ _ _. refl, (λ _ _. refl, tt))))))))
      (λ none no_zero. absurd (no_zero refl))

  -- done, it is the reading
  ending_of : (x : Ending) → not (eqb (number_of x) 0) ≡ false → x ≡ done (place_of x)
  ending_of (done next) e = refl
  ending_of (bad p) e = absurd (let z : ◌≡◌ {A = ℕ} 0 1 = cc in omega arith)
  ending_of (unclosed p) e = absurd (let z : ◌≡◌ {A = ℕ} 0 1 = cc in omega arith)

  not_zero : (x : Ending) → not (eqb (number_of x) 0) ≡ true → number_of x ≡ 0 → ⊥
  not_zero (done next) e z = let x : ◌≡◌ {A = ℕ} 0 1 = cc in omega arith
  not_zero (bad p) e z = omega arith
  not_zero (unclosed p) e z = omega arith

  pub records_done : (records text t t2).number ≡ 0 → Read text (records text t t2)
  unfolding records
  records_done =
      by_tests (λ (o : Outcome2). o.number ≡ 0 → Read text o) (refused2 t t2 nowhere)
      (early_tests (cap t) t.len (cap t2) t2.len (length text) ++ late_tests text (cap t) (cap t2)) (places text t t2) (
        λ _ e. absurd (omega arith),
        (
          λ _ e. absurd (omega arith),
          (
            λ _ e. absurd (omega arith),
            (
              λ _ e. absurd (omega arith),
              (
                λ _ e. absurd (omega arith),
                (λ b e. absurd (not_zero (scanned text).ending b e), (λ _ e. absurd (omega arith), (λ _ e. absurd (omega arith), tt))),
              ),
            ),
          ),
        ),
      )
      (λ none e.
      let room = ltb-false (cap t) (length (scanned text).fields) none.1.1.1.1.1.1.0 in
      let room2 = ltb-false (cap t2) (length (scanned text).fields) none.1.1.1.1.1.1.1.0 in
      record {
        fields = (scanned text).fields;
        next = place_of (scanned text).ending;
        reads = ending_done text _ (ending_of (scanned text).ending none.1.1.1.1.1.0);
        value = refl;
        starts = relay_list vector t (firsts (scanned text).fields) 0 (omega arith) (omega (arith, length_firsts (scanned text).fields));
        ends = relay_list vector t2 (lasts (scanned text).fields) 0 (omega arith) (omega (arith, length_lasts (scanned text).fields));
      })

-- unless 1, 2, 5, 11 or 6 applies, 0 exactly where the text fits
module _ (text : List ℕ) (t t2 : Tray) (no_1 : Applies text t t2 1 → ⊥) (no_2 : Applies text t t2 2 → ⊥) (no_5 : Applies text t t2 5 → ⊥)
    (no_11 : Applies text t t2 11 → ⊥) (no_6 : Applies text t t2 6 → ⊥) where
  late_fits : Fits text → (m : ℕ) → First (Applies text t t2) (9 ∷ 10 ∷ 6 ∷ []) m → m ≡ 0
  late_fits f m (inl (not_allowed h, e)) = absurd (h.no_fit f)
  late_fits f m (inr (a, inl (never_closed h, e))) = absurd (h.no_fit f)
  late_fits f m (inr (a, inr (b, inl (h, e)))) = absurd (no_6 h)
  late_fits f m (inr (a, inr (b, inr (c, e)))) = e

  all_fits : Fits text → (m : ℕ) → First (Applies text t t2) order m → m ≡ 0
  all_fits f m (inl (h, e)) = absurd (no_1 h)
  all_fits f m (inr (a, inl (h, e))) = absurd (no_2 h)
  all_fits f m (inr (a, inr (b, inl (h, e)))) = absurd (no_5 h)
  all_fits f m (inr (a, inr (b, inr (c, inl (h, e))))) = absurd (no_11 h)
  all_fits f m (inr (a, inr (b, inr (c, inr (d, later))))) = late_fits f m later

  pub exactly_fits : ((records text t t2).number ≡ 0) ↔ Fits text
  exactly_fits =
      (λ none. let r = records_done text t t2 none in (r.fields, r.next, r.reads), λ f. all_fits f (records text t t2).number (records_numbers text t t2))

-- `judge`, by the grammar alone
judged_as : (text : List ℕ) → length text ≤ 65535 → (x : Ending) → (scanned text).ending ≡ x → Judgement text (number_of x) (place_of x)
judged_as text short (done next) e = fits short (ending_done text next e)
judged_as text short (bad p) e = let x = (bad_at_iff text p).0 e in wrong short x.0 x.1
judged_as text short (unclosed p) e = opened short ((unclosed_at_iff text p).0 e)

pub judges_means : (text : List ℕ) → Judgement text (judges text).number (judges text).value
unfolding judges
judges_means text = go (ltb longest (length text)) refl
  where
    go : (c : Bool) → ltb longest (length text) ≡ c
        → Judgement text (cond c (told 11 0) (told (number_of (scanned text).ending) (place_of (scanned text).ending))).number
        (cond c (told 11 0) (told (number_of (scanned text).ending) (place_of (scanned text).ending))).value
    go true e = long (ltb-true longest (length text) e)
    go false e = judged_as text (ltb-false longest (length text) e) (scanned text).ending refl

module _ (κs : Lfts 1) (a : ArgsD judge·fn.signature κs) (r : ResD judge·fn.signature κs) (e : AtExit judge·fn.ended κs) (learnt : judge·reads.Learnt κs a r e) where
  pub judge_means : Judgement a.0.now (judged r).number (judged r).value
  judge_means = rw learnt (judges_means a.0.now)

-- From the generated contract: a are the arguments, r is the result, and e the arguments as they are at the return.
module _ (κs : Lfts 3) (a : ArgsD read·fn.signature κs) (r : ResD read·fn.signature κs) (e : AtExit read·fn.ended κs) (learnt : read·reads.Learnt κs a r e) where
  -- the answer as the papers number it
  abbrev n : Numbered (Both Vector Vector)
  n = in_numbers (both a.1.0 a.1.1.1.0) r

  pub read_numbers : First (Applies a.0.now (tray a.1.0 a.1.1.0.now) (tray a.1.1.1.0 a.1.1.1.1.0.now)) order n.number
  read_numbers = rw (ap (λ (o : Outcome2). o.number) learnt.row) (records_numbers _ _ _)

  pub read_done : n.number ≡ 0 → Read a.0.now (seen2 of_vector of_vector n e.1.1.0.now e.1.1.1.1.0.now)
  read_done none = rw learnt.row (records_done _ _ _ (sym (ap (λ (o : Outcome2). o.number) learnt.row) ∙ none))

  pub read_refused : (n.number ≡ 0 → ⊥) → seen2 of_vector of_vector n e.1.1.0.now e.1.1.1.1.0.now
      ≡ refused2 (tray a.1.0 a.1.1.0.now) (tray a.1.1.1.0 a.1.1.1.1.0.now) nowhere n.number
  read_refused no_zero =
      learnt.row
      ∙ records_refused _ _ _ (λ z. no_zero (ap (λ (o : Outcome2). o.number) learnt.row ∙ z))
      ∙ rw (← ap (λ (o : Outcome2). o.number) learnt.row) refl

  -- unless 1, 2, 5, 11 or 6 applies
  pub read_exactly : ((j : ℕ) → Applies a.0.now (tray a.1.0 a.1.1.0.now) (tray a.1.1.1.0 a.1.1.1.1.0.now) j → (j ≡ 9) ⊎ (j ≡ 10))
      → (n.number ≡ 0) ↔ Fits a.0.now
  read_exactly only =
      let no : (j : ℕ) → (j ≡ 9 → ⊥) → (j ≡ 10 → ⊥) → Applies a.0.now (tray a.1.0 a.1.1.0.now) (tray a.1.1.1.0 a.1.1.1.1.0.now) j → ⊥ =
      λ j x y h. ⊎_elim x y (only j h) in
      let is = exactly_fits a.0.now (tray a.1.0 a.1.1.0.now) (tray a.1.1.1.0 a.1.1.1.1.0.now)
      (no 1 (λ e. omega arith) (λ e. omega arith)) (no 2 (λ e. omega arith) (λ e. omega arith)) (no 5 (λ e. omega arith) (λ e. omega arith))
      (no 11 (λ e. omega arith) (λ e. omega arith)) (no 6 (λ e. omega arith) (λ e. omega arith)) in
      (λ e. is.0 (sym (ap (λ (o : Outcome2). o.number) learnt.row) ∙ e), λ f. ap (λ (o : Outcome2). o.number) learnt.row ∙ is.1 f)
