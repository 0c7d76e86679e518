-- The first test that holds decides: what is passed, what stops, and what holds of every outcome.
use mathlib.Core.Path.{◌≡◌, refl, sym, ap, ◌∙◌}
use mathlib.Core.Bool.{Bool, true, false, cond}
use mathlib.Core.List.{List, [], ◌∷◌, ◌++◌}
use Prim.Native.Nat.{ℕ}
use Rattle.record.specs.Recorded.{first_of}

-- tests that are passed, and one that stops
abbrev pub Above : List (Bool × ℕ) → Type 0
Above [] = Unit {0}
Above (t ∷ ts) = (t.1 ≡ 0 → ⊥) × Above ts

pub stopped : {A : Type 0} (refuse : ℕ → A) (ts rest : List (Bool × ℕ)) (d : A) (m : ℕ) → m ≡ first_of (λ m. m) ts 0 → (m ≡ 0 → ⊥)
    → first_of refuse (ts ++ rest) d ≡ refuse m
stopped refuse [] rest d m e no_zero = absurd (no_zero e)
stopped refuse (t ∷ ts) rest d m e no_zero = go t.0 refl (λ e. stopped refuse ts rest d m e no_zero)
  where
    go : (c : Bool) → t.0 ≡ c → (m ≡ first_of (λ m. m) ts 0 → first_of refuse (ts ++ rest) d ≡ refuse m) → cond t.0 (refuse t.1) (first_of refuse (ts ++ rest) d) ≡ refuse m
    go true b later = rw b (ap refuse (sym (e ∙ rw b refl)))
    go false b later = rw b (later (e ∙ rw b refl))

pub passed : {A : Type 0} (refuse : ℕ → A) (ts rest : List (Bool × ℕ)) (d : A) (m : ℕ) → m ≡ first_of (λ m. m) ts 0 → m ≡ 0 → Above ts
    → first_of refuse (ts ++ rest) d ≡ first_of refuse rest d
passed refuse [] rest d m e zero above = refl
passed refuse (t ∷ ts) rest d m e zero above = go t.0 refl (λ e. passed refuse ts rest d m e zero above.1)
  where
    go : (c : Bool) → t.0 ≡ c → (m ≡ first_of (λ m. m) ts 0 → first_of refuse (ts ++ rest) d ≡ first_of refuse rest d)
        → cond t.0 (refuse t.1) (first_of refuse (ts ++ rest) d) ≡ first_of refuse rest d
    go true b later = absurd (above.0 (sym (e ∙ rw b refl) ∙ zero))
    go false b later = rw b (later (e ∙ rw b refl))

-- where all are passed, none holds
abbrev pub None : List (Bool × ℕ) → Type 0
None [] = Unit {0}
None (t ∷ ts) = (t.0 ≡ false) × None ts

pub none_holds : (ts : List (Bool × ℕ)) (m : ℕ) → m ≡ first_of (λ m. m) ts 0 → m ≡ 0 → Above ts → None ts
none_holds [] m e zero above = tt
none_holds (t ∷ ts) m e zero above = go t.0 refl (λ e. none_holds ts m e zero above.1)
  where
    go : (c : Bool) → t.0 ≡ c → (m ≡ first_of (λ m. m) ts 0 → None ts) → (t.0 ≡ false) × None ts
    go true b later = absurd (above.0 (sym (e ∙ rw b refl) ∙ zero))
    go false b later = (b, later (e ∙ rw b refl))

-- a fact of each number whose test may hold, and of what is done where none does
abbrev pub Each : (ℕ → Type 0) → List (Bool × ℕ) → Type 0
Each P [] = Unit {0}
Each P (t ∷ ts) = (t.0 ≡ true → P t.1) × Each P ts

pub by_tests : {A : Type 0} (P : A → Type 0) (refuse : ℕ → A) (ts : List (Bool × ℕ)) (d : A) → Each (λ m. P (refuse m)) ts → (None ts → P d) → P (first_of refuse ts d)
by_tests P refuse [] d each done = done tt
by_tests P refuse (t ∷ ts) d each done = go t.0 refl (λ done. by_tests P refuse ts d each.1 done)
  where
    go : (c : Bool) → t.0 ≡ c → ((None ts → P d) → P (first_of refuse ts d)) → P (cond c (refuse t.1) (first_of refuse ts d))
    go true e later = each.0 e
    go false e later = later (λ none. done (e, none))
