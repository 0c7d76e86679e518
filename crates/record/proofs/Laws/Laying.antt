-- Places are laid into the slots of two vectors one by one: what was laid, with what is left, is always the whole.
use mathlib.Core.Path.{◌≡◌, refl, sym, ap, ◌∙◌}
use mathlib.Core.List.{List, [], ◌∷◌}
use Prim.Native.Nat.{ℕ, ◌+◌, ◌≤◌, ◌<◌}
use native.Mathlib.Numerals.{add-one}
use lib.ListN.{length, get_or, take, drop, set, drop_of_length-le}
use lib.Seq.{sets, drop-cons, get_or-take, length-take-le}
use native.Mathlib.Omega.{arith}
use Rattle.record.specs.Places.{firsts, lasts}

-- the slots after the first k of these places were laid
pub record Laying (fields : List (ℕ × ℕ)) (slots₀ theirs₀ slots theirs : List ℕ) (k : ℕ) : Type 0 where
  pub starts_are : sets slots k (firsts (drop k fields)) ≡ sets slots₀ 0 (firsts fields)
  pub ends_are : sets theirs k (lasts (drop k fields)) ≡ sets theirs₀ 0 (lasts fields)

pub none_laid : (fields : List (ℕ × ℕ)) (slots theirs : List ℕ) → Laying fields slots theirs slots theirs 0
none_laid fields slots theirs = record { starts_are = refl; ends_are = refl }

module _ (fields : List (ℕ × ℕ)) (slots₀ theirs₀ slots theirs : List ℕ) (k : ℕ) (l : Laying fields slots₀ theirs₀ slots theirs k) where
  pub one_laid : (a e : ℕ) → drop k fields ≡ (a, e) ∷ drop (k + 1) fields → Laying fields slots₀ theirs₀ (set slots k a) (set theirs k e) (k + 1)
  unfolding firsts lasts
  one_laid a e split =
      let starts_left : sets (set slots k a) (k + 1) (firsts (drop (k + 1) fields)) ≡ sets slots k (firsts (drop k fields)) = rw (split, add-one k) refl in
      let ends_left : sets (set theirs k e) (k + 1) (lasts (drop (k + 1) fields)) ≡ sets theirs k (lasts (drop k fields)) = rw (split, add-one k) refl in
      record { starts_are = starts_left ∙ l.starts_are; ends_are = ends_left ∙ l.ends_are }

  pub some_laid : (d : ℕ × ℕ) → k < length fields → Laying fields slots₀ theirs₀ (set slots k (get_or fields k d).0) (set theirs k (get_or fields k d).1) (k + 1)
  some_laid d h = one_laid (get_or fields k d).0 (get_or fields k d).1 (rw (add-one, drop-cons fields k d))

  module _ (all : length fields ≤ k) where
    none_left : drop k fields ≡ []
    none_left = drop_of_length-le fields {i = k} all

    pub starts_laid : slots ≡ sets slots₀ 0 (firsts fields)
    unfolding firsts
    starts_laid = sym (ap (λ l. sets slots k (firsts l)) none_left) ∙ l.starts_are

    pub ends_laid : theirs ≡ sets theirs₀ 0 (lasts fields)
    unfolding lasts
    ends_laid = sym (ap (λ l. sets theirs k (lasts l)) none_left) ∙ l.ends_are

-- those that were kept of a list, from its front on
module _ (places : List (ℕ × ℕ)) (count : ℕ) (slots₀ theirs₀ slots theirs : List ℕ) (k : ℕ) (l : Laying (take count places) slots₀ theirs₀ slots theirs k) (fits : count ≤ length places) where
  pub kept_laid : (d : ℕ × ℕ) → k < count → Laying (take count places) slots₀ theirs₀ (set slots k (get_or places k d).0) (set theirs k (get_or places k d).1) (k + 1)
  kept_laid d h =
      rw (← get_or-take count places k d h)
      (some_laid (take count places) slots₀ theirs₀ slots theirs k l d (omega (arith, length-take-le count places fits)))

  pub starts_kept : count ≤ k → slots ≡ sets slots₀ 0 (firsts (take count places))
  starts_kept h = starts_laid (take count places) slots₀ theirs₀ slots theirs k l (omega (arith, length-take-le count places fits))

  pub ends_kept : count ≤ k → theirs ≡ sets theirs₀ 0 (lasts (take count places))
  ends_kept h = ends_laid (take count places) slots₀ theirs₀ slots theirs k l (omega (arith, length-take-le count places fits))
