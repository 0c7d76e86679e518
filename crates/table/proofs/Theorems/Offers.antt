-- Which calls are one kind's only, as paper 01 has them; every other call both kinds have.
use Prim.Native.Nat.{ℕ}
use mathlib.Core.Path.{◌≡◌, refl}
use mathlib.Core.Bool.{true, false}
use mathlib.Core.List.{List}
use mathlib.Core.Logic.{◌⊎◌, inl, inr}
use Rattle.slots.specs.Layout.{Kind, ring, vector}
use Rattle.table.specs.Tray.{Cursor}
use Rattle.table.specs.Calls.{len, is_empty, read, reserve, try_reserve, try_reserve_exact, range, iter, into_iter, step_front, step_back, peek_front, peek_back}
use Rattle.table.specs.Calls.{Call, push, push_front, pop, pop_front, insert, remove, swap_remove, write, truncate, resize, clear, extend, look, has}
use Rattle.table.specs.Calls.{append, split_off, clone, from_iter, same, has2, new, with_capacity, from_elem, has_making}

-- the calls of one kind only
pub data Only : Kind → Call → Type 0 where
  push_front_only : {x : ℕ} → Only ring (push_front x)
  pop_front_only : Only ring pop_front
  swap_remove_only : {i : ℕ} → Only vector (swap_remove i)
  extend_from_slice : {s : List ℕ} → Only vector (extend s)
  is_empty_only : Only vector (look is_empty)
  try_reserve_only : {m : ℕ} → Only vector (look (try_reserve m))
  try_reserve_exact_only : {m : ℕ} → Only vector (look (try_reserve_exact m))
  range_asked : {a b : ℕ} → Only vector (look (range a b))

abbrev pub other : Kind → Kind
other ring = vector
other vector = ring

-- the other kind lacks them
pub lacks : {k : Kind} {call : Call} → Only k call → (has call k ≡ true) × (has call (other k) ≡ false)
lacks push_front_only = (refl, refl)
lacks pop_front_only = (refl, refl)
lacks swap_remove_only = (refl, refl)
lacks extend_from_slice = (refl, refl)
lacks is_empty_only = (refl, refl)
lacks try_reserve_only = (refl, refl)
lacks try_reserve_exact_only = (refl, refl)
lacks range_asked = (refl, refl)

-- and every other call both have
pub offers : (call : Call) → ((k : Kind) → has call k ≡ true) ⊎ ((k : Kind) × Only k call)
offers (push x) = inl (λ k. refl)
offers (push_front x) = inr (ring, push_front_only)
offers pop = inl (λ k. refl)
offers pop_front = inr (ring, pop_front_only)
offers (insert i x) = inl (λ k. refl)
offers (remove i) = inl (λ k. refl)
offers (swap_remove i) = inr (vector, swap_remove_only)
offers (write i x) = inl (λ k. refl)
offers (truncate m) = inl (λ k. refl)
offers (resize m x) = inl (λ k. refl)
offers clear = inl (λ k. refl)
offers (extend s) = inr (vector, extend_from_slice)
offers (look len) = inl (λ k. refl)
offers (look is_empty) = inr (vector, is_empty_only)
offers (look (read i)) = inl (λ k. refl)
offers (look (reserve m)) = inl (λ k. refl)
offers (look (try_reserve m)) = inr (vector, try_reserve_only)
offers (look (try_reserve_exact m)) = inr (vector, try_reserve_exact_only)
offers (look (range a b)) = inr (vector, range_asked)
offers (look iter) = inl (λ k. refl)
offers (look into_iter) = inl (λ k. refl)
offers (look (step_front u)) = inl (λ k. refl)
offers (look (step_back u)) = inl (λ k. refl)
offers (look (peek_front u m)) = inl (λ k. refl)
offers (look (peek_back u m)) = inl (λ k. refl)

-- T is of the same kind in append, split_off and clone, and a vector in from_iter
pub alike_has : (k : Kind) (at : ℕ) → (has2 append k k ≡ true) × (has2 (split_off at) k k ≡ true) × (has2 clone k k ≡ true)
alike_has ring at = (refl, refl, refl)
alike_has vector at = (refl, refl, refl)

pub unlike_lacks : (k : Kind) (at : ℕ) → (has2 append k (other k) ≡ false) × (has2 (split_off at) k (other k) ≡ false) × (has2 clone k (other k) ≡ false)
unlike_lacks ring at = (refl, refl, refl)
unlike_lacks vector at = (refl, refl, refl)

pub from_iter_has : (k : Kind) (u : Cursor) → (has2 (from_iter u) k vector ≡ true) × (has2 (from_iter u) k ring ≡ false)
from_iter_has k u = (refl, refl)

-- sameness is of two of a kind, and of a ring with a vector in that order
pub same_has : ((k : Kind) → has2 same k k ≡ true) × (has2 same ring vector ≡ true) × (has2 same vector ring ≡ false)
same_has = (alike, refl, refl)
  where
    alike : (k : Kind) → has2 same k k ≡ true
    alike ring = refl
    alike vector = refl

-- from_elem makes a vector
pub making_has : (k : Kind) (m x : ℕ)
    → (has_making new k ≡ true) × (has_making (with_capacity m) k ≡ true) × (has_making (from_elem m x) vector ≡ true) × (has_making (from_elem m x) ring ≡ false)
making_has k m x = (refl, refl, refl, refl)
