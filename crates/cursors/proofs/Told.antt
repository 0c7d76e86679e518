-- An answer about a cursor is an outcome of its row: the laws that the proofs of all calls cite, for any kind of container.
use mathlib.Core.Path.{◌≡◌, refl, sym, ap, ◌∙◌}
use mathlib.Core.Bool.{Bool, true, false, not, ◌&&◌}
use mathlib.Core.List.{List, [], ◌∷◌}
use Prim.Native.Nat.{ℕ, ◌-◌, ◌^◌, ◌≤◌, ◌<◌}
use native.Mathlib.Omega.{arith}
use lib.Dec.{ltb, leb, eqb}
use borrow.Author.Tests.{leb-true, not-false}
use lib.ListN.{length, drop}
use Rattle.std.specs.Prelude.{Ok, Err}
use Rattle.slots.specs.Layout.{Kind, vector, place, itself, entries}
use Rattle.slots.specs.Copy.{Laid}
use Rattle.slots.specs.Total.{total, changed}
use Rattle.runs.specs.declared.total.Total.{Total}
use Rattle.table.specs.Tray.{Tray, cap, list, invalid, within}
use Rattle.table.specs.Table.{look_row, holding, beyond, empty, number_of, Refusal as Named}
use Rattle.table.specs.Tested.{Stopped}
use Rattle.table.specs.Calls.{Call, Look, look, from_iter}
use Rattle.table.specs.Does.{Outcome, refused, refused2, row_of, does, does2}
use Rattle.table.specs.Answers.{number_in, told, numbered}
use Rattle.table.specs.declared.answers.Answer.{Answer}
use Rattle.table.specs.declared.answers.Both.{Both}
use Rattle.table.specs.declared.answers.Refusal.{Refusal}
use Rattle.table.specs.declared.answers.Refusal.TheVariants.{Invalid, SecondInvalid, Beyond, Empty, Taken, Full}
use Rattle.table.proofs.Laws.Refusals.{Clear}
use Rattle.table.proofs.Laws.Valid.{and_left, and_right}
use Rattle.table.proofs.Laws.Stops.{meets}
use Rattle.table.proofs.Laws.Looks.{shows, look_done}
use Rattle.table.proofs.Laws.Done2.{from_iter_none_done, from_iter_done}
use Rattle.table.proofs.Laws.Totalling.{second_is, second_same, copies_rest}
use Rattle.vector.specs.declared.Vector.{Vector}
use Rattle.vector.specs.Seen.{tray, state}
use Rattle.containers.specs.Reading.{head_of}
use Rattle.containers.proofs.Homes.{home}
use Rattle.cursors.specs.declared.Cursor as code
use Rattle.cursors.specs.Seen.{cursor, seen, seen_into, why_no_step, Steps, Takes}

-- What the call q of the cursor u gives back is the cursor given: refused, by the first test that holds, or done.
module _ (k : Kind) (t : Tray) (u : code.Cursor) (q : Look) (given : (row_of k (look q) t).given ≡ cursor u) where
  refusing : (e : Refusal) → refused t (cursor u) (number_in e) ≡ does k (look q) t → Steps k (look q) t u (Err e)
  refusing e is = record { row = is; slot = refl }

  pub is_invalid : invalid k t ≡ true → Steps k (look q) t u (Err Invalid)
  unfolding does
  is_invalid bad = refusing Invalid (rw (bad, given) refl)

  pub by_first : (e : Refusal) (a : Bool) (named : Named) (rest : List (Bool × Named)) → (row_of k (look q) t).refusals ≡ (a, named) ∷ rest
      → number_of named ≡ number_in e → invalid k t ≡ false → a ≡ true → Steps k (look q) t u (Err e)
  unfolding does
  by_first e a named rest refusals number ok holds = refusing e (rw (refusals, ok, holds, number, given) refl)

  pub by_second : (e : Refusal) (a b : Bool) (one named : Named) (rest : List (Bool × Named)) → (row_of k (look q) t).refusals ≡ (a, one) ∷ (b, named) ∷ rest
      → number_of named ≡ number_in e → invalid k t ≡ false → a ≡ false → b ≡ true → Steps k (look q) t u (Err e)
  unfolding does
  by_second e a b one named rest refusals number ok passes holds = refusing e (rw (refusals, ok, passes, holds, number, given) refl)

  -- of a step, whose one test s has failed
  pub has_no_step : (s : Bool) (e : Refusal) → (row_of k (look q) t).refusals ≡ (not (within u.front u.back t.len), beyond) ∷ (eqb u.front u.back, empty) ∷ []
      → Stopped k (cap t) t.head t.len (ltb u.front u.back && leb u.back t.len) s → s ≡ true → e ≡ why_no_step k (cap t) t.head t.len u → Steps k (look q) t u (Err e)
  has_no_step s e refusals stopped stop is = go (invalid k t) (not (within u.front u.back t.len)) refl refl
    where
      go : (b a : Bool) → invalid k t ≡ b → not (within u.front u.back t.len) ≡ a → Steps k (look q) t u (Err e)
      go true a bad ea = let e1 : e ≡ Invalid = is ∙ rw bad refl in rw e1 (is_invalid bad)
      go false true ok out = let e1 : e ≡ Beyond = is ∙ rw (ok, out) refl in rw e1 (by_first Beyond _ beyond _ refusals refl ok out)
      go false false ok inside =
          let e1 : e ≡ Empty = is ∙ rw (ok, inside) refl in
          let both = not-false (within u.front u.back t.len) inside in
          let ended = meets k (cap t) t.head t.len u.front u.back s (invalid k t) stopped stop refl ok (leb-true _ _ (and_left _ _ both))
          (leb-true _ _ (and_right (leb u.front u.back) _ both)) in
          rw e1 (by_second Empty _ _ beyond empty _ refusals refl ok inside ended)

  pub is_done : (a : Answer code.Cursor) (value : ℕ) (v : code.Cursor) → invalid k t ≡ false → head_of k t.head ≡ t.head → Clear (row_of k (look q) t).refusals
      → a ≡ told value 0 v → value ≡ (look_row (cap t) t.len (list k t) q).value → cursor v ≡ (look_row (cap t) t.len (list k t) q).cursor → Steps k (look q) t u (Ok a)
  is_done a value v ok headed clear is ev ev2 =
      record { row = look_done k t _ ok (home k t headed ok) q clear (ap (λ a. seen (numbered u (Ok a)) t) is ∙ rw (ev, ev2) refl); slot = ap (λ a. a.slot) is }

-- A call that shows an entry: the law of its row says that what is shown is what the row says.
pub is_shown : (k : Kind) (t : Tray) (u : code.Cursor) (call : Call) (a : Answer code.Cursor) (value : ℕ) (v : code.Cursor) → a ≡ told value 0 v
    → ((o : Outcome) → o ≡ shows t value (cursor v) → o ≡ does k call t) → Steps k call t u (Ok a)
is_shown k t u call a value v is law = record { row = law _ (ap (λ a. seen (numbered u (Ok a)) t) is); slot = ap (λ a. a.slot) is }

-- from_iter by the cursor u on the container t, with T the vector w on the slots z. Where it is refused, by the first test that holds, and where nothing remains,
-- all is left as it was.
module _ (k : Kind) (t : Tray) (u : code.Cursor) (w : Vector) (z : List ℕ) (small : w.total.sum < 2 ^ 64) where
  not_taking : (e : Refusal) → refused2 t (tray w z) (cursor u) (number_in e) ≡ does2 k vector (from_iter (cursor u)) t (tray w z)
      → Takes k (from_iter (cursor u)) t u w z (Err e) z
  not_taking e is = record { row = is; slot = refl; total = second_same k vector (from_iter (cursor u)) t (tray w z) _ 0 w.total.sum is refl small }

  pub takes_of_none : invalid k t ≡ true → Takes k (from_iter (cursor u)) t u w z (Err Invalid) z
  unfolding does2
  takes_of_none bad = not_taking Invalid (rw bad refl)

  module _ (ok : invalid k t ≡ false) where
    pub takes_to_none : invalid vector (tray w z) ≡ true → Takes k (from_iter (cursor u)) t u w z (Err SecondInvalid) z
    unfolding does2
    takes_to_none bad = not_taking SecondInvalid (rw (ok, bad) refl)

    module _ (ok2 : invalid vector (tray w z) ≡ false) where
      pub takes_beyond : not (within u.front u.back t.len) ≡ true → Takes k (from_iter (cursor u)) t u w z (Err Beyond) z
      unfolding does2
      takes_beyond astray = not_taking Beyond (rw (ok, ok2, astray) refl)

      pub takes_to_taken : not (within u.front u.back t.len) ≡ false → holding w.len ≡ true → Takes k (from_iter (cursor u)) t u w z (Err Taken) z
      unfolding does2
      takes_to_taken inside held = not_taking Taken (rw (ok, ok2, inside, held) refl)

      pub takes_too_many : not (within u.front u.back t.len) ≡ false → holding w.len ≡ false → ltb (length z) (u.back - u.front) ≡ true
          → Takes k (from_iter (cursor u)) t u w z (Err Full) z
      unfolding does2
      takes_too_many inside free short = not_taking Full (rw (ok, ok2, inside, free, short) refl)

      module _ (headed : head_of k t.head ≡ t.head) (ordered : u.front ≤ u.back) (fits : u.back ≤ t.len) (empty : w.len ≡ 0) where
        pub takes_nothing : (a : Answer (Both code.Cursor Vector)) → u.front ≡ u.back → a ≡ told 0 0 (record { first = u; second = w })
            → Takes k (from_iter (cursor u)) t u w z (Ok a) z
        takes_nothing a ended is =
            let row = from_iter_none_done k t (tray w z) _ ok ok2 (cursor u) ordered fits empty (home k t headed ok) ended
            (ap (λ a. seen_into (numbered (record { first = u; second = w }) (Ok a)) t z) is ∙ cc) in
            record {
              row = row;
              slot = ap (λ a. a.slot) is;
              total = ap (λ a. a.state.second.total.sum) is ∙ second_same k vector (from_iter (cursor u)) t (tray w z) _ 0 w.total.sum
                  (ap (λ a. seen_into (numbered (record { first = u; second = w }) (Ok a)) t z) (sym is) ∙ row) refl small;
            }

        -- T gets what remains, and its total what that adds up to; 0 stands for the container's total, which is not touched
        pub takes_rest : (a : Answer (Both code.Cursor Vector)) (v : Vector) (by sum : Total) (theirs : List ℕ) → u.back - u.front ≤ length z
            → Laid itself 0 (u.back - u.front) (drop u.front (entries (place k (cap t) t.head) u.back t.slots)) z theirs
            → by.sum ≡ total (drop u.front (entries (place k (cap t) t.head) u.back t.slots)) → sum.sum ≡ changed w.total.sum by.sum 0
            → v ≡ state (u.back - u.front) sum → a ≡ told 0 0 (record { first = record { front = u.back; back = u.back }; second = v })
            → Takes k (from_iter (cursor u)) t u w z (Ok a) theirs
        takes_rest a v by sum theirs room laid part more ev is =
            let row = from_iter_done k t (tray w z) _ ok ok2 (cursor u) theirs ordered fits empty (home k t headed ok) room laid
            (ap (λ a. seen_into (numbered (record { first = u; second = w }) (Ok a)) t theirs) is ∙ rw ev refl) in
            let flow = copies_rest (cursor u) (place k (cap t) t.head) itself t.len w.len by.sum 0 w.total.sum sum.sum t.slots z (omega arith) fits empty part more in
            record {
              row = row;
              slot = ap (λ a. a.slot) is;
              total = ap (λ a. a.state.second.total.sum) is ∙ rw ev
                  (second_is k vector (from_iter (cursor u)) t (tray w z) _ 0 w.total.sum row 0 sum.sum (ap (λ a. 0) is) flow);
            }
