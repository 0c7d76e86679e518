-- The totals in an answer of `read`: refused, both are as they were; done, both vectors were empty, and each total grew by what stands in the slots.
use mathlib.Core.Path.{◌≡◌, refl, sym, ap, ◌∙◌}
use mathlib.Core.List.{List}
use Prim.Native.Nat.{ℕ, ◌^◌, ◌<◌}
use native.Mathlib.Omega.{arith}
use Rattle.slots.specs.Layout.{vector, itself, entries}
use Rattle.slots.specs.Total.{total, changed}
use Rattle.slots.proofs.Placing.{length_entries}
use Rattle.slots.proofs.Totals.{total_empty, same_change, no_change}
use Rattle.table.specs.Tray.{Tray, list, nowhere}
use Rattle.table.specs.Does.{Outcome2, refused2}
use Rattle.runs.specs.Width.{summing}
use Rattle.vector.specs.declared.Vector.{Vector}
use Rattle.vector.specs.Seen.{tray, state}
use Rattle.std.specs.Prelude.{Ok, Err}
use Rattle.table.specs.Answers.{number_in, told, numbered}
use Rattle.table.specs.declared.answers.Answer.{Answer}
use Rattle.table.specs.declared.answers.Both.{Both}
use Rattle.table.specs.declared.answers.Refusal.{Refusal}
use Rattle.pairs.specs.Seen.{both, seen2}
use Rattle.record.specs.Recorded.{of_vector, records, total_starts, total_ends, Records}

-- what stands in an empty vector adds up to nothing
no_sum : (t : Tray) → t.len ≡ 0 → total (list vector t) ≡ 0
no_sum t none = total_empty (list vector t) (length_entries itself t.len t.slots ∙ none)

module _ (text : List ℕ) (t t2 : Tray) (o : Outcome2) (n : ℕ) (e : o ≡ records text t t2) where
  starts_same : o.first ≡ t → n < 2 ^ 64 → n ≡ total_starts text t t2 n
  unfolding total_starts
  starts_same same small =
      let now : (records text t t2).first ≡ t = ap (λ (o : Outcome2). o.first) (sym e) ∙ same in
      rw now (no_change n _ small)

  ends_same : o.second ≡ t2 → n < 2 ^ 64 → n ≡ total_ends text t t2 n
  unfolding total_ends
  ends_same same small =
      let now : (records text t t2).second ≡ t2 = ap (λ (o : Outcome2). o.second) (sym e) ∙ same in
      rw now (no_change n _ small)

  starts_put : t.len ≡ 0 → changed n (total (list vector o.first)) 0 ≡ total_starts text t t2 n
  unfolding total_starts
  starts_put none = rw (← e) (same_change n _ _ _ _ (omega (arith, no_sum t none)))

  ends_put : t2.len ≡ 0 → changed n (total (list vector o.second)) 0 ≡ total_ends text t t2 n
  unfolding total_ends
  ends_put none = rw (← e) (same_change n _ _ _ _ (omega (arith, no_sum t2 none)))

-- The promise, of a refused call, which leaves both as they were, and of one that is done.
pub refused_whole : (text : List ℕ) (first second : Vector) (s z : List ℕ) (e : Refusal)
    → records text (tray first s) (tray second z) ≡ refused2 (tray first s) (tray second z) nowhere (number_in e)
    → first.total.sum < 2 ^ 64 → second.total.sum < 2 ^ 64 → Records text first s second z (Err e) s z
refused_whole text first second s z e is small small2 = record {
  row = sym is;
  slot = refl;
  total = starts_same text (tray first s) (tray second z) _ first.total.sum (sym is) refl small;
  total2 = ends_same text (tray first s) (tray second z) _ second.total.sum (sym is) refl small2;
}

-- what the function `enter` answers, where the slots come to hold s' and z'
abbrev pub reads_to : (first second : Vector) (s' z' : List ℕ) (value count : ℕ) → Answer (Both Vector Vector)
reads_to first second s' z' value count =
    told value 0 (both (state count (summing (changed first.total.sum (total (entries itself count s')) 0)))
    (state count (summing (changed second.total.sum (total (entries itself count z')) 0))))

pub grown : (text : List ℕ) (first second : Vector) (s z s' z' : List ℕ) (a : Answer (Both Vector Vector)) (value count : ℕ) → a ≡ reads_to first second s' z' value count
    → seen2 of_vector of_vector (numbered (both first second) (Ok (reads_to first second s' z' value count))) s' z' ≡ records text (tray first s) (tray second z)
    → first.len ≡ 0 → second.len ≡ 0 → Records text first s second z (Ok a) s' z'
grown text first second s z s' z' a value count is e none none2 = record {
  row = ap (λ (a : Answer (Both Vector Vector)). seen2 of_vector of_vector (numbered (both first second) (Ok a)) s' z') is ∙ e;
  slot = ap (λ (a : Answer (Both Vector Vector)). a.slot) is;
  total = ap (λ (a : Answer (Both Vector Vector)). a.state.first.total.sum) is ∙ starts_put text (tray first s) (tray second z) _ first.total.sum e none;
  total2 = ap (λ (a : Answer (Both Vector Vector)). a.state.second.total.sum) is ∙ ends_put text (tray first s) (tray second z) _ second.total.sum e none2;
}
