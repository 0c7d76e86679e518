-- Fields that a writer wrote come back: doubled quotes are undone, each field is read between its own quotes, and nothing else is. Along the list
-- of fields, by the rules of the grammar.
use mathlib.Core.Path.{◌≡◌, refl, sym, ap, subst, ◌∙◌}
use mathlib.Core.Bool.{false}
use mathlib.Core.List.{List, [], ◌∷◌, ◌++◌, append_assoc}
use Prim.Native.Nat.{ℕ, suc, ◌+◌, ◌-◌}
use native.Mathlib.Omega.{arith}
use borrow.Author.Tests.{eqb-true, eqb-false}
use lib.Dec.{eqb}
use lib.ListN.{length, take, length-append}
use lib.Seq.{take_at, drop_at}
use Rattle.record.specs.Grammar.{comma, quote, Body, Field, Fields, Ends, From, Reads}
use Rattle.record.specs.Undone.{undone, part, own_bytes}
use Rattle.record.specs.Written.{doubled, quoted_field, written}
use Rattle.record.proofs.Laws.Tests.{either}
use Rattle.record.proofs.Theorems.Complete.{only_one}

-- a byte that is no quote is left alone
pub undone_byte : (b : ℕ) (s : List ℕ) → eqb b quote ≡ false → undone (b ∷ s) ≡ b ∷ undone s
unfolding undone
undone_byte b [] e = refl
undone_byte b (c ∷ s) e = rw e refl

-- what was doubled is undone
pub undone_doubled : (f : List ℕ) → undone (doubled f) ≡ f
unfolding undone doubled
undone_doubled [] = refl
undone_doubled (b ∷ s) =
    either (λ (t : List ℕ). undone t ≡ b ∷ s) (eqb b quote)
    (λ e. ap (λ (t : List ℕ). quote ∷ t) (undone_doubled s) ∙ ap (λ n. n ∷ s) (sym (eqb-true b quote e)))
    (λ e. undone_byte b (doubled s) e ∙ ap (λ (t : List ℕ). b ∷ t) (undone_doubled s))

-- a field that is written is a body
doubled_body : (f : List ℕ) (at : ℕ) (rest : List ℕ) → Body at (doubled f ++ rest) (at + length (doubled f)) rest
unfolding doubled
doubled_body [] at rest =
    let none : at ≡ at + length {A = ℕ} [] = omega arith in
    subst (λ k. Body at rest k rest) none Body.none
doubled_body (b ∷ s) at rest =
    let two : at + 2 + length (doubled s) ≡ at + suc (suc (length (doubled s))) = omega arith in
    let one : at + 1 + length (doubled s) ≡ at + suc (length (doubled s)) = omega arith in
    either (λ (t : List ℕ). Body at (t ++ rest) (at + length t) rest) (eqb b quote)
    (λ e. subst (λ k. Body at (quote ∷ quote ∷ (doubled s ++ rest)) k rest) two (Body.two_quotes (doubled_body s (at + 2) rest)))
    (λ e. subst (λ k. Body at (b ∷ (doubled s ++ rest)) k rest) one (Body.byte (eqb-false b quote e) (doubled_body s (at + 1) rest)))

-- where the fields are that are written from a position on
pub written_at : (at : ℕ) → List (List ℕ) → List (ℕ × ℕ)
written_at at [] = []
written_at at (f ∷ fs) = (at + 1, at + 1 + length (doubled f)) ∷ written_at (at + 3 + length (doubled f)) fs

quoted_size : (f : List ℕ) → length (quoted_field f) ≡ 2 + length (doubled f)
quoted_size f = omega (arith, length-append (doubled f) (quote ∷ []))

quoted_field_law : (f : List ℕ) (at : ℕ) (rest : List ℕ)
    → Field at (quoted_field f ++ rest) (at + 1) (at + 1 + length (doubled f)) (at + length (quoted_field f)) rest
quoted_field_law f at rest =
    let to : at + 1 + length (doubled f) + 1 ≡ at + length (quoted_field f) = omega (arith, quoted_size f) in
    let all : doubled f ++ (quote ∷ rest) ≡ (doubled f ++ (quote ∷ [])) ++ rest = sym (append_assoc (doubled f) (quote ∷ []) rest) in
    subst (λ k. Field at (quoted_field f ++ rest) (at + 1) (at + 1 + length (doubled f)) k rest) to
    (Field.escaped (subst (λ (t : List ℕ). Body (at + 1) t (at + 1 + length (doubled f)) (quote ∷ rest)) all (doubled_body f (at + 1) (quote ∷ rest))))

-- what is written is read
more_fields : (f w rest : List ℕ) (at : ℕ) (fields : List (ℕ × ℕ))
    → Fields (at + 3 + length (doubled f)) (w ++ rest) fields (at + 3 + length (doubled f) + length w) rest
    → Fields at ((quoted_field f ++ (comma ∷ w)) ++ rest) ((at + 1, at + 1 + length (doubled f)) ∷ fields) (at + length (quoted_field f ++ (comma ∷ w))) rest
more_fields f w rest at fields r =
    let all : (quoted_field f ++ (comma ∷ w)) ++ rest ≡ quoted_field f ++ (comma ∷ (w ++ rest)) = append_assoc (quoted_field f) (comma ∷ w) rest in
    let on : at + length (quoted_field f) + 1 ≡ at + 3 + length (doubled f) = omega (arith, quoted_size f) in
    let to : at + length (quoted_field f ++ (comma ∷ w)) ≡ at + 3 + length (doubled f) + length w =
    omega (arith, quoted_size f, length-append (quoted_field f) (comma ∷ w)) in
    let later : Fields (at + length (quoted_field f) + 1) (w ++ rest) fields (at + 3 + length (doubled f) + length w) rest = rw on r in
    rw (all, to) (Fields.and_more (quoted_field_law f at (comma ∷ (w ++ rest))) later)

written_fields : (f : List ℕ) (fs : List (List ℕ)) (at : ℕ) (rest : List ℕ)
    → Fields at (written (f ∷ fs) ++ rest) (written_at at (f ∷ fs)) (at + length (written (f ∷ fs))) rest
unfolding written written_at
written_fields f [] at rest = Fields.last (quoted_field_law f at rest)
written_fields f (g ∷ fs) at rest = more_fields f (written (g ∷ fs)) rest at _ (written_fields g fs (at + 3 + length (doubled f)) rest)

-- a part of a text, by what stands before it
pub part_at : (before name behind : List ℕ) (start end : ℕ) → length before ≡ start → end ≡ start + length name
    → part (before ++ (name ++ behind)) start end ≡ name
part_at before name behind start end size to =
    let bytes : end - start ≡ length name = omega arith in
    ap (take (end - start)) (drop_at before (name ++ behind) start size) ∙ take_at name behind (end - start) (sym bytes)

-- and its fields are the fields that were written
own_first : (f before behind : List ℕ) (at : ℕ) → length before ≡ at
    → undone (part (before ++ (quoted_field f ++ behind)) (at + 1) (at + 1 + length (doubled f))) ≡ f
own_first f before behind at size =
    let start : length (before ++ (quote ∷ [])) ≡ at + 1 = omega (arith, length-append before (quote ∷ [])) in
    let all : before ++ (quoted_field f ++ behind) ≡ (before ++ (quote ∷ [])) ++ (doubled f ++ (quote ∷ behind)) =
    ap (λ (t : List ℕ). before ++ (quote ∷ t)) (append_assoc (doubled f) (quote ∷ []) behind)
    ∙ sym (append_assoc before (quote ∷ []) (doubled f ++ (quote ∷ behind))) in
    ap (λ (t : List ℕ). undone (part t (at + 1) (at + 1 + length (doubled f)))) all
    ∙ (ap undone (part_at (before ++ (quote ∷ [])) (doubled f) (quote ∷ behind) (at + 1) (at + 1 + length (doubled f)) start refl) ∙ undone_doubled f)

own_more : (f w rest before : List ℕ) (at : ℕ) (fields : List (ℕ × ℕ)) (gs : List (List ℕ)) → length before ≡ at
    → ((before' : List ℕ) → length before' ≡ at + 3 + length (doubled f) → own_bytes (before' ++ (w ++ rest)) fields ≡ gs)
    → own_bytes (before ++ ((quoted_field f ++ (comma ∷ w)) ++ rest)) ((at + 1, at + 1 + length (doubled f)) ∷ fields) ≡ f ∷ gs
unfolding own_bytes
own_more f w rest before at fields gs size later =
    let text = before ++ ((quoted_field f ++ (comma ∷ w)) ++ rest) in
    let before' = before ++ (quoted_field f ++ (comma ∷ [])) in
    let here : text ≡ before ++ (quoted_field f ++ (comma ∷ (w ++ rest))) = ap (λ (t : List ℕ). before ++ t) (append_assoc (quoted_field f) (comma ∷ w) rest) in
    let there : before ++ (quoted_field f ++ (comma ∷ (w ++ rest))) ≡ before' ++ (w ++ rest) =
    ap (λ (t : List ℕ). before ++ t) (sym (append_assoc (quoted_field f) (comma ∷ []) (w ++ rest)))
    ∙ sym (append_assoc before (quoted_field f ++ (comma ∷ [])) (w ++ rest)) in
    let size' : length before' ≡ at + 3 + length (doubled f) =
    omega (arith, length-append before (quoted_field f ++ (comma ∷ [])), length-append (quoted_field f) (comma ∷ []), quoted_size f) in
    let first : undone (part text (at + 1) (at + 1 + length (doubled f))) ≡ f = rw here (own_first f before (comma ∷ (w ++ rest)) at size) in
    let others : own_bytes text fields ≡ gs = rw (here, there) (later before' size') in
    cc

written_own : (f : List ℕ) (fs : List (List ℕ)) (at : ℕ) (before rest : List ℕ) → length before ≡ at
    → own_bytes (before ++ (written (f ∷ fs) ++ rest)) (written_at at (f ∷ fs)) ≡ f ∷ fs
unfolding written written_at own_bytes
written_own f [] at before rest size = ap (λ (t : List ℕ). t ∷ []) (own_first f before rest at size)
written_own f (g ∷ fs) at before rest size =
    let mid = at + 3 + length (doubled f) in
    own_more f (written (g ∷ fs)) rest before at (written_at mid (g ∷ fs)) (g ∷ fs) size (λ before' size'. written_own g fs mid before' rest size')

pub written_back : (f : List ℕ) (fs : List (List ℕ)) (rest : List ℕ) → own_bytes (written (f ∷ fs) ++ rest) (written_at 0 (f ∷ fs)) ≡ f ∷ fs
written_back f fs rest = written_own f fs 0 [] rest refl

-- There and back: the record that was written is read, up to where it ends, and its fields' own bytes are those that were written.
module _ (f : List ℕ) (fs : List (List ℕ)) (rest : List ℕ) (next : ℕ) (ends : Ends (length (written (f ∷ fs))) rest next) where
  pub written_reads : Reads (written (f ∷ fs) ++ rest) (written_at 0 (f ∷ fs)) next
  written_reads =
      let to : length (written (f ∷ fs)) ≡ 0 + length (written (f ∷ fs)) = omega arith in
      From.from (written_fields f fs 0 rest) (rw to at ends)

  -- and so for every reading of it
  pub round_trip : (fields : List (ℕ × ℕ)) (next' : ℕ) → Reads (written (f ∷ fs) ++ rest) fields next'
      → (next' ≡ next) × (own_bytes (written (f ∷ fs) ++ rest) fields ≡ f ∷ fs)
  round_trip fields next' r =
      let same = only_one (written (f ∷ fs) ++ rest) fields (written_at 0 (f ∷ fs)) next' next r written_reads in
      (same.1, ap (own_bytes (written (f ∷ fs) ++ rest)) same.0 ∙ written_back f fs rest)
