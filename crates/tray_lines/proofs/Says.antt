-- What a line says, from its fields: a number that stands in no table is unknown, and a line of 16 digits says a call or none.
use mathlib.Core.Path.{◌≡◌, refl, sym, ap, ◌∙◌}
use mathlib.Core.Bool.{Bool, true, false}
use mathlib.Core.List.{List}
use Prim.Native.Nat.{ℕ}
use native.Mathlib.Omega.{arith}
use borrow.Author.Tests.{eq-eqb, ne_eqb}
use lib.ListN.{length, take, drop}
use Rattle.digits.specs.Hex.{are_digits, number_in}
use Rattle.digits.specs.Rows.{under}
use Rattle.digits.proofs.Rows.{Apart, no_row}
use Rattle.digits.proofs.Fields.{field_says}
use Rattle.std.specs.Prelude.{Result, Ok, Err}
use Rattle.tray_lines.specs.declared.lines.Call.{Call}
use Rattle.tray_lines.specs.declared.lines.Unsaid.{Unsaid}
use Rattle.tray_lines.specs.declared.lines.Unsaid.TheVariants.{Garbled, Unknown}
use Rattle.tray_lines.specs.Lines.{calls, call_says, said}

-- a number that stands in no row, once every row was tried
pub unknown : {A : Type 0} (n : ℕ) (rows : List (ℕ × Result A Unsaid)) (before : Type 0) → Apart n rows before → Err Unknown ≡ under n rows (Err Unknown)
unknown n rows before apart = no_row n rows (Err Unknown) (Err Unknown) before apart refl

-- an operation that is said is a call, and one that isn't is none
pub said_ok : {A : Type 0} (call : A → Call) (s r : Result A Unsaid) (op : A) → r ≡ s → r ≡ Ok op → Ok (call op) ≡ calls call s
said_ok call s r op e o = ap (calls call) (sym o ∙ e)

pub said_err : {A : Type 0} (call : A → Call) (s r : Result A Unsaid) (e : Unsaid) → r ≡ s → r ≡ Err e → Err e ≡ calls call s
said_err call s r e es o = ap (calls call) (sym o ∙ es)

-- what a line says once its length and digits are seen
pub says_garbled : (l : List ℕ) → (length l ≡ 16 → ⊥) → Err Garbled ≡ said l
unfolding said
says_garbled l ne = rw (ne_eqb (length l) 16 ne)

pub says_no_digits : (l : List ℕ) (b : Bool) → length l ≡ 16 → b ≡ are_digits l → b ≡ false → Err Garbled ≡ said l
unfolding said
says_no_digits l b e d f = let no : are_digits l ≡ false = sym d ∙ f in rw (eq-eqb (length l) 16 e, no)

pub says_call : (l : List ℕ) (b : Bool) (op c i x : ℕ) (s : Result Call Unsaid) → length l ≡ 16 → b ≡ are_digits l → b ≡ true
    → op ≡ number_in (take 2 (drop 0 l)) → c ≡ number_in (take 2 (drop 2 l)) → i ≡ number_in (take 4 (drop 4 l)) → x ≡ number_in (take 8 (drop 8 l))
    → s ≡ call_says op c i x → s ≡ said l
unfolding said
says_call l b op c i x s e d t eo ec ei ex es =
    let yes : are_digits l ≡ true = sym d ∙ t in
    rw (eq-eqb (length l) 16 e, yes)
    (es ∙ cc (field_says 0 2 l yes (omega arith) op eo, field_says 2 2 l yes (omega arith) c ec, field_says 4 4 l yes (omega arith) i ei, field_says 8 8 l yes (omega arith) x ex))
