-- No rule of the grammar looks at a byte behind the place that it leads to; and a record's fields never end with an LF. Rule by rule.
use mathlib.Core.Path.{◌≡◌, refl, sym, ap, subst, ◌∙◌}
use mathlib.Core.List.{List, [], ◌∷◌, ◌++◌, append_assoc}
use Prim.Native.Nat.{ℕ, suc, ◌+◌}
use native.Mathlib.Omega.{arith}
use lib.ListN.{length, length-append}
use Rattle.record.specs.Grammar.{comma, quote, lf, NonEscaped, Body, Field, Fields}

-- the last byte, or another if there is none
abbrev pub final : (other : ℕ) → List ℕ → ℕ
final c [] = c
final c (b ∷ s) = final b s

pub final_append : (c : ℕ) (s t : List ℕ) → final c (s ++ t) ≡ final (final c s) t
final_append c [] t = refl
final_append c (b ∷ s) t = final_append b s t

-- A rule leads from at and s to another place, t: over some bytes, and over the same whatever follows.
pub record Passed (Rule : (s t : List ℕ) → Type 0) (at : ℕ) (s : List ℕ) (to : ℕ) (t : List ℕ) : Type 0 where
  pub bytes : List ℕ
  pub whole : s ≡ bytes ++ t
  pub place : to ≡ at + length bytes
  pub again : (others : List ℕ) → Rule (bytes ++ others) others

-- and the last of them is no LF
pub record Clean (Rule : (s t : List ℕ) → Type 0) (at : ℕ) (s : List ℕ) (to : ℕ) (t : List ℕ) : Type 0 where
  pub passed : Passed Rule at s to t
  pub no_lf : (c : ℕ) → (c ≡ lf → ⊥) → final c passed.bytes ≡ lf → ⊥

non_escaped_local : {at to : ℕ} {s t : List ℕ} → NonEscaped at s to t → Clean (λ s t. NonEscaped at s to t) at s to t
non_escaped_local NonEscaped.none = record {
  passed = record { bytes = []; whole = refl; place = omega arith; again = λ others. NonEscaped.none };
  no_lf = λ c h. h;
}
non_escaped_local {at} {to} (NonEscaped.textdata {b = b} x r) =
    let l = non_escaped_local r in
    let w = l.passed in
    let place : to ≡ at + 1 + length w.bytes = w.place in
    record {
      passed = record {
        bytes = b ∷ w.bytes;
        whole = ap (λ (u : List ℕ). b ∷ u) w.whole;
        place = omega arith;
        again = λ others. NonEscaped.textdata x (w.again others);
      };
      no_lf = λ c h. l.no_lf b x.no_lf;
    }

body_local : {at to : ℕ} {s t : List ℕ} → Body at s to t → Passed (λ s t. Body at s to t) at s to t
body_local Body.none = record { bytes = []; whole = refl; place = omega arith; again = λ others. Body.none }
body_local {at} {to} (Body.byte {b = b} x r) =
    let w = body_local r in
    let place : to ≡ at + 1 + length w.bytes = w.place in
    record {
      bytes = b ∷ w.bytes;
      whole = ap (λ (u : List ℕ). b ∷ u) w.whole;
      place = omega arith;
      again = λ others. Body.byte x (w.again others);
    }
body_local {at} {to} (Body.two_quotes r) =
    let w = body_local r in
    let place : to ≡ at + 2 + length w.bytes = w.place in
    record {
      bytes = quote ∷ quote ∷ w.bytes;
      whole = ap (λ (u : List ℕ). quote ∷ quote ∷ u) w.whole;
      place = omega arith;
      again = λ others. Body.two_quotes (w.again others);
    }

pub field_local : {at a e to : ℕ} {s t : List ℕ} → Field at s a e to t → Clean (λ s t. Field at s a e to t) at s to t
field_local {at} (Field.escaped {e = e} {t = t} r) =
    let w = body_local r in
    let place : e ≡ at + 1 + length w.bytes = w.place in
    let two : length (w.bytes ++ (quote ∷ [])) ≡ length w.bytes + 1 = length-append w.bytes (quote ∷ []) in
    record {
      passed = record {
        bytes = quote ∷ (w.bytes ++ (quote ∷ []));
        whole = ap (λ (u : List ℕ). quote ∷ u) (w.whole ∙ sym (append_assoc w.bytes (quote ∷ []) t));
        place = omega arith;
        again = λ others. Field.escaped
            (subst (λ (u : List ℕ). Body (at + 1) u e (quote ∷ others)) (sym (append_assoc w.bytes (quote ∷ []) others)) (w.again (quote ∷ others)));
      };
      no_lf = λ c h e. let x : quote ≡ lf = sym (final_append quote w.bytes (quote ∷ [])) ∙ e in omega arith;
    }
field_local (Field.non_escaped r) =
    let l = non_escaped_local r in
    let w = l.passed in
    record {
      passed = record { bytes = w.bytes; whole = w.whole; place = w.place; again = λ others. Field.non_escaped (w.again others) };
      no_lf = l.no_lf;
    }

pub fields_local : {at to : ℕ} {s t : List ℕ} {fields : List (ℕ × ℕ)} → Fields at s fields to t → Clean (λ s t. Fields at s fields to t) at s to t
fields_local (Fields.last r) =
    let l = field_local r in
    let w = l.passed in
    record {
      passed = record { bytes = w.bytes; whole = w.whole; place = w.place; again = λ others. Fields.last (w.again others) };
      no_lf = l.no_lf;
    }
fields_local {at} {to} {t = t} {fields = fields} (Fields.and_more {a = a} {e = e} {mid = mid} {fields = fs} r rs) =
    let w = (field_local r).passed in
    let l = fields_local rs in
    let v = l.passed in
    let first : mid ≡ at + length w.bytes = w.place in
    let place : to ≡ mid + 1 + length v.bytes = v.place in
    let both : length (w.bytes ++ (comma ∷ v.bytes)) ≡ length w.bytes + suc (length v.bytes) = length-append w.bytes (comma ∷ v.bytes) in
    record {
      passed = record {
        bytes = w.bytes ++ (comma ∷ v.bytes);
        whole = w.whole ∙ (ap (λ (u : List ℕ). w.bytes ++ (comma ∷ u)) v.whole ∙ sym (append_assoc w.bytes (comma ∷ v.bytes) t));
        place = omega arith;
        again = λ others. subst (λ (u : List ℕ). Fields at u ((a, e) ∷ fs) to others) (sym (append_assoc w.bytes (comma ∷ v.bytes) others))
            (Fields.and_more (w.again (comma ∷ (v.bytes ++ others))) (v.again others));
      };
      no_lf = λ c h e. l.no_lf comma (λ e. omega arith) (sym (final_append c w.bytes (comma ∷ v.bytes)) ∙ e);
    }
