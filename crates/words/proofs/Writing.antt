-- Lines written piece by piece: a piece right behind another makes one with it, and a loop that writes what is left has written all at its end.
use mathlib.Core.Path.{◌≡◌, refl, sym, ap, ◌∙◌}
use mathlib.Core.List.{List, [], ◌∷◌, ◌++◌}
use Prim.Native.Nat.{ℕ, ◌+◌, ◌-◌, ◌≤◌, ◌<◌}
use native.Mathlib.Numerals.{add-one}
use native.Mathlib.Omega.{arith}
use borrow.Rule.Slice.PartMut.{put_mid}
use Rattle.std.proofs.lemmas.List.Edits.{paste_all}
use Rattle.std.proofs.lemmas.Slice.{put_mid-paste}
use lib.ListN.{length, get_or, set, drop, length-set, length-append}
use lib.Seq.{drop-cons}
use Rattle.digits.specs.Put.{put}
use Rattle.digits.proofs.Puts.{put_one, put_after, put_at, length_put}
use Rattle.words.specs.Wrote.{Wrote}

pub wrote_none : {a : List ℕ} {at : ℕ} → Wrote a at [] at a
unfolding put
wrote_none = record { bytes = refl; behind = omega arith; long = refl }

pub wrote_one : (a : List ℕ) (at b : ℕ) → Wrote a at (b ∷ []) (at + 1) (set a at b)
wrote_one a at b = record { bytes = sym (put_one a at b); behind = refl; long = length-set a at b }

pub wrote_then : {a b c : List ℕ} {at m e : ℕ} {s s2 : List ℕ} → Wrote a at s m b → Wrote b m s2 e c → Wrote a at (s ++ s2) e c
wrote_then {a} {b} {c} {at} {m} {e} {s} {s2} p q = record {
  bytes = q.bytes ∙ ap (λ t. put t m s2) p.bytes ∙ put_after a s s2 at (length s) m refl (sym p.behind);
  behind = omega (arith, p.behind, q.behind, length-append s s2);
  long = q.long ∙ p.long;
}

-- what is left to write, from a place on, makes the whole
pub record Left (a : List ℕ) (at : ℕ) (all : List ℕ) (end : ℕ) (s : List ℕ) (b : List ℕ) : Type 0 where
  pub bytes : put b end s ≡ put a at all
  pub behind : end + length s ≡ at + length all
  pub long : length b ≡ length a

pub left_all : {a : List ℕ} {at : ℕ} {all : List ℕ} → Left a at all at all a
left_all = record { bytes = refl; behind = refl; long = refl }

pub left_none : {a b : List ℕ} {at end : ℕ} {all : List ℕ} → Left a at all end [] b → Wrote a at all end b
unfolding put
left_none p = record { bytes = p.bytes; behind = omega (arith, p.behind); long = p.long }

pub left_then : {a b c : List ℕ} {at end e : ℕ} {all s s2 : List ℕ} → Left a at all end (s ++ s2) b → Wrote b end s e c → Left a at all e s2 c
left_then {a} {b} {c} {at} {end} {e} {all} {s} {s2} p q = record {
  bytes = ap (λ t. put t e s2) q.bytes ∙ put_after b s s2 end (length s) e refl (sym q.behind) ∙ p.bytes;
  behind = omega (arith, p.behind, q.behind, length-append s s2);
  long = q.long ∙ p.long;
}

-- of a loop that writes byte after byte of a text: the next one
pub left_cons : (text : List ℕ) (i : ℕ) → i < length text → drop i text ≡ get_or text i 0 ∷ drop (i + 1) text
left_cons text i h = rw (add-one, drop-cons text i 0)

-- c is what the part of a that is written holds then
pub wrote_text : (a s c : List ℕ) (at : ℕ) → at + length s ≤ length a → c ≡ s → Wrote a at s (at + length s) (put_mid at (at + length s - at) a c)
wrote_text a s c at room e =
    let k : length s ≡ at + length s - at = omega arith in
    let put : put_mid at (at + length s - at) a c ≡ put a at s =
    put_mid-paste at (at + length s - at) a c s (length s) e k refl ∙ paste_all a at s (length s) refl ∙ sym (put_at a at s room) in
    record { bytes = put; behind = refl; long = ap length put ∙ length_put a at s }
