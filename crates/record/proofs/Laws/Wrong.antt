-- A scan that goes wrong does so at one byte: what stands before that byte is read, and what stands behind it matters only if the byte is a CR.
-- Byte by byte, for every state of the scan.
use mathlib.Core.Path.{◌≡◌, refl, ap, subst, ◌∙◌}
use mathlib.Core.Bool.{Bool, true, false, cond, ◌&&◌}
use mathlib.Core.List.{List, [], ◌∷◌, ◌++◌, append_assoc}
use Prim.Native.Nat.{ℕ, zero, suc, ◌+◌, ◌<◌}
use native.Mathlib.Omega.{arith}
use lib.Dec.{eqb}
use lib.ListN.{length, take, length-append}
use Rattle.record.specs.Grammar.{comma, quote, cr, lf}
use Rattle.record.specs.Scan.{Reading, up_to, special, starts, stop, State, fresh, plain, quoted, closed, scan, scanned}
use Rattle.record.specs.Scan.{done, bad, unclosed}
use Rattle.record.proofs.Laws.Tests.{either}

-- a byte and those behind it are a CR and an LF
abbrev pub line_end : (b : ℕ) (s : List ℕ) → Bool
line_end b s = eqb b cr && starts lf s

-- the scan of s, in a state and from a position, has these fields and goes wrong at p
pub record Wrong (s : List ℕ) (st : State) (at : ℕ) (fields : List (ℕ × ℕ)) (p : ℕ) : Type 0 where
  pub before : List ℕ
  pub byte : ℕ
  pub behind : List ℕ
  pub whole : s ≡ before ++ (byte ∷ behind)
  pub place : p ≡ at + length before
  pub cut : scan before st at ≡ up_to fields (done p)
  pub lone : line_end byte behind ≡ false
  pub goes : (others : List ℕ) → scan (before ++ (byte ∷ others)) st at ≡ cond (line_end byte others) (up_to fields (done (p + 2))) (up_to fields (bad p))

data Judged (s : List ℕ) (st : State) (at : ℕ) : Reading → Type 0 where
  read : {fields : List (ℕ × ℕ)} {next : ℕ} → Judged s st at (up_to fields (done next))
  not_closed : {fields : List (ℕ × ℕ)} {p : ℕ} → Judged s st at (up_to fields (unclosed p))
  wrong : {fields : List (ℕ × ℕ)} {p : ℕ} → Wrong s st at fields p → Judged s st at (up_to fields (bad p))

-- fields before those of a reading
abbrev pub ahead : (fields : List (ℕ × ℕ)) → Reading → Reading
ahead fields r = up_to (fields ++ r.fields) r.ending

ahead_cond : (fields : List (ℕ × ℕ)) (c : Bool) (x y : Reading) → ahead fields (cond c x y) ≡ cond c (ahead fields x) (ahead fields y)
ahead_cond fields true x y = refl
ahead_cond fields false x y = refl

-- a byte that leads from a state to another, and may end fields on the way
module _ (fs : List (ℕ × ℕ)) (b : ℕ) (s : List ℕ) (st st' : State) (at : ℕ) (leads : (t : List ℕ) → scan (b ∷ t) st at ≡ ahead fs (scan t st' (at + 1))) where
  step : {r : Reading} → Judged s st' (at + 1) r → Judged (b ∷ s) st at (ahead fs r)
  step read = read
  step not_closed = not_closed
  step (wrong {p = p} w) =
      let place : p ≡ at + 1 + length w.before = w.place in
      wrong {p = p} record {
        before = b ∷ w.before;
        byte = w.byte;
        behind = w.behind;
        whole = ap (λ (t : List ℕ). b ∷ t) w.whole;
        place = omega arith;
        cut = leads w.before ∙ ap (ahead fs) w.cut;
        lone = w.lone;
        goes = λ t. leads (w.before ++ (w.byte ∷ t)) ∙ (ap (ahead fs) (w.goes t) ∙ ahead_cond fs (line_end w.byte t) _ _);
      }

-- a byte right after a field
stop_judged : (f : ℕ × ℕ) (at b : ℕ) (s : List ℕ) (st : State) → scan [] st at ≡ up_to (f ∷ []) (done at)
    → ((t : List ℕ) → scan (b ∷ t) st at ≡ stop f at b t (scan t fresh (at + 1)))
    → Judged s fresh (at + 1) (scan s fresh (at + 1)) → Judged (b ∷ s) st at (stop f at b s (scan s fresh (at + 1)))
stop_judged f at b s st none stops later =
    either (Judged _ _ _) (eqb b comma)
    (λ e. step (f ∷ []) b s st fresh at (λ t. stops t ∙ rw e refl) later)
    (λ no_comma. either (Judged _ _ _) (eqb b lf)
    (λ _. read)
    (λ no_lf. either (Judged _ _ _) (line_end b s)
    (λ _. read)
    (λ lone. wrong {p = at} record {
      before = [];
      byte = b;
      behind = s;
      whole = refl;
      place = omega arith;
      cut = none;
      lone = lone;
      goes = λ t. stops t ∙ rw (no_comma, no_lf) refl;
    })))

judged : (s : List ℕ) (st : State) (at : ℕ) → Judged s st at (scan s st at)
unfolding scan
judged [] fresh at = read
judged [] (plain a) at = read
judged [] (quoted q) at = not_closed
judged [] (closed q e) at = read
judged (b ∷ s) fresh at =
    either (Judged _ _ _) (eqb b quote)
    (λ e. step [] b s fresh (quoted at) at (λ t. rw e refl) (judged s (quoted at) (at + 1)))
    (λ no_quote. either (Judged _ _ _) (special b)
    (λ e. stop_judged (at, at) at b s fresh refl (λ t. rw (e, no_quote) refl) (judged s fresh (at + 1)))
    (λ e. step [] b s fresh (plain at) at (λ t. rw (e, no_quote) refl) (judged s (plain at) (at + 1))))
judged (b ∷ s) (plain a) at =
    either (Judged _ _ _) (special b)
    (λ e. stop_judged (a, at) at b s (plain a) refl (λ t. rw e refl) (judged s fresh (at + 1)))
    (λ e. step [] b s (plain a) (plain a) at (λ t. rw e refl) (judged s (plain a) (at + 1)))
judged (b ∷ s) (quoted q) at =
    either (Judged _ _ _) (eqb b quote)
    (λ e. step [] b s (quoted q) (closed q at) at (λ t. rw e refl) (judged s (closed q at) (at + 1)))
    (λ e. step [] b s (quoted q) (quoted q) at (λ t. rw e refl) (judged s (quoted q) (at + 1)))
judged (b ∷ s) (closed q f) at =
    either (Judged _ _ _) (eqb b quote)
    (λ e. step [] b s (closed q f) (quoted q) at (λ t. rw e refl) (judged s (quoted q) (at + 1)))
    (λ e. stop_judged (q + 1, f) at b s (closed q f) refl (λ t. rw e refl) (judged s fresh (at + 1)))

unwrong : {s : List ℕ} {st : State} {at p : ℕ} {fields : List (ℕ × ℕ)} → Judged s st at (up_to fields (bad p)) → Wrong s st at fields p
unwrong (wrong w) = w

-- where a text goes wrong
pub wrong_at : (text : List ℕ) (p : ℕ) → (scanned text).ending ≡ bad p → Wrong text fresh 0 (scanned text).fields p
wrong_at text p e = unwrong (subst (Judged text fresh 0) (ap (up_to (scanned text).fields) e) (judged text fresh 0))

-- no line end without a byte behind the CR; none in a part, if none in the whole; none with others behind, if one byte is there already
no_and : (c : Bool) → c && false ≡ false
no_and true = refl
no_and false = refl

pub lone_last : (b : ℕ) → line_end b [] ≡ false
lone_last b = no_and (eqb b cr)

pub lone_cut : (b k : ℕ) (s : List ℕ) → line_end b s ≡ false → line_end b (take k s) ≡ false
lone_cut b zero [] e = e
lone_cut b zero (c ∷ s) e = lone_last b
lone_cut b (suc k) [] e = e
lone_cut b (suc k) (c ∷ s) e = e

-- what comes of the byte at fault with other bytes behind it
module _ {s : List ℕ} {st : State} {at p : ℕ} {fields : List (ℕ × ℕ)} (w : Wrong s st at fields p) where
  pub stays_wrong : (others : List ℕ) → line_end w.byte others ≡ false → scan (w.before ++ (w.byte ∷ others)) st at ≡ up_to fields (bad p)
  stays_wrong others e = w.goes others ∙ ap (λ c. cond c (up_to fields (done (p + 2))) (up_to fields (bad p))) e

  -- and behind the whole
  pub joined : (others : List ℕ) → s ++ others ≡ w.before ++ (w.byte ∷ (w.behind ++ others))
  joined others = ap (λ (t : List ℕ). t ++ others) w.whole ∙ append_assoc w.before (w.byte ∷ w.behind) others

  pub grows : (others : List ℕ)
      → scan (s ++ others) st at ≡ cond (line_end w.byte (w.behind ++ others)) (up_to fields (done (p + 2))) (up_to fields (bad p))
  grows others = ap (λ (t : List ℕ). scan t st at) (joined others) ∙ w.goes (w.behind ++ others)

  pub inside : p < at + length s
  inside = omega (arith, w.place, ap length w.whole, length-append w.before (w.byte ∷ w.behind))
