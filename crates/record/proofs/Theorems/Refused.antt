-- What the refusals mean in the grammar: 10 exactly if the text does not fit and fits once a quote is put at its end, 9 exactly if neither fits.
-- By what one more quote makes of a scan.
use mathlib.Core.Path.{◌≡◌, refl, sym, ap, subst, ◌∙◌}
use mathlib.Core.Bool.{Bool, true, false, cond, ◌&&◌}
use mathlib.Core.List.{List, [], ◌∷◌, ◌++◌}
use mathlib.Core.Logic.{◌↔◌}
use Prim.Native.Nat.{ℕ, ◌+◌}
use native.Mathlib.Omega.{arith}
use lib.Dec.{eqb}
use Rattle.record.specs.Grammar.{comma, quote, cr, lf, Reads, Fits}
use Rattle.record.specs.Scan.{Reading, Ending, up_to, more, special, starts, stop, State, fresh, plain, quoted, closed, scan, scanned}
use Rattle.record.specs.Scan.{done, bad, unclosed}
use Rattle.record.specs.Where.{Bad, Unclosed}
use Rattle.record.proofs.Theorems.Complete.{complete}
use Rattle.record.proofs.Theorems.Sound.{sound}

-- what one more quote makes of a reading
data Grown : Reading → Reading → Type 0 where
  any : {fields : List (ℕ × ℕ)} {next : ℕ} {r : Reading} → Grown (up_to fields (done next)) r
  stays : {fields : List (ℕ × ℕ)} {p : ℕ} → Grown (up_to fields (bad p)) (up_to fields (bad p))
  closes : {fields fields' : List (ℕ × ℕ)} {p next : ℕ} → Grown (up_to fields (unclosed p)) (up_to fields' (done next))

choice_grown : (c : Bool) {x y x' y' : Reading} → Grown x x' → Grown y y' → Grown (cond c x y) (cond c x' y')
choice_grown true p q = p
choice_grown false p q = q

more_grown : (f : ℕ × ℕ) {r r' : Reading} → Grown r r' → Grown (more f r) (more f r')
more_grown f any = any
more_grown f stays = stays
more_grown f closes = closes

crlf_grown : (f : ℕ × ℕ) (at : ℕ) (s : List ℕ) (is : Bool)
    → Grown (cond (is && starts lf s) (up_to (f ∷ []) (done (at + 2))) (up_to (f ∷ []) (bad at)))
    (cond (is && starts lf (s ++ (quote ∷ []))) (up_to (f ∷ []) (done (at + 2))) (up_to (f ∷ []) (bad at)))
crlf_grown f at s false = stays
crlf_grown f at [] true = stays
crlf_grown f at (b ∷ s) true = choice_grown (eqb b lf) any stays

stop_grown : (f : ℕ × ℕ) (at b : ℕ) (s : List ℕ) {later later' : Reading} → Grown later later'
    → Grown (stop f at b s later) (stop f at b (s ++ (quote ∷ [])) later')
stop_grown f at b s g = choice_grown (eqb b comma) (more_grown f g) (choice_grown (eqb b lf) any (crlf_grown f at s (eqb b cr)))

grown : (s : List ℕ) (st : State) (at : ℕ) → Grown (scan s st at) (scan (s ++ (quote ∷ [])) st at)
unfolding scan
grown [] fresh at = any
grown [] (plain a) at = any
grown [] (quoted q) at = closes
grown [] (closed q e) at = any
grown (b ∷ s) fresh at =
    choice_grown (eqb b quote) (grown s (quoted at) (at + 1))
    (choice_grown (special b) (stop_grown (at, at) at b s (grown s fresh (at + 1))) (grown s (plain at) (at + 1)))
grown (b ∷ s) (plain a) at = choice_grown (special b) (stop_grown (a, at) at b s (grown s fresh (at + 1))) (grown s (plain a) (at + 1))
grown (b ∷ s) (quoted q) at = choice_grown (eqb b quote) (grown s (closed q at) (at + 1)) (grown s (quoted q) (at + 1))
grown (b ∷ s) (closed q e) at = choice_grown (eqb b quote) (grown s (quoted q) (at + 1)) (stop_grown (q + 1, e) at b s (grown s fresh (at + 1)))

-- a reading is its fields and its ending
whole : (r : Reading) (ending : Ending) → r.ending ≡ ending → r ≡ up_to r.fields ending
whole r ending e = ap (up_to r.fields) e

-- the text fits exactly if the scan is done; and its fields are the scan's
pub ending_done : (text : List ℕ) (next : ℕ) → (scanned text).ending ≡ done next → Reads text (scanned text).fields next
ending_done text next e = sound text (scanned text).fields next (whole (scanned text) (done next) e)

pub fits_done : (text : List ℕ) → Fits text ↔ ((next : ℕ) × ((scanned text).ending ≡ done next))
fits_done text = (
  λ x. (x.1, ap (λ (r : Reading). r.ending) (complete text x.0 x.1 x.2)),
  λ x. ((scanned text).fields, x.0, ending_done text x.0 x.1),
)

bad_done : (p next : ℕ) → bad p ≡ done next → ⊥
bad_done p next e = let z : ◌≡◌ {A = ℕ} 0 1 = cc in omega arith

unclosed_done : (p next : ℕ) → unclosed p ≡ done next → ⊥
unclosed_done p next e = let z : ◌≡◌ {A = ℕ} 0 1 = cc in omega arith

-- a scan that ends otherwise
no_fit : (text : List ℕ) (ending : Ending) → (scanned text).ending ≡ ending → ((next : ℕ) → ending ≡ done next → ⊥) → Fits text → ⊥
no_fit text ending e other x = let y = (fits_done text).0 x in other y.0 (sym e ∙ y.1)

-- what each ending says
Says : List ℕ → Ending → Type 0
Says text (done next) = Fits text
Says text (bad p) = Bad text
Says text (unclosed p) = Unclosed text

says : (text : List ℕ) (r r' : Reading) → scanned text ≡ r → scanned (text ++ (quote ∷ [])) ≡ r' → Grown r r' → Says text r.ending
unfolding Says
says text r r' e e' (any {fields} {next}) = (fields, next, sound text _ _ e)
says text r r' e e' (stays {p = p}) = record {
  no_fit = no_fit text (bad p) (ap (λ (r : Reading). r.ending) e) (bad_done p);
  not_with_quote = no_fit (text ++ (quote ∷ [])) (bad p) (ap (λ (r : Reading). r.ending) e') (bad_done p);
}
says text r r' e e' (closes {fields' = fields'} {p = p} {next = next}) = record {
  no_fit = no_fit text (unclosed p) (ap (λ (r : Reading). r.ending) e) (unclosed_done p);
  with_quote = (fields', next, sound (text ++ (quote ∷ [])) _ _ e');
}

said : (text : List ℕ) → Says text (scanned text).ending
said text = says text _ _ refl refl (grown text fresh 0)

pub ending_bad : (text : List ℕ) (p : ℕ) → (scanned text).ending ≡ bad p → Bad text
unfolding Says
ending_bad text p e = subst (Says text) e (said text)

pub ending_unclosed : (text : List ℕ) (p : ℕ) → (scanned text).ending ≡ unclosed p → Unclosed text
unfolding Says
ending_unclosed text p e = subst (Says text) e (said text)

-- and back
from_bad : (text : List ℕ) (ending : Ending) → Says text ending → Bad text → (p : ℕ) × (ending ≡ bad p)
unfolding Says
from_bad text (done next) x h = absurd (h.no_fit x)
from_bad text (bad p) x h = (p, refl)
from_bad text (unclosed p) x h = absurd (h.not_with_quote x.with_quote)

from_unclosed : (text : List ℕ) (ending : Ending) → Says text ending → Unclosed text → (p : ℕ) × (ending ≡ unclosed p)
unfolding Says
from_unclosed text (done next) x h = absurd (h.no_fit x)
from_unclosed text (bad p) x h = absurd (x.not_with_quote h.with_quote)
from_unclosed text (unclosed p) x h = (p, refl)

pub bad_ending : (text : List ℕ) → Bad text → (p : ℕ) × ((scanned text).ending ≡ bad p)
bad_ending text h = from_bad text (scanned text).ending (said text) h

pub unclosed_ending : (text : List ℕ) → Unclosed text → (p : ℕ) × ((scanned text).ending ≡ unclosed p)
unclosed_ending text h = from_unclosed text (scanned text).ending (said text) h

-- exactly
pub bad_iff : (text : List ℕ) → ((p : ℕ) × (fields : List (ℕ × ℕ)) × (scanned text ≡ up_to fields (bad p))) ↔ Bad text
bad_iff text = (
  λ x. ending_bad text x.0 (ap (λ (r : Reading). r.ending) x.2),
  λ h. let y = bad_ending text h in (y.0, (scanned text).fields, whole (scanned text) (bad y.0) y.1),
)

pub unclosed_iff : (text : List ℕ) → ((p : ℕ) × (fields : List (ℕ × ℕ)) × (scanned text ≡ up_to fields (unclosed p))) ↔ Unclosed text
unclosed_iff text = (
  λ x. ending_unclosed text x.0 (ap (λ (r : Reading). r.ending) x.2),
  λ h. let y = unclosed_ending text h in (y.0, (scanned text).fields, whole (scanned text) (unclosed y.0) y.1),
)
