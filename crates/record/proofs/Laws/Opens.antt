-- A scan that ends inside a quote names the quote that opens the last field: what follows that quote is a body, to the end.
-- Byte by byte one way, rule by rule the other.
use mathlib.Core.Path.{◌≡◌, refl, ap, subst, ◌∙◌}
use mathlib.Core.Bool.{◌&&◌}
use mathlib.Core.List.{List, [], ◌∷◌, ◌++◌}
use Prim.Native.Nat.{ℕ, ◌+◌}
use native.Mathlib.Omega.{arith}
use borrow.Author.Tests.{eqb-true, eqb-false}
use lib.Dec.{eqb}
use Rattle.record.specs.Grammar.{comma, quote, cr, lf, Textdata, NonEscaped, Body, Field, Fields}
use Rattle.record.specs.Scan.{Reading, up_to, special, starts, stop, State, fresh, plain, quoted, closed, scan, scanned}
use Rattle.record.specs.Scan.{done, bad, unclosed}
use Rattle.record.specs.Where.{Begins, OpenedAt}
use Rattle.record.proofs.Laws.Tests.{either}
use Rattle.record.proofs.Theorems.Complete.{Stop, body_runs, field_read}
use Rattle.record.proofs.Theorems.Sound.{not_special_text}
use Rattle.record.proofs.Laws.Wrong.{ahead}

-- from a place on: the field there is opened at p and never closed, or a later one is
data Opens : (at : ℕ) (s : List ℕ) (p : ℕ) → Type 0 where
  here : {at e : ℕ} {s : List ℕ} → Body (at + 1) s e [] → Opens at (quote ∷ s) at
  later : {at a e mid p : ℕ} {s m : List ℕ} → Field at s a e mid (comma ∷ m) → Opens (mid + 1) m p → Opens at s p

-- what it says in each state that p is opened and never closed
data Left : State → (at : ℕ) (s : List ℕ) (p : ℕ) → Type 0 where
  in_fresh : {at p : ℕ} {s : List ℕ} → Opens at s p → Left fresh at s p
  in_plain : {a at e p : ℕ} {s m : List ℕ} → NonEscaped at s e (comma ∷ m) → Opens (e + 1) m p → Left (plain a) at s p
  in_body : {q at e : ℕ} {s : List ℕ} → Body at s e [] → Left (quoted q) at s q
  in_quoted : {q at e p : ℕ} {s m : List ℕ} → Body at s e (quote ∷ comma ∷ m) → Opens (e + 1 + 1) m p → Left (quoted q) at s p
  in_closed : {q e at p : ℕ} {m : List ℕ} → Opens (at + 1) m p → Left (closed q e) at (comma ∷ m) p
  again : {q e at p : ℕ} {s : List ℕ} → Left (quoted q) (at + 1) s p → Left (closed q e) at (quote ∷ s) p

-- a fact of the quote that is left open, where one is
data When (P : ℕ → Type 0) : Reading → Type 0 where
  read : {fields : List (ℕ × ℕ)} {next : ℕ} → When P (up_to fields (done next))
  not_read : {fields : List (ℕ × ℕ)} {p : ℕ} → When P (up_to fields (bad p))
  not_closed : {fields : List (ℕ × ℕ)} {p : ℕ} → P p → When P (up_to fields (unclosed p))

when_map : {r : Reading} (fs : List (ℕ × ℕ)) (P Q : ℕ → Type 0) → ((p : ℕ) → P p → Q p) → When P r → When Q (ahead fs r)
when_map fs P Q f read = read
when_map fs P Q f not_read = not_read
when_map fs P Q f (not_closed x) = not_closed (f _ x)

stop_left : (f : ℕ × ℕ) (at b : ℕ) (s : List ℕ) (P : ℕ → Type 0) (rest : Reading) → (b ≡ comma → (p : ℕ) → Left fresh (at + 1) s p → P p)
    → When (Left fresh (at + 1) s) rest → When P (stop f at b s rest)
stop_left f at b s P rest on x =
    either (When _) (eqb b comma)
    (λ e. when_map (f ∷ []) _ _ (on (eqb-true b comma e)) x)
    (λ _. either (When _) (eqb b lf) (λ _. read) (λ _. either (When _) (eqb b cr && starts lf s) (λ _. read) (λ _. not_read)))

-- a byte before
module _ (at : ℕ) (s : List ℕ) where
  open_quote : (p : ℕ) → Left (quoted at) (at + 1) s p → Left fresh at (quote ∷ s) p
  open_quote p (in_body r) = in_fresh (here r)
  open_quote p (in_quoted r o) = in_fresh (later (Field.escaped r) o)

  first_text : (p b : ℕ) → Textdata b → Left (plain at) (at + 1) s p → Left fresh at (b ∷ s) p
  first_text p b h (in_plain r o) = in_fresh (later (Field.non_escaped (NonEscaped.textdata h r)) o)

  more_text : (p a b : ℕ) → Textdata b → Left (plain a) (at + 1) s p → Left (plain a) at (b ∷ s) p
  more_text p a b h (in_plain r o) = in_plain (NonEscaped.textdata h r) o

  more_body : (p q b : ℕ) → (b ≡ quote → ⊥) → Left (quoted q) (at + 1) s p → Left (quoted q) at (b ∷ s) p
  more_body p q b h (in_body r) = in_body (Body.byte h r)
  more_body p q b h (in_quoted r o) = in_quoted (Body.byte h r) o

  second_quote : (p q : ℕ) → Left (quoted q) (at + 1 + 1) s p → Left (quoted q) at (quote ∷ quote ∷ s) p
  second_quote p q (in_body {e = e} r) =
      let two : at + 1 + 1 ≡ at + 2 = omega arith in
      in_body (Body.two_quotes (subst (λ k. Body k s e []) two r))
  second_quote p q (in_quoted {e = e} {m = m} r o) =
      let two : at + 1 + 1 ≡ at + 2 = omega arith in
      in_quoted (Body.two_quotes (subst (λ k. Body k s e (quote ∷ comma ∷ m)) two r)) o

  at_comma_law : (p : ℕ) → Left fresh (at + 1) s p → Left fresh at (comma ∷ s) p
  at_comma_law p (in_fresh o) = in_fresh (later (Field.non_escaped NonEscaped.none) o)

  plain_comma : (p a : ℕ) → Left fresh (at + 1) s p → Left (plain a) at (comma ∷ s) p
  plain_comma p a (in_fresh o) = in_plain NonEscaped.none o

  closed_comma : (p q e : ℕ) → Left fresh (at + 1) s p → Left (closed q e) at (comma ∷ s) p
  closed_comma p q e (in_fresh o) = in_closed o

close_quote : (at p : ℕ) (s : List ℕ) (q : ℕ) → Left (closed q at) (at + 1) s p → Left (quoted q) at (quote ∷ s) p
close_quote at p s q (in_closed o) = in_quoted Body.none o
close_quote at p s q (again {s = s'} x) = second_quote at s' p q x

scan_left : (s : List ℕ) (st : State) (at : ℕ) → When (Left st at s) (scan s st at)
unfolding scan
scan_left [] fresh at = read
scan_left [] (plain a) at = read
scan_left [] (quoted q) at = not_closed (in_body Body.none)
scan_left [] (closed q e) at = read
scan_left (b ∷ s) fresh at =
    either (When _) (eqb b quote)
    (λ e. rw (eqb-true b quote e) (when_map [] _ _ (λ p. open_quote at s p) (scan_left s (quoted at) (at + 1))))
    (λ _. either (When _) (special b)
    (λ _. stop_left (at, at) at b s _ _ (λ e p x. rw e (at_comma_law at s p x)) (scan_left s fresh (at + 1)))
    (λ e. when_map [] _ _ (λ p. first_text at s p b (not_special_text b e)) (scan_left s (plain at) (at + 1))))
scan_left (b ∷ s) (plain a) at =
    either (When _) (special b)
    (λ _. stop_left (a, at) at b s _ _ (λ e p x. rw e (plain_comma at s p a x)) (scan_left s fresh (at + 1)))
    (λ e. when_map [] _ _ (λ p. more_text at s p a b (not_special_text b e)) (scan_left s (plain a) (at + 1)))
scan_left (b ∷ s) (quoted q) at =
    either (When _) (eqb b quote)
    (λ e. rw (eqb-true b quote e) (when_map [] _ _ (λ p. close_quote at p s q) (scan_left s (closed q at) (at + 1))))
    (λ e. when_map [] _ _ (λ p. more_body at s p q b (eqb-false b quote e)) (scan_left s (quoted q) (at + 1)))
scan_left (b ∷ s) (closed q f) at =
    either (When _) (eqb b quote)
    (λ e. rw (eqb-true b quote e) (when_map [] _ _ (λ p. again) (scan_left s (quoted q) (at + 1))))
    (λ _. stop_left (q + 1, f) at b s _ _ (λ e p x. rw e (closed_comma at s p q f x)) (scan_left s fresh (at + 1)))

-- one more field behind others
pub one_more : {at to a e mid : ℕ} {s m t : List ℕ} {fields : List (ℕ × ℕ)} → Fields at s fields to (comma ∷ m) → Field (to + 1) m a e mid t
    → Fields at s (fields ++ ((a, e) ∷ [])) mid t
one_more (Fields.last r) f = Fields.and_more r (Fields.last f)
one_more (Fields.and_more r rs) f = Fields.and_more r (one_more rs f)

begins_next : {text s m : List ℕ} {at a e mid : ℕ} → Begins text at s → Field at s a e mid (comma ∷ m) → Begins text (mid + 1) m
begins_next Begins.first f = Begins.later (Fields.last f)
begins_next (Begins.later rs) f = Begins.later (one_more rs f)

opens_at : {text s : List ℕ} {at p : ℕ} → Begins text at s → Opens at s p → OpenedAt text p
opens_at b (here r) = OpenedAt.opened b r
opens_at b (later f o) = opens_at (begins_next b f) o

unwhen : {P : ℕ → Type 0} {fields : List (ℕ × ℕ)} {p : ℕ} → When P (up_to fields (unclosed p)) → P p
unwhen (not_closed x) = x

unfresh : {text : List ℕ} {at p : ℕ} → Left fresh at text p → Opens at text p
unfresh (in_fresh o) = o

pub opened_at : (text : List ℕ) (p : ℕ) → (scanned text).ending ≡ unclosed p → OpenedAt text p
opened_at text p e =
    opens_at Begins.first (unfresh (unwhen (subst (When (Left fresh 0 text)) (ap (up_to (scanned text).fields) e) (scan_left text fresh 0))))

-- and back: the fields before are read, and the body runs to the end
pub fields_ahead : (at to : ℕ) (s m : List ℕ) (fields : List (ℕ × ℕ)) → Fields at s fields to (comma ∷ m)
    → scan s fresh at ≡ ahead fields (scan m fresh (to + 1))
fields_ahead at to s m fields (Fields.last {a = a} {e = e} r) = field_read at a e to s (comma ∷ m) r Stop.at_comma
fields_ahead at to s m fields (Fields.and_more {a = a} {e = e} {mid = mid} {m = m'} {fields = fs} r rs) =
    field_read at a e mid s (comma ∷ m') r Stop.at_comma ∙ ap (ahead ((a, e) ∷ [])) (fields_ahead (mid + 1) to m' m fs rs)

pub begins_ahead : {text : List ℕ} (s : List ℕ) (p : ℕ) → Begins text p s → (before : List (ℕ × ℕ)) × (scanned text ≡ ahead before (scan s fresh p))
begins_ahead s p Begins.first = ([], refl)
begins_ahead {text} s p (Begins.later {at = at} {fields = fields} r) = (fields, fields_ahead 0 at text s fields r)

body_open : (p e : ℕ) (s : List ℕ) → Body (p + 1) s e [] → scan (quote ∷ s) fresh p ≡ up_to [] (unclosed p)
unfolding scan
body_open p e s r = body_runs (p + 1) e p s [] r

pub opened_ending : (text : List ℕ) (p : ℕ) → OpenedAt text p → (scanned text).ending ≡ unclosed p
opened_ending text p (OpenedAt.opened {e = e} {s = s} b r) =
    let x = begins_ahead (quote ∷ s) p b in
    ap (λ (r : Reading). r.ending) (x.1 ∙ ap (ahead x.0) (body_open p e s r))
