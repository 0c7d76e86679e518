-- Whatever the scan reads, the grammar reads so: byte by byte, by what a reading means in each state of the scan.
use mathlib.Core.Path.{◌≡◌, refl, subst}
use mathlib.Core.Bool.{Bool, true, false, ◌&&◌, ◌||◌}
use mathlib.Core.List.{List, [], ◌∷◌}
use Prim.Native.Nat.{ℕ, ◌+◌}
use native.Mathlib.Omega.{arith}
use borrow.Author.Tests.{eqb-true, eqb-false}
use lib.Dec.{eqb}
use Rattle.record.specs.Grammar.{comma, quote, cr, lf, Textdata, NonEscaped, Body, Field, Fields, Ends, From, Reads}
use Rattle.record.specs.Scan.{Reading, up_to, more, special, starts, stop, State, fresh, plain, quoted, closed, scan, scanned}
use Rattle.record.specs.Scan.{done, bad, unclosed}
use Rattle.record.proofs.Laws.Tests.{either}

-- what follows a field that has ended
pub data After : (f : ℕ × ℕ) (at : ℕ) (s : List ℕ) (fields : List (ℕ × ℕ)) (next : ℕ) → Type 0 where
  ends : {f : ℕ × ℕ} {at next : ℕ} {s : List ℕ} → Ends at s next → After f at s (f ∷ []) next
  goes_on : {f : ℕ × ℕ} {at next : ℕ} {s : List ℕ} {fields : List (ℕ × ℕ)} → From (at + 1) s fields next → After f at (comma ∷ s) (f ∷ fields) next

-- what a reading in each state says
data Means : State → (at : ℕ) (s : List ℕ) (fields : List (ℕ × ℕ)) (next : ℕ) → Type 0 where
  in_fresh : {at next : ℕ} {s : List ℕ} {fields : List (ℕ × ℕ)} → From at s fields next → Means fresh at s fields next
  in_plain : {a at e next : ℕ} {s t : List ℕ} {fields : List (ℕ × ℕ)} → NonEscaped at s e t → After (a, e) e t fields next → Means (plain a) at s fields next
  in_quoted : {q at e next : ℕ} {s t : List ℕ} {fields : List (ℕ × ℕ)} → Body at s e (quote ∷ t) → After (q + 1, e) (e + 1) t fields next
      → Means (quoted q) at s fields next
  in_closed : {q e at next : ℕ} {s : List ℕ} {fields : List (ℕ × ℕ)} → After (q + 1, e) at s fields next → Means (closed q e) at s fields next
  again : {q e at next : ℕ} {s : List ℕ} {fields : List (ℕ × ℕ)} → Means (quoted q) (at + 1) s fields next → Means (closed q e) at (quote ∷ s) fields next

-- a fact of what was read, where something was
data When (P : List (ℕ × ℕ) → ℕ → Type 0) : Reading → Type 0 where
  read : {fields : List (ℕ × ℕ)} {next : ℕ} → P fields next → When P (up_to fields (done next))
  not_read : {fields : List (ℕ × ℕ)} {at : ℕ} → When P (up_to fields (bad at))
  not_closed : {fields : List (ℕ × ℕ)} {at : ℕ} → When P (up_to fields (unclosed at))

when_map : {o : Reading} (P Q : List (ℕ × ℕ) → ℕ → Type 0) → ((fields : List (ℕ × ℕ)) (next : ℕ) → P fields next → Q fields next) → When P o → When Q o
when_map P Q f (read x) = read (f _ _ x)
when_map P Q f not_read = not_read
when_map P Q f not_closed = not_closed

or_none : (a b : Bool) → a || b ≡ false → (a ≡ false) × (b ≡ false)
or_none true b e = absurd (let z : ◌≡◌ {A = ℕ} 0 1 = cc in omega arith)
or_none false b e = (refl, e)

pub not_special_text : (b : ℕ) → special b ≡ false → Textdata b
not_special_text b e =
    let x = or_none (eqb b comma) _ e in
    let y = or_none (eqb b quote) _ x.1 in
    let z = or_none (eqb b cr) _ y.1 in
    record {
      no_comma = eqb-false b comma x.0;
      no_quote = eqb-false b quote y.0;
      no_cr = eqb-false b cr z.0;
      no_lf = eqb-false b lf z.1;
    }

more_after : (f : ℕ × ℕ) (at : ℕ) (s : List ℕ) (later : Reading) → When (From (at + 1) s) later → When (After f at (comma ∷ s)) (more f later)
more_after f at s later (read x) = read (goes_on x)
more_after f at s later not_read = not_read
more_after f at s later not_closed = not_closed

and_both : (a b : Bool) → a && b ≡ true → (a ≡ true) × (b ≡ true)
and_both true b e = (refl, e)
and_both false b e = absurd (let z : ◌≡◌ {A = ℕ} 0 1 = cc in omega arith)

crlf_ends : (at : ℕ) (s : List ℕ) → starts lf s ≡ true → Ends at (cr ∷ s) (at + 2)
crlf_ends at [] e = absurd (let z : ◌≡◌ {A = ℕ} 0 1 = cc in omega arith)
crlf_ends at (b ∷ s) e = rw (eqb-true b lf e) Ends.crlf

stop_after : (f : ℕ × ℕ) (at b : ℕ) (s : List ℕ) (later : Reading) → When (From (at + 1) s) later → When (After f at (b ∷ s)) (stop f at b s later)
stop_after f at b s later x =
    either (When _) (eqb b comma)
    (λ e. rw (eqb-true b comma e) (more_after f at s later x))
    (λ _. either (When _) (eqb b lf)
    (λ e. rw (eqb-true b lf e) (read (ends Ends.bare_lf)))
    (λ _. either (When _) (eqb b cr && starts lf s)
    (λ e. let x = and_both (eqb b cr) _ e in rw (eqb-true b cr x.0) (read (ends (crlf_ends at s x.1))))
    (λ _. not_read)))

-- a field, and what follows it
then : (at a e to next : ℕ) (s t : List ℕ) (fields : List (ℕ × ℕ)) → Field at s a e to t → After (a, e) to t fields next → From at s fields next
then at a e to next s t fields r (ends x) = From.from (Fields.last r) x
then at a e to next s t fields r (goes_on (From.from rs x)) = From.from (Fields.and_more r rs) x

-- a byte before a reading
module _ (at next : ℕ) (s : List ℕ) (fields : List (ℕ × ℕ)) where
  open_quote : Means (quoted at) (at + 1) s fields next → Means fresh at (quote ∷ s) fields next
  open_quote (in_quoted r x) = in_fresh (then _ _ _ _ _ _ _ _ (Field.escaped r) x)

  first_text : (b : ℕ) → Textdata b → Means (plain at) (at + 1) s fields next → Means fresh at (b ∷ s) fields next
  first_text b h (in_plain r x) = in_fresh (then _ _ _ _ _ _ _ _ (Field.non_escaped (NonEscaped.textdata h r)) x)

  more_text : (a b : ℕ) → Textdata b → Means (plain a) (at + 1) s fields next → Means (plain a) at (b ∷ s) fields next
  more_text a b h (in_plain r x) = in_plain (NonEscaped.textdata h r) x

  more_body : (q b : ℕ) → (b ≡ quote → ⊥) → Means (quoted q) (at + 1) s fields next → Means (quoted q) at (b ∷ s) fields next
  more_body q b h (in_quoted r x) = in_quoted (Body.byte h r) x

  second_quote : (q : ℕ) → Means (quoted q) (at + 1 + 1) s fields next → Means (quoted q) at (quote ∷ quote ∷ s) fields next
  second_quote q (in_quoted {e = e} {t = t} r x) =
      let two : at + 1 + 1 ≡ at + 2 = omega arith in
      in_quoted (Body.two_quotes (subst (λ k. Body k s e (quote ∷ t)) two r)) x

close_quote : (at next : ℕ) (s : List ℕ) (fields : List (ℕ × ℕ)) (q : ℕ) → Means (closed q at) (at + 1) s fields next
    → Means (quoted q) at (quote ∷ s) fields next
close_quote at next s fields q (in_closed x) = in_quoted Body.none x
close_quote at next s fields q (again {s = s'} r) = second_quote at next s' fields q r

unfresh : (at next : ℕ) (s : List ℕ) (fields : List (ℕ × ℕ)) → Means fresh at s fields next → From at s fields next
unfresh at next s fields (in_fresh r) = r

scan_means : (s : List ℕ) (st : State) (at : ℕ) → When (Means st at s) (scan s st at)
unfolding scan
scan_means [] fresh at = read (in_fresh (From.from (Fields.last (Field.non_escaped NonEscaped.none)) Ends.of_text))
scan_means [] (plain a) at = read (in_plain NonEscaped.none (ends Ends.of_text))
scan_means [] (quoted a) at = not_closed
scan_means [] (closed a e) at = read (in_closed (ends Ends.of_text))
scan_means (b ∷ s) fresh at =
    let later : When (From (at + 1) s) (scan s fresh (at + 1)) = when_map _ _ (λ fields next. unfresh (at + 1) next s fields) (scan_means s fresh (at + 1)) in
    either (When _) (eqb b quote)
    (λ e. rw (eqb-true b quote e) (when_map _ _ (λ fields next. open_quote at next s fields) (scan_means s (quoted at) (at + 1))))
    (λ _. either (When _) (special b)
    (λ _. when_map _ _ (λ fields next x. in_fresh (then _ _ _ _ _ _ _ _ (Field.non_escaped NonEscaped.none) x)) (stop_after (at, at) at b s _ later))
    (λ e. when_map _ _ (λ fields next. first_text at next s fields b (not_special_text b e)) (scan_means s (plain at) (at + 1))))
scan_means (b ∷ s) (plain a) at =
    let later : When (From (at + 1) s) (scan s fresh (at + 1)) = when_map _ _ (λ fields next. unfresh (at + 1) next s fields) (scan_means s fresh (at + 1)) in
    either (When _) (special b)
    (λ _. when_map _ _ (λ fields next x. in_plain NonEscaped.none x) (stop_after (a, at) at b s _ later))
    (λ e. when_map _ _ (λ fields next. more_text at next s fields a b (not_special_text b e)) (scan_means s (plain a) (at + 1)))
scan_means (b ∷ s) (quoted q) at =
    either (When _) (eqb b quote)
    (λ e. rw (eqb-true b quote e) (when_map _ _ (λ fields next. close_quote at next s fields q) (scan_means s (closed q at) (at + 1))))
    (λ e. when_map _ _ (λ fields next. more_body at next s fields q b (eqb-false b quote e)) (scan_means s (quoted q) (at + 1)))
scan_means (b ∷ s) (closed q e) at =
    let later : When (From (at + 1) s) (scan s fresh (at + 1)) = when_map _ _ (λ fields next. unfresh (at + 1) next s fields) (scan_means s fresh (at + 1)) in
    either (When _) (eqb b quote)
    (λ e. rw (eqb-true b quote e) (when_map _ _ (λ fields next. again) (scan_means s (quoted q) (at + 1))))
    (λ _. when_map _ _ (λ fields next. in_closed) (stop_after (q + 1, e) at b s _ later))

unread : {P : List (ℕ × ℕ) → ℕ → Type 0} {fields : List (ℕ × ℕ)} {next : ℕ} → When P (up_to fields (done next)) → P fields next
unread (read x) = x

-- the grammar reads what the scan reads
pub sound : (text : List ℕ) (fields : List (ℕ × ℕ)) (next : ℕ) → scanned text ≡ up_to fields (done next) → Reads text fields next
sound text fields next e = unfresh 0 next text fields (unread (subst (When (Means fresh 0 text)) e (scan_means text fresh 0)))
