-- Nothing behind the byte that decides is looked at: a record that a line end ended is the same with any bytes behind it, by what each rule of the
-- grammar passes over, and so is a text that goes wrong, but for a CR at its end. Hence a file may be read through a window.
use mathlib.Core.Path.{◌≡◌, refl, sym, ap, subst, ◌∙◌}
use mathlib.Core.Bool.{Bool, true, false, cond, ◌&&◌}
use mathlib.Core.List.{List, [], ◌∷◌, ◌++◌, append_assoc}
use mathlib.Core.Logic.{◌↔◌, ◌⊎◌, inl, inr}
use Prim.Native.Nat.{ℕ, suc, ◌+◌, ◌-◌, ◌<◌}
use native.Mathlib.Omega.{arith}
use borrow.Author.Tests.{eqb-true}
use lib.Dec.{eqb}
use lib.ListN.{length, take, get_or, length-append, get_or-append}
use lib.Seq.{take_at, get_or_at}
use Rattle.record.specs.Grammar.{cr, lf, Fields, Ends, From, Reads}
use Rattle.record.specs.Scan.{Reading, up_to, starts, fresh, scanned, done, bad}
use Rattle.record.specs.Where.{Bad, BadAt}
use Rattle.record.proofs.Theorems.Complete.{complete}
use Rattle.record.proofs.Theorems.Sound.{sound}
use Rattle.record.proofs.Theorems.Where.{bad_at_iff, bad_only}
use Rattle.record.proofs.Laws.Wrong.{Wrong, line_end, wrong_at, grows}
use Rattle.record.proofs.Laws.Local.{final, final_append, fields_local}

-- a line end: an end of a record that is not the end of the text
pub data LineEnds : (at : ℕ) (s : List ℕ) (next : ℕ) → Type 0 where
  crlf : {at : ℕ} {s : List ℕ} → LineEnds at (cr ∷ lf ∷ s) (at + 2)
  bare_lf : {at : ℕ} {s : List ℕ} → LineEnds at (lf ∷ s) (at + 1)

-- the text starts with a record of these fields, and a line end ends it
pub data ReadsLine (text : List ℕ) (fields : List (ℕ × ℕ)) (next : ℕ) : Type 0 where
  line : {to : ℕ} {t : List ℕ} → Fields 0 text fields to t → LineEnds to t next → ReadsLine text fields next

-- the bytes that such a record takes, line end and all, are the same record whatever follows them
pub record Used (text : List ℕ) (fields : List (ℕ × ℕ)) (next : ℕ) : Type 0 where
  pub bytes : List ℕ
  pub rest : List ℕ
  pub whole : text ≡ bytes ++ rest
  pub size : length bytes ≡ next
  pub some : 0 < next
  pub lf_last : final 0 bytes ≡ lf
  pub again : (others : List ℕ) → Reads (bytes ++ others) fields next

used_by : {text : List ℕ} {fields : List (ℕ × ℕ)} {to : ℕ} {t : List ℕ} {next : ℕ} → Fields 0 text fields to t → LineEnds to t next → Used text fields next
used_by {fields = fields} {to = to} r (crlf {s = s}) =
    let w = (fields_local r).passed in
    let place : to ≡ 0 + length w.bytes = w.place in
    record {
      bytes = w.bytes ++ (cr ∷ lf ∷ []);
      rest = s;
      whole = w.whole ∙ sym (append_assoc w.bytes (cr ∷ lf ∷ []) s);
      size = omega (arith, length-append w.bytes (cr ∷ lf ∷ []));
      some = omega arith;
      lf_last = final_append 0 w.bytes (cr ∷ lf ∷ []);
      again = λ others. subst (λ (u : List ℕ). Reads u fields (to + 2)) (sym (append_assoc w.bytes (cr ∷ lf ∷ []) others))
          (From.from (w.again (cr ∷ lf ∷ others)) Ends.crlf);
    }
used_by {fields = fields} {to = to} r (bare_lf {s = s}) =
    let w = (fields_local r).passed in
    let place : to ≡ 0 + length w.bytes = w.place in
    record {
      bytes = w.bytes ++ (lf ∷ []);
      rest = s;
      whole = w.whole ∙ sym (append_assoc w.bytes (lf ∷ []) s);
      size = omega (arith, length-append w.bytes (lf ∷ []));
      some = omega arith;
      lf_last = final_append 0 w.bytes (lf ∷ []);
      again = λ others. subst (λ (u : List ℕ). Reads u fields (to + 1)) (sym (append_assoc w.bytes (lf ∷ []) others))
          (From.from (w.again (lf ∷ others)) Ends.bare_lf);
    }

pub used : {text : List ℕ} {fields : List (ℕ × ℕ)} {next : ℕ} → ReadsLine text fields next → Used text fields next
used (line r end) = used_by r end

end_reads : {to : ℕ} {t : List ℕ} {next : ℕ} → LineEnds to t next → Ends to t next
end_reads crlf = Ends.crlf
end_reads bare_lf = Ends.bare_lf

pub line_reads : {text : List ℕ} {fields : List (ℕ × ℕ)} {next : ℕ} → ReadsLine text fields next → Reads text fields next
line_reads (line r end) = From.from r (end_reads end)

-- the byte before the next record
final_at : (c : ℕ) (s : List ℕ) → final c s ≡ get_or (c ∷ s) (length s) 0
final_at c [] = refl
final_at c (b ∷ s) = final_at b s

last_byte : (bytes rest : List ℕ) (next : ℕ) → length bytes ≡ next → 0 < next → get_or (bytes ++ rest) (next - 1) 0 ≡ final 0 bytes
last_byte [] rest next e some = absurd (omega arith)
last_byte (b ∷ s) rest next e some =
    let size : suc (length s) ≡ next = e in
    let at : next - 1 ≡ length s = omega arith in
    let inside : length s < length (b ∷ s) = omega arith in
    ap (λ n. get_or (b ∷ s ++ rest) n 0) at ∙ (get_or-append (b ∷ s) rest 0 (length s) inside ∙ sym (final_at b s))

-- either a line end ended a record, or the text did: then all of it is taken, and its last byte is no LF
pub data Ended (text : List ℕ) (fields : List (ℕ × ℕ)) (next : ℕ) : Type 0 where
  by_line : ReadsLine text fields next → Ended text fields next
  by_text : next ≡ length text → (get_or text (next - 1) 0 ≡ lf → ⊥) → Ended text fields next

no_last : (text bytes : List ℕ) (next : ℕ) → text ≡ bytes ++ [] → next ≡ length bytes → (final 0 bytes ≡ lf → ⊥) → get_or text (next - 1) 0 ≡ lf → ⊥
no_last text [] next e size h x = let z : ◌≡◌ {A = ℕ} 0 lf = sym (ap (λ (t : List ℕ). get_or t (next - 1) 0) e) ∙ x in omega arith
no_last text (b ∷ s) next e size h x =
    h (sym (last_byte (b ∷ s) [] next (sym size) (omega arith)) ∙ (sym (ap (λ (t : List ℕ). get_or t (next - 1) 0) e) ∙ x))

ended_by : {text : List ℕ} {fields : List (ℕ × ℕ)} {to : ℕ} {t : List ℕ} {next : ℕ} → Fields 0 text fields to t → Ends to t next → Ended text fields next
ended_by r Ends.crlf = by_line (line r crlf)
ended_by r Ends.bare_lf = by_line (line r bare_lf)
ended_by {text} {to = to} r Ends.of_text =
    let l = fields_local r in
    let w = l.passed in
    let place : to ≡ 0 + length w.bytes = w.place in
    by_text
    (omega (arith, ap length w.whole, length-append w.bytes []))
    (no_last text w.bytes to w.whole (omega arith) (l.no_lf 0 (λ e. omega arith)))

pub ended : {text : List ℕ} {fields : List (ℕ × ℕ)} {next : ℕ} → Reads text fields next → Ended text fields next
ended (From.from r end) = ended_by r end

-- The handy test: a line end ended a record exactly if the byte before the next one is an LF.
pub by_lf : (text : List ℕ) (fields : List (ℕ × ℕ)) (next : ℕ) → Reads text fields next → get_or text (next - 1) 0 ≡ lf
    → ReadsLine text fields next
by_lf text fields next r e = go (ended r)
  where
    go : Ended text fields next → ReadsLine text fields next
    go (by_line l) = l
    go (by_text size h) = absurd (h e)

pub line_ended : (text : List ℕ) (fields : List (ℕ × ℕ)) (next : ℕ) → Reads text fields next
    → ((0 < next) × (get_or text (next - 1) 0 ≡ lf)) ↔ ReadsLine text fields next
line_ended text fields next r = (
  λ x. by_lf text fields next r x.1,
  λ l. let u = used l in
      let last : get_or (u.bytes ++ u.rest) (next - 1) 0 ≡ lf = last_byte u.bytes u.rest next u.size u.some ∙ u.lf_last in
      (u.some, ap (λ (t : List ℕ). get_or t (next - 1) 0) u.whole ∙ last),
)

-- and if bytes are left, a line end did
pub by_rest : (text : List ℕ) (fields : List (ℕ × ℕ)) (next : ℕ) → Reads text fields next → next < length text → ReadsLine text fields next
by_rest text fields next r left = go (ended r)
  where
    go : Ended text fields next → ReadsLine text fields next
    go (by_line l) = l
    go (by_text size h) = absurd (omega arith)

-- such a record is the same with any bytes behind the text, and with any behind its line end
pub reads_before : (text : List ℕ) (fields : List (ℕ × ℕ)) (next : ℕ) (others : List ℕ) → ReadsLine text fields next → Reads (text ++ others) fields next
reads_before text fields next others l =
    let u = used l in
    let all : text ++ others ≡ u.bytes ++ (u.rest ++ others) =
    ap (λ (t : List ℕ). t ++ others) u.whole ∙ append_assoc u.bytes u.rest others in
    rw all (u.again (u.rest ++ others))

pub reads_cut : (text : List ℕ) (fields : List (ℕ × ℕ)) (next : ℕ) (others : List ℕ) → ReadsLine text fields next
    → Reads (take next text ++ others) fields next
reads_cut text fields next others l =
    let u = used l in
    let cut : take next text ≡ u.bytes = ap (take next) u.whole ∙ take_at u.bytes u.rest next u.size in
    rw cut (u.again others)

-- A scan that goes wrong at p: the byte there, and that it is the last if none stands behind it.
module _ (text : List ℕ) (p : ℕ) (w : Wrong text fresh 0 (scanned text).fields p) where
  at_fault : get_or text p 0 ≡ w.byte
  at_fault =
      let place : p ≡ 0 + length w.before = w.place in
      ap (λ (t : List ℕ). get_or t p 0) w.whole ∙ get_or_at w.before w.byte w.behind 0 p (omega arith)

  last_one : w.behind ≡ [] → p + 1 ≡ length text
  last_one e = omega (arith, w.place, ap length w.whole, length-append w.before (w.byte ∷ w.behind), ap length e)

  none_left : p + 1 ≡ length text → length w.behind ≡ 0
  none_left e = omega (arith, w.place, ap length w.whole, length-append w.before (w.byte ∷ w.behind))

not_both : (c d : Bool) → (c ≡ true → d ≡ false) → c && d ≡ false
not_both true d h = h refl
not_both false d h = refl

-- It goes wrong there with any bytes behind the text, unless p is its last byte and a CR; and then only an LF helps.
pub bad_before : (text : List ℕ) (p : ℕ) (others : List ℕ) → (scanned text).ending ≡ bad p
    → (p + 1 ≡ length text → get_or text p 0 ≡ cr → starts lf others ≡ false) → scanned (text ++ others) ≡ scanned text
bad_before text p others e alone =
    let w = wrong_at text p e in
    let fields = (scanned text).fields in
    grows w others ∙ (ap (λ c. cond c (up_to fields (done (p + 2))) (up_to fields (bad p))) (none w w.behind refl) ∙ sym (ap (up_to fields) e))
  where
    none : (w : Wrong text fresh 0 (scanned text).fields p) (behind : List ℕ) → w.behind ≡ behind → line_end w.byte (behind ++ others) ≡ false
    none w [] last =
        not_both (eqb w.byte cr) (starts lf others)
        (λ e. alone (last_one text p w last) (at_fault text p w ∙ eqb-true w.byte cr e))
    none w (c ∷ s) more = ap (line_end w.byte) (sym more) ∙ w.lone

pub bad_decided : (text : List ℕ) (p : ℕ) (others : List ℕ) → (scanned text).ending ≡ bad p → (p + 1 ≡ length text → get_or text p 0 ≡ cr → ⊥)
    → scanned (text ++ others) ≡ scanned text
bad_decided text p others e alone = bad_before text p others e (λ last is_cr. absurd (alone last is_cr))

-- What stands behind that byte may be anything: only behind a CR it may not be an LF.
pub bad_cut : (text : List ℕ) (p : ℕ) (others : List ℕ) → (scanned text).ending ≡ bad p → (get_or text p 0 ≡ cr → starts lf others ≡ false)
    → scanned (take (p + 1) text ++ others) ≡ scanned text
bad_cut text p others e alone =
    let w = wrong_at text p e in
    let fields = (scanned text).fields in
    let place : p ≡ 0 + length w.before = w.place in
    let whole : text ≡ (w.before ++ (w.byte ∷ [])) ++ w.behind = w.whole ∙ sym (append_assoc w.before (w.byte ∷ []) w.behind) in
    let cut : take (p + 1) text ≡ w.before ++ (w.byte ∷ []) =
    ap (take (p + 1)) whole ∙ take_at (w.before ++ (w.byte ∷ [])) w.behind (p + 1) (omega (arith, length-append w.before (w.byte ∷ []))) in
    let none : line_end w.byte others ≡ false = not_both (eqb w.byte cr) (starts lf others) (λ x. alone (at_fault text p w ∙ eqb-true w.byte cr x)) in
    ap (λ (t : List ℕ). scanned (t ++ others)) cut
    ∙ ap scanned (append_assoc w.before (w.byte ∷ []) others)
    ∙ w.goes others
    ∙ ap (λ c. cond c (up_to fields (done (p + 2))) (up_to fields (bad p))) none
    ∙ sym (ap (up_to fields) e)

-- the same by the grammar alone
pub bad_stays : (text : List ℕ) (p : ℕ) (others : List ℕ) → Bad text → BadAt text p → (p + 1 ≡ length text → get_or text p 0 ≡ cr → ⊥)
    → Bad (text ++ others) × BadAt (text ++ others) p
bad_stays text p others h at alone =
    let e = bad_only text p h at in
    (bad_at_iff (text ++ others) p).0 (ap (λ (r : Reading). r.ending) (bad_decided text p others e alone) ∙ e)

-- a CR at the end of the text, once an LF stands behind it, ends the record whose fields were read up to there
nothing : (s : List ℕ) → length s ≡ 0 → s ≡ []
nothing [] e = refl
nothing (b ∷ s) e = absurd (omega arith)

pub cr_then_lf : (text : List ℕ) (p : ℕ) (others : List ℕ) → (scanned text).ending ≡ bad p → p + 1 ≡ length text → get_or text p 0 ≡ cr
    → scanned (text ++ (lf ∷ others)) ≡ up_to (scanned text).fields (done (p + 2))
cr_then_lf text p others e last is_cr =
    let w = wrong_at text p e in
    let b : w.byte ≡ cr = sym (at_fault text p w) ∙ is_cr in
    let none : w.behind ≡ [] = nothing w.behind (none_left text p w last) in
    let ends : line_end w.byte (w.behind ++ (lf ∷ others)) ≡ true = ap (λ (s : List ℕ). line_end w.byte (s ++ (lf ∷ others))) none ∙ rw b refl in
    grows w (lf ∷ others) ∙ ap (λ c. cond c (up_to (scanned text).fields (done (p + 2))) (up_to (scanned text).fields (bad p))) ends

-- What a window shows is what the file has: a record of which bytes are left behind it, or with an LF before the next one.
pub window_reads : (window : List ℕ) (fields : List (ℕ × ℕ)) (next : ℕ) (others : List ℕ) → Reads window fields next
    → (next < length window) ⊎ (get_or window (next - 1) 0 ≡ lf) → Reads (window ++ others) fields next
window_reads window fields next others r (inl left) = reads_before window fields next others (by_rest window fields next r left)
window_reads window fields next others r (inr e) = reads_before window fields next others (by_lf window fields next r e)

pub window_done : (window : List ℕ) (next : ℕ) (others : List ℕ) → (scanned window).ending ≡ done next
    → (next < length window) ⊎ (get_or window (next - 1) 0 ≡ lf) → scanned (window ++ others) ≡ scanned window
window_done window next others e which =
    let same : scanned window ≡ up_to (scanned window).fields (done next) = ap (up_to (scanned window).fields) e in
    complete (window ++ others) (scanned window).fields next
    (window_reads window (scanned window).fields next others (sound window (scanned window).fields next same) which)
    ∙ sym same
