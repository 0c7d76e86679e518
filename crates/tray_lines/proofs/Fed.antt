-- Bytes fed one by one into a text: what one byte leaves, one byte more, and the whole run.
use mathlib.Core.Path.{◌≡◌, refl, sym, ap, ◌∙◌}
use mathlib.Core.Bool.{Bool, true, false, cond}
use Rattle.std.specs.Prelude.{None, Some}
use borrow.Rule.Slice.PartMut.{put_mid}
use Rattle.std.proofs.lemmas.List.Edits.{paste_all}
use Rattle.std.proofs.lemmas.Slice.{put_mid-paste}
use mathlib.Core.List.{List, [], ◌∷◌, ◌++◌}
use Prim.Native.Nat.{ℕ, ◌+◌, ◌*◌, ◌-◌, ◌/◌, ◌≤◌, ◌<◌, min}
use native.Mathlib.Numerals.{add-one}
use native.Mathlib.Omega.{arith}
use borrow.Author.Tests.{eq-eqb, ne_eqb}
use lib.Dec.{eqb}
use lib.ListN.{length, get_or, take, drop, length-append, length-take, drop_of_length-le}
use lib.Seq.{drop-cons, take_all}
use Rattle.digits.specs.Hex.{lf}
use Rattle.digits.specs.Put.{put}
use Rattle.digits.proofs.Puts.{length_put, put_join, put_at}
use Rattle.tray_lines.specs.declared.acts.After.{After}
use Rattle.tray_lines.specs.declared.feeds.State.{State}
use Rattle.tray_lines.specs.declared.feeds.Step.{Step}
use Rattle.tray_lines.specs.declared.feeds.Fed.{Fed}
use Rattle.tray_lines.specs.Seen
use Rattle.tray_lines.specs.Answers.{Tells, tells, told_seen}
use Rattle.tray_lines.specs.Feeds.{Midway, Feeds, Kept, takes, feeds, keeping, is_empty, ends, midway, Ends, ends_into, written, Fills, fills_all, room, fills, fed_seen, Puts, puts, step_seen}
use Rattle.tray_lines.proofs.Answered.{length_tells}

-- at the end of the input
pub none_begun : (s : State) → s.count ≡ 0
    → ◌≡◌ {A = Ends} (record { world = Seen.world s.trays; answer = None }) (ends_into (ends keeping (midway s)))
none_begun s e = rw (eq-eqb s.count 0 e)

filled : (l : List ℕ) → length l ≡ 27 → is_empty l ≡ false
filled [] e = absurd (omega (arith, e))
filled (b ∷ l) e = refl

pub some_begun : (s : State) (t : After (List ℕ)) → (s.count ≡ 0 → ⊥) → told_seen t ≡ tells (Seen.world s.trays) (take s.count s.line)
    → ◌≡◌ {A = Ends} (record { world = Seen.world t.trays; answer = Some t.answer }) (ends_into (ends keeping (midway s)))
some_begun s t ne et =
    let long : length t.answer ≡ 27 = ap (λ (x : Tells). length x.text) et ∙ length_tells _ _ in
    rw (ne_eqb s.count 0 ne) (rw (← et) (ap (λ e. record { world = Seen.world t.trays; answer = cond e None (Some t.answer) }) (sym (filled t.answer long))))

-- the answer is what is written
pub written_is : (t : List ℕ) → written (cond (is_empty t) None (Some t)) ≡ t
written_is [] = refl
written_is (b ∷ l) = refl

-- c is what the part of the text that is written holds then
pub lay_put : (out text c : List ℕ) (at : ℕ) → length text ≡ 27 → at + 27 ≤ length out → c ≡ text → put_mid at (at + 27 - at) out c ≡ put out at text
lay_put out text c at long low e =
    let k : 27 ≡ at + 27 - at = omega arith in
    let fits : at + length text ≤ length out = omega (arith, long) in
    put_mid-paste at (at + 27 - at) out c text 27 e k (sym long) ∙ paste_all out at text 27 (sym long) ∙ sym (put_at out at text fits ∙ ap (λ n. take at out ++ (text ++ drop (at + n) out)) long)

-- a byte that is no LF
pub step_byte : (s next : State) (b at : ℕ) (out : List ℕ) → (b ≡ 10 → ⊥) → midway next ≡ (takes keeping (midway s) b).state
    → ◌≡◌ {A = Puts} (record { state = midway next; at = at; out = out }) (puts (takes keeping (midway s) b) out at)
unfolding put
step_byte s next b at out ne en =
    let quiet : (takes keeping (midway s) b).out ≡ [] = rw (ne_eqb b lf ne) in
    let long : at ≡ at + length (takes keeping (midway s) b).out = rw quiet (omega arith) in
    let same : out ≡ put out at (takes keeping (midway s) b).out = rw quiet in
    cc (en, long, same)

-- an answer takes no more than 27 bytes, and so many answers no more than that for each byte fed; they fit where there is room for the bytes
few : (s : Midway Kept) (b : ℕ) (t : Bool) → eqb b lf ≡ t → length (takes keeping s b).out ≤ 27
few s b true e = rw e (omega (arith, length_tells s.world (take s.line.count s.line.bytes)))
few s b false e = rw e (omega arith)

feeds_few : (s : Midway Kept) (input : List ℕ) → length (feeds keeping s input).out ≤ 27 * length input
unfolding feeds
feeds_few s [] = omega arith
feeds_few s (b ∷ input) = simp length-append (omega (arith, few s b _ refl, feeds_few (takes keeping s b).state input))

pub feeds_fit : (s : Midway Kept) (input out : List ℕ) → length (feeds keeping s (take (room input out) input)).out ≤ length out
feeds_fit s input out =
    omega (arith, feeds_few s (take (room input out) input), length-take (room input out) input)

pub step_at : (s : Midway Kept) (b at i : ℕ) (out laid : List ℕ) (p : Step) → step_seen p laid ≡ puts (takes keeping s b) out at → at ≤ 27 * i → p.at ≤ 27 * (i + 1)
step_at s b at i out laid p e le = let is : p.at ≡ at + length (takes keeping s b).out = ap (λ (x : Puts). x.at) e in omega (arith, few s b _ refl)

-- two runs of answers that meet are one
puts_join : (s : Midway Kept) (a b out : List ℕ) (at : ℕ)
    → ◌≡◌ {A = Puts} (record { state = s; at = at + length a + length b; out = put (put out at a) (at + length a) b }) (record { state = s; at = at + length (a ++ b); out = put out at (a ++ b) })
puts_join s a b out at =
    let long : at + length a + length b ≡ at + length (a ++ b) = simp length-append (omega arith) in
    ap (λ n. record { state = s; at = n; out = put (put out at a) (at + length a) b }) long
    ∙ ap (λ (l : List ℕ). record { state = s; at = at + length (a ++ b); out = l }) (put_join out at a b)

-- one byte more
pub feed_turn : (s : Midway Kept) (input out laid : List ℕ) (at i : ℕ) (p : Puts) (x : Step) → puts (feeds keeping s (drop i input)) out at ≡ p → i < length input
    → step_seen x laid ≡ puts (takes keeping s (get_or input i 0)) out at → puts (feeds keeping (midway x.state) (drop (i + 1) input)) laid x.at ≡ p
unfolding feeds
feed_turn s input out laid at i p x is lt ex =
    let b : ℕ = get_or input i 0 in
    let rest : List ℕ = drop (i + 1) input in
    let left : drop i input ≡ b ∷ rest = rw (add-one, drop-cons input i 0) in
    let f : Feeds Kept = feeds keeping (takes keeping s b).state rest in
    ap (λ (y : Puts). puts (feeds keeping y.state rest) y.out y.at) ex
    ∙ puts_join f.state (takes keeping s b).out f.out out at
    ∙ sym (ap (λ l. puts (feeds keeping s l) out at) left)
    ∙ is

-- the whole run
pub feed_end : (s first : Midway Kept) (input out given : List ℕ) (at i : ℕ) → puts (feeds keeping s (drop i input)) out at ≡ puts (feeds keeping first input) given 0
    → length input ≤ i → ◌≡◌ {A = Fills} (record { state = s; took = length input; count = at; out = out }) (fills_all first input given)
unfolding feeds put
feed_end s first input out given at i is high =
    let none : drop i input ≡ [] = drop_of_length-le input {i = i} high in
    let end : ◌≡◌ {A = Puts} (record { state = s; at = at + 0; out = out }) (puts (feeds keeping first input) given 0) = sym (ap (λ l. puts (feeds keeping s l) out at) none) ∙ is in
    let f : Feeds Kept = feeds keeping first input in
    let es : s ≡ f.state = ap (λ (p : Puts). p.state) end in
    let ea : at ≡ length f.out = omega (arith, ap (λ (p : Puts). p.at) end) in
    let eo : out ≡ put given 0 f.out = ap (λ (p : Puts). p.out) end in
    cc (es, ea, eo)

-- as many bytes as there is room for
pub feed_room : (s : Midway Kept) (input out : List ℕ) (n : ℕ) (r : Fills) → n ≡ min (length out / 27) (length input) → r ≡ fills_all s (take n input) out → r ≡ fills s input out
unfolding fills
feed_room s input out n r e is = is ∙ ap (λ k. fills_all s (take k input) out) e

-- with room for all answers every byte is taken, and the answers are in the text
pub fed_all : (s : Midway Kept) (input out laid : List ℕ) (f : Fed) → 27 * length input ≤ length out → fed_seen f laid ≡ fills s input out → midway f.state ≡ (feeds keeping s input).state
unfolding fills
fed_all s input out laid f fits e =
    let low : length input ≤ length out / 27 = omega arith in
    let all : take (room input out) input ≡ input = take_all (room input out) input (omega arith) in
    ap (λ (x : Fills). x.state) e ∙ ap (λ l. (feeds keeping s l).state) all

pub counted : (s : Midway Kept) (input out laid : List ℕ) (f : Fed) → fed_seen f laid ≡ fills s input out → f.count ≤ length laid
unfolding fills
counted s input out laid f e =
    let n : f.count ≡ length (feeds keeping s (take (room input out) input)).out = ap (λ (x : Fills). x.count) e in
    let long : length laid ≡ length out = ap (λ (x : Fills). length x.out) e ∙ length_put out 0 _ in
    omega (arith, n, long, feeds_fit s input out)
