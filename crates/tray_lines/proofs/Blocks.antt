-- However the input is cut into runs of bytes, and however long a line is, the answers are those of its lines; 17 bytes of a line tell all.
use mathlib.Core.Path.{◌≡◌, refl, sym, ap, ◌∙◌, subst}
use mathlib.Core.Bool.{Bool, true, false, cond}
use mathlib.Core.List.{List, [], ◌∷◌, ◌++◌, append_assoc, append-nil}
use Prim.Native.Nat.{ℕ, ◌+◌, ◌≤◌, ◌<◌, min}
use native.Mathlib.Numerals.{add-one}
use native.Mathlib.Omega.{arith}
use borrow.Author.Tests.{eq-eqb, ne_eqb, ltb-true, ltb-false}
use lib.Dec.{eqb, ltb}
use lib.ListN.{length, take, set, length-append, length-take, length-set}
use lib.Seq.{take_all, take-append-le, take-suc-set}
use Rattle.digits.specs.Hex.{lf}
use Rattle.table.specs.World.{World}
use Rattle.tray_lines.specs.Lines.{said}
use Rattle.tray_lines.specs.Answers.{Tells, tells_of, tells}
use Rattle.tray_lines.specs.Feeds.{Reader, Midway, Feeds, fresh, takes, feeds, is_empty, whole, Kept, keeping, ends}
use Rattle.tray_lines.specs.Runs.{lines_of, finished, answered, after}

-- a run fed, and then another
abbrev pub then : {L : Type 0} → Feeds L → Feeds L → Feeds L
then a b = record { state = b.state; out = a.out ++ b.out }

-- FEEDING TWO RUNS IS FEEDING BOTH AS ONE.
pub feeds_join : {L : Type 0} (r : Reader L) (s : Midway L) (a b : List ℕ) → feeds r s (a ++ b) ≡ then (feeds r s a) (feeds r (feeds r s a).state b)
unfolding feeds
feeds_join r s [] b = refl
feeds_join r s (x ∷ a) b =
    let t = takes r s x in
    ap (λ (f : Feeds _). record { state = f.state; out = t.out ++ f.out }) (feeds_join r t.state a b)
    ∙ ap (λ (l : List ℕ). record { state = (feeds r (feeds r t.state a).state b).state; out = l })
    (sym (append_assoc t.out (feeds r t.state a).out (feeds r (feeds r t.state a).state b).out))

-- what a run of bytes is answered in all, its last line included, and the world after it
abbrev pub out_of : (w : World) (l input : List ℕ) → Tells
out_of w l input =
    let f : Feeds (List ℕ) = feeds whole (record { world = w; line = l }) input in
    record { world = (ends whole f.state).world; text = f.out ++ (ends whole f.state).text }

-- one byte, by whether it is an LF
abbrev byte_of : (w : World) (l : List ℕ) (b : ℕ) (is_lf : Bool) → Feeds (List ℕ)
byte_of w l b is_lf =
    cond is_lf
    (record { state = fresh whole (tells w l).world; out = (tells w l).text })
    (record { state = record { world = w; line = l ++ (b ∷ []) }; out = [] })

-- WHOLE LINES: what is answered, with the last line's answer, is what the lines are answered, and the world is the one after them.
pub feeds_lines : (w : World) (l input : List ℕ) → out_of w l input ≡ record { world = after w (lines_of l input); text = answered w (lines_of l input) }
unfolding feeds
feeds_lines w [] [] = refl
feeds_lines w (c ∷ l) [] = ap (λ (s : List ℕ). record { world = (tells w (c ∷ l)).world; text = s }) (sym (append-nil (tells w (c ∷ l)).text))
feeds_lines w l (b ∷ input) = go (eqb b lf) (feeds_lines (tells w l).world [] input) (feeds_lines w (l ++ (b ∷ [])) input)
  where
    go : (t : Bool)
        → out_of (tells w l).world [] input ≡ record { world = after (tells w l).world (lines_of [] input); text = answered (tells w l).world (lines_of [] input) }
        → out_of w (l ++ (b ∷ [])) input ≡ record { world = after w (lines_of (l ++ (b ∷ [])) input); text = answered w (lines_of (l ++ (b ∷ [])) input) }
        → ◌≡◌ {A = Tells}
        (record {
          world = (ends whole (feeds whole (byte_of w l b t).state input).state).world;
          text = ((byte_of w l b t).out ++ (feeds whole (byte_of w l b t).state input).out) ++ (ends whole (feeds whole (byte_of w l b t).state input).state).text;
        })
        (record {
          world = after w (cond t (l ∷ lines_of [] input) (lines_of (l ++ (b ∷ [])) input));
          text = answered w (cond t (l ∷ lines_of [] input) (lines_of (l ++ (b ∷ [])) input));
        })
    go true here there =
        ap (λ (s : List ℕ). record { world = (out_of (tells w l).world [] input).world; text = s }) (append_assoc (tells w l).text _ _)
        ∙ ap (λ (x : Tells). record { world = x.world; text = (tells w l).text ++ x.text }) here
    go false here there = there

-- and before the end of the input, of the lines that an LF ended
abbrev told : (w : World) (ls : List (List ℕ)) → Tells
told w ls = record { world = after w ls; text = answered w ls }

abbrev so_far : Feeds (List ℕ) → Tells
so_far f = record { world = f.state.world; text = f.out }

pub feeds_finished : (w : World) (l input : List ℕ) → so_far (feeds whole (record { world = w; line = l }) input) ≡ told w (finished l input)
unfolding feeds
feeds_finished w l [] = refl
feeds_finished w l (b ∷ input) = go (eqb b lf) (feeds_finished (tells w l).world [] input) (feeds_finished w (l ++ (b ∷ [])) input)
  where
    go : (t : Bool) → so_far (feeds whole (fresh whole (tells w l).world) input) ≡ told (tells w l).world (finished [] input)
        → so_far (feeds whole (record { world = w; line = l ++ (b ∷ []) }) input) ≡ told w (finished (l ++ (b ∷ [])) input)
        → ◌≡◌ {A = Tells}
        (record { world = (feeds whole (byte_of w l b t).state input).state.world; text = (byte_of w l b t).out ++ (feeds whole (byte_of w l b t).state input).out })
        (told w (cond t (l ∷ finished [] input) (finished (l ++ (b ∷ [])) input)))
    go true here there = ap (λ (x : Tells). record { world = x.world; text = (tells w l).text ++ x.text }) here
    go false here there = there

-- a line longer than 17 bytes is garbled, and so are its first 17
pub said_kept : (l : List ℕ) → said (take 17 l) ≡ said l
unfolding said
said_kept l = go (ltb 17 (length l)) refl
  where
    go : (t : Bool) → ltb 17 (length l) ≡ t → said (take 17 l) ≡ said l
    go true e =
        let long : 17 < length l = ltb-true 17 (length l) e in
        let kept : length (take 17 l) ≡ 16 → ⊥ = λ (p : length (take 17 l) ≡ 16). omega (arith, length-take 17 l) in
        let all : length l ≡ 16 → ⊥ = λ (p : length l ≡ 16). omega arith in
        rw (ne_eqb (length (take 17 l)) 16 kept, ne_eqb (length l) 16 all)
    go false e = ap said (take_all 17 l (ltb-false 17 (length l) e))

pub tells_kept : (w : World) (l : List ℕ) → tells w (take 17 l) ≡ tells w l
unfolding tells
tells_kept w l = ap (tells_of w) (said_kept l)

-- what is kept of a line: its first 17 bytes
pub record Holds (k : Kept) (l : List ℕ) : Type 0 where
  pub room : length k.bytes ≡ 17
  pub count : k.count ≡ min 17 (length l)
  pub text : take k.count k.bytes ≡ take 17 l

holds_none : Holds keeping.none []
holds_none = record { room = refl; count = refl; text = refl }

holds_add : (k : Kept) (l : List ℕ) (b : ℕ) → Holds k l → Holds (keeping.add k b) (l ++ (b ∷ []))
holds_add k l b h = go (ltb k.count 17) refl
  where
    go : (t : Bool) → ltb k.count 17 ≡ t
        → Holds (cond t (record { bytes = set k.bytes k.count b; count = k.count + 1 }) k) (l ++ (b ∷ []))
    go true e =
        let lt : k.count < 17 = ltb-true k.count 17 e in
        let n : k.count ≡ length l = omega (arith, h.count) in
        let short : length (l ++ (b ∷ [])) ≤ 17 = simp length-append (omega arith) in
        let here : k.count < length k.bytes = omega (arith, h.room) in
        record {
          room = length-set k.bytes k.count b ∙ h.room;
          count = simp length-append (omega arith);
          text =
              ap (λ m. take m (set k.bytes k.count b)) (add-one k.count)
              ∙ take-suc-set k.bytes k.count b here
              ∙ ap (λ (s : List ℕ). s ++ (b ∷ [])) (h.text ∙ take_all 17 l (omega arith))
              ∙ sym (take_all 17 (l ++ (b ∷ [])) short);
        }
    go false e =
        let ge : 17 ≤ k.count = ltb-false k.count 17 e in
        let long : 17 ≤ length l = omega (arith, h.count) in
        record {
          room = h.room;
          count = simp length-append (omega (arith, h.count));
          text = h.text ∙ sym (take-append-le 17 l (b ∷ []) long);
        }

holds_empty : (k : Kept) (l : List ℕ) → Holds k l → keeping.empty k ≡ is_empty l
holds_empty k [] h = eq-eqb k.count 0 h.count
holds_empty k (b ∷ l) h = ne_eqb k.count 0 (λ e. omega (arith, h.count))

-- two readers at the same place: the same world, and the line kept
pub record Same (a : Feeds Kept) (b : Feeds (List ℕ)) : Type 0 where
  pub world : a.state.world ≡ b.state.world
  pub line : Holds a.state.line b.state.line
  pub out : a.out ≡ b.out

takes_same : (w : World) (k : Kept) (l : List ℕ) (b : ℕ) → Holds k l → Same (takes keeping (record { world = w; line = k }) b) (takes whole (record { world = w; line = l }) b)
takes_same w k l b h = go (eqb b lf)
  where
    now : tells w (take k.count k.bytes) ≡ tells w l
    now = ap (tells w) h.text ∙ tells_kept w l

    go : (t : Bool)
        → Same
        (cond t (record { state = fresh keeping (tells w (take k.count k.bytes)).world; out = (tells w (take k.count k.bytes)).text })
        (record { state = record { world = w; line = keeping.add k b }; out = [] }))
        (cond t (record { state = fresh whole (tells w l).world; out = (tells w l).text }) (record { state = record { world = w; line = l ++ (b ∷ []) }; out = [] }))
    go true = record { world = ap (λ (t : Tells). t.world) now; line = holds_none; out = ap (λ (t : Tells). t.text) now }
    go false = record { world = refl; line = holds_add k l b h; out = refl }

-- KEEPING 17 BYTES LOSES NOTHING.
pub feeds_same : (w : World) (k : Kept) (l input : List ℕ) → Holds k l
    → Same (feeds keeping (record { world = w; line = k }) input) (feeds whole (record { world = w; line = l }) input)
unfolding feeds
feeds_same w k l [] h = record { world = refl; line = h; out = refl }
feeds_same w k l (b ∷ input) h =
    let s = takes_same w k l b h in
    let a = takes keeping (record { world = w; line = k }) b in
    let c = takes whole (record { world = w; line = l }) b in
    let rest : Same (feeds keeping a.state input) (feeds whole (record { world = a.state.world; line = c.state.line }) input) = feeds_same a.state.world a.state.line c.state.line input s.line in
    let at : Same (feeds keeping a.state input) (feeds whole c.state input) = subst (λ (v : World). Same (feeds keeping a.state input) (feeds whole (record { world = v; line = c.state.line }) input)) s.world rest in
    record { world = at.world; line = at.line; out = cc (s.out, at.out) }

pub ends_same : (a : Feeds Kept) (b : Feeds (List ℕ)) → Same a b → ends keeping a.state ≡ ends whole b.state
ends_same a b s =
    let e : keeping.empty a.state.line ≡ is_empty b.state.line = holds_empty a.state.line b.state.line s.line in
    let t : tells b.state.world (take a.state.line.count a.state.line.bytes) ≡ tells b.state.world b.state.line = ap (tells b.state.world) s.line.text ∙ tells_kept b.state.world b.state.line in
    rw (s.world, e, t)

-- What the program has answered before the end of its input, and where it stands,
pub run_so_far : (w : World) (input : List ℕ)
    → ((feeds keeping (fresh keeping w) input).out ≡ answered w (finished [] input)) × ((feeds keeping (fresh keeping w) input).state.world ≡ after w (finished [] input))
run_so_far w input =
    let s = feeds_same w keeping.none [] input holds_none in
    let l = feeds_finished w [] input in
    (s.out ∙ ap (λ (t : Tells). t.text) l, s.world ∙ ap (λ (t : Tells). t.world) l)

-- and ALL THAT IT ANSWERS to an input, with where it stands after it.
pub run_answers : (w : World) (input : List ℕ)
    → ((feeds keeping (fresh keeping w) input).out ++ (ends keeping (feeds keeping (fresh keeping w) input).state).text ≡ answered w (lines_of [] input))
    × ((ends keeping (feeds keeping (fresh keeping w) input).state).world ≡ after w (lines_of [] input))
run_answers w input =
    let s = feeds_same w keeping.none [] input holds_none in
    let e = ends_same _ _ s in
    let l = feeds_lines w [] input in
    (cc (s.out, e, ap (λ (t : Tells). t.text) l), ap (λ (t : Tells). t.world) e ∙ ap (λ (t : Tells). t.world) l)
