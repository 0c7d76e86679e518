-- The answer's line, put number by number, and its length; and what each thing that a line can say comes to.
use mathlib.Core.Path.{◌≡◌, refl, sym, ap, ◌∙◌}
use mathlib.Core.List.{List, [], ◌∷◌, ◌++◌, append-nil}
use Prim.Native.Nat.{ℕ, ◌≤◌}
use Rattle.std.specs.Prelude.{Result, Ok, Err}
use native.Mathlib.Omega.{arith}
use lib.ListN.{length, set, replicate, length-append, drop_of_length-le}
use Rattle.digits.specs.Hex.{hex, lf}
use Rattle.digits.specs.Put.{put, put_whole}
use Rattle.digits.proofs.Puts.{put_within, after_hex, put_ended, put_start, length_hex}
use Rattle.table.specs.World.{World}
use Rattle.tray_lines.specs.declared.lines.Call.{Call}
use Rattle.tray_lines.specs.declared.lines.Unsaid.{Unsaid}
use Rattle.tray_lines.specs.declared.acts.Answer.{Answer}
use Rattle.tray_lines.specs.declared.acts.After.{After}
use Rattle.tray_lines.specs.Lines.{number_in, said}
use Rattle.tray_lines.specs.Acts.{Acts, acts}
use Rattle.tray_lines.specs.Seen.{acted_seen}
use Rattle.tray_lines.specs.Answers.{line_of, bare, Tells, tells_of, tells}

pub length_line : (a : Answer) → length (line_of a) ≡ 27
unfolding line_of
length_line a = simp (length-append, length_hex)

-- a line as long as the text is all of the text
pub all_of : (s text : List ℕ) → length s ≡ length text → put text 0 s ≡ s
all_of s text e = put_start text s (omega arith) ∙ ap (λ (r : List ℕ). s ++ r) (drop_of_length-le text {i = length s} (omega arith)) ∙ append-nil s

-- six numbers and the end, each put where the one before it ends
pub line_put : (z a b c d e f : List ℕ) (x : Answer) → z ≡ replicate 27 0 → a ≡ put_whole z 0 (hex 2 x.number) → b ≡ put_whole a 2 (hex 8 x.value)
    → c ≡ put_whole b 10 (hex 4 x.moves) → d ≡ put_whole c 14 (hex 4 x.head) → e ≡ put_whole d 18 (hex 4 x.len)
    → f ≡ put_whole e 22 (hex 4 x.slot) → set f 26 10 ≡ line_of x
unfolding line_of
line_put z a b c d e f x ez ea eb ec ed ee ef =
    let long : 27 ≤ length z = omega (arith, ap length ez) in
    let pa = put_within 27 z a 0 2 x.number long ea (omega arith) in
    let pb = put_within 27 a b 2 8 x.value pa.1 eb (omega arith) in
    let pc = put_within 27 b c 10 4 x.moves pb.1 ec (omega arith) in
    let pd = put_within 27 c d 14 4 x.head pc.1 ed (omega arith) in
    let pe = put_within 27 d e 18 4 x.len pd.1 ee (omega arith) in
    let pf = put_within 27 e f 22 4 x.slot pe.1 ef (omega arith) in
    let s5 : List ℕ = hex 4 x.slot ++ (lf ∷ []) in
    let s4 : List ℕ = hex 4 x.len ++ s5 in
    let s3 : List ℕ = hex 4 x.head ++ s4 in
    let s2 : List ℕ = hex 4 x.moves ++ s3 in
    let s1 : List ℕ = hex 8 x.value ++ s2 in
    put_ended e f 22 4 x.slot lf pf.0
    ∙ ap (λ t. put t 22 s5) pe.0
    ∙ after_hex d 18 4 x.len 22 s5 refl
    ∙ ap (λ t. put t 18 s4) pd.0
    ∙ after_hex c 14 4 x.head 18 s4 refl
    ∙ ap (λ t. put t 14 s3) pc.0
    ∙ after_hex b 10 4 x.moves 14 s3 refl
    ∙ ap (λ t. put t 10 s2) pb.0
    ∙ after_hex a 2 8 x.value 10 s2 refl
    ∙ ap (λ t. put t 2 s1) pa.0
    ∙ after_hex z 0 2 x.number 2 s1 refl
    ∙ all_of (line_of x) z (length_line x ∙ sym (ap length ez))

length_of : (w : World) (s : Result Call Unsaid) → length (tells_of w s).text ≡ 27
length_of w (Ok c) = length_line (acts w c).answer
length_of w (Err e) = length_line (bare (number_in e))

-- every answer has 27 bytes
pub length_tells : (w : World) (l : List ℕ) → length (tells w l).text ≡ 27
unfolding tells
length_tells w l = length_of w (said l)

-- what the code has at each return: `s` is what the line says
pub tell_call : (w : World) (l text : List ℕ) (s : Result Call Unsaid) (c : Call) (a : After Answer) → s ≡ said l → s ≡ Ok c → acted_seen a ≡ acts w c
    → text ≡ line_of a.answer → ◌≡◌ {A = Tells} (record { world = (acted_seen a).world; text = text }) (tells w l)
unfolding tells
tell_call w l text s c a es ec ea et =
    rw et (ap (λ (r : Acts). record { world = r.world; text = line_of r.answer }) ea)
    ∙ sym (ap (tells_of w) (sym es ∙ ec))

pub tell_none : (w : World) (l text : List ℕ) (s : Result Call Unsaid) (e : Unsaid) (n : ℕ) (a : Answer) → s ≡ said l → s ≡ Err e → n ≡ number_in e
    → a ≡ bare n → text ≡ line_of a → ◌≡◌ {A = Tells} (record { world = w; text = text }) (tells w l)
unfolding tells
tell_none w l text s e n a es ee en ea et = rw (et, ea, en) (sym (ap (tells_of w) (sym es ∙ ee)))
