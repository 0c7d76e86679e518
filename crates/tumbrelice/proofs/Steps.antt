-- A cursor: what is heard of a beginning, a step or a peek is what is seen of it, and the cursor comes out. A refused step and a peek leave it, so it is not stored.
use mathlib.Core.Path.{◌≡◌, sym, ap, ◌∙◌}
use mathlib.Core.Bool.{true}
use mathlib.Core.List.{List}
use Prim.Native.Nat.{ℕ, ◌<◌}
use native.Mathlib.Omega.{arith}
use Rattle.slots.specs.Layout.{Kind, ring, vector}
use Rattle.table.specs.Tray.{Tray, list, Cursor}
use Rattle.table.specs.Calls.{Call, Look, look, iter, into_iter, has}
use Rattle.table.specs.Table.{after}
use Rattle.table.specs.Does.{Outcome, refused, done, does, row_of, refusals_of}
use Rattle.table.proofs.Laws.Refusals.{either}
use Rattle.table.proofs.Theorems.Refused.{few_numbers, call_refused}
use Rattle.table.proofs.Theorems.Moves.{few_moves}
use Rattle.ring.specs.declared.Ring.{Ring}
use Rattle.ring.specs.Seen as rings
use Rattle.vector.specs.declared.Vector.{Vector}
use Rattle.vector.specs.Seen as vectors
use Rattle.cursors.specs.declared.Cursor as code
use Rattle.cursors.specs.Seen.{cursor, seen}
use Rattle.table.specs.declared.answers.Numbered.{Numbered}
use Rattle.tumbrelice.proofs.Numbers.{Stepped}
use Rattle.tumbrelice.proofs.Twos.{cursor_comes_out}
use Rattle.tumbrelice.specs.Heard.{Worded, Held, HearsAt, ring_in, vector_in, ring_of, vector_of, cursor_in, cursor_out, cursor_of, unless_refused}
use Rattle.tumbrelice.proofs.Words.{none_fits, heard_at_law}

-- an answer fits a word
pub step_fit : (k : Kind) (call : Call) (t : Tray) (a : Numbered code.Cursor) → Stepped k call t a → has call k ≡ true → (a.number < 16) × (a.moves < 4096) × (a.slot < 65536)
step_fit k call t a e of =
    (omega (arith, few_numbers k call t, ap (λ (o : Outcome). o.number) e.row), omega (arith, few_moves k call t of, ap (λ (o : Outcome). o.moves) e.row), none_fits a.slot e.slot)

-- a beginning
began : (k : Kind) (q : Look) (b : Held) (cu' : List ℕ) (a : Numbered code.Cursor) (word : ℕ) → Stepped k (look q) b.tray a → cu' ≡ cursor_out a.state → Worded a.number a.value a.moves a.slot word
    → HearsAt k q b word (cursor_of cu')
began k q b cu' a word e ec w = rw ec (record { row = heard_at_law _ _ _ _ word b.tray (cursor a.state) _ w e.row; slot = w.slot ∙ e.slot })

pub ring_began : (q : Look) (st s cu' : List ℕ) (r : Ring) (a : Numbered code.Cursor) (word : ℕ) → r ≡ ring_in st → Stepped ring (look q) (rings.tray r s) a → cu' ≡ cursor_out a.state
    → Worded a.number a.value a.moves a.slot word → HearsAt ring q (ring_of st s) word (cursor_of cu')
ring_began q st s cu' r a word er e ec w = began ring q (ring_of st s) cu' a word (rw er at e) ec w

pub vector_began : (q : Look) (st s cu' : List ℕ) (v : Vector) (a : Numbered code.Cursor) (word : ℕ) → v ≡ vector_in st → Stepped vector (look q) (vectors.tray v s) a → cu' ≡ cursor_out a.state
    → Worded a.number a.value a.moves a.slot word → HearsAt vector q (vector_of st s) word (cursor_of cu')
vector_began q st s cu' v a word ev e ec w = began vector q (vector_of st s) cu' a word (rw ev at e) ec w

-- into_iter is iter by another name
pub begins_into : (k : Kind) (b : Held) (word : ℕ) (u : Cursor) → HearsAt k iter b word u → HearsAt k into_iter b word u
unfolding does
begins_into k b word u e = record { row = e.row; slot = e.slot }

-- a peek leaves it, done or refused
peek_leaves : (k : Kind) (q : Look) (t : Tray) (u : Cursor) → (row_of k (look q) t).given ≡ u → (row_of k (look q) t).cursor ≡ u → (does k (look q) t).cursor ≡ u
unfolding does
peek_leaves k q t u given then =
    either (λ (o : Outcome). o.cursor ≡ u) (refused t (row_of k (look q) t).given) (refusals_of k (look q) t) (done k t (after (look q) (list k t)) (row_of k (look q) t))
    (λ r. given) (λ clear. then)

-- `of` is the step or the peek, by the cursor that it is given
abbrev Gives : Kind → (of : Cursor → Look) → Type 0
Gives k of = (u : Cursor) (t : Tray) → (row_of k (look (of u)) t).given ≡ u

abbrev Leaves : Kind → (of : Cursor → Look) → Type 0
Leaves k of = (u : Cursor) (t : Tray) → (row_of k (look (of u)) t).cursor ≡ u

stepping : (k : Kind) (of : Cursor → Look) → Gives k of → (b : Held) (cu cu' : List ℕ) (u : code.Cursor) (a : Numbered code.Cursor) (word : ℕ) → u ≡ cursor_in cu
    → Stepped k (look (of (cursor u))) b.tray a → Worded a.number a.value a.moves a.slot word → cu' ≡ unless_refused a.number (cursor_out a.state) cu
    → HearsAt k (of (cursor_of cu)) b word (cursor_of cu')
stepping k of gives b cu cu' u a word eu e w ec =
    let e' : Stepped k (look (of (cursor_of cu))) b.tray a = rw eu at e in
    let walked = cursor_comes_out cu a.state a.number (λ j refuses.
    ap (λ (o : Outcome). o.cursor) (call_refused k (look (of (cursor_of cu))) b.tray (seen a b.tray) e'.row j refuses) ∙ gives (cursor_of cu) b.tray) in
    rw (ec, walked) (record { row = heard_at_law _ _ _ _ word b.tray (cursor a.state) _ w e'.row; slot = w.slot ∙ e'.slot })

pub ring_stepped : (of : Cursor → Look) → Gives ring of → (st sl cu cu' : List ℕ) (r : Ring) (u : code.Cursor) (a : Numbered code.Cursor) (word : ℕ) → r ≡ ring_in st → u ≡ cursor_in cu
    → Stepped ring (look (of (cursor u))) (rings.tray r sl) a → Worded a.number a.value a.moves a.slot word → cu' ≡ unless_refused a.number (cursor_out a.state) cu
    → HearsAt ring (of (cursor_of cu)) (ring_of st sl) word (cursor_of cu')
ring_stepped of gives st sl cu cu' r u a word er eu e w ec = stepping ring of gives (ring_of st sl) cu cu' u a word eu (rw er at e) w ec

pub vector_stepped : (of : Cursor → Look) → Gives vector of → (st sl cu cu' : List ℕ) (v : Vector) (u : code.Cursor) (a : Numbered code.Cursor) (word : ℕ) → v ≡ vector_in st → u ≡ cursor_in cu
    → Stepped vector (look (of (cursor u))) (vectors.tray v sl) a → Worded a.number a.value a.moves a.slot word → cu' ≡ unless_refused a.number (cursor_out a.state) cu
    → HearsAt vector (of (cursor_of cu)) (vector_of st sl) word (cursor_of cu')
vector_stepped of gives st sl cu cu' v u a word ev eu e w ec = stepping vector of gives (vector_of st sl) cu cu' u a word eu (rw ev at e) w ec

peeking : (k : Kind) (of : Cursor → Look) → Gives k of → Leaves k of → (b : Held) (cu : List ℕ) (u : code.Cursor) (a : Numbered code.Cursor) (word : ℕ) → u ≡ cursor_in cu
    → Stepped k (look (of (cursor u))) b.tray a → Worded a.number a.value a.moves a.slot word → HearsAt k (of (cursor_of cu)) b word (cursor_of cu)
peeking k of gives leaves b cu u a word eu e w =
    let e' : Stepped k (look (of (cursor_of cu))) b.tray a = rw eu at e in
    let same : cursor a.state ≡ cursor_of cu =
    ap (λ (o : Outcome). o.cursor) e'.row ∙ peek_leaves k (of (cursor_of cu)) b.tray (cursor_of cu) (gives (cursor_of cu) b.tray) (leaves (cursor_of cu) b.tray) in
    rw (sym same) (record { row = heard_at_law _ _ _ _ word b.tray (cursor a.state) _ w (rw (sym same) at e'.row); slot = w.slot ∙ e'.slot })

pub ring_peeked : (of : Cursor → Look) → Gives ring of → Leaves ring of → (st sl cu : List ℕ) (r : Ring) (u : code.Cursor) (a : Numbered code.Cursor) (word : ℕ) → r ≡ ring_in st
    → u ≡ cursor_in cu → Stepped ring (look (of (cursor u))) (rings.tray r sl) a → Worded a.number a.value a.moves a.slot word → HearsAt ring (of (cursor_of cu)) (ring_of st sl) word (cursor_of cu)
ring_peeked of gives leaves st sl cu r u a word er eu e w = peeking ring of gives leaves (ring_of st sl) cu u a word eu (rw er at e) w

pub vector_peeked : (of : Cursor → Look) → Gives vector of → Leaves vector of → (st sl cu : List ℕ) (v : Vector) (u : code.Cursor) (a : Numbered code.Cursor) (word : ℕ) → v ≡ vector_in st
    → u ≡ cursor_in cu → Stepped vector (look (of (cursor u))) (vectors.tray v sl) a → Worded a.number a.value a.moves a.slot word
    → HearsAt vector (of (cursor_of cu)) (vector_of st sl) word (cursor_of cu)
vector_peeked of gives leaves st sl cu v u a word ev eu e w = peeking vector of gives leaves (vector_of st sl) cu u a word eu (rw ev at e) w
