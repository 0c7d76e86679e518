-- What a program that is fed bytes says: each LF ends a line and gives its answer, and at the end a line begun counts if it isn't empty. Lines may
-- have any length; the same is then said of a reader that keeps no more than 17 bytes of a line.
use Rattle.std.specs.Prelude.{ℕ, ◌+◌, ◌/◌, Bool, true, false, cond, List, [], ◌∷◌, ◌++◌, length, take, set, replicate, eqb, ltb, Option, None, Some}
use Prim.Native.Nat.{min}
use Rattle.digits.specs.Hex.{lf}
use Rattle.digits.specs.Put.{put}
use Rattle.table.specs.World.{World}
use Rattle.tray_lines.specs.Answers.{Tells, tells}
use Rattle.tray_lines.specs.Seen
use Rattle.tray_lines.specs.declared.feeds.State.{State}
use Rattle.tray_lines.specs.declared.feeds.Step.{Step}
use Rattle.tray_lines.specs.declared.feeds.Fed.{Fed}
use Rattle.tray_lines.specs.declared.acts.After.{After}

-- a way of keeping a line begun: none of it, one byte more, whether it is empty, and its bytes
pub record Reader (L : Type 0) : Type 0 where
  pub none : L
  pub add : L → ℕ → L
  pub empty : L → Bool
  pub text : L → List ℕ

-- between two bytes of the input: the world, and the line begun
pub record Midway (L : Type 0) : Type 0 where
  pub world : World
  pub line : L

-- where it stands after some bytes, and what was answered
pub record Feeds (L : Type 0) : Type 0 where
  pub state : Midway L
  pub out : List ℕ

module _ {L : Type 0} (r : Reader L) where
  -- before the first byte of a line
  abbrev pub fresh : World → Midway L
  fresh w = record { world = w; line = r.none }

  -- the line ends, and is answered
  abbrev pub answers : Midway L → Tells
  answers s = tells s.world (r.text s.line)

  -- one byte
  abbrev pub takes : Midway L → (b : ℕ) → Feeds L
  takes s b =
      cond (eqb b lf)
      (record { state = fresh (answers s).world; out = (answers s).text })
      (record { state = record { world = s.world; line = r.add s.line b }; out = [] })

  -- all bytes of a run
  unfoldable pub feeds : Midway L → (input : List ℕ) → Feeds L
  feeds s [] = record { state = s; out = [] }
  feeds s (b ∷ input) = record {
    state = (feeds (takes s b).state input).state;
    out = (takes s b).out ++ (feeds (takes s b).state input).out;
  }

-- a line kept whole
abbrev pub is_empty : List ℕ → Bool
is_empty [] = true
is_empty (b ∷ l) = false

abbrev pub whole : Reader (List ℕ)
whole = record { none = []; add = λ l b. l ++ (b ∷ []); empty = is_empty; text = λ l. l }

-- a line of which the first 17 bytes are kept, in a run of 17, and how many they are
pub record Kept : Type 0 where
  pub bytes : List ℕ
  pub count : ℕ

abbrev pub keeping : Reader Kept
keeping = record {
  none = record { bytes = replicate 17 0; count = 0 };
  add = λ k b. cond (ltb k.count 17) (record { bytes = set k.bytes k.count b; count = k.count + 1 }) k;
  empty = λ k. eqb k.count 0;
  text = λ k. take k.count k.bytes;
}

-- at the end of the input
abbrev pub ends : {L : Type 0} → Reader L → Midway L → Tells
ends r s = cond (r.empty s.line) (record { world = s.world; text = [] }) (answers r s)

-- how the code's values are read
abbrev pub midway : State → Midway Kept
midway s = record { world = Seen.world s.trays; line = record { bytes = s.line; count = s.count } }

-- the end: an answer, or none
pub record Ends : Type 0 where
  pub world : World
  pub answer : Option (List ℕ)

abbrev pub ends_into : Tells → Ends
ends_into t = record { world = t.world; answer = cond (is_empty t.text) None (Some t.text) }

abbrev pub ended_seen : After (Option (List ℕ)) → Ends
ended_seen e = record { world = Seen.world e.trays; answer = e.answer }

-- the bytes of an answer, or of none
abbrev pub written : Option (List ℕ) → List ℕ
written None = []
written (Some text) = text

-- a run of bytes fed: the state, how many bytes were taken, and all of the lent text with the count of bytes put at its start
pub record Fills : Type 0 where
  pub state : Midway Kept
  pub took : ℕ
  pub count : ℕ
  pub out : List ℕ

abbrev pub fills_all : Midway Kept → (input out : List ℕ) → Fills
fills_all s input out = record {
  state = (feeds keeping s input).state;
  took = length input;
  count = length (feeds keeping s input).out;
  out = put out 0 (feeds keeping s input).out;
}

-- as many bytes are taken as the text has room for, 27 for each
abbrev pub room : (input out : List ℕ) → ℕ
room input out = min (length out / 27) (length input)

unfoldable pub fills : Midway Kept → (input out : List ℕ) → Fills
fills s input out = fills_all s (take (room input out) input) out

abbrev pub fed_seen : Fed → (out : List ℕ) → Fills
fed_seen f out = record { state = midway f.state; took = f.took; count = f.count; out = out }

-- bytes put from a place of the text on: what the code's steps leave
pub record Puts : Type 0 where
  pub state : Midway Kept
  pub at : ℕ
  pub out : List ℕ

abbrev pub puts : Feeds Kept → (out : List ℕ) (at : ℕ) → Puts
puts f out at = record { state = f.state; at = at + length f.out; out = put out at f.out }

abbrev pub step_seen : Step → (out : List ℕ) → Puts
step_seen s out = record { state = midway s.state; at = s.at; out = out }
