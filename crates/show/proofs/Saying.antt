-- The lines beside the rows, put together from the pieces that the code writes one behind another.
use mathlib.Core.Path.{◌≡◌}
use mathlib.Core.List.{List}
use Prim.Native.Nat.{ℕ}
use borrow.Author.Tests.{eq-eqb}
use Rattle.words.specs.Words.{bytes, decimal, numbered, several}
use Rattle.words.specs.Wrote.{Wrote}
use Rattle.words.proofs.Writing.{wrote_none, wrote_then}
use Rattle.show.specs.declared.faults.Fault.{Fault}
use Rattle.show.specs.Lines.{sized, headed, len_total, ring_line, vector_line, older_line, older_said, expected, place_of, fault_line}

-- a is the text before, at the place; b, c and so on are the text after each piece, m, m2 and so on the places behind them
pub older_none : (a : List ℕ) (at was h : ℕ) → was ≡ h → Wrote a at (older_said was h) at a
unfolding older_said
older_none a at was h e = rw (eq-eqb was h e) wrote_none

module _ {a b c : List ℕ} {at m m2 : ℕ} where
  pub older_wrote : (h : ℕ) → Wrote a at (bytes "older text: its head ") m b → Wrote b m (numbered h (bytes " is read as 0\n")) m2 c → Wrote a at (older_line h) m2 c
  unfolding older_line
  older_wrote h p q = wrote_then p q

  pub sized_wrote : (words : List ℕ) (cap : ℕ) → Wrote a at words m b → Wrote b m (several cap (bytes "slot")) m2 c → Wrote a at (sized words cap) m2 c
  unfolding sized
  sized_wrote words cap p q = wrote_then p q

  pub headed_wrote : (h : ℕ) → Wrote a at (bytes ", head ") m b → Wrote b m (decimal h) m2 c → Wrote a at (headed h) m2 c
  unfolding headed
  headed_wrote h p q = wrote_then p q

  pub vector_wrote : (cap n total : ℕ) → Wrote a at (sized (bytes "vector of ") cap) m b → Wrote b m (len_total n total) m2 c → Wrote a at (vector_line cap n total) m2 c
  unfolding vector_line
  vector_wrote cap n total p q = wrote_then p q

  module _ {d : List ℕ} {m3 : ℕ} where
    pub len_total_wrote : (n total : ℕ) → Wrote a at (bytes ", length ") m b → Wrote b m (numbered n (bytes ", total ")) m2 c → Wrote c m2 (numbered total (bytes "\n")) m3 d
        → Wrote a at (len_total n total) m3 d
    unfolding len_total
    len_total_wrote n total p q r = wrote_then p (wrote_then q r)

    pub ring_wrote : (cap h n total : ℕ) → Wrote a at (sized (bytes "ring of ") cap) m b → Wrote b m (headed h) m2 c → Wrote c m2 (len_total n total) m3 d
        → Wrote a at (ring_line cap h n total) m3 d
    unfolding ring_line
    ring_wrote cap h n total p q r = wrote_then p (wrote_then q r)

    pub place_wrote : (line byte : ℕ) → Wrote a at (bytes "not acceptable (14): line ") m b → Wrote b m (numbered line (bytes ", byte ")) m2 c
        → Wrote c m2 (numbered byte (bytes ": expected ")) m3 d → Wrote a at (place_of line byte) m3 d
    unfolding place_of
    place_wrote line byte p q r = wrote_then p (wrote_then q r)

    pub fault_wrote : (f : Fault) → Wrote a at (place_of f.line f.byte) m b → Wrote b m (expected f.what) m2 c → Wrote c m2 (bytes "\n") m3 d
        → Wrote a at (fault_line f) m3 d
    unfolding fault_line
    fault_wrote f p q r = wrote_then p (wrote_then q r)
