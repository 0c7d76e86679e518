-- The other lines that `show` prints: the container's own, and that of a fault.
use Rattle.std.specs.Prelude.{ℕ, cond, List, [], ◌++◌, eqb}
use Rattle.words.specs.Words.{bytes, decimal, numbered, several}
use Rattle.show.specs.declared.faults.Expected.{Expected}
use Rattle.show.specs.declared.faults.Expected.TheVariants.{ADigit, LineEnd, AKind, ZeroByte, FewSlots, AHead, NoHead, NoSlots, ALength, TextEnd}
use Rattle.show.specs.declared.faults.Fault.{Fault}

-- the kind and so many slots; a ring's head; a length and a total
unfoldable pub sized : (words : List ℕ) (c : ℕ) → List ℕ
sized words c = words ++ several c (bytes "slot")

unfoldable pub headed : (h : ℕ) → List ℕ
headed h = bytes ", head " ++ decimal h

unfoldable pub len_total : (n total : ℕ) → List ℕ
len_total n total = bytes ", length " ++ (numbered n (bytes ", total ") ++ numbered total (bytes "\n"))

unfoldable pub ring_line : (c h n total : ℕ) → List ℕ
ring_line c h n total = sized (bytes "ring of ") c ++ (headed h ++ len_total n total)

unfoldable pub vector_line : (c n total : ℕ) → List ℕ
vector_line c n total = sized (bytes "vector of ") c ++ len_total n total

-- an older text of an empty ring, whose head is not 0
unfoldable pub older_line : (h : ℕ) → List ℕ
older_line h = bytes "older text: its head " ++ numbered h (bytes " is read as 0\n")

-- it is said where the head in the text is another than the one that is read
unfoldable pub older_said : (was h : ℕ) → List ℕ
older_said was h = cond (eqb was h) [] (older_line was)

-- what was expected
unfoldable pub expected : Expected → List ℕ
expected ADigit = bytes "a digit 0-9 or a-f"
expected LineEnd = bytes "the end of the line (LF)"
expected AKind = bytes "00 for a ring or 01 for a vector"
expected ZeroByte = bytes "00"
expected FewSlots = bytes "a capacity of at most 4096 (hexadecimal 1000)"
expected AHead = bytes "a head below the capacity"
expected NoHead = bytes "0000, since a vector has no head"
expected NoSlots = bytes "0000, since there are no slots"
expected ALength = bytes "a length of at most the capacity"
expected TextEnd = bytes "the end of the text"

-- a fault, its place first
unfoldable pub place_of : (line byte : ℕ) → List ℕ
place_of line byte = bytes "not acceptable (14): line " ++ (numbered line (bytes ", byte ") ++ numbered byte (bytes ": expected "))

unfoldable pub fault_line : Fault → List ℕ
fault_line f = place_of f.line f.byte ++ (expected f.what ++ bytes "\n")
