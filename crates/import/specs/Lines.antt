-- The lines that `import` prints, each with the words of its paper.
use Rattle.std.specs.Prelude.{ℕ, cond, ◌||◌, List, [], ◌∷◌, ◌++◌, ltb, eqb}
use Rattle.digits.specs.Hex.{hex}
use Rattle.words.specs.Words.{bytes, decimal, numbered, several}
use Rattle.record.specs.declared.Fault.TheVariants.{Stray, Unclosed, Long}
use Rattle.import.specs.declared.Reason.{Reason}
use Rattle.import.specs.declared.Reason.TheVariants.{Text, TooMany}
use Rattle.import.specs.declared.Ending.{Ending}
use Rattle.import.specs.declared.Ending.TheVariants.{Refused, OutputClosed, InputFailed, InputEnded}

-- A byte that would move the cursor, 7f and the backslash: as \x and two digits. All others as they are.
unfoldable pub shown : (b : ℕ) → List ℕ
shown b = cond (ltb b 32 || (eqb b 127 || eqb b 92)) (bytes "\\x" ++ hex 2 b) (b ∷ [])

unfoldable pub all_shown : (s : List ℕ) → List ℕ
all_shown [] = []
all_shown (b ∷ s) = shown b ++ all_shown s

-- a field, by its own bytes
unfoldable pub field_line : (s : List ℕ) → List ℕ
field_line s = bytes "    " ++ (all_shown s ++ bytes "\n")

-- record n has k fields; the first had so many
unfoldable pub other_than : (k first : ℕ) → List ℕ
other_than k first = cond (eqb k first) [] (bytes ", record 1 has " ++ decimal first)

unfoldable pub record_line : (n k first : ℕ) → List ℕ
record_line n k first = numbered n (bytes ": ") ++ (several k (bytes "field") ++ (other_than k first ++ bytes "\n"))

-- record n is refused, by the papers' number, for the byte at a place
unfoldable pub why : Reason → List ℕ
why (Text (Stray at)) = bytes "not allowed outside quotes (9)"
why (Text (Unclosed at)) = bytes "quote never closed (10)"
why (Text Long) = bytes "record over 65535 bytes (11)"
why TooMany = bytes "more than 4096 fields (6)"

unfoldable pub place : (line byte : ℕ) → List ℕ
place line byte = numbered line (bytes ", byte ") ++ numbered byte (bytes ": ")

unfoldable pub refused_line : (n line byte : ℕ) (reason : Reason) → List ℕ
refused_line n line byte reason = numbered n (bytes ": refused, line ") ++ (place line byte ++ (why reason ++ bytes "\n"))

-- how many fields the records have, where there are records: all as many as the first, or so many others
unfoldable pub counts : (records first others : ℕ) → List ℕ
counts records first others =
    cond (eqb records 0) []
    (cond (eqb others 0) (bytes ", each of " ++ several first (bytes "field"))
    (bytes ", " ++ (decimal others ++ bytes " with another number of fields than record 1")))

-- how it came to its end
unfoldable pub end_words : Ending → List ℕ
end_words Refused = bytes ", then refused"
end_words InputFailed = bytes ", then the input failed"
end_words InputEnded = []
end_words OutputClosed = []

unfoldable pub last_line : (records first others : ℕ) (ending : Ending) → List ℕ
last_line records first others ending = several records (bytes "record") ++ (counts records first others ++ (end_words ending ++ bytes "\n"))
