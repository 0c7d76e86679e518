-- The rows of a drawing: each is a word and a cell for each of some slots, and ends with its last cell. Cells are w + 5 bytes wide.
use Rattle.std.specs.Prelude.{ℕ, zero, suc, ◌+◌, ◌-◌, max, Bool, cond, List, [], ◌∷◌, ◌++◌, length, get_or, ltb, eqb}
use Rattle.slots.specs.Layout.{slot_of, pos_of, entries}
use Rattle.words.specs.Words.{bytes, decimal}

unfoldable pub spaces : (n : ℕ) → List ℕ
spaces zero = []
spaces (suc n) = 32 ∷ spaces n

-- to the right, in w columns
unfoldable pub right_in : (w : ℕ) (s : List ℕ) → List ℕ
right_in w s = spaces (w - length s) ++ s

-- how wide the numbers are: as the widest of the slots' numbers and of what they hold, two at least
unfoldable pub largest : (m : ℕ) → List ℕ → ℕ
largest m [] = m
largest m (x ∷ s) = largest (max m x) s

unfoldable pub width : (slots : List ℕ) → ℕ
width slots = max 2 (length (decimal (largest (length slots - 1) slots)))

-- the numbers of n slots, from this one on
unfoldable pub slot_cells : (w first n : ℕ) → List ℕ
slot_cells w first zero = []
slot_cells w first (suc n) = right_in (w + 5) (decimal first) ++ slot_cells w (first + 1) n

unfoldable pub slot_row : (w first n : ℕ) → List ℕ
slot_row w first n = bytes "slot     " ++ (slot_cells w first n ++ bytes "\n")

-- what they hold
unfoldable pub held_cell : (w x : ℕ) → List ℕ
held_cell w x = bytes " [ " ++ (right_in w (decimal x) ++ bytes " ]")

unfoldable pub held_cells : (w : ℕ) (slots : List ℕ) (first n : ℕ) → List ℕ
held_cells w slots first zero = []
held_cells w slots first (suc n) = held_cell w (get_or slots first 0) ++ held_cells w slots (first + 1) n

unfoldable pub held_row : (w : ℕ) (slots : List ℕ) (first n : ℕ) → List ℕ
held_row w slots first n = bytes "holds       " ++ (held_cells w slots first n ++ bytes "\n")

-- the position that each has among len entries, of c slots with head h; a free slot has none. A vector's head is 0.
unfoldable pub pos_cell : (w len p : ℕ) → List ℕ
pos_cell w len p = right_in (w + 5) (cond (ltb p len) (decimal p) (bytes "-"))

unfoldable pub pos_cells : (w c h len first n : ℕ) → List ℕ
pos_cells w c h len first zero = []
pos_cells w c h len first (suc n) = pos_cell w len (pos_of c h first) ++ pos_cells w c h len (first + 1) n

unfoldable pub pos_row : (w c h len first n : ℕ) → List ℕ
pos_row w c h len first n = bytes "position  " ++ (pos_cells w c h len first n ++ bytes "\n")

-- an empty line, and the three rows of n slots
unfoldable pub group : (w : ℕ) (slots : List ℕ) (h len first n : ℕ) → List ℕ
group w slots h len first n = bytes "\n" ++ (slot_row w first n ++ (held_row w slots first n ++ pos_row w (length slots) h len first n))

-- n entries of a list, from this position on; a comma behind each but the list's last
unfoldable pub entry_cell : (x : ℕ) (more : Bool) → List ℕ
entry_cell x more = bytes " " ++ (decimal x ++ cond more (bytes ",") [])

unfoldable pub entry_cells : (list : List ℕ) (first n : ℕ) → List ℕ
entry_cells list first zero = []
entry_cells list first (suc n) = entry_cell (get_or list first 0) (ltb (first + 1) (length list)) ++ entry_cells list (first + 1) n

unfoldable pub list_word : (first : ℕ) → List ℕ
list_word first = cond (eqb first 0) (bytes "list") (bytes "    ")

unfoldable pub list_row : (list : List ℕ) (first n : ℕ) → List ℕ
list_row list first n = list_word first ++ (entry_cells list first n ++ bytes "\n")

-- the list of len entries in c slots with head h
abbrev pub list_in : (slots : List ℕ) (h len : ℕ) → List ℕ
list_in slots h len = entries (slot_of (length slots) h) len slots
