-- How a caller in C hears the calls on a text, the stored form or a record of comma-separated text, and what they promise.
use Rattle.std.specs.Prelude.{ℕ, ◌≡◌, List}
use Rattle.slots.specs.Layout.{Kind}
use Rattle.table.specs.Reported.{no_slot}
use Rattle.stored.specs.Written.{Written, writes}
use Rattle.stored.specs.Reads.{reads, total_read}
use Rattle.record.specs.Recorded.{Told, told, judges, records, total_starts, total_ends}
use Rattle.record.specs.Unquoted.{unquoted, unquotes}
use Rattle.tumbrelice.specs.Heard.{value_in, slot_in, moves_in, number_in, heard, heard2, Held}

-- a word as what is seen of a writer
abbrev pub heard_stored : (word : ℕ) → Held → (text : List ℕ) → Written
heard_stored word b text = record { outcome = heard word b.tray; text = text }

-- of a stored form's writer, on a text that held these bytes: its word and every byte afterwards are what `writes` says, and the container is as it was
pub record HearsStored (k : Kind) (b : Held) (before : List ℕ) (word : ℕ) (after : List ℕ) : Type 0 where
  pub row : heard_stored word b after ≡ writes k b.tray before
  pub slot : slot_in word ≡ no_slot

-- of a stored form's reader, on slots that held these numbers: its word and the container are what `reads` says, with the total worked out
pub record HearsRead (k : Kind) (text slots : List ℕ) (word : ℕ) (after : Held) : Type 0 where
  pub row : heard word after.tray ≡ reads k text slots
  pub slot : slot_in word ≡ no_slot
  pub total : after.total ≡ total_read k text slots

-- of a record read onto two vectors: its word, both vectors afterwards and their totals are what `records` says; here and below no slot is reported
pub record HearsRecord (text : List ℕ) (before before2 : Held) (word : ℕ) (after after2 : Held) : Type 0 where
  pub row : heard2 word after.tray after2.tray ≡ records text before.tray before2.tray
  pub slot : slot_in word ≡ no_slot
  pub total : after.total ≡ total_starts text before.tray before2.tray before.total
  pub total2 : after2.total ≡ total_ends text before.tray before2.tray before2.total

-- a word as an answer on a text alone
abbrev pub heard_told : (word : ℕ) → Told
heard_told word = told (number_in word) (value_in word)

-- of a text that is judged
pub record HearsTold (text : List ℕ) (word : ℕ) : Type 0 where
  pub row : heard_told word ≡ judges text
  pub still : moves_in word ≡ 0
  pub slot : slot_in word ≡ no_slot

-- of a field's text, which is written to `out`
pub record HearsUndone (text : List ℕ) (start end : ℕ) (out : List ℕ) (word : ℕ) (after : List ℕ) : Type 0 where
  pub row : unquoted (heard_told word) after ≡ unquotes text start end out
  pub still : moves_in word ≡ 0
  pub slot : slot_in word ≡ no_slot
