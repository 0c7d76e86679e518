-- `own_text` meets its promise, as the library's does.
use Rattle.std.proofs.Common.{arith}
use Rattle.import.proofs.Fields.{text_sized, own_bytes_law}
use Rattle.import.proofs.takes.own_text.Goals as goal

pub returns : goal.returns
returns c =
    let u = c.field_text.ensures in
    record { fits = omega (arith, c.unwrap_or.ensures, text_sized _ _ _ _ _ _ u); own = rw c.unwrap_or.ensures (own_bytes_law _ _ _ _ _ _ u) }
