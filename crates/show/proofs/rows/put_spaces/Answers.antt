-- A part that is filled is the spaces put there.
use Rattle.std.proofs.Common.{rules}
use Rattle.show.proofs.Drawn.{spaces_wrote}
use Rattle.show.proofs.rows.put_spaces.Goals as goal

pub returns : goal.returns
returns c = (spaces_wrote _ _ _ _ c.requires (c.fill.ensures.after (λ y e. e)), search rules)
