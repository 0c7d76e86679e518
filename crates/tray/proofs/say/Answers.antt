-- With room for 27 bytes for each that is given, `feed` takes them all.
use Rattle.tray_lines.proofs.Fed.{fed_all, counted}
use Rattle.tray.proofs.say.Goals as goal

pub returns : goal.returns
returns c = (fed_all _ _ _ _ _ c.requires c.feed.ensures, counted _ _ _ _ _ c.feed.ensures)
