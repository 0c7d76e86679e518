-- What is put, with the answers that are left put after it, is always the whole.
use Rattle.std.proofs.Common.{◌≡◌, ◌*◌, ◌≤◌, length}
use lib.ListN.{drop}
use Rattle.tray_lines.specs.Feeds.{feeds, keeping, midway, puts}
use Rattle.tray_lines.proofs.feeds.feed_all.Given as goal

abbrev pub invariant-loop-b : goal.invariant-loop-b
invariant-loop-b l =
    (l.at ≤ 27 * l.b-index) × (length l.out ≡ length l.fn.out)
    × (puts (feeds keeping (midway l.s) (drop l.b-index l.fn.input)) l.out l.at ≡ puts (feeds keeping (midway l.fn.state) l.fn.input) l.fn.out 0)
