-- Reads add up: before the first read no byte is needed, and after one more the bytes are those so far and those of that read. Each read that is
-- not the last one has a byte, so the loop ends.
use Prim.Native.Nat.{ℕ, ◌+◌, ◌-◌, ◌<◌}
use mathlib.Core.Path.{◌≡◌, refl, sym, ap, ◌∙◌}
use mathlib.Core.List.{List, [], ◌++◌}
use native.Mathlib.Omega.{arith}
use lib.ListN.{length, take, length-append}
use lib.Seq.{length-take-le}
use Rattle.std.specs.Prelude.{Result, Ok}
use Rattle.tray_lines.specs.declared.feeds.State.{State}
use Rattle.tray_lines.specs.Feeds.{Midway, Kept, Feeds, feeds, keeping, midway}
use Rattle.tray_lines.proofs.Blocks.{feeds_join}
use Rattle.tray.specs.declared.Went.{Went}
use Rattle.tray.specs.declared.Ending.{Ending}
use Rattle.tray.specs.Reading.{Turned, Ran}

pub none_read : (s : State) (w : Went) → w.read ≡ 0 → w.state ≡ s → Ran s w
unfolding feeds
none_read s w none same = record { bytes = []; all = sym none; state = ap midway same }

pub one_more : (s : State) (w r : Went) (buffer : List ℕ) (more : Result Unit Ending) → Ran s w → Turned w buffer more r → Ran s r
one_more s w r buffer more ran turned =
    let bytes : List ℕ = take turned.last buffer in
    record {
      bytes = ran.bytes ++ bytes;
      all =
          length-append ran.bytes bytes
          ∙ ap (λ n. n + length bytes) ran.all
          ∙ ap (λ n. w.read + n) (length-take-le turned.last buffer turned.fits)
          ∙ sym turned.count;
      state =
          turned.state
          ∙ ap (λ (m : Midway Kept). (feeds keeping m bytes).state) ran.state
          ∙ ap (λ (f : Feeds Kept). f.state) (sym (feeds_join keeping (midway s) ran.bytes bytes));
    }

pub fewer : (w r : Went) (buffer : List ℕ) (more : Result Unit Ending) → more ≡ Ok tt → w.read < 18446744073709547519 → Turned w buffer more r
    → 18446744073709551616 - r.read < 18446744073709551616 - w.read
fewer w r buffer more e low turned = omega (arith, turned.count, turned.some e)

-- a turn that reads no byte
pub nothing_read : (w : Went) (buffer : List ℕ) (more : Result Unit Ending) → (more ≡ Ok tt → ⊥) → Turned w buffer more w
unfolding feeds
nothing_read w buffer more last = record { last = 0; fits = omega arith; count = omega arith; state = refl; some = λ e. absurd (last e); none = λ e. refl }
