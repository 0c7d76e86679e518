-- `take_all` meets its promise: bytes are passed as far as records are taken, and each of these has some.
use Prim.Native.Nat.{◌+◌}
use native.Mathlib.Omega.{arith}
use Rattle.import.proofs.takes.Listing.take_all.Goals as goal

pub returns-in-None : goal.returns-in-None
returns-in-None g c =
    let l = c.loop-at.invariant in
    let t = rw c.in-None.is at c.in_ok-take.ensures.took in record {
      next = c.loop-at.at;
      answered = λ n e. cc;
      more = l.0;
      within = l.1;
      passed = omega (arith, l.2, t.passed);
    }

pub returns-then-not-self : goal.returns-then-not-self
returns-then-not-self g c =
    let l = c.loop-at.invariant in
    let t = rw c.in-Some.is at c.in_ok-take.ensures.took in record {
      next = c.loop-at.at + c.in-Some.next;
      answered = λ n e. cc;
      more = omega (arith, l.0);
      within = omega (arith, t.within);
      passed = omega (arith, l.2, t.passed);
    }
