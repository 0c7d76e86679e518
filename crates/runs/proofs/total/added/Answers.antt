-- The library's sum is the total, and so few numbers of 32 bits stay small.
use Rattle.std.proofs.Common.{◌≡◌, ◌≤◌, ◌^◌, ◌∙◌, sum, arith, rules}
use Rattle.slots.specs.Total.{total}
use Rattle.slots.proofs.Totals.{total_sum, total_few}
use Rattle.runs.proofs.total.added.Goals as goal

pub returns : goal.returns
returns c =
    let e : c.sum.result ≡ total c.args.part.now = search rules ∙ total_sum c.args.part.now in
    let few = total_few c.args.part.now (λ i. omega (arith, c.type_inv.part i)) c.requires in
    (e, omega arith)
