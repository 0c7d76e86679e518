-- The form in which a crate states that a promise leaves one result; only `digits`, which leans on no crate, writes it out.
use contract.Lifetimes.{Lfts}
use denote.Triple.Clauses.{Ended, AtExit}
use borrow.Fn.World.{ArgsD, ResD}

-- two results, and what is seen at exit with each, that both meet the promise of one function for the same arguments
abbrev pub Twice : (f : Ended) (κs : Lfts f.signature.lifetimes) (learnt : ArgsD f.signature κs → ResD f.signature κs → AtExit f κs → Type 0)
    (same : ResD f.signature κs → AtExit f κs → ResD f.signature κs → AtExit f κs → Type 0) → Type 0
Twice f κs learnt same =
    (a : ArgsD f.signature κs) (r r' : ResD f.signature κs) (e e' : AtExit f κs) → learnt a r e → learnt a r' e' → same r e r' e'
