use Rattle.std.proofs.Common.{refl, sym}
use Rattle.spv_proof_steps.proofs.steps.exchanged.Goals as goal

pub returns-in-Some-clause-may : goal.returns-in-Some-clause-may
returns-in-Some-clause-may c =
    let both = c.in-Some.ensures.in_range (c.in-Some.s, c.in-Some.t) refl in
    (both.1, both.0, sym (c.in-Some.ensures.sorted (c.in-Some.s, c.in-Some.t) refl))
