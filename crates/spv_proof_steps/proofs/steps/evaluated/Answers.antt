use Rattle.std.proofs.Common.{length, refl}
use Rattle.spv_proof_steps.proofs.steps.evaluated.Goals as goal

pub evaluates-requires-clause-cited : goal.evaluates-requires-clause-cited
evaluates-requires-clause-cited c = rw c.as_slice.ensures.value (c.in_ok-list.ensures.in_range (length c.args.terms.now.nodes) c.requires.facts c.in-Some-2.list c.in-Some-2.is)

pub returns-then-branch-clause-may : goal.returns-then-branch-clause-may
returns-then-branch-clause-may c = c.stated_fact.ensures.may c.args.terms.now (c.in-Some.ensures.may c.in-Some.formula refl)
