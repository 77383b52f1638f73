use Rattle.std.proofs.Common.{◌∙◌}
use Rattle.spv_proof_steps.specs.declared.candidates.Candidate.TheVariants.{Known}
use Rattle.spv_proof_steps.proofs.ValuedLemmas.{given-by_facts, given-by_formula, given-by_order}
use Rattle.spv_proof_steps.proofs.valued.given.Goals as goal

pub returns-in-Some : goal.returns-in-Some
returns-in-Some c cited known = given-by_facts c.args.terms.now cited c.args.formula (Known c.args.t) c.in-Some.value (c.in-Some.ensures ∙ known.values.same c.args.t c.requires.t)

pub returns-in-Some-given_by : goal.returns-in-Some-given_by
returns-in-Some-given_by c cited known =
    given-by_formula c.args.terms.now cited c.args.formula (Known c.args.t) c.in-Some-given_by.value (c.in_default.ensures ∙ known.values.same c.args.t c.requires.t) c.in-Some-given_by.ensures

pub returns : goal.returns
returns c cited known =
    given-by_order c.args.terms.now cited c.args.formula (Known c.args.t) c.apart.result (c.in_default.ensures ∙ known.values.same c.args.t c.requires.t) c.in_default-given_by.ensures
    (c.apart.ensures cited known.orders)
