use Rattle.std.proofs.Common.{sym, ap, false, Some, cond}
use Rattle.spv_logic.specs.Formulas.{equation}
use Rattle.spv_logic.proofs.Equality.{term_eq-refl}
use Rattle.spv_term.specs.Arena.{tree}
use Rattle.std.proofs.Common.{None}
use Rattle.spv_proof_steps.specs.declared.candidates.Candidate.TheVariants.{Equation}
use Rattle.spv_proof_steps.proofs.ValuedLemmas.{given-by_facts, given-by_formula}
use Rattle.spv_proof_steps.proofs.valued.given_to_equation.Goals as goal

pub returns-in-Some : goal.returns-in-Some
returns-in-Some c = given-by_facts c.args.terms.now c.args.cited.now (Equation c.args.s c.args.t) (Equation c.args.s c.args.t) c.in-Some.value c.in-Some.ensures

pub returns-in-None : goal.returns-in-None
returns-in-None c =
    given-by_formula c.args.terms.now c.args.cited.now (Equation c.args.s c.args.t) (Equation c.args.s c.args.t) false c.in-None.ensures
    (sym (ap (λ b. cond b (Some false) None) (term_eq-refl (equation (tree c.args.terms.now c.args.s) (tree c.args.terms.now c.args.t)))))
