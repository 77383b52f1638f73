use Rattle.std.proofs.Common.{subst}
use Rattle.spv_term.specs.Arena.{tree}
use Rattle.spv_atoms.specs.declared.forms.Formed.{Formed}
use Rattle.spv_atoms.specs.Found.{IsFormed}
use Rattle.spv_atoms.proofs.Places.{coefficients_of, wide_exact}
use Rattle.spv_atoms.proofs.forms.linear.Goals as goal

pub returns-in-Narrow-clause-coefficients : goal.returns-in-Narrow-clause-coefficients
returns-in-Narrow-clause-coefficients c =
    coefficients_of c.args.terms.now c.law_arena.ensures (tree c.args.terms.now c.args.t) c.in-Narrow.form
    (subst (λ (k : Formed). IsFormed c.args.terms.now (tree c.args.terms.now c.args.t) k) c.in-Narrow.is c.in_ok-form.ensures)

pub returns-in-Wide-clause-exact : goal.returns-in-Wide-clause-exact
returns-in-Wide-clause-exact c =
    wide_exact c.args.terms.now (tree c.args.terms.now c.args.t) c.in-Wide.u
    (subst (λ (k : Formed). IsFormed c.args.terms.now (tree c.args.terms.now c.args.t) k) c.in-Wide.is c.in_ok-form.ensures)
