-- The map's search, by the program's order of nodes, is that of the definitions.
use Rattle.std.proofs.Common.{ap, ◌∙◌, is_some}
use Rattle.spv_term.proofs.SameLemmas.{some_found, none_found}
use Rattle.spv_term.proofs.terms.Terms.find.Goals as goal

pub returns-in_err-place-clause-found : goal.returns-in_err-place-clause-found
returns-in_err-place-clause-found c =
    ap is_some c.from_residual.ensures
    ∙ none_found c.args.self.now.nodes _ c.self.inside.places c.args.node.now (ap (λ a. a.nodes) c.self.view_is) c.self.invariant.places c.in_err-place.ensures.value

pub returns-clause-there : goal.returns-clause-there
returns-clause-there c =
    (some_found c.args.self.now.nodes _ c.self.inside.places c.args.node.now (ap (λ a. a.nodes) c.self.view_is) c.self.invariant.places c.in_ok-place.place.now c.in_ok-place.ensures.value).0

pub returns-clause-found : goal.returns-clause-found
returns-clause-found c =
    (some_found c.args.self.now.nodes _ c.self.inside.places c.args.node.now (ap (λ a. a.nodes) c.self.view_is) c.self.invariant.places c.in_ok-place.place.now c.in_ok-place.ensures.value).1
