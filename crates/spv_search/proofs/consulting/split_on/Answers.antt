use Rattle.spv_search.proofs.Consulted.{may_found}
use Rattle.spv_search.proofs.consulting.split_on.Goals as goal

pub returns-in-Some : goal.returns-in-Some
returns-in-Some c = λ d. may_found c.args.terms.now c.args.atoms.now c.args.path.now c.args.found c.in-Some.t c.in-Some.is c.requires
