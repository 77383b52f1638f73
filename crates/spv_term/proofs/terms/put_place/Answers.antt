-- The program's order of nodes tells apart what the definitions do.
use Rattle.spv_term.proofs.SameLemmas.{number-put}
use Rattle.spv_term.proofs.terms.put_place.Goals as goal

pub returns-clause-ok : goal.returns-clause-ok
returns-clause-ok c = number-put c.args.places.now c.insert.new.self c.args.node _ c.in_ok-_none.ensures.updates
