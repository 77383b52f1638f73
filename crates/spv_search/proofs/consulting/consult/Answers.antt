use Rattle.spv_search.proofs.Consulted.{may_advised}
use Rattle.spv_search.proofs.Turns.{there_in}
use Rattle.spv_search.proofs.consulting.consult.Goals as goal

pub advise-requires-clause-known : goal.advise-requires-clause-known
advise-requires-clause-known c = there_in c.args.terms.now c.args.path.now.known.items c.as_slice-known.result.now c.as_slice-known.ensures.value c.requires.known

pub returns-in-Split : goal.returns-in-Split
returns-in-Split c =
    may_advised c.args.terms.now c.args.atoms.now c.args.path.now c.as_slice-values.result.now c.as_slice-known.result.now _ c.in-Split.t c.as_slice-values.ensures.value c.as_slice-known.ensures.value c.in-Split.is c.in_ok-advice.ensures
