use Rattle.std.proofs.Common.{sym, subst}
use Rattle.spv_search.proofs.Consulted.{may_if}
use Rattle.spv_search.proofs.Turns.{there_in}
use Rattle.spv_search.proofs.consulting.mend.Goals as goal

pub shown_false-requires-clause-known : goal.shown_false-requires-clause-known
shown_false-requires-clause-known c = there_in c.args.terms.now c.args.path.now.known.items c.as_slice-known.result.now c.as_slice-known.ensures.value c.requires.known

pub split_on-requires : goal.split_on-requires
split_on-requires c =
    may_if c.args.terms.now c.args.atoms.now c.args.path.now c.as_slice-values.result.now c.as_slice-known.result.now c.in_ok-found.found c.as_slice-values.ensures.value c.as_slice-known.ensures.value c.in_ok-found.ensures
