use Rattle.std.proofs.Common.{length, arith}
use Rattle.spv_decisions.proofs.heuristic.Places.{one_in, split_one}
use Rattle.spv_decisions.proofs.heuristic.splitting.split_at.Goals as goal

pub choose-requires-clause-atoms : goal.choose-requires-clause-atoms
choose-requires-clause-atoms c = one_in (length c.args.terms.now.nodes) c.args.atoms.now c.args.place (record { 0 = 0 }) c.requires.atoms (omega (arith, c.if-place-atoms.false))

pub returns-in-Split : goal.returns-in-Split
returns-in-Split c = split_one c.args.terms.now c.args.atoms.now c.args.values.now c.args.known.now c.args.place (record { 0 = 0 }) c.choose.result c.in-Split.t (omega (arith, c.if-place-atoms.false)) c.in-Split.is c.choose.ensures.choice
