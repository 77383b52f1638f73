use Rattle.std.proofs.Common.{[]}
use Rattle.spv_derivations.proofs.derivation.Bridges.{if_ok}
use Rattle.spv_term.specs.Arena.{tree}
use Rattle.spv_tableau_rules.specs.constraints.Sayings.{literal}
use Rattle.spv_trail.proofs.propagation.Citing.{stored_cores}
use Rattle.spv_trail.proofs.backtracking.Giving.{first_or_ended, may_learn_first, of_number}
use Rattle.spv_trail.proofs.backtracking.beginning.give_one.Goals as goal

pub learn-requires-clause-known : goal.learn-requires-clause-known
learn-requires-clause-known c = stored_cores c.args.terms.now c.args.condition.now _ _ _ c.requires.first.stored

pub returns : goal.returns
returns c =
    if_ok c.learn.result c.learn.ensures
    (λ o learned. first_or_ended c.args.terms.now c.args.condition.now c.give.new.derivation c.learn.new.derivation c.args.known.now.items c.learn.new.known.items (literal c.args.truth (tree c.args.terms.now c.args.t)) o
    (learned [] []
    (may_learn_first c.args.terms.now c.args.condition.now c.args.falsity c.args.derivation.now c.give.new.derivation c.args.known.now.items c.args.number c.in_ok-fact.fact c.args.t c.args.truth c.requires.may c.requires.first c.requires.number
    (c.in_ok-fact.ensures [] (literal c.args.truth (tree c.args.terms.now c.args.t)) c.requires.first.path (of_number c.args.terms.now c.args.condition.now c.args.number c.args.t c.args.truth c.requires.number)))))
