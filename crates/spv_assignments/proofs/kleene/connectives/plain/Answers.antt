use Rattle.spv_assignments.proofs.kleene.Heads.{plain_true, plain_false, plain_other}
use Rattle.spv_assignments.proofs.kleene.connectives.plain.Goals as goal

pub returns-in-True : goal.returns-in-True
returns-in-True c = plain_true c.args.terms.now c.law_arena.ensures c.args.t c.node.result.now c.node.ensures c.in-True.is

pub returns-in-False : goal.returns-in-False
returns-in-False c = plain_false c.args.terms.now c.law_arena.ensures c.args.t c.node.result.now c.node.ensures c.in-False.is

pub returns-in_default : goal.returns-in_default
returns-in_default c =
    plain_other c.args.terms.now c.law_arena.ensures c.args.t c.node.result.now c.node.ensures c.numeral_relation.result c.numeral_relation.ensures c.in_default.not-True c.in_default.not-False
