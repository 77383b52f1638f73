use Rattle.spv_proof_steps.proofs.Looks.{not_len, not_in, not_value, no_not}
use Rattle.spv_proof_steps.proofs.Shown.{some_in, none_in}
use Rattle.spv_proof_steps.proofs.candidates.negated.Goals as goal

pub get-requires : goal.get-requires
get-requires c = not_len c.args.terms.now c.law_arena.ensures c.args.t c.node-node.result.now c.node-node.ensures c.in-Not.is

pub returns-in-Not-clause-value : goal.returns-in-Not-clause-value
returns-in-Not-clause-value c = not_value c.args.terms.now c.law_arena.ensures c.args.t c.node-node.result.now c.node-node.ensures c.get.result c.in-Not.is c.get.ensures

pub returns-in-Not-clause-in_range : goal.returns-in-Not-clause-in_range
returns-in-Not-clause-in_range c =
    some_in _ c.get.result (not_in c.args.terms.now c.law_arena.ensures c.args.t c.node-node.result.now c.node-node.ensures c.get.result c.in-Not.is c.get.ensures)

pub returns-in_default : goal.returns-in_default
returns-in_default c = record {
  value = no_not c.args.terms.now c.law_arena.ensures c.args.t c.node-node.result.now c.node-node.ensures c.in_default.not-Not;
  in_range = none_in _;
}
