use Rattle.std.proofs.Common.{sym}
use Rattle.spv_proof_steps.proofs.Looks.{below_node, lower-below, two_len, two_len_first, two_in, two_are, no_lower}
use Rattle.spv_proof_steps.proofs.Shown.{some_in, none_in}
use Rattle.spv_proof_steps.proofs.candidates.lower.Goals as goal

pub get-requires : goal.get-requires
get-requires c =
    let a = c.args.terms.now in
    two_len_first a c.law_arena.ensures c.args.t c.node-node.result.now c.node-node.ensures (below_node a c.law_arena.ensures c.args.t c.node-node.result.now c.node-node.ensures c.in-Lt.is)

pub get-requires-in-Lt : goal.get-requires-in-Lt
get-requires-in-Lt c =
    let a = c.args.terms.now in
    two_len a c.law_arena.ensures c.args.t c.node-node.result.now c.node-node.ensures (below_node a c.law_arena.ensures c.args.t c.node-node.result.now c.node-node.ensures c.in-Lt.is)

pub returns-in-Lt-clause-value : goal.returns-in-Lt-clause-value
returns-in-Lt-clause-value c =
    let a = c.args.terms.now in
    let o = below_node a c.law_arena.ensures c.args.t c.node-node.result.now c.node-node.ensures c.in-Lt.is in
    sym (lower-below a c.law_arena.ensures c.args.t c.node-node.result.now c.node-node.ensures c.get.result c.get-in-Lt.result c.in-Lt.is
    (two_are a c.law_arena.ensures c.args.t c.node-node.result.now c.node-node.ensures o c.get.result c.get-in-Lt.result c.get.ensures c.get-in-Lt.ensures))

pub returns-in-Lt-clause-in_range : goal.returns-in-Lt-clause-in_range
returns-in-Lt-clause-in_range c =
    let a = c.args.terms.now in
    let o = below_node a c.law_arena.ensures c.args.t c.node-node.result.now c.node-node.ensures c.in-Lt.is in
    some_in _ (c.get.result, c.get-in-Lt.result) (two_in a c.law_arena.ensures c.args.t c.node-node.result.now c.node-node.ensures o c.get.result c.get-in-Lt.result c.get.ensures c.get-in-Lt.ensures)

pub returns-in_default : goal.returns-in_default
returns-in_default c = record {
  value = no_lower c.args.terms.now c.law_arena.ensures c.args.t c.node-node.result.now c.node-node.ensures c.in_default.not-Lt;
  in_range = none_in _;
}
